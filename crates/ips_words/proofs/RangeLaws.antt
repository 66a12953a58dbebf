-- What plain words give: names and numbers in their ranges, and only what is built.
use Rattle.std.specs.Prelude.{◌≡◌, ℕ, zero, suc, ◌≤◌, ◌≤ℤ◌, ◌^◌, ◌%◌, ◌==◌, nat_le, Bool, true, false, ◌&&◌, pos, refl}
use Rattle.std.specs.Prelude.{List, [], ◌∷◌, length, map, take, drop, Option, None, Some, IfSome, option_map, slice_get, bytes_eq, codes}
use Rattle.std.specs.List.{list_all}
use Rattle.std.specs.Option.{ForSome, option_map_or}
use Rattle.std.proofs.Common.{sym, ap, arith, ◌∙◌}
use Rattle.std.proofs.lemmas.Bool.{leb-true}
use Rattle.std.proofs.lemmas.Int.{ints}
use Rattle.ip_defs.proofs.TextLaws.{text_same}
use Rattle.ip_defs.proofs.BoolLaws.{left_true, right_true}
use Rattle.mps_defs.specs.Numbers.{digits_value}
use Rattle.ips_words.specs.Commands.{Choice, Command, Word, are_distinct, are_options, are_plain_for, begin_with, is_choice}
use Rattle.ips_words.specs.Commands.{box_of, nodes_of, depth_of, pivots_of, digits_of, number_of, operand}
use Rattle.ips_words.specs.Commands.{request_by, twos, value_in, value_of}
use Rattle.ips_words.specs.Commands.{is_name, is_number_from, is_numeral, is_of_kind}
use Rattle.ips_words.specs.Commands.{reading_choices, tree_choice, proof_choice}
use Rattle.ips_words.specs.Commands.{solve, check, ask, sweep, recheck, show, trial}
use Rattle.ips_words.specs.Requests.{AreInRange, AreLimits, IsBuilt, IsName, IsReading}
use Rattle.ips_words.specs.Internal.Parts.{HasLimits, HasNumber, HasReading}
use Rattle.ips_words.specs.Internal.Rows.{command_row}
use Rattle.ips_words.specs.declared.commands.Command.{Command as OwnCommand}
use Rattle.ips_words.specs.declared.commands.Command.TheVariants.{Solve, Check, Ask, Sweep, Recheck, Show, Trial}
use Rattle.ips_words.specs.declared.commands.Kind.{Kind}
use Rattle.ips_words.specs.declared.commands.Kind.TheVariants.{Name, Number}

-- a value that an option has is one that it takes
value_taken : (cs : List Choice) (o v : Word) (ps : List (Word × Word)) → list_all (is_choice cs) ps ≡ true → value_of o ps ≡ Some v
    → is_choice cs (o, v) ≡ true
value_taken cs o v [] all is = absurd cc
value_taken cs o v ((w, x) ∷ ps) all is = by (value_taken cs o v ps others) (bytes_eq w o) refl where
  first : is_choice cs (w, x) ≡ true
  first = left_true (is_choice cs (w, x)) (list_all (is_choice cs) ps) all

  others : list_all (is_choice cs) ps ≡ true
  others = right_true (is_choice cs (w, x)) (list_all (is_choice cs) ps) all

  by : (value_of o ps ≡ Some v → is_choice cs (o, v) ≡ true) → (t : Bool) → bytes_eq w o ≡ t → is_choice cs (o, v) ≡ true
  by rest true e =
      let same = text_same w o e in
      let found : Some x ≡ Some v = rw e at is in
      let value : x ≡ v = cc in
      ap (λ a. is_choice cs (a, v)) (sym same) ∙ ap (λ b. is_choice cs (w, b)) (sym value) ∙ first
  by rest false e = rest (rw e at is)

taken : (cs : List Choice) (o : Word) (ws : List Word) → are_options cs ws ≡ true → (v : Word) → value_of o (twos ws) ≡ Some v
    → is_choice cs (o, v) ≡ true
taken cs o ws are v is =
    let even = length ws % 2 == 0 in
    let all = list_all (is_choice cs) (twos ws) in
    value_taken cs o v (twos ws) (right_true even all (left_true (even && all) (are_distinct (map (λ p. p.0) (twos ws))) are)) is

-- the numbers of the options of a list, from what their values are
pub has_reading : (cs : List Choice) (ws : List Word)
    → ((v : Word) → is_choice cs (codes "--digits", v) ≡ true → is_number_from 0 9 v ≡ true)
    → ((v : Word) → is_choice cs (codes "--box", v) ≡ true → is_number_from 0 16777216 v ≡ true)
    → are_options cs ws ≡ true → HasReading (value_in ws)
has_reading cs ws digits box_side are = record {
  digits = λ v is. digits v (taken cs (codes "--digits") ws are v is);
  box_side = λ v is. box_side v (taken cs (codes "--box") ws are v is);
}

pub has_limits : (cs : List Choice) (ws : List Word)
    → ((v : Word) → is_choice cs (codes "--nodes", v) ≡ true → is_number_from 1 1000000 v ≡ true)
    → ((v : Word) → is_choice cs (codes "--depth", v) ≡ true → is_number_from 0 800 v ≡ true)
    → ((v : Word) → is_choice cs (codes "--pivots", v) ≡ true → is_number_from 0 100000 v ≡ true)
    → are_options cs ws ≡ true → HasLimits (value_in ws)
has_limits cs ws nodes depth pivots are = record {
  nodes = λ v is. nodes v (taken cs (codes "--nodes") ws are v is);
  depth = λ v is. depth v (taken cs (codes "--depth") ws are v is);
  pivots = λ v is. pivots v (taken cs (codes "--pivots") ws are v is);
}

reading : (ws : List Word) → are_options reading_choices ws ≡ true → HasReading (value_in ws)
reading ws are = has_reading reading_choices ws (λ v t. t) (λ v t. t) are

no_limits : (ws : List Word) → are_options reading_choices ws ≡ true → HasLimits (value_in ws)
no_limits ws are = has_limits reading_choices ws (λ v t. absurd cc) (λ v t. absurd cc) (λ v t. absurd cc) are

-- the options of each command
pub all_reading : (c : OwnCommand) (ws : List Word) → are_options (command_row c).choices ws ≡ true → HasReading (value_in ws)
all_reading Solve ws are = has_reading solve.choices ws (λ v t. t) (λ v t. t) are
all_reading Check ws are = reading ws are
all_reading Ask ws are = reading ws are
all_reading Sweep ws are = has_reading sweep.choices ws (λ v t. t) (λ v t. t) are
all_reading Recheck ws are = reading ws are
all_reading Show ws are = reading ws are
all_reading Trial ws are = has_reading [] ws (λ v t. absurd cc) (λ v t. absurd cc) are

pub all_limits : (c : OwnCommand) (ws : List Word) → are_options (command_row c).choices ws ≡ true → HasLimits (value_in ws)
all_limits Solve ws are = has_limits solve.choices ws (λ v t. t) (λ v t. t) (λ v t. t) are
all_limits Check ws are = no_limits ws are
all_limits Ask ws are = no_limits ws are
all_limits Sweep ws are = has_limits sweep.choices ws (λ v t. t) (λ v t. t) (λ v t. t) are
all_limits Recheck ws are = no_limits ws are
all_limits Show ws are = no_limits ws are
all_limits Trial ws are = has_limits [] ws (λ v t. absurd cc) (λ v t. absurd cc) (λ v t. absurd cc) are

-- a number lies within its bounds
within_bounds : (low high : ℕ) (v : Word) → is_number_from low high v ≡ true → (low ≤ digits_value v) × (digits_value v ≤ high)
within_bounds low high v e =
    let n = digits_value v in
    let least = right_true (is_numeral v) (nat_le low n) (left_true (is_numeral v && nat_le low n) (nat_le n high) e) in
    let most = right_true (is_numeral v && nat_le low n) (nat_le n high) e in
    (leb-true low n least, leb-true n high most)

pub number_within : (o : Word) (low high default : ℕ) (value : Word → Option Word) → low ≤ default → default ≤ high
    → HasNumber o low high value → (low ≤ number_of o default value) × (number_of o default value ≤ high)
number_within o low high default value least most has = by (value o) has where
  by : (x : Option Word) → ForSome x (λ v. is_number_from low high v ≡ true)
      → (low ≤ option_map_or digits_value x default) × (option_map_or digits_value x default ≤ high)
  by None all = (least, most)
  by (Some v) all = within_bounds low high v (all v refl)

limits_within : (value : Word → Option Word) → HasLimits value → AreLimits (nodes_of value) (depth_of value) (pivots_of value)
limits_within value has =
    let nodes = number_within (codes "--nodes") 1 1000000 100000 value (omega arith) (omega arith) has.nodes in
    let depth = number_within (codes "--depth") 0 800 800 value (omega arith) (omega arith) has.depth in
    let pivots = number_within (codes "--pivots") 0 100000 5000 value (omega arith) (omega arith) has.pivots in
    (nodes.0, nodes.1, depth.1, pivots.1)

reading_within : (value : Word → Option Word) → HasReading value → IsReading (digits_of value) (box_of value)
reading_within value has = record {
  digits = (number_within (codes "--digits") 0 9 0 value (omega arith) (omega arith) has.digits).1;
  box_side = side (value (codes "--box")) has.box_side;
} where
  side : (x : Option Word) → ForSome x (λ v. is_number_from 0 16777216 v ≡ true)
      → ForSome (option_map (λ v. pos (digits_value v)) x) (λ b. (pos 0 ≤ℤ b) × (b ≤ℤ pos (2 ^ 24)))
  side None all = λ b is. absurd cc
  side (Some v) all = λ b is.
      let most = (within_bounds 0 16777216 v (all v refl)).1 in
      let same : pos (digits_value v) ≡ b = cc in
      (omega (arith, ints), omega (arith, ints))

-- a name that an option gives is a name, and the option is built
if_some : (x : Option Word) (P : Word → Type 0) → ((v : Word) → x ≡ Some v → P v) → IfSome x P
if_some None P all = tt
if_some (Some v) P all = all v refl

named_file : (c : Choice) (cs : List Choice) (ws : List Word)
    → ((v : Word) → is_choice cs (c.word, v) ≡ true → (c.built && is_name v) ≡ true) → are_options cs ws ≡ true
    → IfSome (value_of c.word (twos ws)) IsName × IfSome (value_of c.word (twos ws)) (λ v. c.built ≡ true)
named_file c cs ws is_file are = (
  if_some (value_of c.word (twos ws)) IsName (λ v is. right_true c.built (is_name v) (is_file v (taken cs c.word ws are v is))),
  if_some (value_of c.word (twos ws)) (λ v. c.built ≡ true)
      (λ v is. left_true c.built (is_name v) (is_file v (taken cs c.word ws are v is))),
)

-- the parts of plain words
built_of : (c : Command) (ws : List Word) → are_plain_for c ws ≡ true → c.built ≡ true
built_of c ws e =
    let options = are_options c.choices (drop (length c.operands) ws) in
    left_true c.built (begin_with c.operands ws) (left_true (c.built && begin_with c.operands ws) options e)

pub operands_of : (c : Command) (ws : List Word) → are_plain_for c ws ≡ true → begin_with c.operands ws ≡ true
operands_of c ws e =
    let options = are_options c.choices (drop (length c.operands) ws) in
    right_true c.built (begin_with c.operands ws) (left_true (c.built && begin_with c.operands ws) options e)

pub options_of : (c : Command) (ws : List Word) → are_plain_for c ws ≡ true → are_options c.choices (drop (length c.operands) ws) ≡ true
options_of c ws e = right_true (c.built && begin_with c.operands ws) (are_options c.choices (drop (length c.operands) ws)) e

-- an operand is of its kind
kind_at : (ks : List Kind) (k : Kind) (ws : List Word) (i : ℕ) → begin_with ks ws ≡ true → slice_get ks i ≡ Some k
    → is_of_kind k (operand (take (length ks) ws) i) ≡ true
kind_at [] k ws i e is = absurd cc
kind_at (j ∷ ks) k [] i e is = absurd cc
kind_at (j ∷ ks) k (w ∷ ws) zero e is =
    let same : j ≡ k = cc in
    ap (λ a. is_of_kind a w) (sym same) ∙ left_true (is_of_kind j w) (begin_with ks ws) e
kind_at (j ∷ ks) k (w ∷ ws) (suc i) e is = kind_at ks k ws i (right_true (is_of_kind j w) (begin_with ks ws) e) is

name_in : (c : Command) (ws : List Word) (i : ℕ) → are_plain_for c ws ≡ true → slice_get c.operands i ≡ Some Name
    → is_name (operand (take (length c.operands) ws) i) ≡ true
name_in c ws i e is = kind_at c.operands Name ws i (operands_of c ws e) is

-- the number of `trial`
pub trial_number : (c : OwnCommand) (ws : List Word) → c ≡ Trial → are_plain_for (command_row c) ws ≡ true
    → is_number_from 0 4294967295 (operand (take (length (command_row c).operands) ws) 0) ≡ true
trial_number Solve ws is e = absurd cc
trial_number Check ws is e = absurd cc
trial_number Ask ws is e = absurd cc
trial_number Sweep ws is e = absurd cc
trial_number Recheck ws is e = absurd cc
trial_number Show ws is e = absurd cc
trial_number Trial ws is e = kind_at trial.operands (Number 0 4294967295) ws 0 (operands_of trial ws e) refl

-- the request of plain words is in range
limits_of : (c : OwnCommand) (ws : List Word) → are_plain_for (command_row c) ws ≡ true
    → let value = value_in (drop (length (command_row c).operands) ws) in AreLimits (nodes_of value) (depth_of value) (pivots_of value)
limits_of c ws e =
    let options = drop (length (command_row c).operands) ws in
    limits_within (value_in options) (all_limits c options (options_of (command_row c) ws e))

reading_of : (c : OwnCommand) (ws : List Word) → are_plain_for (command_row c) ws ≡ true
    → let value = value_in (drop (length (command_row c).operands) ws) in IsReading (digits_of value) (box_of value)
reading_of c ws e =
    let options = drop (length (command_row c).operands) ws in
    reading_within (value_in options) (all_reading c options (options_of (command_row c) ws e))

pub is_in_range : (c : OwnCommand) (ws : List Word) → are_plain_for (command_row c) ws ≡ true → AreInRange (request_by (command_row c) ws)
is_in_range Solve ws e =
    let tree = named_file tree_choice solve.choices (drop 1 ws) (λ v t. t) (options_of solve ws e) in
    (name_in solve ws 0 e refl, tree.0, limits_of Solve ws e, reading_of Solve ws e)
is_in_range Check ws e = (name_in check ws 0 e refl, name_in check ws 1 e refl, reading_of Check ws e)
is_in_range Ask ws e = (name_in ask ws 0 e refl, name_in ask ws 1 e refl, name_in ask ws 2 e refl, reading_of Ask ws e)
is_in_range Sweep ws e =
    let proof = named_file proof_choice sweep.choices (drop 2 ws) (λ v t. t) (options_of sweep ws e) in
    (name_in sweep ws 0 e refl, name_in sweep ws 1 e refl, proof.0, limits_of Sweep ws e, reading_of Sweep ws e)
is_in_range Recheck ws e = (name_in recheck ws 0 e refl, name_in recheck ws 1 e refl, name_in recheck ws 2 e refl, reading_of Recheck ws e)
is_in_range Show ws e = (name_in show ws 0 e refl, reading_of Show ws e)
is_in_range Trial ws e =
    let most = (within_bounds 0 4294967295 (operand (take 1 ws) 0) (trial_number Trial ws refl e)).1 in
    omega arith

-- and it is built
pub is_request_built : (c : OwnCommand) (ws : List Word) → are_plain_for (command_row c) ws ≡ true
    → IsBuilt (request_by (command_row c) ws)
is_request_built Solve ws e =
    (built_of solve ws e, (named_file tree_choice solve.choices (drop 1 ws) (λ v t. t) (options_of solve ws e)).1)
is_request_built Check ws e = built_of check ws e
is_request_built Ask ws e = built_of ask ws e
is_request_built Sweep ws e =
    (built_of sweep ws e, (named_file proof_choice sweep.choices (drop 2 ws) (λ v t. t) (options_of sweep ws e)).1)
is_request_built Recheck ws e = built_of recheck ws e
is_request_built Show ws e = built_of show ws e
is_request_built Trial ws e = built_of trial ws e
