-- What the parser of words reads of plain words: each operand by its place, and the value of each option.
use Rattle.std.specs.Prelude.{◌≡◌, ℕ, ℤ, zero, suc, ◌<◌, ◌≤◌, ◌+◌, ◌-◌, ◌==◌, ◌%◌, Bool, true, false, ◌&&◌, ◌||◌, refl}
use Rattle.std.specs.Prelude.{Option, None, Some, option_map, option_and_then, unwrap_or, fold, bytes_eq, codes}
use Rattle.std.specs.Prelude.{List, [], ◌∷◌, ◌++◌, length, map, take, drop, find, slice_get, get_or}
use Rattle.std.specs.List.{list_all}
use Rattle.std.specs.Borrow.{Bor}
use Rattle.std.proofs.Common.{sym, ap, arith, append_assoc, ◌∙◌}
use Rattle.std.proofs.lemmas.List.{append-nil, length-append}
use Rattle.std.proofs.Math.Seq.{take-length}
use Rattle.ip_defs.specs.Lists.{Each}
use Rattle.ip_defs.proofs.BoolLaws.{left_true, right_true, left_false, right_false}
use Rattle.ip_defs.proofs.ListLaws.{each_weaker}
use Rattle.clap.specs.Words.{App, HasMatchesOf, Row, Rule, built, first_of, first_value, found_of, is_simple, matches_of, rows_of}
use Rattle.clap.specs.Facts.{Entry}
use Rattle.clap.specs.Lexer.{long_of}
use Rattle.clap.specs.Simple.{filled, new_rule, with_index}
use Rattle.clap.specs.Values.{reading_of}
use Rattle.clap.specs.Walk.{arg_by_id, arg_by_long}
use Rattle.clap.specs.Walk.{Walk, has_row, row_of, settled_rows, walked, with_default}
use Rattle.clap.specs.declared.builder.value_parser.Reading.{Reading}
use Rattle.clap.specs.declared.builder.value_parser.ValueParser.TheVariants as Parsers
use Rattle.clap.specs.declared.parser.matches.ArgMatches.{ArgMatches}
use Rattle.clap.specs.declared.parser.matches.Found.{Found}
use Rattle.ips_words.specs.Commands.{Choice, Word, are_distinct, are_options, are_plain_for, begin_with, is_choice, is_number_from}
use Rattle.ips_words.specs.Commands.{command_named, is_of_kind, operand, request_by, request_of, twos, value_in, value_of}
use Rattle.ips_words.specs.Commands.{nodes_of, depth_of, pivots_of, digits_of, box_of, reading_choices, search_choices}
use Rattle.ips_words.specs.declared.requests.Request.{Request}
use Rattle.ips_words.specs.declared.requests.Request.TheVariants as Requests
use Rattle.ips_words.specs.Internal.Parsers.{operand_id, option_rule, read_operand, words_parser, words_rows}
use Rattle.ips_words.specs.Internal.Parts.{HasLimits, HasNumber, HasReading}
use Rattle.ips_words.specs.Internal.Rows.{command_row}
use Rattle.ips_words.specs.declared.commands.Command.{Command as OwnCommand}
use Rattle.ips_words.specs.declared.commands.Command.TheVariants.{Solve, Check, Ask, Sweep, Recheck, Show, Trial}
use Rattle.ips_words.specs.declared.commands.Kind.{Kind}
use Rattle.ips_words.proofs.RangeLaws.{all_limits, all_reading, operands_of, options_of, trial_number}
use Rattle.ips_words.proofs.WalkLaws.{IsFree, IsRead, all_pairs, defaults_none, fresh, kind_free, operand_step, pair_row, row_for}
use Rattle.ips_words.proofs.WalkLaws.{rows_at, stand, walk_pairs}

abbrev rules : List Rule
rules = (built words_parser).top.rules

abbrev as_text : Reading
as_text = reading_of Parsers.String

abbrev option_of : Word → Word → Rule
option_of id long = with_index 1 (filled (option_rule id long))

abbrev operand_at : Word → ℕ → Rule
operand_at id i = with_index i (filled (new_rule id))

-- a word is not the name of an operand
abbrev IsNoOperand : Word → Type 0
IsNoOperand o = (bytes_eq (codes "first") o || (bytes_eq (codes "second") o || bytes_eq (codes "third") o)) ≡ false

no_operand_at : (o : Word) → IsNoOperand o → (i : ℕ) → bytes_eq (operand_id i) o ≡ false
no_operand_at o other zero = left_false (bytes_eq (codes "first") o) _ other
no_operand_at o other (suc zero) = left_false (bytes_eq (codes "second") o) _ (right_false (bytes_eq (codes "first") o) _ other)
no_operand_at o other (suc (suc i)) =
    right_false (bytes_eq (codes "second") o) _ (right_false (bytes_eq (codes "first") o) _ other)

abbrev IsOption : Word → Type 0
IsOption o = IsRead rules as_text o × IsNoOperand o

-- an option by its word and its name: each fact of it is computed
option_is : (word name : Word) → bytes_eq word (45 ∷ 45 ∷ []) ≡ false → long_of word ≡ Some (name, None)
    → arg_by_long rules name ≡ Some (option_of word name) → arg_by_id rules word ≡ Some (option_of word name) → IsNoOperand word
    → IsOption word
option_is word name' dashes' long' by_long' by_id' other = (
  record {
    rule = option_of word name';
    name = name';
    dashes = dashes';
    long = long';
    by_long = by_long';
    by_id = by_id';
    id = refl;
    takes = refl;
    most = refl;
    set = refl;
    reading = refl;
  },
  other,
)

-- the options of each command are options of the parser
reading_are : Each (λ d. IsOption d.word) reading_choices
reading_are = (
  option_is (codes "--digits") (codes "digits") refl refl refl refl refl,
  (option_is (codes "--box") (codes "box") refl refl refl refl refl, tt),
)

search_are : Each (λ d. IsOption d.word) search_choices
search_are = (
  option_is (codes "--nodes") (codes "nodes") refl refl refl refl refl,
  (
    option_is (codes "--depth") (codes "depth") refl refl refl refl refl,
    (option_is (codes "--pivots") (codes "pivots") refl refl refl refl refl, reading_are),
  ),
)

options_are : (c : OwnCommand) → Each (λ d. IsOption d.word) (command_row c).choices
options_are Solve = (option_is (codes "--tree") (codes "tree") refl refl refl refl refl, search_are)
options_are Check = reading_are
options_are Ask = reading_are
options_are Sweep = (option_is (codes "--proof") (codes "proof") refl refl refl refl refl, search_are)
options_are Recheck = reading_are
options_are Show = reading_are
options_are Trial = tt

is_simple_parser : is_simple words_parser ≡ true
is_simple_parser = refl

-- the matches of a parser with these arguments
pub read_rows : (a : App) (ws : List Word) (m : ArgMatches) → a ≡ words_parser → HasMatchesOf a ws m → rows_of (found_of m) ≡ words_rows ws
unfolding words_rows
read_rows a ws m e has = (has (ap is_simple e ∙ is_simple_parser)).0 ∙ ap (λ (b : App). matches_of b ws) e

-- the rows of operands, from a place on
abbrev operand_rows : ℕ → List Word → List Row
operand_rows i [] = []
operand_rows i (w ∷ ws) = row_for as_text (operand_id i) w ∷ operand_rows (suc i) ws

-- an operand after fewer than three adds its row
operand_settled : (ops : List Word) (w : Word) → length ops < 3
    → settled_rows rules (Some (operand_id (length ops), w ∷ [])) (operand_rows 0 ops) ≡ operand_rows 0 (ops ++ w ∷ [])
unfolding row_for
operand_settled [] w few = refl
operand_settled (a ∷ []) w few = refl
operand_settled (a ∷ b ∷ []) w few = refl
operand_settled (a ∷ b ∷ c ∷ ws) w few = absurd (omega arith)

operand_walked : (ops : List Word) (w : Word) (rows : List Row) (pending : Option (Word × List Word)) → length ops < 3 → IsFree w
    → settled_rows rules pending rows ≡ operand_rows 0 ops
    → walked rules [] (stand rows pending (suc (length ops))) w
    ≡ stand (operand_rows 0 ops) (Some (operand_id (length ops), w ∷ [])) (suc (suc (length ops)))
operand_walked ops w rows pending few free start =
    by ops few ∙ ap (λ r. stand r (Some (operand_id (length ops), w ∷ [])) (suc (suc (length ops)))) start
  where
    by : (xs : List Word) → length xs < 3
        → walked rules [] (stand rows pending (suc (length xs))) w
        ≡ stand (settled_rows rules pending rows) (Some (operand_id (length xs), w ∷ [])) (suc (suc (length xs)))
    by [] few = operand_step rules (operand_at (operand_id 0) 1) rows pending 1 w free refl refl refl refl
    by (a ∷ []) few = operand_step rules (operand_at (operand_id 1) 2) rows pending 2 w free refl refl refl refl
    by (a ∷ b ∷ []) few = operand_step rules (operand_at (operand_id 2) 3) rows pending 3 w free refl refl refl refl
    by (a ∷ b ∷ c ∷ xs) few = absurd (omega arith)

no_row : (i : ℕ) (ws : List Word) (o : Word) → IsNoOperand o → has_row o (operand_rows i ws) ≡ false
unfolding row_for
no_row i [] o other = refl
no_row i (w ∷ ws) o other = rw (no_operand_at o other i) (no_row (suc i) ws o other)

fresh_options : (ws : List Word) (ps : List (Word × Word)) → Each (λ q. IsOption q.0 × IsFree q.1) ps → fresh (operand_rows 0 ws) ps ≡ true
fresh_options ws [] all = refl
fresh_options ws (q ∷ ps) all = rw (no_row 0 ws q.0 all.0.0.1) (fresh_options ws ps all.1)

-- the rows at the end of the words
abbrev ends : Walk → List Word → List Row
ends w ws = fold with_default (rows_at rules (fold (walked rules []) w ws)) rules

abbrev rows_of_parts : List Word → List Word → List Row
rows_of_parts operands options = operand_rows 0 operands ++ map (pair_row as_text) (twos options)

-- the rest of the words are options
after_operands : (cs : List Choice) (ops ws : List Word) (rows : List Row) (pending : Option (Word × List Word)) (p : ℕ)
    → settled_rows rules pending rows ≡ operand_rows 0 ops → Each (λ d. IsOption d.word) cs → are_options cs ws ≡ true
    → ends (stand rows pending p) ws ≡ rows_of_parts ops ws
after_operands cs ops ws rows pending p start options are =
    let ps = twos ws in
    let even = length ws % 2 == 0 in
    let chosen = list_all (is_choice cs) ps in
    let distinct = are_distinct (map (λ q. q.0) ps) in
    let both = left_true (even && chosen) distinct are in
    let all = all_pairs IsOption cs ps options (right_true even chosen both) in
    let read = each_weaker (λ q. IsOption q.0 × IsFree q.1) (λ q. IsRead rules as_text q.0 × IsFree q.1) ps (λ q h. (h.0.0, h.1)) all in
    let new = ap (λ r. fresh r ps) start ∙ fresh_options ops ps all in
    let once = right_true (even && chosen) distinct are in
    let walk = walk_pairs rules as_text ws rows pending p read (left_true even chosen both) once new in
    defaults_none rules (rows_at rules (fold (walked rules []) (stand rows pending p) ws)) refl
    ∙ walk ∙ ap (λ r. r ++ map (pair_row as_text) ps) start

-- so are the words after operands, of which some are walked over
operands_walked : (ks : List Kind) (cs : List Choice) (ops ws : List Word) (rows : List Row) (pending : Option (Word × List Word))
    → length ops + length ks ≤ 3 → settled_rows rules pending rows ≡ operand_rows 0 ops → Each (λ d. IsOption d.word) cs
    → begin_with ks ws ≡ true → are_options cs (drop (length ks) ws) ≡ true
    → ends (stand rows pending (suc (length ops))) ws ≡ rows_of_parts (ops ++ take (length ks) ws) (drop (length ks) ws)
operands_walked [] cs ops ws rows pending few start options e are =
    after_operands cs ops ws rows pending (suc (length ops)) start options are
    ∙ ap (λ xs. rows_of_parts xs ws) (sym (append-nil ops))
operands_walked (k ∷ ks) cs ops [] rows pending few start options e are = absurd cc
operands_walked (k ∷ ks) cs ops (w ∷ ws) rows pending few start options e are =
    let free = kind_free k w (left_true (is_of_kind k w) (begin_with ks ws) e) in
    let longer : length (ops ++ w ∷ []) ≡ suc (length ops) = length-append ops (w ∷ []) ∙ omega arith in
    let step = operand_walked ops w rows pending (omega arith) free start in
    let later = operands_walked ks cs (ops ++ w ∷ []) ws (operand_rows 0 ops) (Some (operand_id (length ops), w ∷ [])) (omega arith)
    (operand_settled ops w (omega arith)) options (right_true (is_of_kind k w) (begin_with ks ws) e) are in
    ap (λ s. ends s ws) step
    ∙ ap (λ n. ends (stand (operand_rows 0 ops) (Some (operand_id (length ops), w ∷ [])) (suc n)) ws) (sym longer)
    ∙ later
    ∙ ap (λ xs. rows_of_parts xs (drop (length ks) ws)) (append_assoc ops (w ∷ []) (take (length ks) ws))

-- the operands and the options of a command in words of which it is the first
abbrev operands_in : OwnCommand → List Word → List Word
operands_in c ws = take (length (command_row c).operands) (drop 1 ws)

abbrev options_in : OwnCommand → List Word → List Word
options_in c ws = drop (length (command_row c).operands) (drop 1 ws)

abbrev ArePlain : OwnCommand → List Word → Type 0
ArePlain c ws = are_plain_for (command_row c) (drop 1 ws) ≡ true

begun : (c : OwnCommand) (ws : List Word) → ArePlain c ws → begin_with (command_row c).operands (drop 1 ws) ≡ true
begun c ws e = operands_of (command_row c) (drop 1 ws) e

followed : (c : OwnCommand) (ws : List Word) → ArePlain c ws → are_options (command_row c).choices (options_in c ws) ≡ true
followed c ws e = options_of (command_row c) (drop 1 ws) e

few_operands : (c : OwnCommand) → length (command_row c).operands ≤ 3
few_operands Solve = omega arith
few_operands Check = omega arith
few_operands Ask = omega arith
few_operands Sweep = omega arith
few_operands Recheck = omega arith
few_operands Show = omega arith
few_operands Trial = omega arith

-- the rows of plain words
plain_rows : (c : OwnCommand) (ws : List Word) → ArePlain c ws → words_rows ws ≡ rows_of_parts (operands_in c ws) (options_in c ws)
unfolding words_rows
plain_rows c ws e =
    operands_walked (command_row c).operands (command_row c).choices [] (drop 1 ws) [] None (let few = few_operands c in omega arith) refl
    (options_are c)
    (begun c ws e) (followed c ws e)

-- what the rows give for an option
pairs_value : (o : Word) (ps : List (Word × Word)) → first_of o (map (pair_row as_text) ps) ≡ value_of o ps
unfolding row_for
pairs_value o [] = refl
pairs_value o (q ∷ ps) = by (pairs_value o ps) (bytes_eq q.0 o) refl where
  by : first_of o (map (pair_row as_text) ps) ≡ value_of o ps → (t : Bool) → bytes_eq q.0 o ≡ t
      → first_of o (map (pair_row as_text) (q ∷ ps)) ≡ value_of o (q ∷ ps)
  by rest true e = rw e refl
  by rest false e = rw e rest

option_value : (i : ℕ) (o : Word) (ops : List Word) (ps : List (Word × Word)) → IsNoOperand o
    → first_of o (operand_rows i ops ++ map (pair_row as_text) ps) ≡ value_of o ps
unfolding row_for
option_value i o [] ps other = pairs_value o ps
option_value i o (w ∷ ws) ps other = rw (no_operand_at o other i) (option_value (suc i) o ws ps other)

-- and for an operand
operand_value : (i : ℕ) (ops : List Word) (others : List Row) → i < length ops → i < 3
    → first_of (operand_id i) (operand_rows 0 ops ++ others) ≡ Some (operand ops i)
unfolding row_for
operand_value i [] others some few = absurd (omega arith)
operand_value zero (w ∷ ws) others some few = refl
operand_value (suc i) (w ∷ []) others some few = absurd (omega arith)
operand_value (suc zero) (w ∷ v ∷ ws) others some few = refl
operand_value (suc (suc i)) (w ∷ v ∷ []) others some few = absurd (omega arith)
operand_value (suc (suc zero)) (w ∷ v ∷ u ∷ ws) others some few = refl
operand_value (suc (suc (suc i))) (w ∷ v ∷ u ∷ ws) others some few = absurd (omega arith)

-- the values of matches are those of their rows
first_text : (xs : List (Bor Word)) → slice_get (map (λ x. x.now) xs) 0 ≡ option_map (λ x. x.now) (slice_get xs 0)
first_text [] = refl
first_text (x ∷ xs) = refl

abbrev entry_value : Word → List Entry → Option Word
entry_value id es =
    option_and_then (λ a. option_map (λ x. x.now) (slice_get a.vals.items 0)) (option_map (λ e. e.1) (find (λ e. bytes_eq e.0.now id) es))

entries_value : (id : Word) (es : List Entry) → first_of id (map row_of es) ≡ entry_value id es
entries_value id [] = refl
entries_value id (e ∷ es) = by (entries_value id es) (bytes_eq e.0.now id) refl where
  by : first_of id (map row_of es) ≡ entry_value id es → (t : Bool) → bytes_eq e.0.now id ≡ t
      → first_of id (map row_of (e ∷ es)) ≡ entry_value id (e ∷ es)
  by rest true is = rw is (first_text e.1.vals.items)
  by rest false is = rw is rest

found_value : (f : Found) (id : Word) → first_value f id ≡ first_of id (rows_of f)
found_value f id = sym (entries_value id f.entries.items)

-- what was read of plain words
value_is : (c : OwnCommand) (ws : List Word) (f : Found) → ArePlain c ws → rows_of f ≡ words_rows ws → (o : Word) → IsNoOperand o
    → first_value f o ≡ value_in (options_in c ws) o
value_is c ws f e read o other =
    found_value f o ∙ ap (first_of o) (read ∙ plain_rows c ws e) ∙ option_value 0 o (operands_in c ws) (twos (options_in c ws)) other

begun_length : (ks : List Kind) (ws : List Word) → begin_with ks ws ≡ true → length (take (length ks) ws) ≡ length ks
begun_length [] ws e = refl
begun_length (k ∷ ks) [] e = absurd cc
begun_length (k ∷ ks) (w ∷ ws) e =
    let rest = begun_length ks ws (right_true (is_of_kind k w) (begin_with ks ws) e) in omega arith

operand_is : (c : OwnCommand) (ws : List Word) (f : Found) → ArePlain c ws → rows_of f ≡ words_rows ws → (i : ℕ)
    → i < length (command_row c).operands → read_operand f i ≡ operand (operands_in c ws) i
operand_is c ws f e read i some =
    let others = map (pair_row as_text) (twos (options_in c ws)) in
    let size = begun_length (command_row c).operands (drop 1 ws) (begun c ws e) in
    let few = few_operands c in
    let found = operand_value i (operands_in c ws) others (omega arith) (omega arith) in
    ap (λ x. unwrap_or x []) (found_value f (operand_id i) ∙ ap (first_of (operand_id i)) (read ∙ plain_rows c ws e) ∙ found)

-- options that are given alike say the same of a search and of reading
searched_alike : (given read : Word → Option Word) → ((o : Word) → IsNoOperand o → given o ≡ read o)
    → (request : ℕ → ℕ → ℕ → ℕ → Option ℤ → Request)
    → request (nodes_of given) (depth_of given) (pivots_of given) (digits_of given) (box_of given)
    ≡ request (nodes_of read) (depth_of read) (pivots_of read) (digits_of read) (box_of read)
searched_alike given read same request =
    rw (
      same (codes "--nodes") refl,
      same (codes "--depth") refl,
      same (codes "--pivots") refl,
      same (codes "--digits") refl,
      same (codes "--box") refl,
    ) refl

-- so the request is that of the words
pub same_request : (c : OwnCommand) (ws : List Word) (f : Found) → ArePlain c ws → rows_of f ≡ words_rows ws
    → (command_row c).request (read_operand f) (first_value f) ≡ request_by (command_row c) (drop 1 ws)
same_request c ws f e read = by c (value_is c ws f e read) (operand_is c ws f e read)
  where
    by : (c : OwnCommand) → ((o : Word) → IsNoOperand o → first_value f o ≡ value_in (options_in c ws) o)
        → ((i : ℕ) → i < length (command_row c).operands → read_operand f i ≡ operand (operands_in c ws) i)
        → (command_row c).request (read_operand f) (first_value f) ≡ request_by (command_row c) (drop 1 ws)
    by Solve v o =
        rw (o 0 (omega arith), v (codes "--tree") refl)
        (searched_alike (first_value f) (value_in (options_in Solve ws)) v
        (Requests.Solve (operand (operands_in Solve ws) 0) (value_in (options_in Solve ws) (codes "--tree"))))
    by Check v o = rw (o 0 (omega arith), o 1 (omega arith), v (codes "--digits") refl, v (codes "--box") refl) refl
    by Ask v o = rw (o 0 (omega arith), o 1 (omega arith), o 2 (omega arith), v (codes "--digits") refl, v (codes "--box") refl) refl
    by Sweep v o =
        rw (o 0 (omega arith), o 1 (omega arith), v (codes "--proof") refl)
        (searched_alike (first_value f) (value_in (options_in Sweep ws)) v
        (Requests.Sweep (operand (operands_in Sweep ws) 0) (operand (operands_in Sweep ws) 1)
        (value_in (options_in Sweep ws) (codes "--proof"))))
    by Recheck v o =
        rw (o 0 (omega arith), o 1 (omega arith), o 2 (omega arith), v (codes "--digits") refl, v (codes "--box") refl) refl
    by Show v o = rw (o 0 (omega arith), v (codes "--digits") refl, v (codes "--box") refl) refl
    by Trial v o = rw (o 0 (omega arith)) refl

-- and the options have their numbers, and so has `trial`
number_is_read : (c : OwnCommand) (ws : List Word) (f : Found) (o : Word) (low high : ℕ) → ArePlain c ws → rows_of f ≡ words_rows ws
    → IsNoOperand o → HasNumber o low high (value_in (options_in c ws)) → HasNumber o low high (first_value f)
number_is_read c ws f o low high e read other has = λ v is. has v (sym (value_is c ws f e read o other) ∙ is)

pub numbers_read : (c : OwnCommand) (ws : List Word) (f : Found) → ArePlain c ws → rows_of f ≡ words_rows ws
    → HasReading (first_value f) × HasLimits (first_value f)
numbers_read c ws f e read =
    let reading = all_reading c (options_in c ws) (followed c ws e) in
    let limits = all_limits c (options_in c ws) (followed c ws e) in (
      record {
        digits = number_is_read c ws f (codes "--digits") 0 9 e read refl reading.digits;
        box_side = number_is_read c ws f (codes "--box") 0 16777216 e read refl reading.box_side;
      },
      record {
        nodes = number_is_read c ws f (codes "--nodes") 1 1000000 e read refl limits.nodes;
        depth = number_is_read c ws f (codes "--depth") 0 800 e read refl limits.depth;
        pivots = number_is_read c ws f (codes "--pivots") 0 100000 e read refl limits.pivots;
      },
    )

pub number_read : (c : OwnCommand) (ws : List Word) (f : Found) → ArePlain c ws → rows_of f ≡ words_rows ws → c ≡ Trial
    → is_number_from 0 4294967295 (read_operand f 0) ≡ true
number_read Solve ws f e read is = absurd cc
number_read Check ws f e read is = absurd cc
number_read Ask ws f e read is = absurd cc
number_read Sweep ws f e read is = absurd cc
number_read Recheck ws f e read is = absurd cc
number_read Show ws f e read is = absurd cc
number_read Trial ws f e read is =
    ap (is_number_from 0 4294967295) (operand_is Trial ws f e read 0 (omega arith)) ∙ trial_number Trial (drop 1 ws) refl e

-- the words after the first, and the request of words whose first is a command
later_words : {A : Type 0} (f : A → Word) (xs : List A) → map f (take (length xs - 1) (drop 1 xs)) ≡ drop 1 (map f xs)
later_words f [] = refl
later_words f (x ∷ xs) = let size : length (x ∷ xs) - 1 ≡ length xs = omega arith in rw (size, take-length xs) refl

pub plain_words : {A : Type 0} (f : A → Word) (xs : List A) (c : OwnCommand) (t : Bool)
    → t ≡ are_plain_for (command_row c) (map f (take (length xs - 1) (drop 1 xs))) → t ≡ true → ArePlain c (map f xs)
plain_words f xs c t is so = ap (are_plain_for (command_row c)) (sym (later_words f xs)) ∙ sym is ∙ so

pub request_is : {A : Type 0} (f : A → Word) (xs : List A) (x : A) (c : OwnCommand) → 1 ≤ length xs → x ≡ get_or xs 0 x
    → Some (command_row c) ≡ command_named (f x) → ArePlain c (map f xs)
    → request_of (map f xs) ≡ Some (request_by (command_row c) (drop 1 (map f xs)))
request_is f [] x c some first named plain = absurd (omega arith)
request_is f (y ∷ ys) x c some first named plain =
    let is : command_named (f y) ≡ Some (command_row c) = ap (λ z. command_named (f z)) (sym first) ∙ sym named in
    rw (is, plain) refl
