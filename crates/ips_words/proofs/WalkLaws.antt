-- A walk of the parser of words over plain words.
use Rattle.std.specs.Prelude.{◌≡◌, ℕ, ◌+◌, ◌==◌, ◌%◌, nat_le, min, Bool, if◌then◌else◌, true, false, ◌&&◌, ◌||◌, not, refl}
use Rattle.std.specs.Prelude.{Option, None, Some, List, [], ◌∷◌, ◌++◌, length, map, fold, bytes_eq, slice_index_or}
use Rattle.std.specs.List.{list_all}
use Rattle.std.proofs.Common.{sym, ap, arith, append_assoc, subst, ◌∙◌}
use Rattle.std.proofs.lemmas.List.Folds.{list_any-append}
use Rattle.std.proofs.lemmas.List.{append-nil}
use Rattle.std.proofs.lemmas.Bool.{eqb-true, leb-true}
use Rattle.std.proofs.Math.Bool.{and-false}
use Rattle.ip_defs.specs.Lists.{Each}
use Rattle.ip_defs.proofs.BoolLaws.{left_true, right_true, left_false, right_false}
use Rattle.ip_defs.proofs.TextLaws.{text_same, text_self}
use Rattle.clap.specs.Lexer.{long_of, short_of, usize_max}
use Rattle.clap.specs.Walk.{Row, Rule, Walk, action_of, arg_by_id, arg_by_index, arg_by_long, default_rows, has_row, idle, is_empty}
use Rattle.clap.specs.Walk.{is_multiple, is_pending, most_values, reading_by, settled_rows, takes_several, takes_values, used}
use Rattle.clap.specs.Walk.{used_by_id, walked, with_default, with_values, without}
use Rattle.clap.specs.declared.builder.action.ArgAction.TheVariants.{Set}
use Rattle.clap.specs.declared.parser.matches.ValueSource.TheVariants.{CommandLine}
use Rattle.clap.specs.declared.builder.value_parser.Reading.{Reading}
use Rattle.ips_words.specs.Commands.{Choice, Word, are_distinct, is_choice, is_numeral, is_of_kind, twos}
use Rattle.mps_defs.specs.Numbers.{is_digit, digits_value}
use Rattle.ips_words.specs.declared.commands.Kind.{Kind}
use Rattle.ips_words.specs.declared.commands.Kind.TheVariants.{Name, Number}
use Rattle.ips_words.proofs.PlainLaws.{even_more}
use Rattle.mps_defs.specs.Lists.{is_among}

-- a word that is no flag
pub record IsFree (v : Word) : Type 0 where
  pub dashes : bytes_eq v (45 ∷ 45 ∷ []) ≡ false
  pub long : long_of v ≡ None
  pub short : short_of v ≡ None

-- where a walk stands between plain words
abbrev pub stand : List Row → Option (Word × List Word) → ℕ → Walk
stand rows pending position = record {
  held = record { rows = rows; pending = pending; skip = 0 };
  waiting = idle;
  position = position;
  is_trailing = false;
  stopped = None;
}

-- an operand
pub operand_step : (c : List Rule) (a : Rule) (rows : List Row) (pending : Option (Word × List Word)) (p : ℕ) (word : Word) → IsFree word
    → arg_by_index c p ≡ Some a → is_multiple a ≡ false → takes_several a ≡ false → a.trailing_var_arg ≡ false
    → walked c [] (stand rows pending p) word ≡ stand (settled_rows c pending rows) (Some (a.id, word ∷ [])) (min (p + 1) usize_max)
unfolding walked
operand_step c a rows pending p word free at once single last =
    rw (free.dashes, free.long, free.short, at, once, single, last, and-false (is_pending a pending)) refl

-- an option and its value
pair_step : (c : List Rule) (a : Rule) (rows : List Row) (pending : Option (Word × List Word)) (p : ℕ) (o name v : Word)
    → bytes_eq o (45 ∷ 45 ∷ []) ≡ false → long_of o ≡ Some (name, None) → arg_by_long c name ≡ Some a → takes_values a ≡ true
    → IsFree v → arg_by_id c a.id ≡ Some a → most_values a ≡ 1
    → walked c [] (walked c [] (stand rows pending p) o) v ≡ stand (settled_rows c pending rows) (Some (a.id, v ∷ [])) p
unfolding walked
pair_step c a rows pending p o name v dashes long by_long takes free by_id most =
    let self = text_self a.id in
    rw (dashes, long, by_long, takes, free.dashes, free.long, free.short, by_id, self, most) refl

-- a use of an option that is new adds its row
unfoldable pub row_for : Reading → Word → Word → Row
row_for how id v = record { id = id; values = v ∷ []; count = None; source = Some CommandLine; reading = how }

without_none : (id : Word) (rows : List Row) → has_row id rows ≡ false → without id rows ≡ rows
without_none id [] none = refl
without_none id (r ∷ rs) none =
    let here = left_false (bytes_eq r.id id) (has_row id rs) none in
    let rest = without_none id rs (right_false (bytes_eq r.id id) (has_row id rs) none) in
    rw here (ap (λ xs. r ∷ xs) rest)

values_new : (id : Word) (how : Reading) (v : Word) (rows : List Row) → has_row id rows ≡ false
    → with_values id how CommandLine (v ∷ []) rows ≡ rows ++ row_for how id v ∷ []
unfolding row_for
values_new id how v [] none = refl
values_new id how v (r ∷ rs) none =
    let here = left_false (bytes_eq r.id id) (has_row id rs) none in
    let rest = values_new id how v rs (right_false (bytes_eq r.id id) (has_row id rs) none) in
    rw here (ap (λ xs. r ∷ xs) rest)

used_new : (a : Rule) (v : Word) (rows : List Row) → action_of a ≡ Set → has_row a.id rows ≡ false
    → used a (v ∷ []) rows ≡ rows ++ row_for (reading_by a) a.id v ∷ []
used_new a v rows set none = rw (set, without_none a.id rows none) (values_new a.id (reading_by a) v rows none)

-- rows that have none of the options to come
abbrev pub fresh : List Row → List (Word × Word) → Bool
fresh rows ps = list_all (λ p. not (has_row p.0 rows)) ps

pub not_true : (t : Bool) → not t ≡ true → t ≡ false
not_true true e = absurd cc
not_true false e = refl

fresh_more : (how : Reading) (rows : List Row) (o v : Word) (ps : List (Word × Word)) → is_among o (map (λ p. p.0) ps) ≡ false
    → fresh rows ps ≡ true → fresh (rows ++ row_for how o v ∷ []) ps ≡ true
unfolding row_for
fresh_more how rows o v [] other new = refl
fresh_more how rows o v (q ∷ ps) other new =
    let later = is_among o (map (λ p. p.0) ps) in
    let none = not_true (has_row q.0 rows) (left_true (not (has_row q.0 rows)) (fresh rows ps) new) in
    let differs = left_false (bytes_eq o q.0) later other in
    let others = right_true (not (has_row q.0 rows)) (fresh rows ps) new in
    let rest = fresh_more how rows o v ps (right_false (bytes_eq o q.0) later other) others in
    rw (list_any-append (λ r. bytes_eq r.id q.0) rows (row_for how o v ∷ []), none, differs) rest

-- an option of the parser: its word is a flag that waits for one value
pub record IsRead (c : List Rule) (how : Reading) (o : Word) : Type 0 where
  pub rule : Rule
  pub name : Word
  pub dashes : bytes_eq o (45 ∷ 45 ∷ []) ≡ false
  pub long : long_of o ≡ Some (name, None)
  pub by_long : arg_by_long c name ≡ Some rule
  pub by_id : arg_by_id c o ≡ Some rule
  pub id : rule.id ≡ o
  pub takes : takes_values rule ≡ true
  pub most : most_values rule ≡ 1
  pub set : action_of rule ≡ Set
  pub reading : reading_by rule ≡ how

-- the rows that a walk has at its end
abbrev pub rows_at : List Rule → Walk → List Row
rows_at c w = settled_rows c w.held.pending w.held.rows

abbrev pub pair_row : Reading → Word × Word → Row
pair_row how p = row_for how p.0 p.1

-- a walk over options with their values
pub walk_pairs : (c : List Rule) (how : Reading) (ws : List Word) (rows : List Row) (pending : Option (Word × List Word)) (p : ℕ)
    → Each (λ q. IsRead c how q.0 × IsFree q.1) (twos ws) → (length ws % 2 == 0) ≡ true → are_distinct (map (λ q. q.0) (twos ws)) ≡ true
    → fresh (settled_rows c pending rows) (twos ws) ≡ true
    → rows_at c (fold (walked c []) (stand rows pending p) ws) ≡ settled_rows c pending rows ++ map (pair_row how) (twos ws)
walk_pairs c how [] rows pending p are even distinct new = sym (append-nil (settled_rows c pending rows))
walk_pairs c how (o ∷ []) rows pending p are even distinct new = absurd cc
walk_pairs c how (o ∷ v ∷ ws) rows pending p are even distinct new =
    let read = are.0.0 in
    let rule = read.rule in
    let ps = twos ws in
    let words = map (λ q. q.0) ps in
    let before = settled_rows c pending rows in
    let row = row_for how o v in
    let none = not_true (has_row o before) (left_true (not (has_row o before)) (fresh before ps) new) in
    let other = not_true (is_among o words) (left_true (not (is_among o words)) (are_distinct words) distinct) in
    let once = right_true (not (is_among o words)) (are_distinct words) distinct in
    let by_id = ap (arg_by_id c) read.id ∙ read.by_id in
    let step = pair_step c rule rows pending p o read.name v read.dashes read.long read.by_long read.takes are.0.1 by_id read.most
    ∙ ap (λ i. stand before (Some (i, v ∷ [])) p) read.id in
    let used_is = ap (λ r. used_by_id r (v ∷ []) before) read.by_id
    ∙ used_new rule v before read.set (ap (λ i. has_row i before) read.id ∙ none)
    ∙ ap (λ i. before ++ row_for (reading_by rule) i v ∷ []) read.id ∙ ap (λ h. before ++ row_for h o v ∷ []) read.reading in
    let later = fresh_more how before o v ps other (right_true (not (has_row o before)) (fresh before ps) new) in
    let rest = walk_pairs c how ws before (Some (o, v ∷ [])) p are.1 (sym (even_more (length ws)) ∙ even) once
    (ap (λ r. fresh r ps) used_is ∙ later) in
    ap (λ w. rows_at c (fold (walked c []) w ws)) step ∙ rest ∙ ap (λ r. r ++ map (pair_row how) ps) used_is
    ∙ append_assoc before (row ∷ []) (map (pair_row how) ps)

-- words that are names or numbers are no flags
first_free : (b : ℕ) (bs : Word) → (b == 45) ≡ false → IsFree (b ∷ bs)
first_free b bs e = record { dashes = rw e refl; long = rw e refl; short = rw e refl }

digit_free : (b : ℕ) → is_digit b ≡ true → (b == 45) ≡ false
digit_free b e = by (b == 45) refl where
  by : (t : Bool) → (b == 45) ≡ t → (b == 45) ≡ false
  by true same =
      let is = eqb-true b 45 same in
      let low = leb-true 48 b (left_true (nat_le 48 b) (nat_le b 57) e) in
      absurd (omega arith)
  by false same = same

pub kind_free : (k : Kind) (v : Word) → is_of_kind k v ≡ true → IsFree v
kind_free Name [] e = absurd cc
kind_free Name (b ∷ bs) e = first_free b bs (not_true (b == 45) e)
kind_free (Number low high) [] e = absurd cc
kind_free (Number low high) (b ∷ bs) e =
    let v = b ∷ bs in
    let n = digits_value v in
    let all = list_all is_digit v in
    let some = nat_le 1 (length v) in
    let few = nat_le (length v) 10 in
    let plain = length v == 1 || not (slice_index_or v 0 48 == 48) in
    let numeral = left_true (is_numeral v) (nat_le low n) (left_true (is_numeral v && nat_le low n) (nat_le n high) e) in
    let digits = left_true all some (left_true (all && some) few (left_true (all && some && few) plain numeral)) in
    first_free b bs (digit_free b (left_true (is_digit b) (list_all is_digit bs) digits))

-- options of a command are read
choice_pair : (P : Word → Type 0) (cs : List Choice) (o v : Word) → Each (λ c. P c.word) cs → is_choice cs (o, v) ≡ true → P o × IsFree v
choice_pair P [] o v all is = absurd cc
choice_pair P (c ∷ cs) o v all is = by (choice_pair P cs o v all.1) (bytes_eq c.word o) refl where
  by : (is_choice cs (o, v) ≡ true → P o × IsFree v) → (t : Bool) → bytes_eq c.word o ≡ t → P o × IsFree v
  by rest true e =
      let found : (c.built && is_of_kind c.value v) ≡ true = rw e at is in
      (subst P (text_same c.word o e) all.0, kind_free c.value v (right_true c.built (is_of_kind c.value v) found))
  by rest false e = rest (rw e at is)

pub all_pairs : (P : Word → Type 0) (cs : List Choice) (ps : List (Word × Word)) → Each (λ c. P c.word) cs
    → list_all (is_choice cs) ps ≡ true → Each (λ q. P q.0 × IsFree q.1) ps
all_pairs P cs [] all are = tt
all_pairs P cs ((o, v) ∷ ps) all are =
    let first = left_true (is_choice cs (o, v)) (list_all (is_choice cs) ps) are in
    let rest = right_true (is_choice cs (o, v)) (list_all (is_choice cs) ps) are in
    (choice_pair P cs o v all first, all_pairs P cs ps all rest)

-- no argument has a default
pub defaults_none : (c : List Rule) (rows : List Row) → list_all (λ a. is_empty a.defaults) c ≡ true → fold with_default rows c ≡ rows
defaults_none [] rows none = refl
defaults_none (a ∷ c) rows none =
    let here = left_true (is_empty a.defaults) (list_all (λ b. is_empty b.defaults) c) none in
    let others = right_true (is_empty a.defaults) (list_all (λ b. is_empty b.defaults) c) none in
    ap (λ r. fold with_default r c) (by a.defaults here (has_row a.id rows)) ∙ defaults_none c rows others where
      by : (ds : List Word) → is_empty ds ≡ true → (t : Bool) → (if t then rows else default_rows a.id (reading_by a) ds rows) ≡ rows
      by [] e true = refl
      by [] e false = refl
      by (d ∷ ds) e t = absurd (let none_is = eqb-true (length (d ∷ ds)) 0 e in omega arith)
