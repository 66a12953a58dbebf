-- The decimals of a row that is read, and of the costs, are the least ones that write its amounts, and no fewer than those asked for.
use Rattle.std.specs.Prelude.{◌≡◌, ℕ, ◌≤◌, Bool, true, false, ◌&&◌, not, List, [], ◌∷◌, ◌++◌, map, cond, find, Option, None, Some}
use Rattle.std.specs.Prelude.{option_map, unwrap_or, bytes_eq, codes, ℤ, neg_ℤ}
use Rattle.std.specs.Int.RustNames.{unsigned_abs}
use Rattle.std.specs.Option.{option_map_or, ForSome}
use Rattle.std.proofs.Common.{refl, arith, ap, sym, ◌∙◌, subst}
use Rattle.std.proofs.lemmas.Int.{ints}
use Rattle.mps_defs.specs.Lists.{is_among}
use Rattle.ip_defs.specs.Limits.{IsRow}
use Rattle.mps_defs.specs.Numbers.{decimals_of, least_decimals}
use Rattle.mps_defs.specs.Records.{Line, Entry, objective, is_objective, is_dropped_row, is_kept_set, is_kept, column_names, kept_entries}
use Rattle.mps_defs.specs.TextModels.{no_number, units, written_for, written_at, largest, decimals_in, row_decimals, row_sides, coefs_in}
use Rattle.mps_defs.specs.TextModels.{row_from, column_from, model_from, number_or_zero}
use Rattle.ip_defs.specs.declared.programs.Column.{Column}
use Rattle.mps_defs.specs.declared.reading.How.{How}
use Rattle.mps_defs.specs.declared.reading.Number.{Number}
use Rattle.text_laws.specs.ReadBack.{needed_decimals, row_amounts, cost_amounts}
use Rattle.text_laws.proofs.ListLaws.{each_both}
use Rattle.text_laws.proofs.EachLaws.{each_of_map, each_before_map}
use Rattle.text_laws.proofs.ScaleLaws.{decimals_within}
use Rattle.text_laws.proofs.LeastReadLaws.{number_least, largest_start, largest_each, largest_most}
use Rattle.text_laws.proofs.SoundLaws.{IsSound}
use Rattle.text_laws.proofs.KeptReadLaws.{column_pairs, right_side_pairs, range_pairs}
use Rattle.text_laws.proofs.FoundReadLaws.{IsFound, at_place, of_row, columns_found, set_found}
use Rattle.text_laws.proofs.DistinctReadLaws.{entries_owned}
use Rattle.text_laws.proofs.SideDecimalLaws.{NeedsOwn, AreWithin, right_amount, range_amount, sides_known}
use Rattle.text_laws.proofs.EntryDecimalLaws.{IsFewFor, decimals_few, few_decimals, written_here, written_alone, coef_needs, named_each}
use Rattle.ip_defs.proofs.ListLaws.{each_left, each_right, each_weaker, each_append}
use Rattle.ip_defs.specs.Lists.{Each}

-- what is known of the entries that are kept
pub record AreRead (ls : List Line) : Type 0 where
  pub columns : Each (IsFound (codes "COLUMNS") ls at_place) (kept_entries (codes "COLUMNS") ls)
  pub right_sides : Each (IsFound (codes "RHS") ls of_row) (kept_entries (codes "RHS") ls)
  pub ranges : Each (IsFound (codes "RANGES") ls of_row) (kept_entries (codes "RANGES") ls)

pub entries_read : (ls : List Line) → IsSound [] [] ls → AreRead ls
entries_read ls sound = record {
  columns = columns_found ls column_pairs sound;
  right_sides = set_found (codes "RHS") ls right_side_pairs refl refl sound;
  ranges = set_found (codes "RANGES") ls range_pairs refl refl sound;
}

-- the entries of the three sections
abbrev pub coef_entries : List Line → List Entry
coef_entries ls = kept_entries (codes "COLUMNS") ls

abbrev pub side_entries : List Line → List Entry
side_entries ls = kept_entries (codes "RHS") ls

abbrev pub range_entries : List Line → List Entry
range_entries ls = kept_entries (codes "RANGES") ls

abbrev pub all_kept : List Line → List Entry
all_kept ls = coef_entries ls ++ side_entries ls ++ range_entries ls

-- decimals are the largest of some needs, where each entry has no more and each need no more than they
least_is : (ls : List Line) (how : How) (row : List ℕ) (amounts : List ℤ)
    → Each (IsFewFor (largest how.digits (map (needed_decimals (row_decimals ls how row)) amounts)) row) (all_kept ls)
    → row_decimals ls how row ≡ largest how.digits (map (needed_decimals (row_decimals ls how row)) amounts)
least_is ls how row amounts few =
    let k = row_decimals ls how row in
    let needs = map (needed_decimals k) amounts in
    let up =
    largest_most how.digits (largest how.digits needs) (decimals_in (all_kept ls) row) (largest_start how.digits needs)
    (decimals_few (largest how.digits needs) row (all_kept ls) few) in
    let down =
    largest_most how.digits k needs (largest_start how.digits (decimals_in (all_kept ls) row))
    (each_of_map (λ d. d ≤ k) (needed_decimals k) amounts (all_within k amounts)) in
    omega arith
  where
    all_within : (k : ℕ) (zs : List ℤ) → Each (λ z. needed_decimals k z ≤ k) zs
    all_within k [] = tt
    all_within k (z ∷ zs) = (decimals_within (unsigned_abs z) k, all_within k zs)

-- the entries of a row have no more decimals than the row
own_decimals : (ls : List Line) (how : How) (row : List ℕ) → Each (IsFewFor (row_decimals ls how row) row) (all_kept ls)
own_decimals ls how row = few_decimals (row_decimals ls how row) row (all_kept ls) (largest_each how.digits (decimals_in (all_kept ls) row))

own_first : (ls : List Line) (how : How) (row : List ℕ)
    → Each (IsFewFor (row_decimals ls how row) row) (coef_entries ls ++ side_entries ls)
own_first ls how row =
    each_left (IsFewFor (row_decimals ls how row) row) (coef_entries ls ++ side_entries ls) (range_entries ls) (own_decimals ls how row)

own_sides : (ls : List Line) (how : How) (row : List ℕ) → Each (IsFewFor (row_decimals ls how row) row) (side_entries ls)
own_sides ls how row =
    each_right (IsFewFor (row_decimals ls how row) row) (coef_entries ls) (side_entries ls) (own_first ls how row)

-- no amount needs more decimals than the largest of their needs
largest_needs : (how : How) (k : ℕ) (amounts : List ℤ)
    → Each (λ z. needed_decimals k z ≤ largest how.digits (map (needed_decimals k) amounts)) amounts
largest_needs how k amounts =
    let most = largest how.digits (map (needed_decimals k) amounts) in
    each_before_map (λ d. d ≤ most) (needed_decimals k) amounts (largest_each how.digits (map (needed_decimals k) amounts))

-- what is written for a row needs its own decimals in units that are fine enough
written_own : (k : ℕ) (row : List ℕ) (es : List Entry) → Each (IsFewFor k row) es → ForSome (written_for es row) (NeedsOwn k)
written_own k row [] few = λ x e. absurd cc
written_own k row (e ∷ es) few = by (bytes_eq e.row row) refl (written_own k row es few.1)
  where
    by : (t : Bool) → bytes_eq e.row row ≡ t → ForSome (written_for es row) (NeedsOwn k)
        → ForSome (option_map (λ f. number_or_zero f.text) (cond t (Some e) (find (λ f. bytes_eq f.row row) es))) (NeedsOwn k)
    by true f rest = λ x is. (let same : number_or_zero e.text ≡ x = cc in subst (NeedsOwn k) same (number_least e.text k (few.0 f)))
    by false f rest = rest

or_nothing : (k : ℕ) (o : Option Number) → ForSome o (NeedsOwn k) → NeedsOwn k (unwrap_or o no_number)
or_nothing k None h = number_least [] k (omega arith)
or_nothing k (Some x) h = h x refl

pub three_parts : (P : Entry → Type 0) (es rs gs : List Entry) → Each P es → Each P rs → Each P gs → Each P (es ++ rs ++ gs)
three_parts P es rs gs a b c = each_append P (es ++ rs) gs (each_append P es rs a b) c

-- the entries of COLUMNS for a row, where the number that is written at a column needs no more than some decimals
few_from : (ls : List Line) (row : List ℕ) (k most : ℕ) → AreRead ls → Each (IsFewFor k row) (kept_entries (codes "COLUMNS") ls)
    → ((name : List ℕ) (x : Number) → is_among name (column_names ls) ≡ true → written_at (kept_entries (codes "COLUMNS") ls) row name
    ≡ Some x → needed_decimals k (units k x) ≤ most)
    → Each (IsFewFor most row) (kept_entries (codes "COLUMNS") ls)
few_from ls row k most read own needs =
    each_both (λ e. IsFound (codes "COLUMNS") ls at_place e × (is_among e.owner (column_names ls) ≡ true)) (IsFewFor k row)
    (IsFewFor most row) (kept_entries (codes "COLUMNS") ls)
    (each_both (IsFound (codes "COLUMNS") ls at_place) (λ e. is_among e.owner (column_names ls) ≡ true)
    (λ e. IsFound (codes "COLUMNS") ls at_place e × (is_among e.owner (column_names ls) ≡ true))
    (kept_entries (codes "COLUMNS") ls) read.columns (entries_owned ls) (λ e f o. (f, o))) own
    (λ e h few same.
    let need = needs e.owner (number_or_zero e.text) h.1 (written_here ls row e h.0 same) in
    let least = number_least e.text k (few same) in
    omega arith)

-- a range that is kept is not for the objective
none_on_objective : (ls : List Line) (row : List ℕ) (e : Entry) → objective ls ≡ Some row → is_kept (codes "RANGES") ls e ≡ true
    → bytes_eq e.row row ≡ true → ⊥
none_on_objective ls row e is kept same =
    let on : is_objective ls e.row ≡ true = ap (λ o. option_map_or (bytes_eq e.row) o false) is ∙ same in
    let off : is_objective ls e.row ≡ false =
    last (not (is_dropped_row ls e.row)) (is_kept_set (codes "RANGES") ls e.owner) (is_objective ls e.row) kept in
    cc
  where
    last : (a b c : Bool) → (a && b && not c) ≡ true → c ≡ false
    last a b false h = refl
    last true true true h = absurd cc
    last true false true h = absurd cc
    last false b true h = absurd cc

-- ---- a row

pub row_least : (ls : List Line) (how : How) (kind name : List ℕ) → AreRead ls → IsRow (row_from ls how kind name)
    → row_decimals ls how name
    ≡ largest how.digits (map (needed_decimals (row_decimals ls how name)) (row_amounts (row_from ls how kind name)))
row_least ls how kind name read limits =
    least_is ls how name amounts
    (three_parts (IsFewFor most name) (coef_entries ls) (side_entries ls) (range_entries ls) coefs_few rights_few ranges_few)
  where
    k : ℕ
    k = row_decimals ls how name

    amounts : List ℤ
    amounts = row_amounts (row_from ls how kind name)

    most : ℕ
    most = largest how.digits (map (needed_decimals k) amounts)

    b : Number
    b = unwrap_or (written_for (side_entries ls) name) no_number

    sides : Option ℤ × Option ℤ
    sides = row_sides kind k b (written_for (range_entries ls) name)

    coefs : List ℤ
    coefs = map (λ (p : ℕ × ℤ). p.1) (coefs_in (coef_entries ls) (column_names ls) name k)

    needs : Each (λ z. needed_decimals k z ≤ most) amounts
    needs = largest_needs how k amounts

    front : Each (λ z. needed_decimals k z ≤ most) (coefs ++ right_amount sides.0 sides.1)
    front = each_left (λ z. needed_decimals k z ≤ most) (coefs ++ right_amount sides.0 sides.1) (range_amount sides.0 sides.1) needs

    within : AreWithin k most sides
    within = each_append (λ z. needed_decimals k z ≤ most) (right_amount sides.0 sides.1) (range_amount sides.0 sides.1)
        (each_right (λ z. needed_decimals k z ≤ most) coefs (right_amount sides.0 sides.1) front)
        (each_right (λ z. needed_decimals k z ≤ most) (coefs ++ right_amount sides.0 sides.1) (range_amount sides.0 sides.1) needs)

    known : (decimals_of b ≤ most) × ForSome (written_for (range_entries ls) name) (λ x. decimals_of x ≤ most)
    known = sides_known kind k most b (written_for (range_entries ls) name)
        (or_nothing k (written_for (side_entries ls) name) (written_own k name (side_entries ls) (own_sides ls how name)))
        (written_own k name (range_entries ls)
        (each_right (IsFewFor k name) (coef_entries ls ++ side_entries ls) (range_entries ls) (own_decimals ls how name)))
        limits.high within

    coefs_few : Each (IsFewFor most name) (coef_entries ls)
    coefs_few = few_from ls name k most read (each_left (IsFewFor k name) (coef_entries ls) (side_entries ls) (own_first ls how name))
        (coef_needs (coef_entries ls) (column_names ls) name k most
        (each_left (λ z. needed_decimals k z ≤ most) coefs (right_amount sides.0 sides.1) front))

    rights_few : Each (IsFewFor most name) (side_entries ls)
    rights_few = each_weaker (IsFound (codes "RHS") ls of_row) (IsFewFor most name) (side_entries ls)
        (λ e found same. let is = written_alone (codes "RHS") ls name e found same in subst
        (λ o. decimals_of (unwrap_or o no_number) ≤ most) is known.0) read.right_sides

    ranges_few : Each (IsFewFor most name) (range_entries ls)
    ranges_few = each_weaker (IsFound (codes "RANGES") ls of_row) (IsFewFor most name) (range_entries ls)
        (λ e found same. known.1 (number_or_zero e.text) (written_alone (codes "RANGES") ls name e found same)) read.ranges

-- ---- the costs

pub cost_least : (ls : List Line) (how : How) → AreRead ls → (row : List ℕ) → objective ls ≡ Some row
    → (model_from ls how).cost_decimals
    ≡ largest how.digits (map (needed_decimals ((model_from ls how).cost_decimals)) (cost_amounts (model_from ls how)))
cost_least ls how read row is =
    least_is ls how cost_row amounts
    (three_parts (IsFewFor most cost_row) (coef_entries ls) (side_entries ls) (range_entries ls) costs_few rights_few ranges_few)
  where
    cost_row : List ℕ
    cost_row = unwrap_or (objective ls) []

    k : ℕ
    k = row_decimals ls how cost_row

    amounts : List ℤ
    amounts = cost_amounts (model_from ls how)

    most : ℕ
    most = largest how.digits (map (needed_decimals k) amounts)

    b : Number
    b = unwrap_or (written_for (side_entries ls) cost_row) no_number

    costs : List ℤ
    costs = map (λ (c : Column). c.cost) (map (column_from ls how cost_row k) (column_names ls))

    needs : Each (λ z. needed_decimals k z ≤ most) amounts
    needs = largest_needs how k amounts

    cost_at : List ℕ → ℤ
    cost_at name = units k (unwrap_or (written_at (coef_entries ls) cost_row name) no_number)

    columns_need : Each (λ name. needed_decimals k (cost_at name) ≤ most) (column_names ls)
    columns_need = each_before_map (λ (c : Column). needed_decimals k c.cost ≤ most) (column_from ls how cost_row k) (column_names ls)
        (each_before_map (λ z. needed_decimals k z ≤ most) (λ (c : Column). c.cost) (map (column_from ls how cost_row k) (column_names ls))
        (each_left (λ z. needed_decimals k z ≤ most) costs (neg_ℤ (units k b) ∷ []) needs))

    costs_few : Each (IsFewFor most cost_row) (coef_entries ls)
    costs_few = few_from ls cost_row k most read
        (each_left (IsFewFor k cost_row) (coef_entries ls) (side_entries ls) (own_first ls how cost_row))
        (λ name x here at. subst (λ o. needed_decimals k (units k (unwrap_or o no_number)) ≤ most) at
        (named_each (λ c. needed_decimals k (cost_at c) ≤ most) (column_names ls) name columns_need here))

    constant_needs : needed_decimals k (units k b) ≤ most
    constant_needs =
        let last = each_right (λ z. needed_decimals k z ≤ most) costs (neg_ℤ (units k b) ∷ []) needs in
        let same : unsigned_abs (neg_ℤ (units k b)) ≡ unsigned_abs (units k b) = omega (arith, ints) in
        subst (λ (n : ℕ). least_decimals n k ≤ most) same last.0

    rights_few : Each (IsFewFor most cost_row) (side_entries ls)
    rights_few = each_weaker (IsFound (codes "RHS") ls of_row) (IsFewFor most cost_row) (side_entries ls)
        (λ e found same.
        let own_b = or_nothing k (written_for (side_entries ls) cost_row)
        (written_own k cost_row (side_entries ls) (own_sides ls how cost_row)) in
        let small : decimals_of b ≤ most = let c = constant_needs in omega arith in
        subst (λ o. decimals_of (unwrap_or o no_number) ≤ most) (written_alone (codes "RHS") ls cost_row e found same) small)
        read.right_sides

    ranges_few : Each (IsFewFor most cost_row) (range_entries ls)
    ranges_few = each_weaker (IsFound (codes "RANGES") ls of_row) (IsFewFor most cost_row) (range_entries ls)
        (λ e found same. absurd (none_on_objective ls row e is found.kept (ap (bytes_eq e.row) (sym (ap (λ o. unwrap_or o []) is))
        ∙ same))) read.ranges
