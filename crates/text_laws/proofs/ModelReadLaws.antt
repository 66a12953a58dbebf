-- The model of a canonical text is the program that it was written of.
use Rattle.std.specs.Prelude.{◌≡◌, ℕ, zero, suc, ◌+◌, ◌==◌, false, not, if◌then◌else◌, List, [], ◌∷◌, ◌++◌, length, map}
use Rattle.std.specs.Prelude.{filter}
use Rattle.std.specs.Prelude.{flat_map, find, Option, None, Some, option_map, unwrap_or, slice_get, bytes_eq, codes, ℤ, pos, negsuc, neg_ℤ}
use Rattle.std.specs.Option.{option_map_or, option_or}
use Rattle.std.specs.Ordering.{int_eq}
use Rattle.std.proofs.Common.{refl, arith, ap, sym, ◌∙◌, subst}
use Rattle.std.proofs.lemmas.Int.{ints}
use Rattle.mps_defs.specs.Lists.{is_among}
use Rattle.mps_defs.specs.Numbers.{decimal_text}
use Rattle.mps_defs.specs.CanonicalText.{kind_text, right_side, rhs_line, range_line, constant_line, value_text, canonical_text}
use Rattle.ip_defs.specs.Program.{is_crossed}
use Rattle.mps_defs.specs.Records.{kept_entries, column_names, row_lines, row_kind, row_name, is_free}
use Rattle.mps_defs.specs.Faults.{model_of}
use Rattle.mps_defs.specs.TextModels.{no_number, units, largest, written_at, written_for, decimals_in, row_decimals, row_sides, coefs_in}
use Rattle.mps_defs.specs.TextModels.{row_from, column_from, model_from, lower_side, upper_side, box_low, box_high, number_or_zero}
use Rattle.mps_defs.specs.declared.reading.How.{How}
use Rattle.ip_defs.specs.declared.programs.Column.{Column}
use Rattle.ip_defs.specs.declared.programs.Row.{Row}
use Rattle.ip_defs.specs.declared.programs.Parts.{Parts}
use Rattle.text_laws.specs.ReadBack.{needed_decimals, range_of, IsCanonical}
use Rattle.text_laws.proofs.NumberTextLaws.{decimal_text_units}
use Rattle.text_laws.proofs.CanonicalLaws.{program_lines}
use Rattle.text_laws.proofs.ReadableLaws.{IsProgramText, IsRowText, IsColumnText, printable_parts, program_text, canonical_lines_read}
use Rattle.text_laws.proofs.ReadableLaws.{right_side_small}
use Rattle.text_laws.proofs.EntryReadLaws.{bare, listed, bare_at, bare_for, bare_decimals, for_append, decimals_append, listed_append}
use Rattle.text_laws.proofs.EntryReadLaws.{written_at_bare, written_for_bare, decimals_bare}
use Rattle.text_laws.proofs.RecordReadLaws.{IsApart, objective_read, rows_read, columns_kept, right_sides_kept, ranges_kept}
use Rattle.text_laws.proofs.NameReadLaws.{names_read}
use Rattle.text_laws.proofs.CoefReadLaws.{bare_from, coef_written, cost_written}
use Rattle.text_laws.proofs.OrderReadLaws.{IsFrom, ordered_from, coefs_read}
use Rattle.text_laws.proofs.BoundReadLaws.{lower_read, upper_read}
use Rattle.text_laws.proofs.SideReadLaws.{AreOfRow, none_for, none_of, own_of, rhs_bare, range_bare, rhs_own, range_own, sides_read}
use Rattle.text_laws.proofs.SideReadLaws.{when_row, amount_for, amount_number}
use Rattle.text_laws.proofs.DecimalReadLaws.{flat_flat, coef_decimals, cost_decimals_read, rhs_decimals, range_decimals, constant_decimals}
use Rattle.ip_defs.proofs.BoolLaws.{left_false, right_false}
use Rattle.ip_defs.proofs.ListLaws.{each_get, or_none}
use Rattle.std.proofs.lemmas.List.{append-nil, map-append}
use Rattle.ip_defs.specs.Lists.{Each}
use Rattle.mps_defs.proofs.PlaceLaws.{apart_turned, not_at}
use Rattle.mps_defs.proofs.ListLaws.{get_map, map_same, fails_at}
use Rattle.mps_defs.proofs.NumberLaws.{largest-append}
use Rattle.std.proofs.lemmas.Simd.{map-map}

pub each_apart : (m : Parts) (rs : List Row) → is_among m.objective (map (λ r. r.name) rs) ≡ false → Each (λ r. IsApart m r.name) rs
each_apart m [] e = tt
each_apart m (r ∷ rs) e = (
  apart_turned m.objective r.name
      (left_false (bytes_eq m.objective r.name) (is_among m.objective (map (λ k. k.name) rs)) e),
  each_apart m rs
      (right_false (bytes_eq m.objective r.name) (is_among m.objective (map (λ k. k.name) rs)) e),
)

map_back : {A : Type 0} (f : A → List ℕ) (g : List ℕ → A) (xs : List A) → ((i : ℕ) (x : A) → slice_get xs i ≡ Some x → g (f x) ≡ x)
    → map g (map f xs) ≡ xs
map_back f g xs h = map-map g f xs ∙ map_same (λ x. g (f x)) xs h

-- ---- decimals

all_decimals : (m : Parts) (row : List ℕ) → IsProgramText m → is_among m.objective (map (λ k. k.name) m.rows) ≡ false
    → decimals_in (kept_entries (codes "COLUMNS") (program_lines m) ++ kept_entries (codes "RHS") (program_lines m)
    ++ kept_entries (codes "RANGES") (program_lines m)) row
    ≡ bare_decimals (bare_from m 0 m.columns) row
    ++ (bare_decimals (flat_map listed (constant_line m)) row ++ bare_decimals (flat_map rhs_bare m.rows) row) ++ bare_decimals
    (flat_map range_bare m.rows) row
all_decimals m row h d =
    let cs = kept_entries (codes "COLUMNS") (program_lines m) in
    let rs = kept_entries (codes "RHS") (program_lines m) in
    let gs = kept_entries (codes "RANGES") (program_lines m) in
    decimals_bare (cs ++ rs ++ gs) row
    ∙ ap (λ ts. bare_decimals ts row) (map-append bare (cs ++ rs) gs ∙ ap (λ ts. ts ++ map bare gs) (map-append bare cs rs))
    ∙ decimals_append (map bare cs ++ map bare rs) (map bare gs) row
    ∙ ap (λ l. l ++ bare_decimals (map bare gs) row) (decimals_append (map bare cs) (map bare rs) row)
    ∙ ap (λ ts. bare_decimals ts row ++ bare_decimals (map bare rs) row ++ bare_decimals (map bare gs) row) (columns_kept m h)
    ∙ ap (λ ts. bare_decimals (bare_from m 0 m.columns) row ++ bare_decimals ts row ++ bare_decimals (map bare gs) row)
    (right_sides_kept m
    ∙ listed_append (constant_line m) (flat_map rhs_line m.rows)
    ∙ ap (λ k. flat_map listed (constant_line m) ++ k) (flat_flat rhs_line m.rows))
    ∙ ap (λ l. bare_decimals (bare_from m 0 m.columns) row ++ l ++ bare_decimals (map bare gs) row)
    (decimals_append (flat_map listed (constant_line m)) (flat_map rhs_bare m.rows) row)
    ∙ ap (λ ts. bare_decimals (bare_from m 0 m.columns) row
    ++ (bare_decimals (flat_map listed (constant_line m)) row ++ bare_decimals
    (flat_map rhs_bare m.rows) row) ++ bare_decimals ts row) (ranges_kept m (each_apart m m.rows d)
    ∙ flat_flat range_line m.rows)

three_largest : (n : ℕ) (a b c : List ℕ) → largest n (a ++ b ++ c) ≡ largest (largest (largest n a) b) c
three_largest n a b c = largest-append n (a ++ b) c ∙ ap (λ (k : ℕ). largest k c) (largest-append n a b)

constant_row : (m : Parts) → AreOfRow m.objective (flat_map listed (constant_line m))
constant_row m = when_row (not (int_eq m.constant (pos 0))) (codes "RHS") m.objective (value_text m (neg_ℤ m.constant))

pub row_decimals_read : (m : Parts) (how : How) → IsCanonical m how → (i : ℕ) (r : Row) → slice_get m.rows i ≡ Some r
    → row_decimals (program_lines m) how r.name ≡ r.decimals
row_decimals_read m how h i r at =
    let text = program_text m h.printable h.limits in
    let row = each_get IsRowText m.rows i r text.rows at in
    let ordered =
    ordered_from (length m.columns) 0 r.coefs ((h.limits.shape.rows i r at).coefs) ((h.limits.rows i r at).coefs) (λ j l. omega arith) in
    let apart = not_at m.objective (map (λ k. k.name) m.rows) i r.name h.rows.0 (get_map (λ k. k.name) m.rows i r at) in
    let k = r.decimals in
    let needed = map (needed_decimals k) in
    ap (largest how.digits) (all_decimals m r.name text h.rows.0)
    ∙ ap (λ l. largest how.digits
    (l ++ (bare_decimals (flat_map listed (constant_line m)) r.name ++ bare_decimals (flat_map rhs_bare m.rows) r.name) ++ bare_decimals
    (flat_map range_bare m.rows) r.name)) (coef_decimals m i r h.rows at row.decimals ordered)
    ∙ ap (λ l. largest how.digits
    (map (λ p. needed_decimals k p.1) r.coefs ++ (l ++ bare_decimals (flat_map rhs_bare m.rows) r.name) ++ bare_decimals
    (flat_map range_bare m.rows) r.name)) (none_for m.objective r.name (flat_map listed (constant_line m)) (constant_row m) apart).1
    ∙ ap (λ l. largest how.digits (map (λ p. needed_decimals k p.1) r.coefs ++ l ++ bare_decimals (flat_map range_bare m.rows) r.name))
    (own_of rhs_bare rhs_own m.rows i r h.rows.1 at).1
    ∙ ap (λ l. largest how.digits (map (λ p. needed_decimals k p.1) r.coefs ++ bare_decimals (rhs_bare r) r.name ++ l))
    (own_of range_bare range_own m.rows i r h.rows.1 at).1
    ∙ three_largest how.digits (map (λ p. needed_decimals k p.1) r.coefs) (bare_decimals (rhs_bare r) r.name)
    (bare_decimals (range_bare r) r.name)
    ∙ ap (λ (n : ℕ). largest n (bare_decimals (range_bare r) r.name))
    (rhs_decimals r (largest how.digits (map (λ p. needed_decimals k p.1) r.coefs)) row (right_side_small r row))
    ∙ range_decimals r (largest (largest how.digits (map (λ p. needed_decimals k p.1) r.coefs))
    (map (needed_decimals k) (option_map_or (λ b. b ∷ []) (right_side r) []))) row
    ∙ sym (three_largest how.digits (map (λ p. needed_decimals k p.1) r.coefs)
    (map (needed_decimals k) (option_map_or (λ b. b ∷ []) (right_side r) [])) (map (needed_decimals k) (range_of r)))
    ∙ sym (ap (largest how.digits)
    (map-append (needed_decimals k) (map (λ p. p.1) r.coefs ++ option_map_or (λ b. b ∷ []) (right_side r) []) (range_of r)
    ∙ ap (λ l. l ++ map (needed_decimals k) (range_of r))
    (map-append (needed_decimals k) (map (λ p. p.1) r.coefs) (option_map_or (λ b. b ∷ []) (right_side r) [])
    ∙ ap (λ l. l ++ map (needed_decimals k) (option_map_or (λ b. b ∷ []) (right_side r) []))
    (map-map (needed_decimals k) (λ (p : ℕ × ℤ). p.1) r.coefs))))
    ∙ sym (h.decimals.rows i r at)

pub cost_units_read : (m : Parts) (how : How) → IsCanonical m how → row_decimals (program_lines m) how m.objective ≡ m.cost_decimals
cost_units_read m how h =
    let text = program_text m h.printable h.limits in
    let k = m.cost_decimals in
    let costs = map (λ (c : Column). needed_decimals k c.cost) m.columns in
    ap (largest how.digits) (all_decimals m m.objective text h.rows.0)
    ∙ ap (λ l. largest how.digits
    (l ++ (bare_decimals (flat_map listed (constant_line m)) m.objective ++ bare_decimals
    (flat_map rhs_bare m.rows) m.objective) ++ bare_decimals (flat_map range_bare m.rows) m.objective))
    (cost_decimals_read m h.rows.0 text.decimals 0 m.columns text.columns)
    ∙ ap (λ l. largest how.digits
    (costs ++ (bare_decimals (flat_map listed (constant_line m)) m.objective ++ l) ++ bare_decimals
    (flat_map range_bare m.rows) m.objective)) (none_of rhs_bare rhs_own m.rows m.objective h.rows.0).1
    ∙ ap (λ l. largest how.digits (costs ++ (bare_decimals (flat_map listed (constant_line m)) m.objective ++ []) ++ l))
    (none_of range_bare range_own m.rows m.objective h.rows.0).1
    ∙ ap (largest how.digits)
    (append-nil (costs ++ (bare_decimals (flat_map listed (constant_line m)) m.objective ++ []))
    ∙ ap (λ l. costs ++ l) (append-nil (bare_decimals (flat_map listed (constant_line m)) m.objective)))
    ∙ largest-append how.digits costs (bare_decimals (flat_map listed (constant_line m)) m.objective)
    ∙ constant_decimals m (largest how.digits costs) text.constant text.decimals
    ∙ sym (largest-append how.digits costs (needed_decimals k m.constant ∷ []))
    ∙ sym (ap (largest how.digits) (map-append (needed_decimals k) (map (λ c. c.cost) m.columns) (m.constant ∷ [])
    ∙ ap (λ l. l ++ needed_decimals k m.constant ∷ []) (map-map (needed_decimals k) (λ (c : Column). c.cost) m.columns)))
    ∙ sym h.decimals.costs

-- ---- columns

pub column_read : (m : Parts) (how : How) → IsCanonical m how → (j : ℕ) (c : Column) → slice_get m.columns j ≡ Some c
    → column_from (program_lines m) how m.objective m.cost_decimals c.name ≡ c
column_read m how h j c at =
    let text = program_text m h.printable h.limits in
    let column = each_get IsColumnText m.columns j c text.columns at in
    let cost : written_at (kept_entries (codes "COLUMNS") (program_lines m)) m.objective c.name ≡ Some
    (number_or_zero (value_text m c.cost)) =
    written_at_bare (kept_entries (codes "COLUMNS") (program_lines m)) m.objective c.name
    ∙ ap (λ ts. bare_at ts m.objective c.name) (columns_kept m text)
    ∙ cost_written m j c h.columns at in
    ap (λ o. made (units m.cost_decimals (unwrap_or o no_number)) (unwrap_or (lower_side (program_lines m) c.name) (box_low how))
    (unwrap_or (upper_side (program_lines m) c.name) (box_high how))) cost
    ∙ ap (λ z. made z (unwrap_or (lower_side (program_lines m) c.name) (box_low how))
    (unwrap_or (upper_side (program_lines m) c.name) (box_high how))) (decimal_text_units c.cost m.cost_decimals column.cost text.decimals)
    ∙ ap (λ o. made c.cost (unwrap_or o (box_low how)) (unwrap_or (upper_side (program_lines m) c.name) (box_high how)))
    (lower_read m j c h.columns at column.lo)
    ∙ ap (λ o. made c.cost c.lo (unwrap_or o (box_high how))) (upper_read m j c h.columns at column.hi)
  where
    made : ℤ → ℤ → ℤ → Column
    made cost' lo' hi' = record { name = c.name; cost = cost'; lo = lo'; hi = hi' }

-- ---- rows

pub row_coefs_read : (m : Parts) (how : How) → IsCanonical m how → (i : ℕ) (r : Row) → slice_get m.rows i ≡ Some r
    → coefs_in (kept_entries (codes "COLUMNS") (program_lines m)) (column_names (program_lines m)) r.name r.decimals ≡ r.coefs
row_coefs_read m how h i r at =
    let text = program_text m h.printable h.limits in
    let row = each_get IsRowText m.rows i r text.rows at in
    let ordered =
    ordered_from (length m.columns) 0 r.coefs ((h.limits.shape.rows i r at).coefs) ((h.limits.rows i r at).coefs) (λ j l. omega arith) in
    let size : length m.columns ≡ 0 + length (map (λ (c : Column). c.name) m.columns) = same_size m.columns ∙ omega arith in
    ap (λ names. coefs_in (kept_entries (codes "COLUMNS") (program_lines m)) names r.name r.decimals) (names_read m text h.columns)
    ∙ coefs_read (kept_entries (codes "COLUMNS") (program_lines m)) r.name r.decimals 0 (map (λ c. c.name) m.columns) r.coefs row.decimals
    (subst (λ (n : ℕ). IsFrom 0 n r.coefs) size ordered)
    (λ j name here. let found = column_at m.columns j name here in
    let start : 0 + j ≡ j = omega arith in
    written_at_bare (kept_entries (codes "COLUMNS") (program_lines m)) r.name name
    ∙ ap (λ ts. bare_at ts r.name name) (columns_kept m text)
    ∙ ap (bare_at (bare_from m 0 m.columns) r.name) (sym found.2)
    ∙ coef_written m i r j found.0 h.columns h.rows at found.1
    ∙ ap (λ (n : ℕ). option_map (λ (p : ℕ × ℤ). number_or_zero (decimal_text p.1 r.decimals)) (find (λ p. p.0 == n) r.coefs)) (sym start))
  where
    same_size : (cs : List Column) → length cs ≡ length (map (λ (c : Column). c.name) cs)
    same_size [] = refl
    same_size (c ∷ cs) = ap suc (same_size cs)

    column_at : (cs : List Column) (j : ℕ) (name : List ℕ) → slice_get (map (λ (c : Column). c.name) cs) j ≡ Some name
        → (c : Column) × (slice_get cs j ≡ Some c) × (c.name ≡ name)
    column_at [] j name e = absurd cc
    column_at (c ∷ cs) zero name e = (c, refl, cc)
    column_at (c ∷ cs) (suc j) name e = column_at cs j name e

-- what is written on the right of a row or of the objective: on the line of the constant, or on those of the rows
right_written : (m : Parts) (name : List ℕ)
    → written_for (kept_entries (codes "RHS") (program_lines m)) name
    ≡ option_or (bare_for (flat_map listed (constant_line m)) name) (bare_for (flat_map rhs_bare m.rows) name)
right_written m name =
    written_for_bare (kept_entries (codes "RHS") (program_lines m)) name
    ∙ ap (λ ts. bare_for ts name)
    (right_sides_kept m
    ∙ listed_append (constant_line m) (flat_map rhs_line m.rows)
    ∙ ap (λ k. flat_map listed (constant_line m) ++ k) (flat_flat rhs_line m.rows))
    ∙ for_append (flat_map listed (constant_line m)) (flat_map rhs_bare m.rows) name

pub row_sides_read : (m : Parts) (how : How) → IsCanonical m how → (i : ℕ) (r : Row) → slice_get m.rows i ≡ Some r
    → row_sides (kind_text r) r.decimals (unwrap_or (written_for (kept_entries (codes "RHS") (program_lines m)) r.name) no_number)
    (written_for (kept_entries (codes "RANGES") (program_lines m)) r.name)
    ≡ (r.low, r.high)
row_sides_read m how h i r at =
    let text = program_text m h.printable h.limits in
    let row = each_get IsRowText m.rows i r text.rows at in
    let apart = not_at m.objective (map (λ k. k.name) m.rows) i r.name h.rows.0 (get_map (λ k. k.name) m.rows i r at) in
    let right : written_for (kept_entries (codes "RHS") (program_lines m)) r.name ≡ bare_for (rhs_bare r) r.name =
    right_written m r.name
    ∙ ap (λ o. option_or o (bare_for (flat_map rhs_bare m.rows) r.name))
    (none_for m.objective r.name (flat_map listed (constant_line m)) (constant_row m) apart).0
    ∙ (own_of rhs_bare rhs_own m.rows i r h.rows.1 at).0 in
    let range : written_for (kept_entries (codes "RANGES") (program_lines m)) r.name ≡ bare_for (range_bare r) r.name =
    written_for_bare (kept_entries (codes "RANGES") (program_lines m)) r.name
    ∙ ap (λ ts. bare_for ts r.name) (ranges_kept m (each_apart m m.rows h.rows.0) ∙ flat_flat range_line m.rows)
    ∙ (own_of range_bare range_own m.rows i r h.rows.1 at).0 in
    ap (λ o. row_sides (kind_text r) r.decimals (unwrap_or o no_number)
    (written_for (kept_entries (codes "RANGES") (program_lines m)) r.name)) right
    ∙ ap (λ o. row_sides (kind_text r) r.decimals (unwrap_or (bare_for (rhs_bare r) r.name) no_number) o) range
    ∙ sides_read r row (fails_at is_crossed m.rows i r (printable_parts m h.printable).uncrossed at)

pub row_read : (m : Parts) (how : How) → IsCanonical m how → (i : ℕ) (r : Row) → slice_get m.rows i ≡ Some r
    → row_from (program_lines m) how (kind_text r) r.name ≡ r
row_read m how h i r at =
    ap (λ (k : ℕ). made k (coefs_in (kept_entries (codes "COLUMNS") (program_lines m)) (column_names (program_lines m)) r.name k)
    (row_sides (kind_text r) k (unwrap_or (written_for (kept_entries (codes "RHS") (program_lines m)) r.name) no_number)
    (written_for (kept_entries (codes "RANGES") (program_lines m)) r.name))) (row_decimals_read m how h i r at)
    ∙ ap (λ ps. made r.decimals ps
    (row_sides (kind_text r) r.decimals (unwrap_or (written_for (kept_entries (codes "RHS") (program_lines m)) r.name) no_number)
    (written_for (kept_entries (codes "RANGES") (program_lines m)) r.name))) (row_coefs_read m how h i r at)
    ∙ ap (made r.decimals r.coefs) (row_sides_read m how h i r at)
  where
    made : ℕ → List (ℕ × ℤ) → Option ℤ × Option ℤ → Row
    made k ps sides = record { name = r.name; decimals = k; coefs = ps; low = sides.0; high = sides.1 }

-- ---- the whole

constant_read : (m : Parts) (how : How) → IsCanonical m how
    → neg_ℤ (units m.cost_decimals (unwrap_or (written_for (kept_entries (codes "RHS") (program_lines m)) m.objective) no_number))
    ≡ m.constant
constant_read m how h =
    let text = program_text m h.printable h.limits in
    let given : written_for (kept_entries (codes "RHS") (program_lines m)) m.objective ≡
    (if not (int_eq m.constant (pos 0)) then Some (number_or_zero (value_text m (neg_ℤ m.constant))) else None) =
    right_written m m.objective
    ∙ ap (option_or (bare_for (flat_map listed (constant_line m)) m.objective)) (none_of rhs_bare rhs_own m.rows m.objective h.rows.0).0
    ∙ or_none (bare_for (flat_map listed (constant_line m)) m.objective)
    ∙ amount_for (not (int_eq m.constant (pos 0))) (codes "RHS") m.objective (value_text m (neg_ℤ m.constant)) in
    ap (λ o. neg_ℤ (units m.cost_decimals (unwrap_or o no_number)))
    (given ∙ ap (λ t. if not t then Some (number_or_zero (value_text m (neg_ℤ m.constant))) else None) (same_zero m.constant))
    ∙ ap neg_ℤ (amount_number (neg_ℤ m.constant) m.cost_decimals (let s = text.constant in omega (arith, ints)) text.decimals).0
    ∙ omega (arith, ints)
  where
    same_zero : (z : ℤ) → int_eq z (pos 0) ≡ int_eq (neg_ℤ z) (pos 0)
    same_zero (pos zero) = refl
    same_zero (pos (suc n)) = grind (arith, ints)
    same_zero (negsuc n) = grind (arith, ints)

pub model_read : (m : Parts) (how : How) → IsCanonical m how → model_of (canonical_text m) how ≡ m
model_read m how h =
    let text = program_text m h.printable h.limits in
    ap (λ ls. model_from ls how) (canonical_lines_read m text)
    ∙ ap (λ o. whole (unwrap_or o []) (row_decimals (program_lines m) how (unwrap_or o []))) (objective_read m)
    ∙ ap (whole m.objective) (cost_units_read m how h)
    ∙ ap (λ z. made z (map (column_from (program_lines m) how m.objective m.cost_decimals) (column_names (program_lines m)))
    (map (λ l. row_from (program_lines m) how (row_kind l) (row_name l))
    (filter (λ l. not (is_free l)) (row_lines (program_lines m))))) (constant_read m how h)
    ∙ ap (λ cs. made m.constant cs
    (map (λ l. row_from (program_lines m) how (row_kind l) (row_name l)) (filter (λ l. not (is_free l)) (row_lines (program_lines m)))))
    (ap (map (column_from (program_lines m) how m.objective m.cost_decimals)) (names_read m text h.columns)
    ∙ map_back (λ c. c.name) (column_from (program_lines m) how m.objective m.cost_decimals) m.columns (column_read m how h))
    ∙ ap (made m.constant m.columns)
    (rows_read (row_from (program_lines m) how) m
    ∙ map_same (λ r. row_from (program_lines m) how (kind_text r) r.name) m.rows (row_read m how h))
  where
    made : ℤ → List Column → List Row → Parts
    made constant' columns' rows' =
        record { objective = m.objective; cost_decimals = m.cost_decimals; constant = constant'; columns = columns'; rows = rows' }

    whole : List ℕ → ℕ → Parts
    whole name k =
        record {
          objective = name;
          cost_decimals = k;
          constant = neg_ℤ
              (units k (unwrap_or (written_for (kept_entries (codes "RHS") (program_lines m)) name) no_number));
          columns = map
              (column_from (program_lines m) how name k) (column_names (program_lines m));
          rows = map
              (λ l. row_from (program_lines m) how (row_kind l) (row_name l)) (filter (λ l. not (is_free l)) (row_lines (program_lines m)));
        }
