-- The bounds of a canonical text are those of the columns.
use Rattle.std.specs.Prelude.{◌≡◌, ℕ, zero, suc, ◌+◌, ◌-◌, ◌<◌, ◌^◌, Bool, true, false, ◌&&◌, not, cond, List, [], ◌∷◌, map, filter}
use Rattle.std.specs.Prelude.{flat_map, None, Some, slice_get, bytes_eq, codes, ℤ, pos, negsuc, neg_ℤ, ◌/◌}
use Rattle.std.specs.Fmt.{signed_decimal}
use Rattle.std.specs.Option.{option_map_or}
use Rattle.std.specs.Int.{int_div_euclid}
use Rattle.std.specs.Int.RustNames.{unsigned_abs}
use Rattle.std.proofs.Common.{refl, arith, ap, sym, ◌∙◌}
use Rattle.mps_defs.specs.Lists.{is_among, last_of, where_true, AreDistinct}
use Rattle.ip_defs.specs.Lists.{first_of}
use Rattle.ip_defs.specs.Certificates.{ceiling}
use Rattle.mps_defs.specs.CanonicalText.{Written, bound_line}
use Rattle.mps_defs.specs.Records.{Line, bounds_on, is_kept_bound, bound_set, bound_column}
use Rattle.mps_defs.specs.TextModels.{lower_side, upper_side, sets_lower, sets_upper, lower_by, upper_by, is_negative_number, rounded_up}
use Rattle.mps_defs.specs.TextModels.{rounded_down}
use Rattle.mps_defs.specs.Numbers.{is_large}
use Rattle.mps_defs.specs.declared.reading.Number.{Number}
use Rattle.ip_defs.specs.declared.programs.Column.{Column}
use Rattle.ip_defs.specs.declared.programs.Parts.{Parts}
use Rattle.text_laws.proofs.WrittenLaws.{lines_from}
use Rattle.text_laws.proofs.NumberTextLaws.{signed_decimal_read}
use Rattle.text_laws.proofs.SectionLaws.{lines_in, bounds_at, data_lines}
use Rattle.text_laws.proofs.CanonicalLaws.{sections_of, are_sections}
use Rattle.ip_defs.proofs.BoolLaws.{left_false, right_false}
use Rattle.ip_defs.proofs.TextLaws.{text_self}
use Rattle.mps_defs.proofs.PlaceLaws.{apart_turned, not_at}
use Rattle.mps_defs.proofs.ListLaws.{get_map}

abbrev pub two_bounds : Column → List Written
two_bounds c = bound_line (codes "LO") c.name c.lo ∷ bound_line (codes "UP") c.name c.hi ∷ []

abbrev pub bound_at : ℕ → List ℕ → List ℕ → ℤ → Line
bound_at n kind name z =
    record { number = n; is_item = true; section = codes "BOUNDS"; fields = kind ∷ codes "BND" ∷ name ∷ signed_decimal z ∷ [] }

abbrev bound_lines : ℕ → List Column → List Line
bound_lines n cs = lines_from n (codes "BOUNDS") (flat_map two_bounds cs)

-- the bounds of a column among those of others
none_on : (test : Line → Bool) (name : List ℕ) → ((n : ℕ) (c : List ℕ) (z : ℤ) → test (bound_at n (codes "LO") c z) ≡ bytes_eq c name)
    → ((n : ℕ) (c : List ℕ) (z : ℤ) → test (bound_at n (codes "UP") c z) ≡ bytes_eq c name)
    → (n : ℕ) (cs : List Column) → is_among name (map (λ c. c.name) cs) ≡ false → filter test (bound_lines n cs) ≡ []
none_on test name lo up n [] e = refl
none_on test name lo up n (c ∷ cs) e =
    let apart = apart_turned name c.name (left_false (bytes_eq name c.name) (is_among name (map (λ k. k.name) cs)) e) in
    let later = filter test (bound_lines (suc (suc n)) cs) in
    ap (λ t. cond t (bound_at n (codes "LO") c.name c.lo ∷ cond (test (bound_at (suc n) (codes "UP") c.name c.hi))
    (bound_at (suc n) (codes "UP") c.name c.hi ∷ later) later) (cond (test (bound_at (suc n) (codes "UP") c.name c.hi))
    (bound_at (suc n) (codes "UP") c.name c.hi ∷ later) later)) (lo n c.name c.lo
    ∙ apart)
    ∙ ap (λ t. cond t (bound_at (suc n) (codes "UP") c.name c.hi ∷ later) later) (up (suc n) c.name c.hi ∙ apart)
    ∙ none_on test name lo up (suc (suc n)) cs (right_false (bytes_eq name c.name) (is_among name (map (λ k. k.name) cs)) e)

two_on : (test : Line → Bool) (name : List ℕ) → ((n : ℕ) (c : List ℕ) (z : ℤ) → test (bound_at n (codes "LO") c z) ≡ bytes_eq c name)
    → ((n : ℕ) (c : List ℕ) (z : ℤ) → test (bound_at n (codes "UP") c z) ≡ bytes_eq c name)
    → (n : ℕ) (cs : List Column) (i : ℕ) (c : Column) → AreDistinct (map (λ k. k.name) cs) → slice_get cs i ≡ Some c → c.name ≡ name
    → (k : ℕ) × (filter test (bound_lines n cs) ≡ bound_at k (codes "LO") name c.lo ∷ bound_at (suc k) (codes "UP") name c.hi ∷ [])
two_on test name lo up n [] i c d at is = absurd cc
two_on test name lo up n (s ∷ cs) zero c d at is =
    let same : s ≡ c = cc in
    let named : s.name ≡ name = ap (λ (y : Column). y.name) same ∙ is in
    let here : bytes_eq s.name name ≡ true = ap (bytes_eq s.name) (sym named) ∙ text_self s.name in
    let later = filter test (bound_lines (suc (suc n)) cs) in (
      n,
      ap (λ t. cond t (bound_at n (codes "LO") s.name s.lo ∷ cond (test (bound_at (suc n) (codes "UP") s.name s.hi))
          (bound_at (suc n) (codes "UP") s.name s.hi ∷ later) later) (cond (test (bound_at (suc n) (codes "UP") s.name s.hi))
          (bound_at (suc n) (codes "UP") s.name s.hi ∷ later) later)) (lo n s.name s.lo
          ∙ here)
          ∙ ap (λ t. bound_at n (codes "LO") s.name s.lo ∷ cond t (bound_at (suc n) (codes "UP") s.name s.hi ∷ later) later)
          (up (suc n) s.name s.hi ∙ here)
          ∙ ap (λ l. bound_at n (codes "LO") s.name s.lo ∷ bound_at (suc n) (codes "UP") s.name s.hi ∷ l)
          (none_on test name lo up (suc (suc n)) cs (ap (λ y. is_among y (map (λ k. k.name) cs)) (sym named) ∙ d.0))
          ∙ ap (λ y. bound_at n (codes "LO") y s.lo ∷ bound_at (suc n) (codes "UP") y s.hi ∷ []) named
          ∙ ap (λ (y : Column). bound_at n (codes "LO") name y.lo ∷ bound_at (suc n) (codes "UP") name y.hi ∷ []) same,
    )
two_on test name lo up n (s ∷ cs) (suc i) c d at is =
    let apart : bytes_eq s.name name ≡ false =
    ap (bytes_eq s.name) (sym is) ∙ not_at s.name (map (λ k. k.name) cs) i c.name d.0 (get_map (λ k. k.name) cs i c at) in
    let later = filter test (bound_lines (suc (suc n)) cs) in
    let rest = two_on test name lo up (suc (suc n)) cs i c d.1 at is in (
      rest.0,
      ap (λ t. cond t (bound_at n (codes "LO") s.name s.lo ∷ cond (test (bound_at (suc n) (codes "UP") s.name s.hi))
          (bound_at (suc n) (codes "UP") s.name s.hi ∷ later) later) (cond (test (bound_at (suc n) (codes "UP") s.name s.hi))
          (bound_at (suc n) (codes "UP") s.name s.hi ∷ later) later)) (lo n s.name s.lo
          ∙ apart)
          ∙ ap (λ t. cond t (bound_at (suc n) (codes "UP") s.name s.hi ∷ later) later) (up (suc n) s.name s.hi ∙ apart)
          ∙ rest.1,
    )

-- each bound is of the set that is kept
kept_bound : (n : ℕ) (cs : List Column) (i : ℕ) (c : Column) (l : Line) → slice_get cs i ≡ Some c → bound_set l ≡ codes "BND"
    → option_map_or (λ f. bytes_eq (bound_set f) (bound_set l)) (first_of (bound_lines n cs)) false ≡ true
kept_bound n [] i c l at e = absurd cc
kept_bound n (s ∷ cs) i c l at e = ap (bytes_eq (codes "BND")) e

pub bounds_read : (m : Parts) (i : ℕ) (c : Column) → AreDistinct (map (λ k. k.name) m.columns) → slice_get m.columns i ≡ Some c
    → (k : ℕ) ×
    (bounds_on (lines_in (sections_of m)) c.name ≡ bound_at k (codes "LO") c.name c.lo ∷ bound_at (suc k) (codes "UP") c.name c.hi ∷ [])
bounds_read m i c d at =
    let first = bounds_at (sections_of m) in
    let items = (data_lines (sections_of m) (are_sections m)).bounds in
    let kept : (l : Line) → bound_set l ≡ codes "BND" → is_kept_bound (lines_in (sections_of m)) l ≡ true =
    λ l e. ap (λ ls. option_map_or (λ f. bytes_eq (bound_set f) (bound_set l)) (first_of ls) false) items
    ∙ kept_bound first m.columns i c l at e in
    let found = two_on (λ l. is_kept_bound (lines_in (sections_of m)) l && bytes_eq (bound_column l) c.name) c.name
    (λ n name z. ap (λ t. t && bytes_eq name c.name) (kept (bound_at n (codes "LO") name z) refl))
    (λ n name z. ap (λ t. t && bytes_eq name c.name) (kept (bound_at n (codes "UP") name z) refl)) first m.columns i c d at refl in
    (found.0, ap (filter (λ l. is_kept_bound (lines_in (sections_of m)) l && bytes_eq (bound_column l) c.name)) items ∙ found.1)

up_one : (z : ℤ) → ceiling z (10 ^ 0) ≡ z
up_one (pos n) = let e : (n + 1 - 1) / 1 ≡ n = omega arith in ap pos e
up_one (negsuc n) = let e : suc n / 1 ≡ suc n = omega arith in ap (λ (k : ℕ). neg_ℤ (pos k)) e

down_one : (z : ℤ) → int_div_euclid z (pos (10 ^ 0)) ≡ z
down_one (pos n) = let e : n / 1 ≡ n = omega arith in ap pos e
down_one (negsuc n) = let e : n / 1 ≡ n = omega arith in ap negsuc e

pub lower_read : (m : Parts) (i : ℕ) (c : Column) → AreDistinct (map (λ k. k.name) m.columns) → slice_get m.columns i ≡ Some c
    → unsigned_abs c.lo < 2 ^ 64 → lower_side (lines_in (sections_of m)) c.name ≡ Some c.lo
lower_read m i c d at small =
    let found = bounds_read m i c d at in
    ap (λ ls. option_map_or lower_by (last_of (filter sets_lower ls)) (Some (pos 0))) found.1
    ∙ ap (λ (n : Number). where_true (not (is_large n && is_negative_number n)) (rounded_up n)) (signed_decimal_read c.lo small).1
    ∙ ap Some (up_one c.lo)

pub upper_read : (m : Parts) (i : ℕ) (c : Column) → AreDistinct (map (λ k. k.name) m.columns) → slice_get m.columns i ≡ Some c
    → unsigned_abs c.hi < 2 ^ 64 → upper_side (lines_in (sections_of m)) c.name ≡ Some c.hi
upper_read m i c d at small =
    let found = bounds_read m i c d at in
    ap (λ ls. option_map_or upper_by (last_of (filter sets_upper ls)) None) found.1
    ∙ ap (λ (n : Number). where_true (not (is_large n && not (is_negative_number n))) (rounded_down n)) (signed_decimal_read c.hi small).1
    ∙ ap Some (down_one c.hi)
