-- What cannot be wrong with a canonical text after its lines: the end, the objective, the bounds and the limits.
use Rattle.std.specs.Prelude.{◌≡◌, ℕ, suc, ◌+◌, ◌≤◌, ◌^◌, nat_lt, true, false, ◌&&◌, ◌||◌, not, List, [], ◌∷◌, ◌++◌, length, map, filter}
use Rattle.std.specs.Prelude.{flat_map, Option, None, Some, slice_get, codes, ℤ, sum_by}
use Rattle.std.specs.List.{enumerate_from, list_any}
use Rattle.std.specs.Option.{option_map_or, is_none, ForSome}
use Rattle.std.specs.Int.RustNames.{unsigned_abs}
use Rattle.std.proofs.Common.{refl, arith, ap, ◌∙◌}
use Rattle.std.proofs.lemmas.Bool.{le-ltb}
use Rattle.mps_defs.specs.Lists.{is_among, last_of, AreDistinct}
use Rattle.ip_defs.specs.Lists.{when}
use Rattle.ip_defs.specs.Limits.{IsWithinLimits, IsColumn, IsRow, AreSmall, limits_of, limit_at, column_limits, row_limits, exceeds}
use Rattle.ip_defs.specs.Limits.{is_long}
use Rattle.mps_defs.specs.CanonicalText.{Written}
use Rattle.mps_defs.specs.Records.{words_of}
use Rattle.mps_defs.specs.TextModels.{lower_side, upper_side, upper_entry, sets_lower}
use Rattle.mps_defs.specs.Faults.{is_ended, bound_missing, lower_is_missing, upper_is_missing, upper_faults, is_negative_upper}
use Rattle.ip_defs.specs.declared.limits.What.TheVariants as Whats
use Rattle.mps_defs.specs.declared.reading.MpsError.TheVariants.{NoBound, NegativeUpper}
use Rattle.mps_defs.specs.declared.reading.Side.TheVariants as Sides
use Rattle.mps_defs.specs.declared.reading.How.{How}
use Rattle.ip_defs.specs.declared.programs.Column.{Column}
use Rattle.ip_defs.specs.declared.programs.Row.{Row}
use Rattle.ip_defs.specs.declared.programs.Parts.{Parts}
use Rattle.text_laws.proofs.WrittenLaws.{lines_from}
use Rattle.text_laws.proofs.SectionLaws.{Sections, AreSections, AreItems, lines_in, number_after, items_first, columns_at, right_sides_at}
use Rattle.text_laws.proofs.SectionLaws.{ranges_at, bounds_at, after_rows, after_columns, after_right_sides, after_ranges, after_bounds}
use Rattle.text_laws.proofs.CanonicalLaws.{sections_of, are_sections}
use Rattle.text_laws.proofs.BoundReadLaws.{bounds_read, lower_read, upper_read}
use Rattle.ip_defs.proofs.ListLaws.{filter-append}

-- ---- the section lines

pub no_words : (n : ℕ) (word : List ℕ) (ds : List Written) → AreItems ds → filter (λ l. not l.is_item) (lines_from n word ds) ≡ []
no_words n word [] h = refl
no_words n word ((true, fs) ∷ ds) h = no_words (suc n) word ds h.1
no_words n word ((false, fs) ∷ ds) h = absurd cc

words_after : (n : ℕ) (word : List ℕ) (ds ws : List Written) → AreItems ds
    → words_of (lines_from n word (ds ++ ws)) ≡ words_of (lines_from (number_after n ds) word ws)
words_after n word ds ws h =
    ap words_of (items_first n word ds ws h)
    ∙ ap (map (λ l. l.section))
    (filter-append (λ l. not l.is_item) (lines_from n word ds) (lines_from (number_after n ds) word ws)
    ∙ ap (λ k. k ++ filter (λ l. not l.is_item) (lines_from (number_after n ds) word ws)) (no_words n word ds h))

-- the words of the section lines, in order
pub words_read : (s : Sections) → AreSections s
    → words_of (lines_in s)
    ≡ codes "NAME" ∷ codes "ROWS" ∷ codes "COLUMNS" ∷ codes "RHS" ∷ codes "RANGES" ∷ codes "BOUNDS" ∷ codes "ENDATA" ∷ []
words_read s h =
    ap (λ k. codes "NAME" ∷ codes "ROWS" ∷ k) (words_after 3 (codes "ROWS") s.rows (after_rows s) h.rows)
    ∙ ap (λ k. codes "NAME" ∷ codes "ROWS" ∷ codes "COLUMNS" ∷ k)
    (words_after (columns_at s) (codes "COLUMNS") s.columns (after_columns s) h.columns)
    ∙ ap (λ k. codes "NAME" ∷ codes "ROWS" ∷ codes "COLUMNS" ∷ codes "RHS" ∷ k)
    (words_after (right_sides_at s) (codes "RHS") s.right_sides (after_right_sides s) h.right_sides)
    ∙ ap (λ k. codes "NAME" ∷ codes "ROWS" ∷ codes "COLUMNS" ∷ codes "RHS" ∷ codes "RANGES" ∷ k)
    (words_after (ranges_at s) (codes "RANGES") s.ranges (after_ranges s) h.ranges)
    ∙ ap (λ k. codes "NAME" ∷ codes "ROWS" ∷ codes "COLUMNS" ∷ codes "RHS" ∷ codes "RANGES" ∷ codes "BOUNDS" ∷ k)
    (words_after (bounds_at s) (codes "BOUNDS") s.bounds (after_bounds s) h.bounds)

-- the text has its end
pub ended : (m : Parts) → is_ended (lines_in (sections_of m)) ≡ true
ended m = ap (is_among (codes "ENDATA")) (words_read (sections_of m) (are_sections m))

-- ---- bounds

pub flat_none : {A B C : Type 0} (f : B → List C) (g : A → B) (xs : List A) → ((i : ℕ) (x : A) → slice_get xs i ≡ Some x → f (g x) ≡ [])
    → flat_map f (map g xs) ≡ []
flat_none f g [] h = refl
flat_none f g (x ∷ xs) h = ap (λ k. k ++ flat_map f (map g xs)) (h 0 x refl) ∙ flat_none f g xs (λ i y at. h (suc i) y at)

-- no bound is missing
pub bounds_there : (m : Parts) (how : How) (j : ℕ) (c : Column) → AreDistinct (map (λ k. k.name) m.columns) → slice_get m.columns j ≡ Some c
    → IsColumn c → bound_missing (lines_in (sections_of m)) how c.name ≡ []
bounds_there m how j c d at small =
    let ls = lines_in (sections_of m) in
    let lo = lower_read m j c d at (let s = small.lo in omega arith) in
    let hi = upper_read m j c d at (let s = small.hi in omega arith) in
    ap (λ o. when (lower_is_missing how.box_side o (upper_side ls c.name)) (NoBound c.name Sides.Lower)
    ++ when (upper_is_missing how.box_side (lower_side ls c.name) (upper_side ls c.name)) (NoBound c.name Sides.Upper)) lo
    ∙ ap (λ o. when (upper_is_missing how.box_side (lower_side ls c.name) o) (NoBound c.name Sides.Upper)) hi

-- each column has a lower entry
pub no_upper_faults : (m : Parts) (j : ℕ) (c : Column) → AreDistinct (map (λ k. k.name) m.columns) → slice_get m.columns j ≡ Some c
    → upper_faults (lines_in (sections_of m)) c.name ≡ []
no_upper_faults m j c d at =
    let found = bounds_read m j c d at in
    ap (λ ls. when (is_none (last_of (filter sets_lower ls)) && option_map_or is_negative_upper
    (upper_entry (lines_in (sections_of m)) c.name) false) (NegativeUpper c.name)) found.1
