-- The shape of a program's rows, one more at a time.
use Rattle.std.specs.Prelude.{◌≡◌, ℕ, ◌+◌, ◌<◌, ◌≤◌, List, length, slice_get, Some}
use Rattle.std.proofs.Common.{arith, ap, ◌∙◌, subst, below_more}
use Rattle.std.proofs.lemmas.Option.{slice_get_within}
use Rattle.ip_defs.specs.Limits.{IsRowShaped, IsWellShaped}
use Rattle.ip_defs.specs.declared.programs.Column.{Column}
use Rattle.ip_defs.specs.declared.programs.Row.{Row}
use Rattle.ip_defs.specs.declared.programs.Parts.{Parts}

-- the rows below an index are well shaped
abbrev pub AreShapedBelow : ℕ → List Row → ℕ → Type 0
AreShapedBelow columns rows i = (k : ℕ) → k < i → (r : Row) → slice_get rows k ≡ Some r → IsRowShaped columns r

-- one more row
pub shaped_more : (columns : ℕ) (rows : List Row) (i : ℕ) (row : Row) → AreShapedBelow columns rows i → slice_get rows i ≡ Some row →
    IsRowShaped columns row → AreShapedBelow columns rows (i + 1)
shaped_more columns rows i row before found shaped = below_more (λ k. (r : Row) → slice_get rows k ≡ Some r →
    IsRowShaped columns r) i before (λ r g. let same : row ≡ r = cc in subst (IsRowShaped columns) same shaped)

-- all rows
pub all_shaped : (m : Parts) (columns : List Column) (rows : List Row) (i : ℕ) → columns ≡ m.columns → rows ≡ m.rows → m.cost_decimals ≤ 9
    → length rows ≤ i → AreShapedBelow (length columns) rows i → IsWellShaped m
all_shaped m columns rows i these those decimals end shaped = record {
  decimals = decimals;
  rows = λ k r g.
      let found : slice_get rows k ≡ Some r = ap (λ (rs : List Row). slice_get rs k) those ∙ g in
      let inside = slice_get_within rows k r found in
      subst (λ (cs : List Column). IsRowShaped (length cs) r) these (shaped k (omega arith) r found);
}
