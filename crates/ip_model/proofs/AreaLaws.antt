-- Setting a box to the box of a program, one column after the other.
use Rattle.std.specs.Prelude.{◌≡◌, ℕ, zero, suc, ◌+◌, List, [], ◌∷◌, ◌++◌, length, map, take, drop, Some, slice_get, ℤ}
use Rattle.std.proofs.Common.{refl, arith, ap, set}
use Rattle.ip_defs.specs.declared.programs.Column.{Column}

side_next : (cs : List Column) (b : List (ℤ × ℤ)) (j : ℕ) (d : Column) → slice_get cs j ≡ Some d → length b ≡ length cs →
    set (map (λ c. (c.lo, c.hi)) (take j cs) ++ drop j b) j (d.lo, d.hi) ≡ map (λ c. (c.lo, c.hi)) (take (suc j) cs) ++ drop (suc j) b
side_next [] b j d e l = absurd cc
side_next (c ∷ cs) [] j d e l = absurd (omega arith)
side_next (c ∷ cs) (s ∷ b) zero d e l = let same : c ≡ d = cc in rw same refl
side_next (c ∷ cs) (s ∷ b) (suc j) d e l = ap (λ (r : List (ℤ × ℤ)). (c.lo, c.hi) ∷ r) (side_next cs b j d e (omega arith))

-- one more pair of a box is set to the bounds of its column
pub side_more : (cs : List Column) (b : List (ℤ × ℤ)) (j : ℕ) (d : Column) → slice_get cs j ≡ Some d → length b ≡ length cs →
    set (map (λ c. (c.lo, c.hi)) (take j cs) ++ drop j b) j (d.lo, d.hi) ≡ map (λ c. (c.lo, c.hi)) (take (j + 1) cs) ++ drop (j + 1) b
side_more cs b j d e l = let n : j + 1 ≡ suc j = omega arith in rw n (side_next cs b j d e l)
