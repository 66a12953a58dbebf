-- A program whose only row asks an odd number to be even, and trees over it: the definitions at work, each checked by computation.
use Rattle.std.specs.Prelude.{◌≡◌, ℕ, ℤ, pos, negsuc, List, [], ◌∷◌, Some, None, codes}
use Rattle.std.proofs.Common.{refl}
use Rattle.ip_defs.specs.declared.certificates.Bound.TheVariants.{At, Infinite}
use Rattle.ip_defs.specs.declared.programs.Breach.TheVariants as Broken
use Rattle.ip_defs.specs.declared.programs.Column.{Column}
use Rattle.ip_defs.specs.declared.programs.Parts.{Parts}
use Rattle.proof_tree.specs.declared.claims.Claim.TheVariants.{Best, Empty}
use Rattle.proof_tree.specs.declared.faults.ShapeWhat.TheVariants.{PointLength, ColumnNumber, RowNumber}
use Rattle.proof_tree.specs.declared.faults.TreeLimit.TheVariants as Exceeded
use Rattle.proof_tree.specs.declared.verdicts.Verdict.TheVariants.{Proved, NotFeasible, Short}
use Rattle.proof_tree.specs.LabelledTrees.{leaf, split}
use Rattle.proof_tree.specs.Trees.{PlainTree, tree_bound, tree_limit, tree_misfit}
use Rattle.proof_tree.specs.Verdicts.{claim_misfit, judged}

abbrev column : List ℕ → Column
column name' = record { name = name'; cost = pos 0; lo = pos 0; hi = pos 1 }

-- no cost over two columns from 0 to 1, with 2x - 2y between two sides
abbrev doubled : ℤ → ℤ → Parts
doubled low' high' = record {
  objective = codes "cost";
  cost_decimals = 0;
  constant = pos 0;
  columns = column (codes "x") ∷ column (codes "y") ∷ [];
  rows = record { name = codes "e"; decimals = 0; coefs = (0, pos 2) ∷ (1, negsuc 1) ∷ []; low = Some low'; high = Some high' } ∷ [];
}

-- a ray of one multiplier on one row
abbrev ray : ℕ → ℤ → PlainTree
ray row multiplier = leaf (record { q = pos 0; y = (row, multiplier) ∷ [] })

-- splits on both columns, with a ray at each leaf
abbrev tree : PlainTree
tree = split 0 (pos 0) tt (ray 0 (pos 1)) (split 1 (pos 0) tt (ray 0 (negsuc 0)) (ray 0 (pos 1)))

-- it proves that no point has 2x - 2y = 1
pub parity_bound : tree_bound (doubled (pos 1) (pos 1)) tree ≡ Infinite
parity_bound = refl

-- over other sides its rays lapse, and the sums of the boxes are left
pub other_sides : tree_bound (doubled (pos 0) (pos 2)) tree ≡ At (pos 0)
other_sides = refl

-- a cut at the upper side leaves the right half without a point
pub right_half_empty : tree_bound (doubled (pos 0) (pos 2)) (split 0 (pos 1) tt (leaf (record { q = pos 1; y = [] })) (ray 0 (pos 1))) ≡ At
    (pos 0)
right_half_empty = refl

pub emptiness_proved : judged (doubled (pos 1) (pos 1)) Empty Infinite ≡ Proved None
emptiness_proved = refl

pub point_breaks : judged (doubled (pos 1) (pos 1)) (Best (pos 1 ∷ pos 0 ∷ [])) Infinite ≡ NotFeasible (Broken.Row 0)
point_breaks = refl

pub point_proved : judged (doubled (pos 0) (pos 2)) (Best (pos 1 ∷ pos 0 ∷ [])) (At (pos 0)) ≡ Proved (Some (pos 0))
point_proved = refl

pub bound_too_low : judged (doubled (pos 0) (pos 2)) (Best (pos 1 ∷ pos 0 ∷ [])) (At (negsuc 0)) ≡ Short (At (negsuc 0)) (Some (pos 0))
bound_too_low = refl

pub no_limit : tree_limit tree ≡ None
no_limit = refl

-- nodes count in preorder: the left leaf of this tree is node 1, its right split node 2
pub left_before_right : tree_limit (split 0 (pos 0) tt (ray 0 (pos 0)) (split 4096 (pos 0) tt (ray 0 (pos 1)) (ray 0 (pos 1)))) ≡ Some
    (Exceeded.Cert 1)
left_before_right = refl

pub node_before_children : tree_limit (split 0 (pos 0) tt (ray 0 (pos 1)) (split 4096 (pos 0) tt (ray 0 (pos 0)) (ray 0 (pos 1)))) ≡ Some
    (Exceeded.At 2)
node_before_children = refl

pub row_of_a_leaf : tree_misfit 2 1 (split 0 (pos 0) tt (ray 0 (pos 1)) (split 1 (pos 0) tt (ray 1 (pos 1)) (ray 0 (pos 1)))) ≡ Some
    (record { node = 3; what = RowNumber })
row_of_a_leaf = refl

pub column_of_a_split : tree_misfit 2 1 (split 0 (pos 0) tt (ray 0 (pos 1)) (split 2 (pos 0) tt (ray 1 (pos 1)) (ray 0 (pos 1)))) ≡ Some
    (record { node = 2; what = ColumnNumber })
column_of_a_split = refl

pub short_point : claim_misfit 2 (Best (pos 0 ∷ [])) ≡ Some (record { node = 0; what = PointLength })
short_point = refl
