-- A program of one column whose row no even number meets, and outcomes of its search: the definitions at work.
use Rattle.std.specs.Prelude.{◌≡◌, ℕ, ◌⊎◌, ◌<◌, zero, suc, ℤ, ◌≤ℤ◌, ◌<ℤ◌, pos, negsuc, List, [], ◌∷◌, Option, Some, None, codes}
use Rattle.std.proofs.Common.{refl, arith, inl, inr}
use Rattle.std.proofs.lemmas.Int.{ints}
use Rattle.ip_defs.specs.declared.certificates.Bound.TheVariants.{At, Infinite}
use Rattle.ip_defs.specs.declared.programs.Parts.{Parts}
use Rattle.ip_defs.specs.Certificates.{leaf_bound}
use Rattle.ip_defs.specs.Program.{box_of}
use Rattle.ip_model.specs.Sizes.{width_sum}
use Rattle.proof_tree.specs.LabelledTrees.{leaf, split, leaf_node, split_node, place, node_count, depth, split_at, splits_over}
use Rattle.proof_tree.specs.LabelledTrees.{split_labels}
use Rattle.proof_tree.specs.Trees.{tree_bound, tree_limit}
use Rattle.branching.specs.declared.budgets.Limits.{Limits}
use Rattle.branching.specs.declared.budgets.BudgetWhat.{BudgetWhat}
use Rattle.branching.specs.declared.outcomes.Outcome.TheVariants.{Budget}
use Rattle.open_nodes.specs.declared.open_trees.OpenTree.{Pending}
use Rattle.node_bounds.specs.declared.reasons.Why.TheVariants.{Stopped}
use Rattle.open_nodes.specs.OpenTrees.{PlainOpen, ended, places, tree_of}
use Rattle.node_bounds.specs.Certificates.{plain_cert}
use Rattle.branching.specs.Outcomes.{IsRightOutcome}
use Rattle.node_bounds.specs.Internal.Leaves.{ray_on}
use Rattle.branching.specs.Sizes.{point_count, most_nodes}
use Rattle.node_bounds.specs.Splits.{IsWidest, middle, width_at}

-- least -x with 2x = 1, over x from 0 to a number
abbrev odd : ℤ → Parts
odd most = record {
  objective = codes "cost";
  cost_decimals = 0;
  constant = pos 0;
  columns = record { name = codes "x"; cost = negsuc 0; lo = pos 0; hi = most } ∷ [];
  rows = record { name = codes "e"; decimals = 0; coefs = (0, pos 2) ∷ []; low = Some (pos 1); high = Some (pos 1) } ∷ [];
}

-- the two points of 0 to 1, each closed by its ray: 0 breaks the low side, 1 the high side
abbrev grown : PlainOpen
grown = split 0 (pos 0) Stopped (leaf (ended (ray_on 0 (pos 1)))) (leaf (ended (ray_on 0 (negsuc 0))))

pub rays_close : tree_bound (odd (pos 1)) (tree_of grown) ≡ Infinite
rays_close = refl

-- a negated ray closes nothing, and the sum of the box is left
pub turned_ray : leaf_bound (odd (pos 1)) ((pos 1, pos 1) ∷ []) (ray_on 0 (pos 1)) ≡ At (negsuc 0)
turned_ray = refl

pub sum_closes : leaf_bound (odd (pos 5)) ((pos 2, pos 5) ∷ []) plain_cert ≡ At (negsuc 4)
sum_closes = refl

pub places_in_preorder : places (odd (pos 1)) grown ≡ place 0 ((pos 0, pos 1) ∷ []) (split_node 0 (pos 0) Stopped) ∷ place 1
    ((pos 0, pos 0) ∷ []) (leaf_node (ended (ray_on 0 (pos 1)))) ∷ place 1 ((pos 1, pos 1) ∷ [])
    (leaf_node (ended (ray_on 0 (negsuc 0)))) ∷ []
places_in_preorder = refl

pub one_split : splits_over (box_of (odd (pos 1))) (tree_of grown) ≡ split_at ((pos 0, pos 1) ∷ []) 0 (pos 0) ∷ []
one_split = refl

pub one_reason : split_labels grown ≡ Stopped ∷ []
one_reason = refl

pub small_tree : node_count (tree_of grown) ≡ most_nodes (box_of (odd (pos 1)))
small_tree = refl

pub flat_tree : depth (tree_of grown) ≡ width_sum (odd (pos 1))
flat_tree = refl

pub within_limits : tree_limit (tree_of grown) ≡ None
within_limits = refl

-- middles are rounded down, also below 0
pub middle_down : middle (pos 0) (pos 5) ≡ pos 2
middle_down = refl

pub middle_below_zero : middle (negsuc 2) (pos 0) ≡ negsuc 1
middle_below_zero = refl

pub points_of_a_cube : point_count ((pos 0, pos 10) ∷ (pos 0, pos 10) ∷ (negsuc 4, pos 5) ∷ []) ≡ 1331
points_of_a_cube = refl

pub empty_box : (point_count ((pos 5, pos 3) ∷ (pos 0, pos 9) ∷ []) ≡ 0) × (most_nodes ((pos 5, pos 3) ∷ (pos 0, pos 9) ∷ []) ≡ 1)
empty_box = (refl, refl)

-- a box of two columns that are as wide: the first of them is the widest
pub first_of_equals : IsWidest ((pos 0, pos 1) ∷ (pos 2, pos 5) ∷ (negsuc 2, pos 0) ∷ []) 1
first_of_equals = record { within = omega arith; widest = wide; first = before }
  where
    wide : (j : ℕ) → j < 3 → width_at ((pos 0, pos 1) ∷ (pos 2, pos 5) ∷ (negsuc 2, pos 0) ∷ []) j ≤ℤ pos 3
    wide zero l = omega (arith, ints)
    wide (suc zero) l = omega (arith, ints)
    wide (suc (suc zero)) l = omega (arith, ints)
    wide (suc (suc (suc j))) l = absurd (omega arith)

    before : (j : ℕ) → j < 1 → width_at ((pos 0, pos 1) ∷ (pos 2, pos 5) ∷ (negsuc 2, pos 0) ∷ []) j <ℤ pos 3
    before zero l = omega (arith, ints)
    before (suc j) l = absurd (omega arith)

-- a stop with one pending root is never right, whatever the limits
pub pending_root : (m : Parts) (l : Limits) (what : BudgetWhat) (best : Option (List ℤ)) → IsRightOutcome m l (Budget what Pending best)
    → ⊥
pending_root m l what best right = none right.stuck
  where
    none : ⊥ ⊎ ⊥ → ⊥
    none (inl h) = h
    none (inr h) = h
