-- Cost sweeps at work. Least -x for x from 0 to 1, where the cost rises by 3: 1 up to the parameter 1/3, then 0, and its proof spoiled in
-- several ways. Least x + y with x + y >= 3, both from 0 to 3, where x grows dearer and y cheaper. And an infeasible program.
use Rattle.std.specs.Prelude.{◌≡◌, ℕ, List, [], ◌∷◌, Some, None, codes, ℤ, pos, negsuc}
use Rattle.std.proofs.Common.{refl}
use Rattle.frac128.specs.Fractions.{Fraction, whole}
use Rattle.ip_defs.specs.declared.certificates.Bound.TheVariants.{At}
use Rattle.ip_defs.specs.declared.programs.Breach.TheVariants as Broken
use Rattle.ip_defs.specs.declared.programs.Column.{Column}
use Rattle.ip_defs.specs.declared.programs.Parts.{Parts}
use Rattle.ip_defs.specs.declared.programs.Row.{Row}
use Rattle.proof_tree.specs.declared.trees.Tree.{Tree, Leaf}
use Rattle.sweep_proof.specs.CostRules.{cost_rules}
use Rattle.sweep_proof.specs.declared.cost_sweeps.CostSweep.{CostSweep}
use Rattle.sweep_proof.specs.declared.verdicts.SweepVerdict.TheVariants.{Proved, Cover, Breach, Fall, Meet, Short}

-- a column from 0 to a bound, and a row of one or two columns with a low side
abbrev column : ℤ → ℤ → Column
column cost' hi' = record { name = codes "x"; cost = cost'; lo = pos 0; hi = hi' }

abbrev row : List (ℕ × ℤ) → ℤ → Row
row coefs' low' = record { name = codes "r1"; decimals = 0; coefs = coefs'; low = Some low'; high = None }

-- a program with the constant 5, which no cost of a verdict has
abbrev program : List Column → List Row → Parts
program columns' rows' = record { objective = codes "cost"; cost_decimals = 0; constant = pos 5; columns = columns'; rows = rows' }

abbrev leaf : ℤ → List (ℕ × ℤ) → Tree
leaf q' y' = Leaf (record { q = q'; y = y' })

abbrev box_leaf : Tree
box_leaf = leaf (pos 1) []

abbrev part : ℤ → ℤ → Fraction
part p q = record { num = p; den = q }

-- ---- one column

abbrev single : Parts
single = program (column (negsuc 0) (pos 1) ∷ []) []

abbrev dearer : List ℤ
dearer = pos 3 ∷ []

abbrev sweep : List Fraction → List (List ℤ) → CostSweep
sweep breaks' points' = record { breaks = breaks'; points = points'; trees = box_leaf ∷ box_leaf ∷ box_leaf ∷ [] }

abbrev one : List ℤ
one = pos 1 ∷ []

abbrev nought : List ℤ
nought = pos 0 ∷ []

abbrev third : List Fraction
third = whole (pos 0) ∷ part (pos 1) (pos 3) ∷ whole (pos 1) ∷ []

pub two_points : cost_rules single dearer (pos 0) (pos 1) (sweep third (one ∷ nought ∷ [])) ≡ Proved
two_points = refl

-- another break, at which the points do not cost the same
pub break_moved : cost_rules single dearer (pos 0) (pos 1)
    (sweep (whole (pos 0) ∷ part (pos 1) (pos 2) ∷ whole (pos 1) ∷ []) (one ∷ nought ∷ []))
    ≡ Meet 0 (pos 1) (pos 0)
break_moved = refl

-- other ends, a point too few, and breaks that do not rise
pub begins_before : cost_rules single dearer (negsuc 0) (pos 1) (sweep third (one ∷ nought ∷ [])) ≡ Cover 0
begins_before = refl

pub ends_after : cost_rules single dearer (pos 0) (pos 2) (sweep third (one ∷ nought ∷ [])) ≡ Cover 0
ends_after = refl

pub point_missing : cost_rules single dearer (pos 0) (pos 1) (sweep third (one ∷ [])) ≡ Cover 0
point_missing = refl

pub break_twice : cost_rules single dearer (pos 0) (pos 1) (sweep (whole (pos 0) ∷ whole (pos 1) ∷ whole (pos 1) ∷ []) (one ∷ nought ∷ []))
    ≡ Cover 1
break_twice = refl

-- a point outside, and points in another order
pub outside : cost_rules single dearer (pos 0) (pos 1) (sweep third (one ∷ (pos 2 ∷ []) ∷ [])) ≡ Breach 1 (Broken.Column 0)
outside = refl

pub other_order : cost_rules single dearer (pos 0) (pos 1) (sweep third (nought ∷ one ∷ [])) ≡ Fall 0 (pos 0) (pos 3)
other_order = refl

-- a break whose model has a cost above the limit
pub large_cost : cost_rules single dearer (pos 0) (pos 1)
    (sweep (whole (pos 0) ∷ part (pos 1) (pos 2199023255552) ∷ whole (pos 1) ∷ []) (one ∷ nought ∷ [])) ≡ Cover 0
large_cost = refl

-- one point for the whole interval: optimal at its first parameter, but not at its last
pub one_point : cost_rules single dearer (pos 0) (pos 1)
    (record { breaks = whole (pos 0) ∷ whole (pos 1) ∷ []; points = one ∷ []; trees = box_leaf ∷ box_leaf ∷ [] })
    ≡ Short 0 (At (pos 0)) (Some (pos 2))
one_point = refl

-- no point, where one is feasible
pub no_point : cost_rules single dearer (pos 0) (pos 1)
    (record { breaks = whole (pos 0) ∷ whole (pos 1) ∷ []; points = []; trees = box_leaf ∷ [] }) ≡ Short 0 (At (negsuc 0)) None
no_point = refl

-- ---- two columns

abbrev pair : Parts
pair = program (column (pos 1) (pos 3) ∷ column (pos 1) (pos 3) ∷ []) (row ((0, pos 1) ∷ (1, pos 1) ∷ []) (pos 3) ∷ [])

abbrev apart : List ℤ
apart = pos 1 ∷ negsuc 0 ∷ []

abbrev ends : List (List ℤ)
ends = (pos 3 ∷ pos 0 ∷ []) ∷ (pos 0 ∷ pos 3 ∷ []) ∷ []

-- four points tie at 0, where the tree needs the row
pub tie : cost_rules pair apart (negsuc 1) (pos 2) (record {
  breaks = whole (negsuc 1) ∷ whole (pos 0) ∷ whole (pos 2) ∷ [];
  points = ends;
  trees = box_leaf ∷ leaf (pos 1) ((0, pos 1) ∷ []) ∷ box_leaf ∷ [];
}) ≡ Proved
tie = refl

pub tie_without_row : cost_rules pair apart (negsuc 1) (pos 2) (record {
  breaks = whole (negsuc 1) ∷ whole (pos 0) ∷ whole (pos 2) ∷ [];
  points = ends;
  trees = box_leaf ∷ box_leaf ∷ box_leaf ∷ [];
}) ≡ Short 0 (At (pos 0)) (Some (pos 3))
tie_without_row = refl

-- ---- no feasible point

abbrev crowded : Parts
crowded = program (column (pos 1) (pos 1) ∷ []) (row ((0, pos 1) ∷ []) (pos 2) ∷ [])

pub infeasible : cost_rules crowded (pos 1 ∷ []) (pos 0) (pos 1)
    (record { breaks = whole (pos 0) ∷ whole (pos 1) ∷ []; points = []; trees = leaf (pos 0) ((0, pos 1) ∷ []) ∷ [] }) ≡ Proved
infeasible = refl

pub two_trees : cost_rules crowded (pos 1 ∷ []) (pos 0) (pos 1) (record {
  breaks = whole (pos 0) ∷ whole (pos 1) ∷ [];
  points = [];
  trees = leaf (pos 0) ((0, pos 1) ∷ []) ∷ box_leaf ∷ [];
}) ≡ Cover 0
two_trees = refl
