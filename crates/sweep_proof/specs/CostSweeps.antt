-- Cost sweeps: their proofs within the limits, and what an exact one says of each rational parameter.
use Rattle.std.specs.Prelude.{◌≡◌, ℕ, ◌+◌, ◌^◌, ◌≤◌, ◌<◌, List, [], ◌∷◌, length, slice_index_or, sum_by, None, ℤ, pos, ◌*ℤ◌, ◌≤ℤ◌}
use Rattle.std.specs.Prelude.{◌<ℤ◌}
use Rattle.std.specs.Int.RustNames.{unsigned_abs}
use Rattle.frac128.specs.Fractions.{Fraction}
use Rattle.ip_defs.specs.Lists.{Each}
use Rattle.ip_defs.specs.Program.{at, IsEmpty, IsLeast}
use Rattle.ip_defs.specs.Sums.{sum_below}
use Rattle.ip_defs.specs.declared.programs.Parts.{Parts}
use Rattle.perturbation.specs.Lines.{columns_at, first_large_cost, program_at}
use Rattle.proof_tree.specs.LabelledTrees.{node_count}
use Rattle.proof_tree.specs.Trees.{plain, FitsModel, PlainTree}
use Rattle.proof_tree.specs.Within.{IsTreeWithin}
use Rattle.proof_tree.specs.declared.trees.Tree.{Tree, Leaf}
use Rattle.sweep_proof.specs.declared.cost_sweeps.CostSweep.{CostSweep}

-- ---- breaks, points and trees by their numbers

-- the break of a number, 0 past the last
abbrev pub break_at : List Fraction → ℕ → Fraction
break_at bs k = slice_index_or bs k (record { num = pos 0; den = pos 1 })

-- the point of a number, one without coordinates past the last
abbrev pub point_at : List (List ℤ) → ℕ → List ℤ
point_at xs k = slice_index_or xs k []

-- the tree of a number, a leaf without multipliers past the last
abbrev pub tree_at : List Tree → ℕ → PlainTree
tree_at ts k = plain (slice_index_or ts k (Leaf (record { q = pos 0; y = [] })))

-- ---- sums over points

-- the sum of number times coordinate, with one number for each column; for a direction of the costs it is the slope of what the point costs
abbrev pub total : List ℤ → List ℤ → ℤ
total ws x = sum_below (λ j. at ws j *ℤ at x j) (length x)

-- ---- limits

-- a break is within its limits: numerator and denominator are at most 2 ^ 80 in absolute value, and the denominator is positive
pub record FitsBreak (b : Fraction) : Type 0 where
  pub num : unsigned_abs b.num ≤ 2 ^ 80
  pub den : unsigned_abs b.den ≤ 2 ^ 80
  pub positive : pos 0 <ℤ b.den

-- a point has one coordinate for each column, of at most 2 ^ 24 in absolute value
pub record FitsPoint (m : Parts) (x : List ℤ) : Type 0 where
  pub size : length x ≡ length m.columns
  pub small : Each (λ z. unsigned_abs z ≤ 2 ^ 24) x

-- a tree is within the limits of trees, and the columns and rows that it names exist
pub record FitsTree (m : Parts) (t : PlainTree) : Type 0 where
  pub limits : IsTreeWithin t
  pub tree : FitsModel m t

-- the proof of a cost sweep is within the limits and fits a model; the nodes of all its trees are counted together. Whether there are as
-- many breaks and trees as its points ask for is not said
pub record FitsCostSweep (m : Parts) (s : CostSweep) : Type 0 where
  pub few : length s.points ≤ 10000
  pub breaks : Each FitsBreak s.breaks
  pub points : Each (FitsPoint m) s.points
  pub trees : Each (λ t. FitsTree m (plain t)) s.trees
  pub nodes : sum_by (λ t. node_count (plain t)) s.trees ≤ 1000000

-- a direction of the costs has one number for each column, of at most 2 ^ 40 in absolute value
pub record IsDirection (m : Parts) (d : List ℤ) : Type 0 where
  pub size : length d ≡ length m.columns
  pub small : (j : ℕ) → j < length d → unsigned_abs (at d j) ≤ 2 ^ 40

-- no cost of the model at the parameter p/q exceeds its limit
abbrev pub AreCostsWithin : Parts → List ℤ → ℤ → ℤ → Type 0
AreCostsWithin m d p q = first_large_cost (columns_at m.columns d p q) ≡ None

-- ---- exact sweeps

-- a break is a whole number
pub record IsNumber (b : Fraction) (z : ℤ) : Type 0 where
  pub num : b.num ≡ z
  pub den : b.den ≡ pos 1

-- a break is below another, by their cross products
abbrev pub IsBelowBreak : Fraction → Fraction → Type 0
IsBelowBreak a b = (a.num *ℤ b.den) <ℤ (b.num *ℤ a.den)

-- the parameter p/q lies between two breaks, or is one of them, by cross products
pub record IsBetween (a b : Fraction) (p q : ℤ) : Type 0 where
  pub from : (a.num *ℤ q) ≤ℤ (p *ℤ a.den)
  pub to : (p *ℤ b.den) ≤ℤ (b.num *ℤ q)

-- breaks rise strictly from one whole number to another
pub record AreBreaks (from to : ℤ) (pieces : ℕ) (bs : List Fraction) : Type 0 where
  pub count : length bs ≡ pieces + 1
  pub first : IsNumber (break_at bs 0) from
  pub last : IsNumber (break_at bs pieces) to
  pub rising : (k : ℕ) → k < pieces → IsBelowBreak (break_at bs k) (break_at bs (k + 1))

-- a point is optimal at each parameter between two breaks
abbrev pub IsLeastBetween : Parts → List ℤ → Fraction → Fraction → List ℤ → Type 0
IsLeastBetween m d a b x = (p q : ℤ) → pos 0 <ℤ q → IsBetween a b p q → IsLeast (program_at m d p q) x

-- the points of a sweep: each is optimal at the parameters of its piece, and their slopes fall strictly
pub record AreLeastPoints (m : Parts) (d : List ℤ) (bs : List Fraction) (xs : List (List ℤ)) : Type 0 where
  pub least : (k : ℕ) → k < length xs → IsLeastBetween m d (break_at bs k) (break_at bs (k + 1)) (point_at xs k)
  pub falling : (k : ℕ) → k + 1 < length xs → total d (point_at xs (k + 1)) <ℤ total d (point_at xs k)

-- a cost sweep is exact. With points: the breaks rise from the first parameter to the last one, one more than there are points, and each
-- point is optimal at each rational parameter of its piece. Without points: the two ends are the breaks, and no point is feasible
abbrev pub IsExactCostSweep : Parts → List ℤ → ℤ → ℤ → List Fraction → List (List ℤ) → Type 0
IsExactCostSweep m d from to bs [] = AreBreaks from to 1 bs × IsEmpty m
IsExactCostSweep m d from to bs (x ∷ xs) = AreBreaks from to (length (x ∷ xs)) bs × AreLeastPoints m d bs (x ∷ xs)
