-- The rules by which the proof of a cost sweep is judged, in their order. Pieces are numbered from 0.
use Rattle.std.specs.Prelude.{ℕ, ◌+◌, ◌-◌, ◌==◌, ◌&&◌, ◌||◌, if◌then◌else◌, Bool, List, length, Option, Some, None}
use Rattle.std.specs.Prelude.{option_map, ℤ, pos, ◌*ℤ◌, int_lt}
use Rattle.std.specs.Ordering.{int_eq}
use Rattle.std.specs.Option.{option_map_or, option_or}
use Rattle.frac128.specs.Fractions.{Fraction}
use Rattle.ip_defs.specs.Breaches.{first_breach}
use Rattle.ip_defs.specs.Lists.{first}
use Rattle.ip_defs.specs.Program.{cost}
use Rattle.ip_defs.specs.declared.programs.Parts.{Parts}
use Rattle.perturbation.specs.Lines.{columns_at, first_large_cost, program_at}
use Rattle.proof_tree.specs.Trees.{PlainTree, tree_bound}
use Rattle.sweep_proof.specs.CostSweeps.{break_at, point_at, total, tree_at}
use Rattle.sweep_proof.specs.RowRules.{fall_at, proved_unless, short_at}
use Rattle.sweep_proof.specs.declared.cost_sweeps.CostSweep.{CostSweep}
use Rattle.sweep_proof.specs.declared.verdicts.SweepVerdict.{SweepVerdict}
use Rattle.sweep_proof.specs.declared.verdicts.SweepVerdict.TheVariants.{Cover, Breach, Meet}

-- ---- breaks

-- the counts of breaks and of trees are those that a count of points asks for
abbrev pub counts_fit : ℕ → ℕ → ℕ → Bool
counts_fit points breaks trees = if points == 0 then breaks == 2 && trees == 1 else breaks == points + 1 && trees == points + 1

-- a break is a whole number
abbrev pub is_number : Fraction → ℤ → Bool
is_number b z = int_eq b.num z && int_eq b.den (pos 1)

-- the first break and the last are the ends of the sweep
abbrev pub ends_fit : ℤ → ℤ → List Fraction → Bool
ends_fit from to bs = is_number (break_at bs 0) from && is_number (break_at bs (length bs - 1)) to

-- a break is below another, by their cross products
abbrev pub is_below_break : Fraction → Fraction → Bool
is_below_break a b = int_lt (a.num *ℤ b.den) (b.num *ℤ a.den)

-- the break after piece k is above the one before it
abbrev pub rise_at : List Fraction → ℕ → Option SweepVerdict
rise_at bs k = if is_below_break (break_at bs k) (break_at bs (k + 1)) then None else Some (Cover k)

-- the counts and the ends, then the order of the breaks
abbrev pub cover_fault : ℤ → ℤ → CostSweep → Option SweepVerdict
cover_fault from to s =
    if counts_fit (length s.points) (length s.breaks) (length s.trees) && ends_fit from to s.breaks
    then first (rise_at s.breaks) (length s.breaks - 1) else Some (Cover 0)

-- ---- points

-- the point of piece k is feasible
abbrev pub breach_at : Parts → List (List ℤ) → ℕ → Option SweepVerdict
breach_at m xs k = option_map (λ place. Breach k place) (first_breach m (point_at xs k))

-- the slope of piece k is above that of the next one
abbrev pub slope_at : List ℤ → List (List ℤ) → ℕ → Option SweepVerdict
slope_at d xs k = fall_at k (Some (total d (point_at xs k))) (total d (point_at xs (k + 1)))

-- ---- the models at the breaks

-- a program, unless a cost of it exceeds the limit
abbrev pub kept_unless : Option ℕ → Parts → Option Parts
kept_unless None n = Some n
kept_unless (Some j) n = None

-- the model at a parameter, none where a cost of it exceeds the limit
abbrev pub model_at : Parts → List ℤ → ℤ → ℤ → Option Parts
model_at m d p q = kept_unless (first_large_cost (columns_at m.columns d p q)) (program_at m d p q)

-- two costs are the same: those of the points at both sides of the break after piece k
abbrev pub unless_same : ℕ → ℤ → ℤ → Option SweepVerdict
unless_same k v w = if int_eq v w then None else Some (Meet k v w)

-- at a break between two pieces their points cost the same in the model there
abbrev pub meet_at : Parts → List (List ℤ) → ℕ → Option SweepVerdict
meet_at n xs k = if k == 0 || k == length xs then None
    else unless_same (k - 1) (cost n (point_at xs (k - 1))) (cost n (point_at xs k))

-- the bound of the tree of a break reaches the cost of the point of its piece: the one to its left, and piece 0 at the first break
abbrev pub reach_at : Parts → List (List ℤ) → PlainTree → ℕ → Option SweepVerdict
reach_at n xs t k = short_at (k - 1) (tree_bound n t) (Some (cost n (point_at xs (k - 1))))

-- what is wrong at break k, given the model there
abbrev pub fault_there : List (List ℤ) → PlainTree → ℕ → Parts → Option SweepVerdict
fault_there xs t k n = option_or (meet_at n xs k) (reach_at n xs t k)

-- what is wrong at break k: a cost that exceeds its limit comes first
abbrev pub break_fault : Parts → List ℤ → CostSweep → ℕ → Option SweepVerdict
break_fault m d s k = option_map_or (fault_there s.points (tree_at s.trees k) k)
    (model_at m d (break_at s.breaks k).num (break_at s.breaks k).den) (Some (Cover (k - 1)))

-- ---- the verdict

-- without points the one tree proves that the model is infeasible
abbrev pub empty_fault : Parts → List ℤ → ℤ → CostSweep → Option SweepVerdict
empty_fault m d from s = short_at 0 (tree_bound (program_at m d from (pos 1)) (tree_at s.trees 0)) None

-- with points, each is tried to be feasible, then their slopes, then each break in order
abbrev pub points_fault : Parts → List ℤ → CostSweep → Option SweepVerdict
points_fault m d s = option_or (first (breach_at m s.points) (length s.points))
    (option_or (first (slope_at d s.points) (length s.points - 1)) (first (break_fault m d s) (length s.breaks)))

abbrev pub claims_fault : Parts → List ℤ → ℤ → CostSweep → Option SweepVerdict
claims_fault m d from s = if length s.points == 0 then empty_fault m d from s else points_fault m d s

-- the breaks are tried first, then what is claimed
abbrev pub cost_rules : Parts → List ℤ → ℤ → ℤ → CostSweep → SweepVerdict
cost_rules m d from to s = proved_unless (option_or (cover_fault from to s) (claims_fault m d from s))
