-- How many solves and nodes a row sweep can take: its solves are at different steps, and each tree is small. So within ample limits it
-- stops for want of memory alone.
use Rattle.std.specs.Prelude.{◌≡◌, ◌≢◌, ℕ, zero, suc, ◌+◌, ◌*◌, ◌/◌, ◌<◌, ◌≤◌, ◌==◌, ◌||◌, Bool, true, false, List, [], ◌∷◌, length, drop}
use Rattle.std.specs.Prelude.{take, Option, Some, slice_get, ℤ, pos}
use Rattle.std.specs.List.{list_any, AllByRecursion, IsDistinct}
use Rattle.std.proofs.Common.{arith, refl, ap, sym, ◌∙◌, subst}
use Rattle.std.proofs.Math.Nat.{mul-le-mul_right, suc-mul}
use Rattle.std.proofs.lemmas.Bool.{eqb-true}
use Rattle.std.proofs.lemmas.List.{length-take-le, take-append-drop}
use Rattle.std.proofs.lemmas.List.Sums.{sum_by-cons}
use Rattle.std.proofs.lemmas.Map.Steps.{length-le_from_distinct_below}
use Rattle.branching.specs.Outcomes.{IsFinished, Pairwise}
use Rattle.branching.specs.Sizes.{AreAmple, count, most_nodes}
use Rattle.branching.specs.declared.budgets.BudgetWhat.{BudgetWhat}
use Rattle.branching.specs.declared.budgets.Limits.{Limits}
use Rattle.branching.specs.declared.outcomes.Outcome.TheVariants as Ends
use Rattle.branching.proofs.EndLaws.{searches_end}
use Rattle.branching.proofs.TreeSizeLaws.{trees_are_small}
use Rattle.ip_defs.specs.Lists.{Each}
use Rattle.ip_defs.specs.Program.{box_of}
use Rattle.ip_defs.specs.declared.programs.Column.{Column}
use Rattle.ip_defs.specs.declared.programs.Parts.{Parts}
use Rattle.ip_model.specs.Sizes.{width_sum}
use Rattle.ip_model.specs.declared.places.Place.{Place}
use Rattle.node_bounds.specs.Reasons.{IsReasoned}
use Rattle.node_bounds.specs.Splits.{IsProper}
use Rattle.node_bounds.specs.declared.reasons.Why.{Why}
use Rattle.open_nodes.specs.declared.open_trees.OpenTree.{OpenTree}
use Rattle.perturbation.specs.Lines.{row_at}
use Rattle.proof_tree.specs.LabelledTrees.{Split, splits_over}
use Rattle.proof_tree.specs.Trees.{plain}
use Rattle.rhs_sweep.specs.RowSolves.{IsNamedStep, IsNextStep, first, half_way, last, next_steps, step_model}
use Rattle.rhs_sweep.specs.RowStops.{AreAmpleFor, IsBudgetStop, IsRowStop}
use Rattle.rhs_sweep.specs.declared.stops.RowStop.{RowStop}
use Rattle.rhs_sweep.specs.declared.stops.RowStop.TheVariants.{Budget, Solves, Memory}
use Rattle.rhs_sweep.proofs.SolveLaws.{finished_of, solve_numbered}
use Rattle.rhs_sweep.proofs.StepLaws.{step_columns, step_nodes}
use Rattle.sweep_pieces.proofs.RunLaws.{step_kept}
use Rattle.sweep_pieces.specs.Runs.{step_at, step_in, step_of}
use Rattle.sweep_proof.specs.RowSweeps.{IsWidening}
use Rattle.sweep_solves.specs.Solves.{AreRight, left_by, nodes_made, nodes_of, with_nodes}
use Rattle.sweep_solves.specs.Stops.{IsStopCause}
use Rattle.sweep_solves.specs.declared.made_solves.Made.{Made}

-- ---- different numbers below a bound

-- the first n numbers of a sequence, the last of them first
abbrev first_of : (ℕ → ℕ) → ℕ → List ℕ
first_of f zero = []
first_of f (suc n) = f n ∷ first_of f n

how_many : (f : ℕ → ℕ) (n : ℕ) → length (first_of f n) ≡ n
how_many f zero = refl
how_many f (suc n) = ap suc (how_many f n)

differs : (a b : ℕ) → b ≢ a → (a == b) ≡ false
differs a b apart = by (a == b) refl
  where
    by : (t : Bool) → (a == b) ≡ t → t ≡ false
    by true e = absurd (apart (sym (eqb-true a b e)))
    by false e = refl

unlike : (f : ℕ → ℕ) (n t : ℕ) → ((k : ℕ) → k < n → f k ≢ t) → AllByRecursion (λ y. (t == y) ≡ false) (first_of f n)
unlike f zero t h = tt
unlike f (suc n) t h = (differs t (f n) (h n (omega arith)), unlike f n t (λ k l. h k (omega arith)))

distinct : (f : ℕ → ℕ) (n : ℕ) → ((j k : ℕ) → j < k → k < n → f j ≢ f k) → IsDistinct (λ x y. x == y) (first_of f n)
unfolding IsDistinct
distinct f zero h = tt
distinct f (suc n) h = (unlike f n (f n) (λ k l. h k n l (omega arith)), distinct f n (λ j k l less. h j k l (omega arith)))

bounded : (f : ℕ → ℕ) (n b : ℕ) → ((k : ℕ) → k < n → f k < b) → (q : ℕ) → list_any (λ y. q == y) (first_of f n) ≡ true → q < b
bounded f zero b h q e = absurd cc
bounded f (suc n) b h q e = by (q == f n) refl e (bounded f n b (λ k l. h k (omega arith)) q)
  where
    by : (t : Bool) → (q == f n) ≡ t → (t || list_any (λ y. q == y) (first_of f n)) ≡ true
        → (list_any (λ y. q == y) (first_of f n) ≡ true → q < b) → q < b
    by true is any rest = let same = eqb-true q (f n) is in let less = h n (omega arith) in omega arith
    by false is any rest = rest any

-- different numbers below b are at most b
at_most : (f : ℕ → ℕ) (n b : ℕ) → ((j k : ℕ) → j < k → k < n → f j ≢ f k) → ((k : ℕ) → k < n → f k < b) → n ≤ b
at_most f n b differ less =
    let most = length-le_from_distinct_below (first_of f n) b (distinct f n differ) (bounded f n b less) in
    let size = how_many f n in
    omega arith

distinct_with : (f : ℕ → ℕ) (n t : ℕ) → ((j k : ℕ) → j < k → k < n → f j ≢ f k) → ((k : ℕ) → k < n → f k ≢ t)
    → IsDistinct (λ x y. x == y) (t ∷ first_of f n)
unfolding IsDistinct
distinct_with f n t differ new = (unlike f n t new, distinct f n differ)

-- with one more that differs from all of them they are fewer
fewer_than : (f : ℕ → ℕ) (n b t : ℕ) → ((j k : ℕ) → j < k → k < n → f j ≢ f k) → ((k : ℕ) → k < n → f k < b) → t < b
    → ((k : ℕ) → k < n → f k ≢ t) → n < b
fewer_than f n b t differ less own new =
    let most = length-le_from_distinct_below (t ∷ first_of f n) b (distinct_with f n t differ new) any in
    let size = how_many f n in
    omega arith
  where
    any : (q : ℕ) → list_any (λ y. q == y) (t ∷ first_of f n) ≡ true → q < b
    any q e = by (q == t) refl e
      where
        by : (s : Bool) → (q == t) ≡ s → (s || list_any (λ y. q == y) (first_of f n)) ≡ true → q < b
        by true is e = let same = eqb-true q t is in omega arith
        by false is e = bounded f n b less q e

-- ---- steps

taken : (ms : List Made) (k j : ℕ) → j < length (take k ms) → step_at (take k ms) j ≡ step_at ms j
taken ms k j l = sym (step_kept (take k ms) (drop k ms) j l) ∙ ap (λ (xs : List Made). step_at xs j) (take-append-drop k ms)

named_within : (m : Parts) (steps : ℕ) (ms : List Made) (t : ℕ) → IsNamedStep m steps ms t
    → ((j : ℕ) → j < length ms → step_at ms j ≤ steps) → t ≤ steps
named_within m steps ms t (first e) h = omega arith
named_within m steps ms t (last e) h = omega arith
named_within m steps ms t (half_way w) h = by (step_at ms w.left) (step_at ms w.right) (h w.left w.left_in) (h w.right w.right_in) w.middle
  where
    by : (x y : ℕ) → x ≤ steps → y ≤ steps → t ≡ (x + y) / 2 → t ≤ steps
    by x y p q e = omega arith

named : (m : Parts) (d : List (Place × ℤ)) (l : Limits) (steps : ℕ) (ms : List Made) (k : ℕ)
    → AreRight (step_model m d) (next_steps m steps) l ms → k < length ms
    → IsNextStep m steps (take k ms) (pos (step_at ms k)) (pos 1)
named m d l steps ms k all in_k =
    let one = solve_numbered ms k in_k in
    let h = (all k one.0 one.1).named in
    let is : step_at ms k ≡ step_of one.0 = ap step_in one.1 in
    record {
      whole = refl;
      step = refl;
      new_step = λ j le e. h.new_step j le (e ∙ is);
      named = subst (λ (t : ℕ). IsNamedStep m steps (take k ms) t) (sym is) h.named;
    }

all_within : (m : Parts) (d : List (Place × ℤ)) (l : Limits) (steps : ℕ) (ms : List Made)
    → AreRight (step_model m d) (next_steps m steps) l ms → (n k : ℕ) → k < n → k < length ms → step_at ms k ≤ steps
all_within m d l steps ms all zero k less in_k = absurd (omega arith)
all_within m d l steps ms all (suc n) k less in_k = named_within m steps (take k ms) (step_at ms k) (named m d l steps ms k all in_k).named
    (λ j le. let size = length-take-le k ms (omega arith) in let own = taken ms k j le in
    let before = all_within m d l steps ms all n j (omega arith) (omega arith) in omega arith)

-- each solve of a right list is at one of the steps
pub steps_within : (m : Parts) (d : List (Place × ℤ)) (l : Limits) (steps : ℕ) (ms : List Made)
    → AreRight (step_model m d) (next_steps m steps) l ms → (k : ℕ) → k < length ms → step_at ms k ≤ steps
steps_within m d l steps ms all k in_k = all_within m d l steps ms all (suc k) k (omega arith) in_k

-- no two are at one step
pub steps_differ : (m : Parts) (d : List (Place × ℤ)) (l : Limits) (steps : ℕ) (ms : List Made)
    → AreRight (step_model m d) (next_steps m steps) l ms → (j k : ℕ) → j < k → k < length ms → step_at ms j ≢ step_at ms k
steps_differ m d l steps ms all j k less in_k = λ e.
    let size = length-take-le k ms (omega arith) in
    let le : j < length (take k ms) = omega arith in
    (named m d l steps ms k all in_k).new_step j le (taken ms k j le ∙ e)

-- where a step is still next, there are at most as many solves as steps after the first
pub few_steps : (m : Parts) (d : List (Place × ℤ)) (l : Limits) (steps : ℕ) (ms : List Made) (p q : ℤ)
    → AreRight (step_model m d) (next_steps m steps) l ms → IsNextStep m steps ms p q → length ms ≤ steps
few_steps m d l steps ms p q all next =
    let within = named_within m steps ms (count p) next.named (steps_within m d l steps ms all) in
    let fewer = fewer_than (step_at ms) (length ms) (steps + 1) (count p) (steps_differ m d l steps ms all)
    (λ k le. let own = steps_within m d l steps ms all k le in omega arith) (omega arith) next.new_step in
    omega arith

-- ---- nodes

proper_splits : (m : Parts) (pivots : ℕ) (ss : List Split) (whys : List Why) → Pairwise (IsReasoned m pivots) ss whys → Each IsProper ss
proper_splits m pivots [] [] h = tt
proper_splits m pivots [] (w ∷ ws) h = absurd h
proper_splits m pivots (s ∷ ss) [] h = absurd h
proper_splits m pivots (s ∷ ss) (w ∷ ws) h = (h.0.0, proper_splits m pivots ss ws h.1)

small_tree : (m : Parts) (d : List (Place × ℤ)) (l : Limits) (t : ℕ) (s : Made) → IsWidening d
    → IsFinished (row_at m d t) l s.proof s.reasons → nodes_of s ≤ most_nodes (box_of m)
small_tree m d l t s out h =
    let small = (trees_are_small (row_at m d t) (plain s.proof.tree)
    (proper_splits (row_at m d t) l.pivots (splits_over (box_of (row_at m d t)) (plain s.proof.tree)) s.reasons h.reasons)).0 in
    subst (λ (n : ℕ). nodes_of s ≤ n) (step_nodes m d t out) small

small_sum : (ms : List Made) (b : ℕ) → ((k : ℕ) (s : Made) → slice_get ms k ≡ Some s → nodes_of s ≤ b) → nodes_made ms ≤ length ms * b
small_sum [] b h = omega arith
small_sum (s ∷ ms) b h =
    let one = h 0 s refl in
    let rest = small_sum ms b (λ k r got. h (suc k) r got) in
    let sum = sum_by-cons nodes_of s ms in
    let product = suc-mul (length ms) b in
    omega arith

-- right solves have at most the nodes of as many trees over the box of the model
pub nodes_within : (m : Parts) (d : List (Place × ℤ)) (l : Limits) (steps : ℕ) (ms : List Made) → IsWidening d
    → AreRight (step_model m d) (next_steps m steps) l ms → nodes_made ms ≤ length ms * most_nodes (box_of m)
nodes_within m d l steps ms out all =
    small_sum ms (most_nodes (box_of m)) (λ k s got. small_tree m d (left_by (take k ms) l) (step_of s) s out
    (finished_of (row_at m d (step_of s)) (left_by (take k ms) l) s (all k s got).right))

-- ---- ample limits

-- what is left has a tree's nodes
left_over : (number steps most made nodes all : ℕ) → number ≤ steps → made ≤ number * most → (steps + 1) * most ≤ all
    → made + nodes ≡ all → most ≤ nodes
left_over number steps most made nodes all few used ample sum =
    let next : steps + 1 ≡ suc steps = omega arith in
    by (number * most) (steps * most) ((steps + 1) * most) used (mul-le-mul_right most few)
    (ap (λ (n : ℕ). n * most) next ∙ suc-mul steps most) ample sum
  where
    by : (x y z : ℕ) → made ≤ x → x ≤ y → z ≡ y + most → z ≤ all → made + nodes ≡ all → most ≤ nodes
    by x y z u p e q r = omega arith

some_left : (m : Parts) (d : List (Place × ℤ)) (steps : ℕ) (l : Limits) (what : BudgetWhat) (p q : ℤ) (grown : OpenTree)
    (best : Option (List ℤ)) (nodes : ℕ) (made : List Made) → IsWidening d → AreAmpleFor m steps l
    → IsBudgetStop m d steps l what p q grown best nodes made → most_nodes (box_of m) ≤ nodes
some_left m d steps l what p q grown best nodes made out ample h =
    left_over (length made) steps (most_nodes (box_of m)) (nodes_made made) nodes l.nodes
    (few_steps m d l steps made p q h.solves.each h.next)
    (nodes_within m d l steps made out h.solves.each) ample.nodes h.left

abbrev with_columns : Parts → List Column → Parts
with_columns m cs = record {
  objective = m.objective;
  cost_decimals = m.cost_decimals;
  constant = m.constant;
  columns = cs;
  rows = m.rows;
}

same_width : (m : Parts) (d : List (Place × ℤ)) (t : ℕ) → IsWidening d → width_sum (row_at m d t) ≡ width_sum m
same_width m d t out = ap (λ (cs : List Column). width_sum (with_columns m cs)) (step_columns m d t out)

ample_step : (m : Parts) (d : List (Place × ℤ)) (t : ℕ) (steps nodes : ℕ) (l : Limits) → IsWidening d → AreAmpleFor m steps l
    → most_nodes (box_of m) ≤ nodes → AreAmple (row_at m d t) (with_nodes nodes l)
ample_step m d t steps nodes l out ample le = record {
  nodes = subst (λ (n : ℕ). n ≤ nodes) (sym (step_nodes m d t out)) le;
  depth = subst (λ (n : ℕ). n ≤ l.depth) (sym (same_width m d t out)) ample.depth;
}

-- no search stops within them
no_stop : (m : Parts) (d : List (Place × ℤ)) (t steps : ℕ) (l : Limits) (what : BudgetWhat) (grown : OpenTree) (best : Option (List ℤ))
    (nodes : ℕ) → IsWidening d → AreAmpleFor m steps l → most_nodes (box_of m) ≤ nodes
    → IsStopCause (row_at m d t) l nodes what grown best → ⊥
no_stop m d t steps l what grown best zero out ample le cause = absurd (omega arith)
no_stop m d t steps l what grown best (suc n) out ample le cause =
    searches_end (row_at m d t) (with_nodes (suc n) l) (Ends.Budget what grown best) cause.right
    (ample_step m d t steps (suc n) l out ample le)

-- within ample limits a sweep stops for want of memory alone
pub stops_for_memory : (m : Parts) (d : List (Place × ℤ)) (steps : ℕ) (l : Limits) (stop : RowStop) → IsWidening d → AreAmpleFor m steps l
    → IsRowStop m d steps l stop → stop ≡ Memory
stops_for_memory m d steps l Memory out ample h = refl
stops_for_memory m d steps l (Solves p q made) out ample h = absurd (
    let few = few_steps m d l steps made p q h.solves.each h.next in
    let most = h.most in
    let room = ample.solves in
    omega arith)
stops_for_memory m d steps l (Budget what p q grown best nodes made) out ample h =
    absurd (no_stop m d (count p) steps l what grown best nodes out ample
    (some_left m d steps l what p q grown best nodes made out ample h) h.cause)
