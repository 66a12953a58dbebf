-- One turn of a walk: what its parts make of a walk, and what it reads.
use Rattle.std.specs.Prelude.{◌≡◌, ◌≢◌, ℕ, ◌+◌, ◌-◌, ◌*◌, ◌^◌, ◌<◌, ◌≤◌, List, [], ◌∷◌, ◌++◌, length, reverse, ℤ, pos}
use Rattle.std.proofs.Common.{arith, refl, ap, sym, ◌∙◌, subst}
use Rattle.std.proofs.lemmas.List.{length-append, reverse-append}
use Rattle.branching.specs.declared.budgets.Limits.{Limits}
use Rattle.ip_defs.proofs.ListLaws.{each_get}
use Rattle.ip_defs.specs.declared.programs.Parts.{Parts}
use Rattle.ip_model.specs.declared.places.Place.{Place}
use Rattle.perturbation.specs.Lines.{row_at}
use Rattle.rhs_sweep.specs.RowSolves.{IsNextStep}
use Rattle.rhs_sweep.specs.RowStops.{IsRowStop}
use Rattle.rhs_sweep.specs.Internal.Solving.{IsOneMore, IsStopAt}
use Rattle.rhs_sweep.specs.Internal.Walks.{AreSolved, CanBeRead, HasMore, IsBegun, IsLonger, IsWalk, IsWalking, IsWalkingTo, IsWideAt}
use Rattle.rhs_sweep.specs.Internal.Walks.{WaitsToo, turns_left}
use Rattle.rhs_sweep.specs.declared.solving.Solved.{Solved}
use Rattle.rhs_sweep.specs.declared.stops.RowStop.{RowStop}
use Rattle.rhs_sweep.specs.declared.walks.Walk.{Walk}
use Rattle.rhs_sweep.proofs.BeginLaws.{at_stop}
use Rattle.rhs_sweep.proofs.ChainLaws.{one_longer}
use Rattle.rhs_sweep.proofs.CountLaws.{steps_within}
use Rattle.rhs_sweep.proofs.HalfLaws.{half_is_next, half_within}
use Rattle.rhs_sweep.proofs.SolveLaws.{all_solves, solve_numbered}
use Rattle.rhs_sweep.proofs.WalkLaws.{begun, few_of, halved, joined}
use Rattle.sweep_pieces.specs.Runs.{IsSolve, step_at, step_in, step_of, value_at}
use Rattle.sweep_pieces.specs.declared.runs.Run.{Run}
use Rattle.sweep_proof.specs.RowSweeps.{IsWidening}

-- ---- reading

solve_read : (m : Parts) (d : List (Place × ℤ)) (l : Limits) (steps : ℕ) (s : Solved) (k : ℕ) → steps ≤ 10 ^ 6 → AreSolved m d l steps s
    → k < length s.made → CanBeRead m s.made k
solve_read m d l steps s k most h inside =
    let got = solve_numbered s.made k inside in
    let is = each_get (IsSolve m d) s.made k got.0 (all_solves m d l steps s.made h.right) got.1 in
    let within = steps_within m d l steps s.made h.right k inside in
    let same : step_at s.made k ≡ step_of got.0 = ap step_in got.1 in
    record { one = got.0; is = got.1; point = is.point; step = is.step; few = omega arith }

-- the last solve of the run at hand can be read
pub last_read : (m : Parts) (d : List (Place × ℤ)) (l : Limits) (steps : ℕ) (w : Walk) (next : ℕ) → steps ≤ 10 ^ 6
    → IsWalkingTo m d l steps w next → CanBeRead m w.solved.made w.run.last
last_read m d l steps w next most h = solve_read m d l steps w.solved w.run.last most h.solved h.at_hand.run.end

-- and so can the leftmost that waits
pub next_read : (m : Parts) (d : List (Place × ℤ)) (l : Limits) (steps : ℕ) (w : Walk) (next : ℕ) → steps ≤ 10 ^ 6
    → IsWalkingTo m d l steps w next → CanBeRead m w.solved.made next
next_read m d l steps w next most h = solve_read m d l steps w.solved next most h.solved h.chain.chain.2.inside

-- ---- a walk in parts

-- equal parts make the same walk
walk_same : (m : Parts) (d : List (Place × ℤ)) (l : Limits) (steps : ℕ) (s s' : Solved) (rs rs' : List Run) (run run' : Run)
    (ns ns' : List ℕ) → s' ≡ s → rs' ≡ rs → run' ≡ run → ns' ≡ ns → IsWalk m d l steps s rs run ns → IsWalk m d l steps s' rs' run' ns'
walk_same m d l steps s s' rs rs' run run' ns ns' e f g i h =
    subst (λ (u : Solved). IsWalk m d l steps u rs' run' ns') (sym e)
    (subst (λ (us : List Run). IsWalk m d l steps s us run' ns') (sym f)
    (subst (λ (r : Run). IsWalk m d l steps s rs r ns') (sym g)
    (subst (λ (xs : List ℕ). IsWalk m d l steps s rs run xs) (sym i) h)))

-- the run at hand is longer
pub longer_walk : (m : Parts) (d : List (Place × ℤ)) (l : Limits) (steps : ℕ) (w v : Walk) (next : ℕ) → IsWalkingTo m d l steps w next
    → value_at m w.solved.made w.run.last ≡ value_at m w.solved.made next → IsLonger next w v → IsWalking m d l steps v
longer_walk m d l steps w v next h same to =
    walk_same m d l steps w.solved v.solved w.runs.items v.runs.items (record { first = w.run.first; last = next }) v.run
    (reverse w.waiting.items) (reverse v.waiting.items) to.solved to.runs to.run (ap reverse to.waiting)
    (joined m d l steps w.solved w.runs.items w.run next (reverse w.waiting.items) h same)

-- a new run begins
pub begun_walk : (m : Parts) (d : List (Place × ℤ)) (l : Limits) (steps : ℕ) (w v : Walk) (next : ℕ) → IsWidening d
    → IsWalkingTo m d l steps w next → value_at m w.solved.made w.run.last ≢ value_at m w.solved.made next
    → step_at w.solved.made next ≡ step_at w.solved.made w.run.last + 1 → IsBegun next w v → IsWalking m d l steps v
begun_walk m d l steps w v next out h differ follows to =
    walk_same m d l steps w.solved v.solved (w.runs.items ++ w.run ∷ []) v.runs.items (record { first = next; last = next }) v.run
    (reverse w.waiting.items) (reverse v.waiting.items) to.solved to.runs to.run (ap reverse to.waiting)
    (begun m d l steps w.solved w.runs.items w.run next (reverse w.waiting.items) out h differ follows)

-- ---- the step half-way

-- a walk w whose leftmost solve waits on in v, with the step t half-way to it
pub record IsHalving (m : Parts) (d : List (Place × ℤ)) (l : Limits) (steps t : ℕ) (w v : Walk) (next : ℕ) : Type 0 where
  pub walking : IsWalkingTo m d l steps w next
  pub wide : IsWideAt m w.solved.made w.run.last next t
  pub more : HasMore next w v

half_solved : (m : Parts) (d : List (Place × ℤ)) (l : Limits) (steps t : ℕ) (w v : Walk) (next : ℕ) → IsHalving m d l steps t w v next
    → AreSolved m d l steps v.solved
half_solved m d l steps t w v next h = subst (AreSolved m d l steps) (sym h.more.solved) h.walking.solved

pub half_left : (m : Parts) (d : List (Place × ℤ)) (l : Limits) (steps t : ℕ) (w v : Walk) (next : ℕ) → IsHalving m d l steps t w v next
    → v.solved.left ≤ l.nodes
half_left m d l steps t w v next h = let sum = (half_solved m d l steps t w v next h).nodes in omega arith

pub half_most : (m : Parts) (d : List (Place × ℤ)) (l : Limits) (steps t : ℕ) (w v : Walk) (next : ℕ) → IsHalving m d l steps t w v next
    → length v.solved.made ≤ 10000
half_most m d l steps t w v next h = (half_solved m d l steps t w v next h).most

pub half_step : (m : Parts) (d : List (Place × ℤ)) (l : Limits) (steps t : ℕ) (w : Walk) (next : ℕ) → IsWalkingTo m d l steps w next
    → IsWideAt m w.solved.made w.run.last next t → t ≤ steps
half_step m d l steps t w next h wide =
    half_within m steps w.solved.made w.run.last next t (reverse w.waiting.items) h.chain wide.middle

half_next : (m : Parts) (d : List (Place × ℤ)) (l : Limits) (steps t : ℕ) (w v : Walk) (next : ℕ) → IsHalving m d l steps t w v next
    → IsNextStep m steps w.solved.made (pos t) (pos 1)
half_next m d l steps t w v next h = half_is_next m steps w.solved.made w.run.last next t (reverse w.waiting.items)
    h.walking.at_hand.run.end h.walking.chain h.wide.differ h.wide.apart h.wide.middle

-- two more wait
two_more : (xs : List ℕ) (a b : ℕ) → reverse ((xs ++ a ∷ []) ++ b ∷ []) ≡ b ∷ a ∷ reverse xs
two_more xs a b = reverse-append (xs ++ a ∷ []) (b ∷ []) ∙ ap (λ (ys : List ℕ). b ∷ ys) (reverse-append xs (a ∷ []))

pub halved_walk : (m : Parts) (d : List (Place × ℤ)) (l : Limits) (steps t : ℕ) (w v u : Walk) (next : ℕ) → IsWidening d
    → IsHalving m d l steps t w v next → IsOneMore (row_at m d t) l t v.solved u.solved → WaitsToo (length v.solved.made) v u
    → IsWalking m d l steps u
halved_walk m d l steps t w v u next out h one waits =
    let one' = subst (λ (s : Solved). IsOneMore (row_at m d t) l t s u.solved) h.more.solved one in
    let waiting : u.waiting.items ≡ (w.waiting.items ++ next ∷ []) ++ length w.solved.made ∷ [] = waits.waiting
    ∙ ap (λ (xs : List ℕ). xs ++ length v.solved.made ∷ []) h.more.waiting
    ∙ ap (λ (s : Solved). (w.waiting.items ++ next ∷ []) ++ length s.made ∷ []) h.more.solved in
    walk_same m d l steps u.solved u.solved w.runs.items u.runs.items w.run u.run
    (length w.solved.made ∷ next ∷ reverse w.waiting.items) (reverse u.waiting.items) refl (waits.runs ∙ h.more.runs)
    (waits.run ∙ h.more.run) (ap reverse waiting ∙ two_more w.waiting.items next (length w.solved.made))
    (halved m d l steps t w.solved u.solved w.runs.items w.run next (reverse w.waiting.items) out h.walking h.wide one')

-- one solve more takes two of the turns that are left, and two more wait
turns : (n k made wait : ℕ) → n < 10000 → made ≡ n + 1 → wait ≡ k + 2 → 2 * (10000 - made) + wait ≤ 2 * (10000 - n) + k
turns n k made wait room e f = omega arith

pub halved_turns : (m : Parts) (d : List (Place × ℤ)) (l : Limits) (steps t : ℕ) (w v u : Walk) (next : ℕ)
    → IsHalving m d l steps t w v next → IsOneMore (row_at m d t) l t v.solved u.solved → WaitsToo (length v.solved.made) v u
    → turns_left u ≤ turns_left w
halved_turns m d l steps t w v u next h one waits =
    let one' = subst (λ (s : Solved). IsOneMore (row_at m d t) l t s u.solved) h.more.solved one in
    let sum = length-append v.waiting.items (length v.solved.made ∷ []) in
    let sum' = length-append w.waiting.items (next ∷ []) in
    let first = ap length waits.waiting in
    let second = ap length h.more.waiting in
    turns (length w.solved.made) (length w.waiting.items) (length u.solved.made) (length u.waiting.items) one'.room
    (ap length one'.made_is ∙ one_longer w.solved.made one'.one)
    (by (length w.waiting.items) (length v.waiting.items) (length u.waiting.items) (second ∙ sum') (first ∙ sum))
  where
    by : (a b c : ℕ) → b ≡ a + 1 → c ≡ b + 1 → c ≡ a + 2
    by a b c p q = omega arith

pub halved_stop : (m : Parts) (d : List (Place × ℤ)) (l : Limits) (steps t : ℕ) (w v : Walk) (next : ℕ) (stop : RowStop)
    → IsHalving m d l steps t w v next → IsStopAt (row_at m d t) l t v.solved stop → IsRowStop m d steps l stop
halved_stop m d l steps t w v next stop h at =
    at_stop m d l steps t w.solved stop h.walking.solved
    (few_of m w.solved.made h.walking.chain.halvings h.walking.chain.counted) (half_next m d l steps t w v next h)
    (subst (λ (s : Solved). IsStopAt (row_at m d t) l t s stop) h.more.solved at)
