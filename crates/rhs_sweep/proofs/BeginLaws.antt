-- How walks begin, and what stops them.
use Rattle.std.specs.Prelude.{◌≡◌, ◌≢◌, ℕ, zero, suc, ◌+◌, ◌^◌, ◌<◌, ◌≤◌, List, [], ◌∷◌, ◌++◌, length, reverse, None, ℤ, pos}
use Rattle.std.proofs.Common.{arith, refl, ap, sym, ◌∙◌, subst, inl, inr, ◌⊎◌}
use Rattle.branching.specs.Sizes.{count}
use Rattle.branching.specs.declared.budgets.Limits.{Limits}
use Rattle.ip_defs.specs.declared.programs.Parts.{Parts}
use Rattle.ip_model.specs.declared.places.Place.{Place}
use Rattle.perturbation.specs.Lines.{row_at}
use Rattle.rhs_sweep.specs.RowSolves.{AreFew, AreRowSolves, IsNextStep}
use Rattle.rhs_sweep.specs.RowSolves.IsNamedStep.{first, last}
use Rattle.rhs_sweep.specs.RowStops.{IsRowStop}
use Rattle.rhs_sweep.specs.Internal.Solving.{IsOneMore, IsStopAt}
use Rattle.rhs_sweep.specs.Internal.Walks.{AreFewWith, AreSolved, IsChainTo, IsFirstRun, IsLink, IsWalk, IsWalking, WaitsToo}
use Rattle.rhs_sweep.specs.declared.solving.Solved.{Solved}
use Rattle.rhs_sweep.specs.declared.stops.RowStop.{RowStop}
use Rattle.rhs_sweep.specs.declared.stops.RowStop.TheVariants.{Budget, Solves, Memory}
use Rattle.rhs_sweep.specs.declared.walks.Walk.{Walk}
use Rattle.rhs_sweep.proofs.ChainLaws.{new_step, old_or_new, one_longer}
use Rattle.rhs_sweep.proofs.WalkLaws.{few_of, solved_more, step_is}
use Rattle.sweep_pieces.proofs.RunLaws.{step_kept}
use Rattle.sweep_pieces.specs.Runs.{IsRunAfter, step_at, value_at}
use Rattle.sweep_pieces.specs.declared.runs.Run.{Run}
use Rattle.sweep_solves.specs.Solves.{nodes_made}
use Rattle.sweep_solves.specs.Stops.{IsStopCause}
use Rattle.sweep_solves.specs.declared.made_solves.Made.{Made}

-- ---- stops

next_at : (m : Parts) (steps t : ℕ) (ms made : List Made) (p q : ℤ) → p ≡ pos t → q ≡ pos 1 → made ≡ ms
    → IsNextStep m steps ms (pos t) (pos 1) → IsNextStep m steps made p q
next_at m steps t ms made p q e f g h =
    subst (λ (xs : List Made). IsNextStep m steps xs p q) (sym g)
    (subst (λ (z : ℤ). IsNextStep m steps ms z q) (sym e) (subst (λ (z : ℤ). IsNextStep m steps ms (pos t) z) (sym f) h))

solves_at : (m : Parts) (d : List (Place × ℤ)) (l : Limits) (steps : ℕ) (s : Solved) (made : List Made) → made ≡ s.made
    → AreSolved m d l steps s → AreFew m s.made → AreRowSolves m d steps l made
solves_at m d l steps s made e all few = subst (AreRowSolves m d steps l) (sym e) (record { each = all.right; few = few })

pub at_stop : (m : Parts) (d : List (Place × ℤ)) (l : Limits) (steps t : ℕ) (s : Solved) (stop : RowStop) → AreSolved m d l steps s
    → AreFew m s.made → IsNextStep m steps s.made (pos t) (pos 1) → IsStopAt (row_at m d t) l t s stop → IsRowStop m d steps l stop
at_stop m d l steps t s Memory all few next h = tt
at_stop m d l steps t s (Solves p q made) all few next h = record {
  solves = solves_at m d l steps s made h.made_is all few;
  most = ap length h.made_is ∙ h.most;
  next = next_at m steps t s.made made p q h.p_is h.q_is h.made_is next;
}
at_stop m d l steps t s (Budget what p q grown best nodes made) all few next h = record {
  solves = solves_at m d l steps s made h.made_is all few;
  few = subst (λ (xs : List Made). length xs ≤ 10000) (sym h.made_is) all.most;
  left = let used = ap nodes_made h.made_is in let left = h.nodes_is in let sum = all.nodes in
      by (nodes_made made) (nodes_made s.made) nodes s.left l.nodes used left sum;
  next = next_at m steps t s.made made p q h.p_is h.q_is h.made_is next;
  cause = subst (λ (k : ℕ). IsStopCause (row_at m d k) l nodes what grown best) (sym (ap count h.p_is)) h.cause;
}
  where
    by : (a b c e all : ℕ) → a ≡ b → c ≡ e → b + e ≡ all → a + c ≡ all
    by a b c e all p q r = omega arith

-- ---- the first solve

pub none_solved : (m : Parts) (d : List (Place × ℤ)) (l : Limits) (steps : ℕ) (s : Solved) → s.made ≡ [] → s.left ≡ l.nodes
    → AreSolved m d l steps s
none_solved m d l steps s e f =
    let none = ap length e in
    let used = ap nodes_made e in
    record {
      right = λ k r got. absurd (let no = rw e at got in cc);
      nodes = by (nodes_made s.made) s.left l.nodes used f;
      most = let zero = none in omega arith;
    }
  where
    by : (a b c : ℕ) → a ≡ 0 → b ≡ c → a + b ≡ c
    by a b c p q = omega arith

pub none_few : (m : Parts) (ms : List Made) → ms ≡ [] → AreFew m ms
none_few m ms e = record { values = []; among = tt; different = tt; few = let none = ap length e in omega arith }

pub first_next : (m : Parts) (steps : ℕ) (ms : List Made) → ms ≡ [] → IsNextStep m steps ms (pos 0) (pos 1)
first_next m steps ms e = record {
  whole = refl;
  step = refl;
  new_step = λ k l. absurd (let none = ap length e in omega arith);
  named = first refl;
}

-- what is known after it
pub record IsFirst (m : Parts) (d : List (Place × ℤ)) (l : Limits) (steps : ℕ) (s : Solved) : Type 0 where
  pub solved : AreSolved m d l steps s
  pub one : length s.made ≡ 1
  pub start : step_at s.made 0 ≡ 0

pub first_solved : (m : Parts) (d : List (Place × ℤ)) (l : Limits) (steps : ℕ) (s s' : Solved) → s.made ≡ [] → s.left ≡ l.nodes
    → IsOneMore (row_at m d 0) l 0 s s' → IsFirst m d l steps s'
first_solved m d l steps s s' e f h =
    let alone : s'.made ≡ h.one ∷ [] = h.made_is ∙ ap (λ (xs : List Made). xs ++ h.one ∷ []) e in
    record {
      solved = solved_more m d l steps 0 s s' (none_solved m d l steps s e f) (first_next m steps s.made e) h;
      one = ap length alone;
      start = ap (λ (xs : List Made). step_at xs 0) alone ∙ step_is (row_at m d 0) l 0 s s' h;
    }

one_number : (ms : List Made) (k : ℕ) → length ms ≡ 1 → k < length ms → k ≡ 0
one_number ms k e l = omega arith

first_at_hand : (m : Parts) (ms : List Made) → 0 < length ms → step_at ms 0 ≡ 0
    → IsRunAfter m ms 0 None (record { first = 0; last = 0 })
first_at_hand m ms le e = record { run = record { start = le; end = le; order = omega arith; same = refl }; from = e; falls = tt }

one_value : (m : Parts) (ms : List Made) (n : ℕ) → 0 < length ms → length ms + n ≤ 22 → AreFewWith m ms n
one_value m ms n some le = record {
  values = value_at m ms 0 ∷ [];
  among = ((0, some, refl), tt);
  different = (tt, tt);
  few = omega arith;
}

-- a walk of one solve or two, in plain parts
walk_from : (m : Parts) (d : List (Place × ℤ)) (l : Limits) (steps : ℕ) (w : Walk) (ns : List ℕ) → AreSolved m d l steps w.solved
    → w.runs.items ≡ [] → w.run ≡ record { first = 0; last = 0 } → reverse w.waiting.items ≡ ns → 0 < length w.solved.made
    → step_at w.solved.made 0 ≡ 0 → IsChainTo m steps w.solved.made 0 ns → IsWalking m d l steps w
walk_from m d l steps w ns all runs run waiting some start chain =
    subst (λ (xs : List ℕ). IsWalk m d l steps w.solved w.runs.items w.run xs) (sym waiting)
    (subst (λ (r : Run). IsWalk m d l steps w.solved w.runs.items r ns) (sym run)
    (subst (λ (rs : List Run). IsWalk m d l steps w.solved rs (record { first = 0; last = 0 }) ns) (sym runs)
    (record { solved = all; runs = tt; at_hand = first_at_hand m w.solved.made some start; chain = chain })))

pub walk_of_one : (m : Parts) (d : List (Place × ℤ)) (l : Limits) (steps : ℕ) (w : Walk) → steps ≡ 0 → IsFirstRun m d l steps w
    → IsWalking m d l steps w
walk_of_one m d l steps w none h =
    let one = h.one in
    walk_from m d l steps w [] h.solved h.runs h.run (ap reverse h.waiting) (omega arith) h.start (record {
      halvings = 0;
      chain = tt;
      end = h.start ∙ sym none;
      counted = one_value m w.solved.made 0 (omega arith) (omega arith);
    })

-- ---- the second solve

pub last_next : (m : Parts) (d : List (Place × ℤ)) (l : Limits) (steps : ℕ) (w : Walk) → steps ≢ 0 → IsFirstRun m d l steps w
    → IsNextStep m steps w.solved.made (pos steps) (pos 1)
last_next m d l steps w some h = record {
  whole = refl;
  step = refl;
  new_step = λ k le e. some (sym e ∙ ap (step_at w.solved.made) (one_number w.solved.made k h.one le) ∙ h.start);
  named = last refl;
}

pub first_few : (m : Parts) (d : List (Place × ℤ)) (l : Limits) (steps : ℕ) (w : Walk) → IsFirstRun m d l steps w → AreFew m w.solved.made
first_few m d l steps w h =
    let one = h.one in few_of m w.solved.made 0 (one_value m w.solved.made 0 (omega arith) (omega arith))

two_linked : (m : Parts) (steps : ℕ) (ms : List Made) → steps ≤ 10 ^ 6 → steps ≢ 0 → length ms ≡ 2 → step_at ms 0 ≡ 0 → step_at ms 1 ≡ steps
    → IsLink m ms 0 1 20
two_linked m steps ms most some two start end = record {
  inside = omega arith;
  apart = positive steps (step_at ms 0) (step_at ms 1) some start end;
  none = λ k le more less. by k (old_or_new k 1 (omega arith)) more less;
  few = omega arith;
  gap = λ differ. omega arith;
}
  where
    positive : (steps a b : ℕ) → steps ≢ 0 → a ≡ 0 → b ≡ steps → a < b
    positive zero a b some e f = absurd (some refl)
    positive (suc n) a b some e f = omega arith

    by : (k : ℕ) → (k < 1) ⊎ (k ≡ 1) → step_at ms 0 < step_at ms k → step_at ms k < step_at ms 1 → ⊥
    by k (inl l) more less = let e = ap (step_at ms) (zero_of k l) in omega arith
      where
        zero_of : (k : ℕ) → k < 1 → k ≡ 0
        zero_of k l = omega arith
    by k (inr e) more less = let f = ap (step_at ms) e in omega arith

pub walk_of_two : (m : Parts) (d : List (Place × ℤ)) (l : Limits) (steps : ℕ) (w v : Walk) → steps ≤ 10 ^ 6 → steps ≢ 0
    → IsFirstRun m d l steps w → IsOneMore (row_at m d steps) l steps w.solved v.solved → WaitsToo (length w.solved.made) w v
    → IsWalking m d l steps v
walk_of_two m d l steps w v most some h more waits =
    let all = solved_more m d l steps steps w.solved v.solved h.solved (last_next m d l steps w some h) more in
    let ms = w.solved.made ++ more.one ∷ [] in
    let one = h.one in
    let long : length v.solved.made ≡ 2 = ap length more.made_is ∙ one_longer w.solved.made more.one ∙ ap (λ (k : ℕ). k + 1) one in
    let start : step_at v.solved.made 0 ≡ 0 = ap (λ (xs : List Made). step_at xs 0) more.made_is
    ∙ step_kept w.solved.made (more.one ∷ []) 0 (omega arith) ∙ h.start in
    let end : step_at v.solved.made 1 ≡ steps = ap (λ (xs : List Made). step_at xs 1) more.made_is
    ∙ ap (step_at ms) (sym one) ∙ new_step w.solved.made more.one ∙ step_is (row_at m d steps) l steps w.solved v.solved more in
    let waiting : v.waiting.items ≡ 1 ∷ [] = waits.waiting ∙ ap (λ (xs : List ℕ). xs ++ length w.solved.made ∷ []) h.waiting
    ∙ ap (λ (k : ℕ). k ∷ []) one in
    walk_from m d l steps v (1 ∷ []) all (waits.runs ∙ h.runs) (waits.run ∙ h.run) (ap reverse waiting) (omega arith) start (record {
      halvings = 20;
      chain = (20, 0, two_linked m steps v.solved.made most some long start end, omega arith, tt);
      end = end;
      counted = one_value m v.solved.made 20 (omega arith) (omega arith);
    })
