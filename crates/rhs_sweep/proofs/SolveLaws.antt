-- Lists of right solves: one more solve, the solves as solves at steps, and their values, which never rise.
use Rattle.std.specs.Prelude.{◌≡◌, ℕ, zero, suc, ◌+◌, ◌-◌, ◌<◌, ◌≤◌, List, [], ◌∷◌, ◌++◌, length, take, Option, Some, slice_get}
use Rattle.std.specs.Prelude.{ℤ}
use Rattle.std.proofs.Common.{arith, refl, ap, sym, subst}
use Rattle.std.proofs.lemmas.List.{take-append-le}
use Rattle.std.proofs.lemmas.List.Sums.{sum_by-append}
use Rattle.std.proofs.Math.Seq.{take-append_seam}
use Rattle.branching.specs.Outcomes.{IsFinished, IsRightOutcome}
use Rattle.branching.specs.declared.budgets.Limits.{Limits}
use Rattle.ip_defs.specs.Lists.{Each}
use Rattle.ip_defs.specs.declared.programs.Parts.{Parts}
use Rattle.ip_model.specs.declared.places.Place.{Place}
use Rattle.node_bounds.specs.declared.reasons.Why.{Why}
use Rattle.perturbation.specs.Lines.{row_at}
use Rattle.proof_tree.specs.declared.claims.Claim.{Claim}
use Rattle.proof_tree.specs.declared.claims.Claim.TheVariants as Claims
use Rattle.proof_tree.specs.declared.claims.Proof.{Proof}
use Rattle.rhs_sweep.specs.RowSolves.{next_steps, step_model}
use Rattle.rhs_sweep.proofs.ValueLaws.{claims_fall, solve_is_true, IsAtMostValue}
use Rattle.sweep_pieces.proofs.RunLaws.{finished_solves_are_solves}
use Rattle.sweep_pieces.specs.Runs.{IsSolve, step_at, step_of, step_in, value_at, value_in}
use Rattle.sweep_proof.specs.RowSweeps.{IsWidening}
use Rattle.sweep_solves.specs.Solves.{AreRight, IsRightAfter, ModelsAt, Nexts, left_by, nodes_made, nodes_of, outcome_by}
use Rattle.sweep_solves.specs.Solves.{outcome_of, with_nodes}
use Rattle.sweep_solves.specs.declared.made_solves.Made.{Made}

-- ---- one more

-- an element of a list with one more is one of the others or that one
pub got_more : {A : Type 0} (xs : List A) (x : A) (i : ℕ) (y : A) (P : Type 0) → slice_get (xs ++ x ∷ []) i ≡ Some y
    → (i < length xs → slice_get xs i ≡ Some y → P) → (i ≡ length xs → x ≡ y → P) → P
got_more [] x zero y P e old new = new refl cc
got_more [] x (suc i) y P e old new = absurd cc
got_more (z ∷ xs) x zero y P e old new = old (omega arith) e
got_more (z ∷ xs) x (suc i) y P e old new = got_more xs x i y P e (λ l f. old (omega arith) f) (λ f. new (ap suc f))

pub right_more : (at : ModelsAt) (next : Nexts) (l : Limits) (ms : List Made) (one : Made) → AreRight at next l ms
    → IsRightAfter at next l ms one → AreRight at next l (ms ++ one ∷ [])
right_more at next l ms one all more = λ k s got. got_more ms one k s (IsRightAfter at next l (take k (ms ++ one ∷ [])) s) got
    (λ le old. subst (λ (ns : List Made). IsRightAfter at next l ns s) (sym (take-append-le k ms (one ∷ []) (omega arith))) (all k s old))
    (λ e f. subst (λ (j : ℕ). IsRightAfter at next l (take j (ms ++ one ∷ [])) s) (sym e)
    (subst (λ (ns : List Made). IsRightAfter at next l ns s) (sym (take-append_seam ms (one ∷ [])))
    (subst (λ (r : Made). IsRightAfter at next l ms r) f more)))

-- what is left, as the solves that were made leave it
pub left_is : (l : Limits) (ms : List Made) (left : ℕ) → nodes_made ms + left ≡ l.nodes → with_nodes left l ≡ left_by ms l
left_is l ms left e = ap (λ (n : ℕ). with_nodes n l) (by (nodes_made ms) left l.nodes e)
  where
    by : (a b c : ℕ) → a + b ≡ c → b ≡ c - a
    by a b c e = omega arith

pub made_more : (ms : List Made) (one : Made) → nodes_made (ms ++ one ∷ []) ≡ nodes_made ms + nodes_of one
made_more ms one = let sum = sum_by-append nodes_of ms (one ∷ []) in omega arith

-- ---- solves at steps

finished_by : (n : Parts) (l : Limits) (c : Claim) (p : Proof) (whys : List Why) → IsRightOutcome n l (outcome_by c p whys)
    → IsFinished n l p whys
finished_by n l (Claims.Best x) p whys h = h.1
finished_by n l Claims.Empty p whys h = h.1

pub finished_of : (n : Parts) (l : Limits) (s : Made) → IsRightOutcome n l (outcome_of s) → IsFinished n l s.proof s.reasons
finished_of n l s h = finished_by n l s.proof.claim s.proof s.reasons h

pub solve_of : (m : Parts) (d : List (Place × ℤ)) (l : Limits) (steps : ℕ) (before : List Made) (s : Made)
    → IsRightAfter (step_model m d) (next_steps m steps) l before s → IsSolve m d s
solve_of m d l steps before s h = finished_solves_are_solves m d (left_by before l) s h.named.step h.named.whole
    (finished_of (row_at m d (step_of s)) (left_by before l) s h.right)

each_by : {A : Type 0} (P : A → Type 0) (xs : List A) → ((k : ℕ) (x : A) → slice_get xs k ≡ Some x → P x) → Each P xs
each_by P [] h = tt
each_by P (x ∷ xs) h = (h 0 x refl, each_by P xs (λ k y got. h (suc k) y got))

pub all_solves : (m : Parts) (d : List (Place × ℤ)) (l : Limits) (steps : ℕ) (ms : List Made)
    → AreRight (step_model m d) (next_steps m steps) l ms → Each (IsSolve m d) ms
all_solves m d l steps ms h = each_by (IsSolve m d) ms (λ k s got. solve_of m d l steps (take k ms) s (h k s got))

-- ---- values

-- the solve with a number
pub solve_numbered : (ms : List Made) (k : ℕ) → k < length ms → (s : Made) × (slice_get ms k ≡ Some s)
solve_numbered [] k le = absurd (omega arith)
solve_numbered (s ∷ ms) zero le = (s, refl)
solve_numbered (s ∷ ms) (suc k) le = solve_numbered ms k (omega arith)

pub values_fall : (m : Parts) (d : List (Place × ℤ)) (l : Limits) (steps : ℕ) (ms : List Made) (a b : ℕ) → IsWidening d
    → AreRight (step_model m d) (next_steps m steps) l ms → a < length ms → b < length ms → step_at ms a ≤ step_at ms b
    → IsAtMostValue (value_at m ms b) (value_at m ms a)
values_fall m d l steps ms a b out all in_a in_b le =
    let one = solve_numbered ms a in_a in
    let two = solve_numbered ms b in_b in
    let s = one.0 in
    let t = two.0 in
    let first = solve_of m d l steps (take a ms) s (all a s one.1) in
    let second = solve_of m d l steps (take b ms) t (all b t two.1) in
    let rise : step_of s ≤ step_of t = subst (λ (j : ℕ). j ≤ step_of t) (ap step_in one.1)
    (subst (λ (j : ℕ). step_at ms a ≤ j) (ap step_in two.1) le) in
    let falls = claims_fall m d (step_of s) (step_of t) s.proof.claim t.proof.claim out rise (solve_is_true m d s first)
    (solve_is_true m d t second) in
    subst (λ (v : Option ℤ). IsAtMostValue v (value_at m ms a)) (sym (ap (value_in m) two.1))
    (subst (λ (v : Option ℤ). IsAtMostValue (value_in m (Some t)) v) (sym (ap (value_in m) one.1)) falls)

-- a step is at most the last one, as all before it are
