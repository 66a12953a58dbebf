-- Walks: their turns, their beginning and their end.
use Rattle.std.specs.Prelude.{◌≡◌, ◌≢◌, ℕ, ◌+◌, List, [], ◌∷◌, ◌++◌, length, Option, Some, None, ℤ, pos}
use Rattle.std.proofs.Common.{arith, refl, ap, sym, ◌∙◌, subst}
use Rattle.std.proofs.lemmas.Int.{ints}
use Rattle.frac128.specs.Gcd.{gcd}
use Rattle.branching.specs.Sizes.{count}
use Rattle.branching.specs.BestFirst.{IsBestFirst}
use Rattle.branching.specs.Outcomes.{IsRightOutcome}
use Rattle.branching.specs.declared.budgets.Limits.{Limits}
use Rattle.ip_defs.specs.declared.programs.Parts.{Parts}
use Rattle.ip_model.specs.declared.places.Place.{Place}
use Rattle.perturbation.specs.Lines.{row_at}
use Rattle.rhs_sweep.specs.RowSolves.{AreFew, IsNextStep, next_steps, step_model}
use Rattle.rhs_sweep.specs.Internal.Solving.{IsOneMore}
use Rattle.rhs_sweep.specs.Internal.Walks.{AreFewWith, AreSolved, IsChainTo, IsWalk, IsWideAt}
use Rattle.rhs_sweep.specs.declared.solving.Solved.{Solved}
use Rattle.rhs_sweep.proofs.ChainLaws.{chain_passed, one_longer}
use Rattle.rhs_sweep.proofs.HalfLaws.{NeverRise, half_is_next, halved_chain}
use Rattle.rhs_sweep.proofs.SolveLaws.{left_is, made_more, right_more, values_fall}
use Rattle.rhs_sweep.proofs.ValueLaws.{below_of}
use Rattle.sweep_pieces.proofs.RunLaws.{run_after_kept, run_longer, runs_are_kept, runs_go_on}
use Rattle.sweep_pieces.specs.Runs.{AreRuns, AreRunsTo, IsRunAfter, next_after, step_at, step_of, value_after, value_at}
use Rattle.sweep_pieces.specs.declared.runs.Run.{Run}
use Rattle.sweep_proof.specs.RowSweeps.{IsBelow, IsWidening}
use Rattle.sweep_solves.specs.Solves.{AreRight, IsInLowestTerms, IsRightAfter, left_by, nodes_made, nodes_of, outcome_of}
use Rattle.sweep_solves.specs.declared.made_solves.Made.{Made}

-- ---- one more solve

-- a step is in lowest terms
whole_lowest : (n : ℕ) → gcd n 1 ≡ 1
unfolding gcd
whole_lowest n = refl

lowest_step : (p q : ℤ) (t : ℕ) → p ≡ pos t → q ≡ pos 1 → IsInLowestTerms p q
lowest_step p q t e f = subst (λ (z : ℤ). IsInLowestTerms z q) (sym e) (subst (λ (z : ℤ). IsInLowestTerms (pos t) z) (sym f)
    (record { positive = omega (arith, ints); lowest = whole_lowest t }))

right_after : (m : Parts) (d : List (Place × ℤ)) (l : Limits) (steps t : ℕ) (s s' : Solved) → AreSolved m d l steps s
    → IsNextStep m steps s.made (pos t) (pos 1) → (h : IsOneMore (row_at m d t) l t s s')
    → IsRightAfter (step_model m d) (next_steps m steps) l s.made h.one
right_after m d l steps t s s' all next h =
    let same : count h.one.p ≡ t = ap count h.p_is in
    let left = left_is l s.made s.left all.nodes in
    record {
      right = subst (λ (k : ℕ). IsRightOutcome (row_at m d k) (left_by s.made l) (outcome_of h.one)) (sym same)
          (subst (λ (given : Limits). IsRightOutcome (row_at m d t) given (outcome_of h.one)) left h.right);
      first = subst (λ (k : ℕ). IsBestFirst (row_at m d k) (outcome_of h.one)) (sym same) h.first;
      named = subst (λ (z : ℤ). IsNextStep m steps s.made z h.one.q) (sym h.p_is)
          (subst (λ (z : ℤ). IsNextStep m steps s.made (pos t) z) (sym h.q_is) next);
      lowest = lowest_step h.one.p h.one.q t h.p_is h.q_is;
    }

pub solved_more : (m : Parts) (d : List (Place × ℤ)) (l : Limits) (steps t : ℕ) (s s' : Solved) → AreSolved m d l steps s
    → IsNextStep m steps s.made (pos t) (pos 1) → IsOneMore (row_at m d t) l t s s' → AreSolved m d l steps s'
solved_more m d l steps t s s' all next h =
    let more = right_more (step_model m d) (next_steps m steps) l s.made h.one all.right (right_after m d l steps t s s' all next h) in
    let sum = made_more s.made h.one in
    let used = ap nodes_made h.made_is in
    let nodes = h.nodes in
    let left = all.nodes in
    let room = h.room in
    let long = one_longer s.made h.one in
    let size = ap length h.made_is in
    record {
      right = subst (AreRight (step_model m d) (next_steps m steps) l) (sym h.made_is) more;
      nodes = by (nodes_made s'.made) (nodes_made (s.made ++ h.one ∷ [])) (nodes_made s.made) (nodes_of h.one) s.left s'.left l.nodes
          used sum nodes left;
      most = omega arith;
    }
  where
    by : (a b c e left left' all : ℕ) → a ≡ b → b ≡ c + e → e + left' ≡ left → c + left ≡ all → a + left' ≡ all
    by a b c e left left' all p q r u = omega arith

never_rise : (m : Parts) (d : List (Place × ℤ)) (l : Limits) (steps : ℕ) (ms : List Made) → IsWidening d
    → AreRight (step_model m d) (next_steps m steps) l ms → NeverRise m ms
never_rise m d l steps ms out all i j in_i in_j le = values_fall m d l steps ms i j out all in_i in_j le

pub step_is : (n : Parts) (l : Limits) (t : ℕ) (s s' : Solved) → (h : IsOneMore n l t s s') → step_of h.one ≡ t
step_is n l t s s' h = ap count h.p_is

-- ---- turns

pub joined : (m : Parts) (d : List (Place × ℤ)) (l : Limits) (steps : ℕ) (s : Solved) (rs : List Run) (run : Run) (b : ℕ) (ns : List ℕ)
    → IsWalk m d l steps s rs run (b ∷ ns) → value_at m s.made run.last ≡ value_at m s.made b
    → IsWalk m d l steps s rs (record { first = run.first; last = b }) ns
joined m d l steps s rs run b ns h same =
    let link = h.chain.chain.2 in
    let apart = link.apart in
    record {
      solved = h.solved;
      runs = h.runs;
      at_hand = run_longer m s.made (next_after s.made 0 rs) (value_after m s.made None rs) run (record { first = run.first; last = b })
          h.at_hand refl link.inside (omega arith) same;
      chain = chain_passed m steps s.made run.last b ns h.chain;
    }

runs_to : (m : Parts) (ms : List Made) (rs : List Run) → AreRuns m ms 0 None rs
    → AreRunsTo m ms rs (next_after ms 0 rs) (value_after m ms None rs)
runs_to m ms rs h = record { runs = h; reach = refl; value = refl }

pub run_settled : (m : Parts) (ms : List Made) (rs : List Run) (run : Run) → AreRuns m ms 0 None rs
    → IsRunAfter m ms (next_after ms 0 rs) (value_after m ms None rs) run
    → AreRunsTo m ms (rs ++ run ∷ []) (step_at ms run.last + 1) (Some (value_at m ms run.first))
run_settled m ms rs run all one =
    runs_go_on m ms rs (next_after ms 0 rs) (value_after m ms None rs) run (runs_to m ms rs all) one

pub begun : (m : Parts) (d : List (Place × ℤ)) (l : Limits) (steps : ℕ) (s : Solved) (rs : List Run) (run : Run) (b : ℕ) (ns : List ℕ)
    → IsWidening d → IsWalk m d l steps s rs run (b ∷ ns) → value_at m s.made run.last ≢ value_at m s.made b
    → step_at s.made b ≡ step_at s.made run.last + 1
    → IsWalk m d l steps s (rs ++ run ∷ []) (record { first = b; last = b }) ns
begun m d l steps s rs run b ns out h differ next =
    let link = h.chain.chain.2 in
    let to = run_settled m s.made rs run h.runs h.at_hand in
    let apart = link.apart in
    let falls = never_rise m d l steps s.made out h.solved.right run.last b h.at_hand.run.end link.inside (omega arith) in
    let below : IsBelow (value_at m s.made b) (value_at m s.made run.last) =
    below_of (value_at m s.made b) (value_at m s.made run.last) falls differ in
    let one : IsRunAfter m s.made (step_at s.made run.last + 1) (Some (value_at m s.made run.first))
    (record { first = b; last = b }) = record {
      run = record { start = link.inside; end = link.inside; order = omega arith; same = refl };
      from = next;
      falls = subst (IsBelow (value_at m s.made b)) (sym h.at_hand.run.same) below;
    } in
    record {
      solved = h.solved;
      runs = to.runs;
      at_hand = subst (λ (n : ℕ). IsRunAfter m s.made n (value_after m s.made None (rs ++ run ∷ [])) (record { first = b; last = b }))
          (sym to.reach)
          (subst (λ (v : Option (Option ℤ)). IsRunAfter m s.made (step_at s.made run.last + 1) v (record { first = b; last = b }))
          (sym to.value) one);
      chain = chain_passed m steps s.made run.last b ns h.chain;
    }

-- runs and the run at hand are kept where solves are added
record AreRunsAt (m : Parts) (ms : List Made) (rs : List Run) (run : Run) : Type 0 where
  pub runs : AreRuns m ms 0 None rs
  pub at_hand : IsRunAfter m ms (next_after ms 0 rs) (value_after m ms None rs) run

all_kept : (m : Parts) (ms more : List Made) (rs : List Run) (run : Run) → AreRuns m ms 0 None rs
    → IsRunAfter m ms (next_after ms 0 rs) (value_after m ms None rs) run → AreRunsAt m (ms ++ more) rs run
all_kept m ms more rs run all one =
    let kept = runs_are_kept m ms more rs (next_after ms 0 rs) (value_after m ms None rs) (runs_to m ms rs all) in
    let own = run_after_kept m ms more (next_after ms 0 rs) (value_after m ms None rs) run one in
    record {
      runs = kept.runs;
      at_hand = subst (λ (n : ℕ). IsRunAfter m (ms ++ more) n (value_after m (ms ++ more) None rs) run) (sym kept.reach)
          (subst (λ (v : Option (Option ℤ)). IsRunAfter m (ms ++ more) (next_after ms 0 rs) v run) (sym kept.value) own);
    }

pub halved : (m : Parts) (d : List (Place × ℤ)) (l : Limits) (steps t : ℕ) (s s' : Solved) (rs : List Run) (run : Run) (b : ℕ) (ns : List ℕ)
    → IsWidening d → IsWalk m d l steps s rs run (b ∷ ns) → IsWideAt m s.made run.last b t → IsOneMore (row_at m d t) l t s s'
    → IsWalk m d l steps s' rs run (length s.made ∷ b ∷ ns)
halved m d l steps t s s' rs run b ns out h wide more =
    let next = half_is_next m steps s.made run.last b t ns h.at_hand.run.end h.chain wide.differ wide.apart wide.middle in
    let all = solved_more m d l steps t s s' h.solved next more in
    let ms = s.made ++ more.one ∷ [] in
    let fall = never_rise m d l steps ms out (subst (AreRight (step_model m d) (next_steps m steps) l) more.made_is all.right) in
    let chain = halved_chain m steps s.made more.one run.last b ns h.at_hand.run.end h.chain wide.differ wide.apart
    (step_is (row_at m d t) l t s s' more ∙ wide.middle) fall in
    let kept = all_kept m s.made (more.one ∷ []) rs run h.runs h.at_hand in
    let kept' : AreRunsAt m s'.made rs run = subst (λ (xs : List Made). AreRunsAt m xs rs run) (sym more.made_is) kept in
    record {
      solved = all;
      runs = kept'.runs;
      at_hand = kept'.at_hand;
      chain = subst (λ (xs : List Made). IsChainTo m steps xs run.last (length s.made ∷ b ∷ ns)) (sym more.made_is) chain;
    }

-- ---- the count

pub few_of : (m : Parts) (ms : List Made) (n : ℕ) → AreFewWith m ms n → AreFew m ms
few_of m ms n h =
    let few = h.few in
    record { values = h.values; among = h.among; different = h.different; few = omega arith }
