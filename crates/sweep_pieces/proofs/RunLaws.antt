-- Runs that follow each other: one more run, further solves, and what makes a solve.
use Rattle.std.specs.Prelude.{◌≡◌, ℕ, zero, suc, ◌+◌, ◌<◌, ◌≤◌, List, [], ◌∷◌, ◌++◌, length, Option, Some, None, slice_get, ℤ, pos}
use Rattle.std.proofs.Common.{arith, refl, ap, sym, ◌∙◌, subst}
use Rattle.std.proofs.lemmas.List.{length-append}
use Rattle.branching.specs.Outcomes.{IsFinished, IsRightOutcome}
use Rattle.branching.specs.declared.budgets.Limits.{Limits}
use Rattle.ip_defs.specs.declared.programs.Parts.{Parts}
use Rattle.ip_model.specs.declared.places.Place.{Place}
use Rattle.perturbation.specs.Lines.{row_at}
use Rattle.proof_tree.specs.Trees.{FitsColumns, FitsRows, plain}
use Rattle.proof_tree.specs.Verdicts.{HasLength}
use Rattle.proof_tree.specs.declared.claims.Claim.{Claim}
use Rattle.proof_tree.specs.declared.claims.Claim.TheVariants.{Best, Empty}
use Rattle.proof_tree.proofs.WithinLaws.{limits_are_exact}
use Rattle.sweep_pieces.specs.Laws.{FinishedSolvesAreSolves, RunsAreKept, RunsGoOn}
use Rattle.sweep_pieces.specs.Runs.{AreRuns, IsRun, IsRunAfter, IsSolve, MayFollow, next_after, step_at, step_in, step_of, value_after}
use Rattle.sweep_pieces.specs.Runs.{value_at, value_in}
use Rattle.sweep_pieces.specs.declared.runs.Run.{Run}
use Rattle.sweep_proof.proofs.DirectionLaws.{alike_step}
use Rattle.sweep_solves.specs.Solves.{outcome_by, outcome_of}
use Rattle.sweep_solves.specs.declared.made_solves.Made.{Made}

-- ---- one more run

runs_added : (m : Parts) (ms : List Made) (next : ℕ) (before : Option (Option ℤ)) (rs : List Run) (r : Run)
    → AreRuns m ms next before rs → IsRunAfter m ms (next_after ms next rs) (value_after m ms before rs) r
    → AreRuns m ms next before (rs ++ r ∷ [])
runs_added m ms next before [] r all one = (one, tt)
runs_added m ms next before (q ∷ rs) r all one =
    (all.0, runs_added m ms (step_at ms q.last + 1) (Some (value_at m ms q.first)) rs r all.1 one)

pub next_added : (ms : List Made) (next : ℕ) (rs : List Run) (r : Run) → next_after ms next (rs ++ r ∷ []) ≡ step_at ms r.last + 1
next_added ms next [] r = refl
next_added ms next (q ∷ rs) r = next_added ms (step_at ms q.last + 1) rs r

value_added : (m : Parts) (ms : List Made) (before : Option (Option ℤ)) (rs : List Run) (r : Run)
    → value_after m ms before (rs ++ r ∷ []) ≡ Some (value_at m ms r.first)
value_added m ms before [] r = refl
value_added m ms before (q ∷ rs) r = value_added m ms (Some (value_at m ms q.first)) rs r

pub runs_go_on : RunsGoOn
runs_go_on m ms rs next before r all one = record {
  runs = runs_added m ms 0 None rs r all.runs
      (subst (λ (n : ℕ). IsRunAfter m ms n (value_after m ms None rs) r) (sym all.reach)
      (subst (λ (v : Option (Option ℤ)). IsRunAfter m ms next v r) (sym all.value) one));
  reach = next_added ms 0 rs r;
  value = value_added m ms None rs r;
}

-- a run that ends at a later solve of the same value
pub run_longer : (m : Parts) (ms : List Made) (next : ℕ) (before : Option (Option ℤ)) (r q : Run) → IsRunAfter m ms next before r
    → q.first ≡ r.first → q.last < length ms → step_at ms r.last ≤ step_at ms q.last → value_at m ms r.last ≡ value_at m ms q.last
    → IsRunAfter m ms next before q
run_longer m ms next before r q h first last later same = record {
  run = record {
    start = subst (λ (k : ℕ). k < length ms) (sym first) h.run.start;
    end = last;
    order = subst (λ (k : ℕ). step_at ms k ≤ step_at ms q.last) (sym first) (let order = h.run.order in omega arith);
    same = ap (value_at m ms) first ∙ h.run.same ∙ same;
  };
  from = ap (step_at ms) first ∙ h.from;
  falls = subst (λ (k : ℕ). MayFollow before (value_at m ms k)) (sym first) h.falls;
}

-- ---- further solves

got_before : {A : Type 0} (xs ys : List A) (k : ℕ) → k < length xs → slice_get (xs ++ ys) k ≡ slice_get xs k
got_before [] ys k l = absurd (omega arith)
got_before (x ∷ xs) ys zero l = refl
got_before (x ∷ xs) ys (suc k) l = got_before xs ys k (omega arith)

pub step_kept : (ms more : List Made) (k : ℕ) → k < length ms → step_at (ms ++ more) k ≡ step_at ms k
step_kept ms more k l = ap step_in (got_before ms more k l)

pub value_kept : (m : Parts) (ms more : List Made) (k : ℕ) → k < length ms → value_at m (ms ++ more) k ≡ value_at m ms k
value_kept m ms more k l = ap (value_in m) (got_before ms more k l)

longer : (ms more : List Made) (k : ℕ) → k < length ms → k < length (ms ++ more)
longer ms more k l = let sum = length-append ms more in omega arith

pub run_kept : (m : Parts) (ms more : List Made) (r : Run) → IsRun m ms r → IsRun m (ms ++ more) r
run_kept m ms more r h = record {
  start = longer ms more r.first h.start;
  end = longer ms more r.last h.end;
  order = let from = step_kept ms more r.first h.start in let to = step_kept ms more r.last h.end in let order = h.order in omega arith;
  same = value_kept m ms more r.first h.start ∙ h.same ∙ sym (value_kept m ms more r.last h.end);
}

pub run_after_kept : (m : Parts) (ms more : List Made) (next : ℕ) (before : Option (Option ℤ)) (r : Run) → IsRunAfter m ms next before r
    → IsRunAfter m (ms ++ more) next before r
run_after_kept m ms more next before r h = record {
  run = run_kept m ms more r h.run;
  from = step_kept ms more r.first h.run.start ∙ h.from;
  falls = subst (MayFollow before) (sym (value_kept m ms more r.first h.run.start)) h.falls;
}

all_kept : (m : Parts) (ms more : List Made) (next : ℕ) (before : Option (Option ℤ)) (rs : List Run) → AreRuns m ms next before rs
    → AreRuns m (ms ++ more) next before rs
all_kept m ms more next before [] all = tt
all_kept m ms more next before (r ∷ rs) all =
    let rest = all_kept m ms more (step_at ms r.last + 1) (Some (value_at m ms r.first)) rs all.1 in (
      run_after_kept m ms more next before r all.0,
      subst (λ (n : ℕ). AreRuns m (ms ++ more) (n + 1) (Some (value_at m (ms ++ more) r.first)) rs)
          (sym (step_kept ms more r.last all.0.run.end))
          (subst (λ (v : Option ℤ). AreRuns m (ms ++ more) (step_at ms r.last + 1) (Some v) rs)
          (sym (value_kept m ms more r.first all.0.run.start)) rest),
    )

next_kept : (m : Parts) (ms more : List Made) (next : ℕ) (before : Option (Option ℤ)) (rs : List Run) → AreRuns m ms next before rs
    → next_after (ms ++ more) next rs ≡ next_after ms next rs
next_kept m ms more next before [] all = refl
next_kept m ms more next before (r ∷ rs) all =
    ap (λ (n : ℕ). next_after (ms ++ more) (n + 1) rs) (step_kept ms more r.last all.0.run.end)
    ∙ next_kept m ms more (step_at ms r.last + 1) (Some (value_at m ms r.first)) rs all.1

last_value_kept : (m : Parts) (ms more : List Made) (next : ℕ) (before : Option (Option ℤ)) (rs : List Run)
    → AreRuns m ms next before rs → value_after m (ms ++ more) before rs ≡ value_after m ms before rs
last_value_kept m ms more next before [] all = refl
last_value_kept m ms more next before (r ∷ rs) all =
    ap (λ (v : Option ℤ). value_after m (ms ++ more) (Some v) rs) (value_kept m ms more r.first all.0.run.start)
    ∙ last_value_kept m ms more (step_at ms r.last + 1) (Some (value_at m ms r.first)) rs all.1

pub runs_are_kept : RunsAreKept
runs_are_kept m ms more rs next before h = record {
  runs = all_kept m ms more 0 None rs h.runs;
  reach = next_kept m ms more 0 None rs h.runs ∙ h.reach;
  value = last_value_kept m ms more 0 None rs h.runs ∙ h.value;
}

-- ---- solves

pub finished_solves_are_solves : FinishedSolvesAreSolves
finished_solves_are_solves m d l s step whole h =
    let same = alike_step m d (step_of s) in
    record {
      step = step;
      whole = whole;
      proved = h.proved;
      point = subst (λ (n : ℕ). HasLength n s.proof.claim) same.columns h.point;
      fits = record {
        columns = subst (λ (n : ℕ). FitsColumns n (plain s.proof.tree)) same.columns h.fits.columns;
        rows = subst (λ (n : ℕ). FitsRows n (plain s.proof.tree)) same.rows h.fits.rows;
      };
      limits = (limits_are_exact (plain s.proof.tree)).0 h.limits;
    }

-- a right outcome that is no stop is a finished proof
right_is_finished : (m : Parts) (l : Limits) (s : Made) → IsRightOutcome m l (outcome_of s) → IsFinished m l s.proof s.reasons
right_is_finished m l s h = by s.proof.claim h
  where
    by : (c : Claim) → IsRightOutcome m l (outcome_by c s.proof s.reasons) → IsFinished m l s.proof s.reasons
    by (Best x) h = h.1
    by Empty h = h.1

pub right_solve : (m : Parts) (d : List (Place × ℤ)) (l : Limits) (s : Made) → s.p ≡ pos (step_of s) → s.q ≡ pos 1
    → IsRightOutcome (row_at m d (step_of s)) l (outcome_of s) → IsSolve m d s
right_solve m d l s step whole h =
    finished_solves_are_solves m d l s step whole (right_is_finished (row_at m d (step_of s)) l s h)
