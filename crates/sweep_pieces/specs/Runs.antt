-- Runs of steps with one value: what the solves at their ends are, and lists of runs that follow each other from step 0 on.
use Rattle.std.specs.Prelude.{◌≡◌, ℕ, ◌+◌, ◌<◌, ◌≤◌, List, [], ◌∷◌, length, Option, Some, None, slice_get, ℤ, pos}
use Rattle.branching.specs.Sizes.{count}
use Rattle.ip_defs.specs.declared.programs.Parts.{Parts}
use Rattle.ip_model.specs.declared.places.Place.{Place}
use Rattle.perturbation.specs.Lines.{row_at}
use Rattle.proof_tree.specs.Trees.{plain, FitsModel}
use Rattle.proof_tree.specs.Verdicts.{HasLength, IsProved}
use Rattle.proof_tree.specs.Within.{IsTreeWithin}
use Rattle.sweep_pieces.specs.declared.runs.Run.{Run}
use Rattle.sweep_proof.specs.RowRules.{claimed_cost}
use Rattle.sweep_proof.specs.RowSweeps.{IsBelow}
use Rattle.sweep_solves.specs.declared.made_solves.Made.{Made}

-- ---- solves

-- the step of a solve: its parameter, which is no fraction in a row sweep
abbrev pub step_of : Made → ℕ
step_of s = count s.p

-- a solve at a step: its claim is proved by its tree for the model of that step, and both fit and are within the limits
pub record IsSolve (m : Parts) (d : List (Place × ℤ)) (s : Made) : Type 0 where
  pub step : s.p ≡ pos (step_of s)
  pub whole : s.q ≡ pos 1
  pub proved : IsProved (row_at m d (step_of s)) s.proof
  pub point : HasLength (length m.columns) s.proof.claim
  pub fits : FitsModel m (plain s.proof.tree)
  pub limits : IsTreeWithin (plain s.proof.tree)

-- ---- solves by their numbers

abbrev pub step_in : Option Made → ℕ
step_in None = 0
step_in (Some s) = step_of s

abbrev pub value_in : Parts → Option Made → Option ℤ
value_in m None = None
value_in m (Some s) = claimed_cost m s.proof.claim

-- the step of solve k
abbrev pub step_at : List Made → ℕ → ℕ
step_at ms k = step_in (slice_get ms k)

-- its value: the cost of its point, none where it claims emptiness
abbrev pub value_at : Parts → List Made → ℕ → Option ℤ
value_at m ms k = value_in m (slice_get ms k)

-- ---- runs

-- the ends of a run: two solves, the second not at an earlier step, with one value
pub record IsRun (m : Parts) (ms : List Made) (r : Run) : Type 0 where
  pub start : r.first < length ms
  pub end : r.last < length ms
  pub order : step_at ms r.first ≤ step_at ms r.last
  pub same : value_at m ms r.first ≡ value_at m ms r.last

-- a value may follow that of the run before: it is below it, where there is a run before
abbrev pub MayFollow : Option (Option ℤ) → Option ℤ → Type 0
MayFollow None v = Unit {0}
MayFollow (Some w) v = IsBelow v w

-- a run goes on after others: it begins at the next step, and its value is below that of the run before
pub record IsRunAfter (m : Parts) (ms : List Made) (next : ℕ) (before : Option (Option ℤ)) (r : Run) : Type 0 where
  pub run : IsRun m ms r
  pub from : step_at ms r.first ≡ next
  pub falls : MayFollow before (value_at m ms r.first)

-- runs that follow each other, from a next step and the value of the run before on
abbrev pub AreRuns : Parts → List Made → ℕ → Option (Option ℤ) → List Run → Type 0
AreRuns m ms next before [] = Unit {0}
AreRuns m ms next before (r ∷ rs) =
    IsRunAfter m ms next before r × AreRuns m ms (step_at ms r.last + 1) (Some (value_at m ms r.first)) rs

-- the step that is next after runs
abbrev pub next_after : List Made → ℕ → List Run → ℕ
next_after ms next [] = next
next_after ms next (r ∷ rs) = next_after ms (step_at ms r.last + 1) rs

-- the value of the last run
abbrev pub value_after : Parts → List Made → Option (Option ℤ) → List Run → Option (Option ℤ)
value_after m ms before [] = before
value_after m ms before (r ∷ rs) = value_after m ms (Some (value_at m ms r.first)) rs

-- runs from step 0 on, of which a step is next and the last has a value; none has where there is no run yet
pub record AreRunsTo (m : Parts) (ms : List Made) (rs : List Run) (next : ℕ) (before : Option (Option ℤ)) : Type 0 where
  pub runs : AreRuns m ms 0 None rs
  pub reach : next_after ms 0 rs ≡ next
  pub value : value_after m ms None rs ≡ before
