-- The laws of runs.
use Rattle.std.specs.Prelude.{◌≡◌, ℕ, ◌+◌, List, [], ◌∷◌, ◌++◌, Option, Some, ℤ, pos}
use Rattle.branching.specs.Outcomes.{IsFinished}
use Rattle.branching.specs.declared.budgets.Limits.{Limits}
use Rattle.ip_defs.specs.declared.programs.Parts.{Parts}
use Rattle.ip_model.specs.declared.places.Place.{Place}
use Rattle.perturbation.specs.Lines.{row_at}
use Rattle.sweep_pieces.specs.Runs.{AreRunsTo, IsRunAfter, IsSolve, step_at, step_of, value_at}
use Rattle.sweep_pieces.specs.declared.runs.Run.{Run}
use Rattle.sweep_solves.specs.declared.made_solves.Made.{Made}

-- a finished proof for the model of a step is a solve there
abbrev pub FinishedSolvesAreSolves : Type 0
FinishedSolvesAreSolves = (m : Parts) (d : List (Place × ℤ)) (l : Limits) (s : Made) → s.p ≡ pos (step_of s) → s.q ≡ pos 1
    → IsFinished (row_at m d (step_of s)) l s.proof s.reasons → IsSolve m d s

-- a run that goes on after others makes one list of runs with them
abbrev pub RunsGoOn : Type 0
RunsGoOn = (m : Parts) (ms : List Made) (rs : List Run) (next : ℕ) (before : Option (Option ℤ)) (r : Run) → AreRunsTo m ms rs next before
    → IsRunAfter m ms next before r → AreRunsTo m ms (rs ++ r ∷ []) (step_at ms r.last + 1) (Some (value_at m ms r.first))

-- further solves change no run
abbrev pub RunsAreKept : Type 0
RunsAreKept = (m : Parts) (ms more : List Made) (rs : List Run) (next : ℕ) (before : Option (Option ℤ)) → AreRunsTo m ms rs next before
    → AreRunsTo m (ms ++ more) rs next before
