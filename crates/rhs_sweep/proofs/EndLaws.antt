-- How walks end: where no solve waits, the runs and the run at hand reach the last step.
use Rattle.std.specs.Prelude.{◌≡◌, ℕ, ◌+◌, List, [], ◌∷◌, ◌++◌, reverse, None, ℤ}
use Rattle.std.proofs.Common.{ap, sym, ◌∙◌, subst}
use Rattle.branching.specs.declared.budgets.Limits.{Limits}
use Rattle.ip_defs.specs.declared.programs.Parts.{Parts}
use Rattle.ip_model.specs.declared.places.Place.{Place}
use Rattle.rhs_sweep.specs.Internal.Walks.{IsWalk, IsWalking}
use Rattle.rhs_sweep.specs.declared.walks.Walk.{Walk}
use Rattle.rhs_sweep.proofs.WalkLaws.{run_settled}
use Rattle.sweep_pieces.specs.Runs.{AreRuns, next_after}
use Rattle.sweep_pieces.specs.declared.runs.Run.{Run}
use Rattle.sweep_solves.specs.declared.made_solves.Made.{Made}

-- runs from step 0 to the last one
pub record AreWhole (m : Parts) (steps : ℕ) (ms : List Made) (rs : List Run) : Type 0 where
  pub runs : AreRuns m ms 0 None rs
  pub ends : next_after ms 0 rs ≡ steps + 1

pub walk_ended : (m : Parts) (d : List (Place × ℤ)) (l : Limits) (steps : ℕ) (w : Walk) (rs : List Run) → IsWalking m d l steps w
    → w.waiting.items ≡ [] → rs ≡ w.runs.items ++ w.run ∷ [] → AreWhole m steps w.solved.made rs
walk_ended m d l steps w rs h done e =
    let none : IsWalk m d l steps w.solved w.runs.items w.run [] =
    subst (λ (xs : List ℕ). IsWalk m d l steps w.solved w.runs.items w.run (reverse xs)) done h in
    let to = run_settled m w.solved.made w.runs.items w.run none.runs none.at_hand in
    subst (AreWhole m steps w.solved.made) (sym e)
    (record { runs = to.runs; ends = to.reach ∙ ap (λ (k : ℕ). k + 1) none.chain.end })
