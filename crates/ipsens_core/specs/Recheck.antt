-- What `recheck` owes to its model, to the sweep of its sweep file and to the proof of a sweep: the verdict of the rules.
use Rattle.std.specs.Prelude.{◌≡◌, ◌↔◌, ℕ, List, ℤ}
use Rattle.ip_defs.specs.declared.programs.Parts.{Parts}
use Rattle.ip_model.specs.declared.places.Place.{Place}
use Rattle.sens_report.specs.SweepVerdictTexts.{sweep_verdict_line}
use Rattle.sweep_proof.specs.RowRules.{row_rules}
use Rattle.sweep_proof.specs.RowSweeps.{IsExactRowSweep}
use Rattle.sweep_proof.specs.declared.row_sweeps.RowPiece.{RowPiece}
use Rattle.sweep_proof.specs.declared.verdicts.SweepVerdict.{SweepVerdict}
use Rattle.sweep_proof.specs.declared.verdicts.SweepVerdict.TheVariants.{Proved, Cover, Breach, Fall, Meet, Short}
use Rattle.ipsens_core.specs.Answers.{Answer, says}
use Rattle.ipsens_core.specs.Reads.{Reads}
use Rattle.ipsens_core.specs.SweepFiles.{ReadsSweep}
use Rattle.ipsens_core.specs.SweepProofFiles.{ReadsRows}
use Rattle.ipsens_core.specs.declared.statuses.Status.{Status}
use Rattle.ipsens_core.specs.declared.statuses.Status.TheVariants.{Answered, NotProved}

-- the status of a verdict on the proof of a sweep
abbrev pub sweep_verdict_status : SweepVerdict → Status
sweep_verdict_status Proved = Answered
sweep_verdict_status (Cover k) = NotProved
sweep_verdict_status (Breach k place) = NotProved
sweep_verdict_status (Fall k left right) = NotProved
sweep_verdict_status (Meet k left right) = NotProved
sweep_verdict_status (Short k bound claim) = NotProved

abbrev pub sweep_verdict_answer : Parts → SweepVerdict → Answer
sweep_verdict_answer m v = says (sweep_verdict_status v) (sweep_verdict_line m v)

-- an answer is the verdict of the rules on pieces. Its status is 0 exactly where the rules say proved, and then the sweep is exact: its
-- pieces cover the steps, and the claim of each is the optimal value at each of its steps
pub record IsRechecked (m : Parts) (d : List (Place × ℤ)) (steps : ℕ) (ps : List RowPiece) (a : Answer) : Type 0 where
  pub verdict : a ≡ sweep_verdict_answer m (row_rules m d steps ps)
  pub proved : (a.status ≡ Answered) ↔ (row_rules m d steps ps ≡ Proved)
  pub exact : a.status ≡ Answered → IsExactRowSweep m d steps ps

-- the answer of `recheck` to its model, to its sweep file and then to the file of the sweep's proof
abbrev pub AnswersRecheck : List ℕ → List ℕ → Parts → Reads → Answer → Type 0
AnswersRecheck sweep proof m = ReadsSweep sweep m (λ d steps. ReadsRows proof m (IsRechecked m d steps))
