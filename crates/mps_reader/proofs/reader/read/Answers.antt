use Rattle.std.proofs.Common.{ap, ◌≡◌, true, false, subst, refl}
use Rattle.std.specs.Prelude.{Bool, Some, if◌then◌else◌}
use Rattle.std.specs.Str.{is_utf8}
use Rattle.std.proofs.lemmas.Str.{IsUtf8-from_is_utf8, is_utf8-from_IsUtf8}
use Rattle.ip_defs.specs.Lists.{first_of}
use Rattle.mps_defs.specs.Records.{lines_of}
use Rattle.mps_defs.specs.Faults.{IsFirst, all_line_faults, faults_of_lines}
use Rattle.mps_defs.specs.declared.reading.MpsError.TheVariants as Out
use Rattle.mps_reader.specs.Internal.Progress.{Stands}
use Rattle.mps_reader.proofs.FaultLaws.{read_model, read_fault}
use Rattle.mps_reader.proofs.UncrossedLaws.{answer_uncrossed}
use Rattle.mps_reader.proofs.reader.read.Goals as goal

pub returns-in-Ok-draft_of-clause-model : goal.returns-in-Ok-draft_of-clause-model
returns-in-Ok-draft_of-clause-model c =
    let given = c.in-Ok.ensures.cases in
    let good = is_utf8-from_IsUtf8 c.args.text.now given.1 in
    read_model c.args.text.now c.args.how c.model_of.result good
    (c.model_of.ensures (lines_of c.args.text.now)
    (subst (λ t. Stands (lines_of t) c.in-Ok-draft_of.draft) given.0 c.in-Ok-draft_of.ensures))

pub returns-in-Ok-draft_of-clause-uncrossed : goal.returns-in-Ok-draft_of-clause-uncrossed
returns-in-Ok-draft_of-clause-uncrossed c =
    answer_uncrossed c.args.text.now c.args.how c.model_of.result (returns-in-Ok-draft_of-clause-model c)

pub returns-in-Err-draft_of-clause-model : goal.returns-in-Err-draft_of-clause-model
returns-in-Err-draft_of-clause-model c =
    let given = c.in-Ok.ensures.cases in
    let good = is_utf8-from_IsUtf8 c.args.text.now given.1 in
    read_fault c.args.text.now c.args.how c.in-Err-draft_of.error good
    (subst (λ t. IsFirst (first_of (all_line_faults (lines_of t))) c.in-Err-draft_of.error) given.0 c.in-Err-draft_of.ensures)

pub returns-in-Err-clause-model : goal.returns-in-Err-clause-model
returns-in-Err-clause-model c = by (is_utf8 c.args.text.now) refl
  where
    by : (t : Bool) → is_utf8 c.args.text.now ≡ t
        → (if is_utf8 c.args.text.now then first_of (faults_of_lines (lines_of c.args.text.now) c.args.how) else Some Out.NotUtf8)
        ≡ Some Out.NotUtf8
    by true e = absurd (c.in-Err.ensures.cases.0 (IsUtf8-from_is_utf8 c.args.text.now e))
    by false e = ap (λ t. if t then first_of (faults_of_lines (lines_of c.args.text.now) c.args.how) else Some Out.NotUtf8) e
