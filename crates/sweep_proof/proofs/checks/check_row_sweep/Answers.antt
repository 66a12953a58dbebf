use Rattle.std.specs.Prelude.{◌≡◌}
use Rattle.std.proofs.Common.{◌∙◌, sym}
use Rattle.std.proofs.lemmas.Result.{IfOk-weaker}
use Rattle.sweep_proof.specs.RowRules.{row_rules}
use Rattle.sweep_proof.specs.RowSweeps.{IsExactRowSweep}
use Rattle.sweep_proof.specs.declared.verdicts.SweepVerdict.TheVariants.{Proved}
use Rattle.sweep_proof.proofs.RuleLaws.{row_rules_are_true}
use Rattle.sweep_proof.proofs.checks.check_row_sweep.Goals as goal

pub returns-clause-exact : goal.returns-clause-exact
returns-clause-exact c = λ out.
    let m = c.args.model.now in
    let d = c.args.dir.now in
    let ps = c.args.sweep.now.pieces in
    IfOk-weaker c.judged.result (λ v. v ≡ row_rules m d c.args.steps ps) (λ v. v ≡ Proved → IsExactRowSweep m d c.args.steps ps)
    (λ v e h. row_rules_are_true m d c.args.steps ps out c.requires.fits (sym e ∙ h)) c.judged.ensures.verdict
