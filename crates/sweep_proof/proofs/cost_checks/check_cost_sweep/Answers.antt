use Rattle.std.specs.Prelude.{◌≡◌}
use Rattle.std.proofs.Common.{rules, ◌∙◌, sym}
use Rattle.std.specs.Int.{w64}
use Rattle.std.proofs.lemmas.Int.{to_z-of_z}
use Rattle.std.proofs.lemmas.Result.{IfOk-weaker}
use Rattle.sweep_proof.specs.CostRules.{cost_rules}
use Rattle.sweep_proof.specs.CostSweeps.{IsExactCostSweep}
use Rattle.sweep_proof.specs.declared.verdicts.SweepVerdict.TheVariants.{Proved}
use Rattle.sweep_proof.proofs.CostRuleLaws.{cost_rules_are_true}
use Rattle.sweep_proof.proofs.cost_checks.check_cost_sweep.Goals as goal

pub returns-clause-exact : goal.returns-clause-exact
returns-clause-exact c =
    let m = c.args.model.now in
    let d = c.args.dir.now in
    let s = c.args.sweep.now in
    let from = to_z-of_z w64 c.args.from (search rules) in
    let to = to_z-of_z w64 c.args.to (search rules) in
    IfOk-weaker c.cost_verdict.result (λ v. v ≡ cost_rules m d c.args.from c.args.to s)
    (λ v. v ≡ Proved → IsExactCostSweep m d c.args.from c.args.to s.breaks s.points)
    (λ v e h. cost_rules_are_true m d c.args.from c.args.to s c.requires.fits c.requires.dir (sym e ∙ h))
    (rw (from, to) at c.cost_verdict.ensures.verdict)
