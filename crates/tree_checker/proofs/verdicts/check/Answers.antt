use Rattle.std.proofs.Common.{◌≡◌, ◌∙◌, ap, sym, subst}
use Rattle.ip_defs.specs.declared.certificates.Bound.{Bound}
use Rattle.proof_tree.specs.Verdicts.{IsProvedVerdict, judged, verdict_of}
use Rattle.proof_tree.proofs.VerdictLaws.{proofs_are_true, verdicts_are_exact}
use Rattle.tree_checker.proofs.verdicts.check.Goals as goal

verdict_is : (c : goal.After-judge) → c.judge.result ≡ verdict_of c.args.model.now c.args.proof.now
verdict_is c = c.judge.ensures
    ∙ ap (λ (v : Bound). judged c.args.model.now c.args.proof.now.claim v) c.tree_bound-bound.ensures.bound

pub returns-clause-exact : goal.returns-clause-exact
returns-clause-exact c =
    let v = verdicts_are_exact c.args.model.now c.args.proof.now c.requires.point in
    (λ h. v.0 (subst IsProvedVerdict (verdict_is c) h), λ h. subst IsProvedVerdict (sym (verdict_is c)) (v.1 h))

pub returns-clause-holds : goal.returns-clause-holds
returns-clause-holds c = λ h.
    let v = verdicts_are_exact c.args.model.now c.args.proof.now c.requires.point in
    proofs_are_true c.args.model.now c.args.proof.now c.requires.fits.columns (v.0 (subst IsProvedVerdict (verdict_is c) h))
