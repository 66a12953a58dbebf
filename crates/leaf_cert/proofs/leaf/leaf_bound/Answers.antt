use Rattle.std.proofs.Common.{sym, subst}
use Rattle.ip_defs.specs.Program.{cost}
use Rattle.ip_defs.specs.Certificates.{IsAtMost}
use Rattle.ip_defs.specs.declared.certificates.Bound.{Bound}
use Rattle.ip_defs.proofs.DualityLaws.{weak_duality}
use Rattle.leaf_cert.proofs.leaf.leaf_bound.Goals as goal

pub returns-clause-holds : goal.returns-clause-holds
returns-clause-holds c = λ x feasible inside.
    subst (λ (v : Bound). IsAtMost v (cost c.args.model.now x)) (sym c.leaf_bound_after.ensures.bound)
    (weak_duality c.args.model.now c.args.area.now c.args.cert.now x c.requires.area.size feasible inside)
