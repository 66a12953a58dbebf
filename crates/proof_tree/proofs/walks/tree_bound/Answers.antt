use Rattle.std.proofs.Common.{sym, subst}
use Rattle.ip_defs.specs.Program.{cost}
use Rattle.ip_defs.specs.Certificates.{IsAtMost}
use Rattle.ip_defs.specs.declared.certificates.Bound.{Bound}
use Rattle.proof_tree.specs.Trees.{plain}
use Rattle.proof_tree.proofs.TreeLaws.{trees_bound}
use Rattle.proof_tree.proofs.walks.tree_bound.Goals as goal

pub returns-clause-holds : goal.returns-clause-holds
returns-clause-holds c = λ x feasible.
    subst (λ (v : Bound). IsAtMost v (cost c.args.model.now x)) (sym c.bound_in-bound.ensures.bound)
    (trees_bound c.args.model.now (plain c.args.tree.now) x c.requires.fits.columns feasible)
