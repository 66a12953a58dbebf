use Rattle.std.proofs.Common.{sym, subst}
use Rattle.tree_format.specs.Internal.Remaining.{HasRead}
use Rattle.tree_format.specs.declared.progress.Progress.{Progress}
use Rattle.tree_format.proofs.ReadLaws.{claimed}
use Rattle.tree_format.proofs.readers.TreeReader.claims_point.Goals as goal

pub returns : goal.returns
returns c = λ bytes h.
    claimed c.self.inside.progress bytes c.self.invariant (subst (λ (s : Progress). HasRead s bytes) (sym c.self.view_is) h)
