use Rattle.std.proofs.Common.{◌∙◌, sym}
use Rattle.proof_tree.specs.Trees.{plain}
use Rattle.proof_tree.proofs.WithinLaws.{limits_are_exact}
use Rattle.sweep_proof.proofs.fits.tree_is_within.Goals as goal

pub returns-in-Some : goal.returns-in-Some
returns-in-Some c = (
  λ h. absurd cc,
  λ w. let none = (limits_are_exact (plain c.args.tree.now)).1 w in
      let some = sym c.in-Some.is ∙ c.tree_limits.ensures.first ∙ none in
      absurd cc,
)
