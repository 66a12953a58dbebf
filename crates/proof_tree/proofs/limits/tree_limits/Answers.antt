use Rattle.std.proofs.Common.{◌∙◌, sym}
use Rattle.proof_tree.specs.Trees.{plain}
use Rattle.proof_tree.proofs.WithinLaws.{limits_are_exact}
use Rattle.proof_tree.proofs.limits.tree_limits.Goals as goal

pub returns-clause-within : goal.returns-clause-within
returns-clause-within c = λ none. (limits_are_exact (plain c.args.tree.now)).0 (sym c.first_limit.ensures ∙ none)
