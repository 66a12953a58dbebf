use Rattle.std.specs.Prelude.{take}
use Rattle.ip_defs.specs.Lists.{Each}
use Rattle.proof_tree.specs.Trees.{plain}
use Rattle.sweep_proof.specs.CostSweeps.{FitsTree}
use Rattle.sweep_proof.proofs.cost_fits.trees_fit.Given as goal

abbrev pub invariant-loop-tree : goal.invariant-loop-tree
invariant-loop-tree l = Each (λ t. FitsTree l.model (plain t)) (take l.tree-index l.trees)
