use Rattle.std.specs.Prelude.{◌≡◌, ◌≤◌, take, sum_by}
use Rattle.proof_tree.specs.LabelledTrees.{node_count}
use Rattle.proof_tree.specs.Trees.{plain}
use Rattle.sweep_proof.proofs.cost_fits.are_nodes_few.Given as goal

abbrev pub invariant-loop-tree : goal.invariant-loop-tree
invariant-loop-tree l = record {
  sum : l.total ≡ sum_by (λ t. node_count (plain t)) (take l.tree-index l.trees);
  small : l.total ≤ 1000000;
}
