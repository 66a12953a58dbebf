use Rattle.std.specs.Prelude.{◌≡◌, ◌≤◌, ◌*◌, take, sum_by}
use Rattle.proof_tree.specs.LabelledTrees.{node_count}
use Rattle.proof_tree.specs.Trees.{plain}
use Rattle.sweep_proof.proofs.fits.nodes_of.Given as goal

abbrev pub invariant-loop-piece : goal.invariant-loop-piece
invariant-loop-piece l = record {
  sum : l.total ≡ sum_by (λ p. node_count (plain p.tree)) (take l.piece-index l.pieces);
  small : l.total ≤ l.piece-index * 1000000;
}
