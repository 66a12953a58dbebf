use Rattle.std.specs.Prelude.{length}
use Rattle.proof_tree.specs.Scratches.{FitsWalk}
use Rattle.proof_tree.specs.Trees.{plain}
use Rattle.tree_replies.proofs.ReplyLaws.{AreReplied}
use Rattle.tree_replies.proofs.replies.replies_to.Given as goal

abbrev pub invariant-loop-k : goal.invariant-loop-k
invariant-loop-k l = record {
  scratch : FitsWalk (length l.model.columns) l.scratch;
  replied : AreReplied l.model l.proof.claim (plain l.proof.tree) l.questions l.k l.replies.items;
}
