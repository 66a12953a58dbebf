use Rattle.std.specs.Prelude.{◌≡◌, ◌+◌, ◌∷◌, [], ◌++◌, length, refl}
use Rattle.std.proofs.Common.{sym, subst}
use Rattle.std.proofs.lemmas.Option.{slice_get_read}
use Rattle.proof_tree.specs.Trees.{plain}
use Rattle.tree_replies.proofs.ReplyLaws.{AreReplied, one_replied}
use Rattle.tree_replies.proofs.replies.replies_to.Goals as goal

pub loop-k-preserved : goal.loop-k-preserved
loop-k-preserved c =
    let m = c.args.model.now in
    let claim = c.args.proof.now.claim in
    let t = plain c.args.proof.now.tree in
    let qs = c.args.questions.now in
    let k = c.loop-k.k in
    let at = slice_get_read qs (length qs) k c.index-questions-k.result refl c.loop-k-test.true c.index-questions-k.is in
    let pushed : c.push.new.self.items ≡ c.loop-k.replies.items ++ c.in-Ok.reply ∷ [] = c.in-Ok-push.ensures.items in
    record {
      scratch = c.in-Ok.ensures.scratch;
      replied = subst (AreReplied m claim t qs (k + 1)) (sym pushed) (one_replied m claim t qs k c.loop-k.replies.items
          c.index-questions-k.result c.in-Ok.reply c.loop-k.invariant.replied at c.in-Ok.ensures.reply);
    }
