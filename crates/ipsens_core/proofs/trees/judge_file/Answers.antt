use Rattle.std.proofs.Common.{ap, Err}
use Rattle.ipsens_core.proofs.FeedLaws.{tree_unread}
use Rattle.ipsens_core.proofs.trees.judge_file.Goals as goal

pub returns-in-Err-feed_file-clause-file : goal.returns-in-Err-feed_file-clause-file
returns-in-Err-feed_file-clause-file g c =
    tree_unread c.args.model.now _ _ _ _ c.in-Err-feed_file.ensures.files c.in-Err-feed_file.ensures.unknown
    (λ is. c.in-Err-feed_file.ensures.too_long (ap Err is))
