use Rattle.std.proofs.Common.{sym, subst}
use Rattle.ip_model.specs.Places.{Exists}
use Rattle.range_finder.specs.Aims.{plain_aim}
use Rattle.tree_replies.proofs.AskedLaws.{asked_exists, asked_point}
use Rattle.tree_replies.proofs.replies.range_reply.Goals as goal

pub range-requires-clause-exists : goal.range-requires-clause-exists
range-requires-clause-exists c =
    asked_exists c.args.model.now c.args.proof.now.claim c.args.datum.now c.args.aim c.in-Ok.place (plain_aim c.in-Ok.aim) c.in-Ok.ensures

pub range-requires-clause-point : goal.range-requires-clause-point
range-requires-clause-point c =
    asked_point c.args.model.now c.args.proof.now.claim c.args.datum.now c.args.aim c.in-Ok.place (plain_aim c.in-Ok.aim) c.requires.point
    c.in-Ok.ensures

pub decimals_at-requires-clause-exists : goal.decimals_at-requires-clause-exists
decimals_at-requires-clause-exists c =
    let exists = asked_exists c.args.model.now c.args.proof.now.claim c.args.datum.now c.args.aim c.in-Ok.place (plain_aim c.in-Ok.aim)
    c.in-Ok.ensures in
    subst (λ m. Exists m c.in-Ok.place) (sym c.parts.ensures.parts) exists
