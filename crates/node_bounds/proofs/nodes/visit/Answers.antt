use Rattle.std.proofs.Common.{◌∙◌, ap}
use Rattle.ip_defs.specs.Certificates.{leaf_bound}
use Rattle.node_bounds.proofs.LeafLaws.{not_closed}
use Rattle.node_bounds.proofs.nodes.visit.Goals as goal

pub end_at_point-requires-clause-below : goal.end_at_point-requires-clause-below
end_at_point-requires-clause-below g c =
    let m = c.args.task.now.model.now in
    let b = c.args.task.now.area.now in
    (not_closed m b c.args.task.now.cut_at c.leaf_bound-bound.result
    (c.leaf_bound-bound.ensures.bound ∙ ap (leaf_bound m b) c.plain_cert-plain.ensures) c.if-is_closed.ensures).1
