use Rattle.std.proofs.Common.{rules}
use Rattle.std.specs.Int.{w64}
use mir.Val.{SFits}
use Rattle.std.proofs.lemmas.Int.{to_z-of_z}
use Rattle.ip_defs.specs.Limits.{value_at}
use Rattle.leaf_cert.proofs.OrderLaws.{least_more, first_more}
use Rattle.leaf_cert.proofs.certs.multipliers_ok.Goals as goal

pub loop-row-preserved : goal.loop-row-preserved
loop-row-preserved c =
    let y = c.args.y.now in
    let i = c.loop-row.row-index in
    let fits : SFits w64 (value_at y i) = search rules in
    let read = to_z-of_z w64 (value_at y i) fits in
    let next = c.if-not-is_next.ensures.0 (search rules) in
    record {
      least = least_more y i;
      first = first_more y c.args.rows i c.loop-row.invariant.first (rw (read, c.loop-row.invariant.least) at next);
    }
