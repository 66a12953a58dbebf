use Rattle.std.proofs.Common.{sym}
use Rattle.proof_tree.specs.Trees.{plain}
use Rattle.tree_format.proofs.DecodingLaws.{claim_first, starts_in_order, whole_is_read}
use Rattle.tree_format.specs.Orders.{a_claim}
use Rattle.tree_format.proofs.OrderLaws.{something_left}
use Rattle.tree_format.proofs.decoding.read_all.Goals as goal

pub next_part-requires-clause-left : goal.next_part-requires-clause-left
next_part-requires-clause-left c =
    something_left a_claim _ (λ h. h) (starts_in_order c.args.reader.now c.args.bytes.now c.requires)

pub point-requires-clause-order : goal.point-requires-clause-order
point-requires-clause-order c =
    (claim_first c.args.reader.now c.next_part.new.reader c.args.bytes.now c.next_part.new.at c.in-Ok.field-0 c.requires
    c.in-Ok.ensures.on).1

pub returns-clause-read : goal.returns-clause-read
returns-clause-read c =
    let tree = c.in-Ok-tree.ensures.on in
    let rest = c.in-Ok-finish.ensures.on in
    let bytes = c.args.bytes.now in
    whole_is_read bytes c.args.reader.now c.next_part.new.reader c.point.new.reader c.tree.new.reader c.finish.new.reader
    c.next_part.new.at
    c.point.new.at c.tree.new.at c.in-Ok.field-0 c.in-Ok-point.both.1 c.in-Ok-point.both.0 (plain c.in-Ok-tree.tree) tree.0 rest.0
    c.claim-claim.result (record {
      start = c.requires;
      claim = c.in-Ok.ensures.on;
      point = c.in-Ok-point.ensures.on;
      order = c.in-Ok-point.ensures.first;
      parts = tree.1;
      tree = tree.2;
      rest = rest.1;
      none = sym c.in-Ok-finish.ensures.fault;
    }) (c.claim-claim.ensures bytes)
