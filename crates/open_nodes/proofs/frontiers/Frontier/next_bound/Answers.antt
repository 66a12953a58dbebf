use Rattle.std.specs.Prelude.{◌≡◌}
use Rattle.std.specs.Int.{w128}
use Rattle.std.specs.BinaryHeap.{heap_items}
use Rattle.std.proofs.Common.{refl, sym, arith, rules, to_z, of_z}
use Rattle.std.proofs.lemmas.Int.{to_z-of_z}
use Rattle.open_nodes.proofs.FrontierLaws.{least_bound, none_waits, waits_at}
use Rattle.open_nodes.proofs.OrderLaws.{rank_waits}
use Rattle.open_nodes.proofs.frontiers.Frontier.next_bound.Goals as goal

pub returns-in-Some-clause-least : goal.returns-in-Some-clause-least
returns-in-Some-clause-least c =
    let r = c.in-Some.field-0.now in
    let back : to_z w128 (of_z w128 r.0.0) ≡ r.0.0 = to_z-of_z w128 r.0.0 (search rules) in
    rw back (least_bound c.args.self.now r c.requires.frontier (c.in-Some.ensures.greatest c.requires.frontier.ordered.heap))

pub returns-in-Some-clause-waits : goal.returns-in-Some-clause-waits
returns-in-Some-clause-waits c =
    let f = c.args.self.now in
    let r = c.in-Some.field-0.now in
    let some = c.in-Some.ensures.variant.0 refl in
    let within = sym f.order.data.ok.0 in
    let back : to_z w128 (of_z w128 r.0.0) ≡ r.0.0 = to_z-of_z w128 r.0.0 (search rules) in
    let n = rank_waits f.nodes (heap_items f.order) r c.requires.frontier.ordered
    (0, omega (arith, some, within), sym c.in-Some.ensures.lookup) in
    rw back (r.2, waits_at f r.2 n.0 r.0.0 n.1 n.2)

pub returns-in-None-clause-none : goal.returns-in-None-clause-none
returns-in-None-clause-none c =
    let f = c.args.self.now in
    none_waits f c.requires.frontier (let is = c.in-None.ensures.variant in let within = f.order.data.ok.0 in search rules)
