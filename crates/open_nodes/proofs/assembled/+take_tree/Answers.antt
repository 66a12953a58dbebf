use Rattle.std.specs.Prelude.{◌<◌}
use Rattle.std.proofs.Common.{arith, refl, subst, sym}
use Rattle.slab.specs.Slab.{slab_len}
use Rattle.open_nodes.specs.Internal.Forests.{TakesTree}
use Rattle.open_nodes.proofs.TakeLaws.{first_ready, leaf_by, ok_map, removes, second_ready, split_by, taken_fewer}
use Rattle.open_nodes.proofs.assembled.+take_tree.Goals as goal

pub returns-in-None : goal.returns-in-None
returns-in-None t c =
    let s = c.args.nodes.now in
    let n = c.remove.result in
    let r = removes s c.remove.new.self c.args.key n c.remove.ensures.value c.remove.ensures.updates c.remove.ensures.slots in
    subst (TakesTree s c.remove.new.self c.args.key) (sym c.leaf_of.ensures)
    (leaf_by s c.remove.new.self c.args.key n n.state refl r c.requires.top c.requires.forest c.in-None.ensures.none)

pub take_tree-requires : goal.take_tree-requires
take_tree-requires t c =
    let s = c.args.nodes.now in
    let n = c.remove.result in
    let r = removes s c.remove.new.self c.args.key n c.remove.ensures.value c.remove.ensures.updates c.remove.ensures.slots in
    let began = c.decreases in
    let falls : slab_len c.remove.new.self < t = omega (arith, c.remove.ensures.len, began) in
    let ready = first_ready s c.remove.new.self c.args.key n n.state _ _ refl r c.requires.top c.requires.forest c.in-Some.ensures.some in
    (falls, ready)

pub take_tree-requires-in-Some : goal.take_tree-requires-in-Some
take_tree-requires-in-Some t c =
    let s = c.args.nodes.now in
    let n = c.remove.result in
    let r = removes s c.remove.new.self c.args.key n c.remove.ensures.value c.remove.ensures.updates c.remove.ensures.slots in
    let began = c.decreases in
    let fewer = taken_fewer _ _ _ _ c.in_ok-left-in-Some.ensures in
    let falls : slab_len c.take_tree.new.nodes < t = omega (arith, c.remove.ensures.len, began, fewer) in
    let ready = second_ready s c.remove.new.self c.take_tree.new.nodes c.args.key n n.state _ _ _ refl r c.requires.top
    c.requires.forest c.in-Some.ensures.some c.in_ok-left-in-Some.ensures in
    (falls, ready)

pub returns-in_ok-right-in-Some : goal.returns-in_ok-right-in-Some
returns-in_ok-right-in-Some t c =
    let s = c.args.nodes.now in
    let n = c.remove.result in
    let r = removes s c.remove.new.self c.args.key n c.remove.ensures.value c.remove.ensures.updates c.remove.ensures.slots in
    let whole = split_by s c.remove.new.self c.take_tree.new.nodes c.take_tree-in-Some.new.nodes c.args.key n n.state _ _ _ _ refl r
    c.requires.top c.requires.forest c.in-Some.ensures.some c.in_ok-left-in-Some.ensures c.in_ok-right-in-Some.ensures in
    ok_map _ _ (λ x is. subst (TakesTree s c.take_tree-in-Some.new.nodes c.args.key) (sym is) whole) c.join.result c.join.ensures
