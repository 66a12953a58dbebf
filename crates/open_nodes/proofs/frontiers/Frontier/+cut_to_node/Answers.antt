use Rattle.std.specs.Prelude.{◌<◌, List}
use Rattle.std.proofs.Common.{ap, sym, ◌∙◌, arith, rules}
use Rattle.slab.specs.Slab.{get}
use Rattle.open_nodes.specs.declared.nodes.Cut.{Cut}
use Rattle.open_nodes.specs.Nodes.{box_along, half}
use Rattle.open_nodes.specs.Internal.Forests.{depth_of}
use Rattle.open_nodes.proofs.FrontierLaws.{entry_node, entry_none, parent_of, path_step, path_there, path_top}
use Rattle.open_nodes.proofs.frontiers.Frontier.+cut_to_node.Goals as goal

pub cut_to_node-requires : goal.cut_to_node-requires
cut_to_node-requires t c =
    let f = c.args.self.now in
    let has = sym c.in-Some.ensures in
    let e = c.in-Some-edge.edge in
    let p = parent_of f.nodes f.root c.args.key c.in-Some.node.now e c.requires.frontier.rooted has c.in-Some-edge.is in
    let began = c.decreases in
    let falls : depth_of (get f.nodes e.parent) < t = omega (arith, ap depth_of p.1, ap depth_of has, p.2, began) in
    (falls, c.requires.frontier)

pub cut_to-requires : goal.cut_to-requires
cut_to-requires t c =
    let f = c.args.self.now in
    c.requires.frontier.rooted.small c.args.key c.in-Some.node.now c.in-Some-edge.edge (sym c.in-Some.ensures) c.in-Some-edge.is

pub returns-in-Some-edge : goal.returns-in-Some-edge
returns-in-Some-edge t c = λ e is.
    let f = c.args.self.now in
    let has = sym c.in-Some.ensures in
    let n = c.in-Some.node.now in
    let edge = c.in-Some-edge.edge in
    let p = parent_of f.nodes f.root c.args.key n edge c.requires.frontier.rooted has c.in-Some-edge.is in
    let path = path_there f c.args.key n e has is ∙ path_step f.nodes c.args.key n p.0 edge has c.in-Some-edge.is p.2 in
    let above = entry_node f edge.parent p.0 p.1 in
    c.cut_to.ensures ∙ ap (half edge.cut) (c.cut_to_node.ensures above.0 above.1)
    ∙ ap (λ (xs : List Cut). half edge.cut (box_along xs c.args.area.now)) above.2
    ∙ sym (ap (λ (xs : List Cut). box_along xs c.args.area.now) path)

pub returns-in_default-edge : goal.returns-in_default-edge
returns-in_default-edge t c = λ e is.
    let f = c.args.self.now in
    let has = sym c.in-Some.ensures in
    let n = c.in-Some.node.now in
    let no = c.in_default-edge.is in
    let path = path_there f c.args.key n e has is ∙ path_top f.nodes c.args.key n.depth n has (search rules) in
    sym (ap (λ (xs : List Cut). box_along xs c.args.area.now) path)

pub returns-in_default : goal.returns-in_default
returns-in_default t c = λ e is. absurd (entry_none c.args.self.now c.args.key e (let no = c.in_default.ensures in search rules) is)
