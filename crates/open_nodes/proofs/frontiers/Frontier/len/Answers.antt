use Rattle.std.proofs.Common.{arith, sym, ◌∙◌}
use Rattle.open_nodes.proofs.AssembleLaws.{nodes_counted}
use Rattle.open_nodes.proofs.frontiers.Frontier.len.Goals as goal

pub overflow_cast-result : goal.overflow_cast-result
overflow_cast-result c =
    let few = c.requires in
    let same = nodes_counted c.args.self.now in
    omega (arith, few, same, c.len.ensures)

pub returns : goal.returns
returns c = c.len.ensures ∙ sym (nodes_counted c.args.self.now)
