use Rattle.std.specs.Prelude.{is_some}
use Rattle.std.proofs.Common.{ap}
use Rattle.open_nodes.specs.declared.nodes.State.TheVariants.{Taken}
use Rattle.open_nodes.proofs.RenewLaws.{state_there, renews, sets_state}
use Rattle.open_nodes.proofs.FrontierLaws.{frontier_finished}
use Rattle.open_nodes.proofs.frontiers.Frontier.finish.Goals as goal

pub put_state-requires : goal.put_state-requires
put_state-requires c = let n = state_there c.args.self.now c.args.key Taken c.requires.taken in ap is_some n.1

pub returns-clause-set : goal.returns-clause-set
returns-clause-set c =
    let n = state_there c.args.self.now c.args.key Taken c.requires.taken in
    let set = (rw n.1 at c.put_state.ensures).1 in
    sets_state _ _ c.args.key n.0 c.args.state c.requires.frontier.rooted.parents (renews _ _ c.args.key n.0 c.args.state n.1 set)

pub returns-clause-frontier : goal.returns-clause-frontier
returns-clause-frontier c =
    let n = state_there c.args.self.now c.args.key Taken c.requires.taken in
    let set = (rw n.1 at c.put_state.ensures).1 in
    frontier_finished c.args.self.now _ c.args.key n.0 c.args.state (renews _ _ c.args.key n.0 c.args.state n.1 set) n.2 c.requires.last
    c.requires.frontier
