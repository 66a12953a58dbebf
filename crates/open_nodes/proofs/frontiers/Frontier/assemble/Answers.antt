use Rattle.std.specs.Prelude.{◌≡◌, None, Some}
use Rattle.std.proofs.Common.{sym, ◌∙◌}
use Rattle.open_nodes.proofs.AssembleLaws.{tree_of_all}
use Rattle.open_nodes.proofs.TakeLaws.{ok_map}
use Rattle.open_nodes.proofs.frontiers.Frontier.assemble.Goals as goal

pub returns : goal.returns
returns c =
    record { tree = ok_map _ _ (λ t h. tree_of_all c.args.self _ _ c.requires.frontier h) c.take_tree.result c.take_tree.ensures }

pub take_tree-requires : goal.take_tree-requires
take_tree-requires c =
    let r = c.requires.frontier.rooted in
    record {
      forest = r.forest;
      top = (r.root.0, r.root.1, λ e edge. absurd (let none = r.root.2 in let both : None ≡ Some e = sym none ∙ edge in cc));
    }
