use Rattle.std.proofs.Common.{◌≡◌, ◌∙◌, ◌+◌, ap, sym, None}
use Rattle.proof_tree.specs.Internal.Numbered.{passed_over}
use Rattle.proof_tree.specs.LabelledTrees.{split_node, nodes_from}
use Rattle.proof_tree.specs.Trees.{plain, limit_at}
use Rattle.proof_tree.proofs.NumberedLaws.{pass_left, pass_right}
use Rattle.proof_tree.proofs.limits.+pass.Goals as goal

pub returns-in-Ok : goal.returns-in-Ok
returns-in-Ok t c =
    let d = c.args.depth in
    let top = split_node c.in-Split.col c.in-Split.at tt in
    let own : limit_at c.args.node (d, top) ≡ None = rw c.in-Split.is at (sym c.node_limit.ensures ∙ c.in-None.is) in
    let on = pass_right limit_at c.args.node (d, top) (nodes_from (d + 1) (plain c.in-Split.left.value))
    (nodes_from (d + 1) (plain c.in-Split.right.value)) c.in-Ok.next own (rw c.deref.ensures at (sym c.pass.ensures ∙ c.in-Ok.is)) in
    rw c.deref-in-Ok.ensures at c.pass-in-Ok.ensures ∙ sym on
    ∙ ap (λ (s : _). passed_over limit_at c.args.node (nodes_from d (plain s))) (sym c.in-Split.is)

pub returns-in-Err : goal.returns-in-Err
returns-in-Err t c =
    let d = c.args.depth in
    let top = split_node c.in-Split.col c.in-Split.at tt in
    let own : limit_at c.args.node (d, top) ≡ None = rw c.in-Split.is at (sym c.node_limit.ensures ∙ c.in-None.is) in
    sym (pass_left limit_at c.args.node (d, top) (nodes_from (d + 1) (plain c.in-Split.left.value))
    (nodes_from (d + 1) (plain c.in-Split.right.value)) c.in-Err.limit own (rw c.deref.ensures at (sym c.pass.ensures ∙ c.in-Err.is)))
    ∙ ap (λ (s : _). passed_over limit_at c.args.node (nodes_from d (plain s))) (sym c.in-Split.is)
