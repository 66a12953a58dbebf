use Rattle.std.proofs.Common.{arith, ◌≡◌, ◌∙◌, ◌<◌, ap, sym, ◌+◌, None}
use Rattle.proof_tree.specs.Internal.Numbered.{passed_over}
use Rattle.proof_tree.specs.LabelledTrees.{depth, split_node, nodes}
use Rattle.proof_tree.specs.Trees.{plain, own_misfit, with_number, misfit_at}
use Rattle.proof_tree.proofs.LabelledTreeLaws.{nodes_counted}
use Rattle.proof_tree.proofs.NumberedLaws.{pass_left, pass_right, pass_count}
use Rattle.proof_tree.proofs.fits.+pass.Goals as goal

pub pass-requires-in-Ok : goal.pass-requires-in-Ok
pass-requires-in-Ok t c =
    let left = plain c.in-Split.left.value in
    let f = misfit_at c.args.columns c.args.rows in
    let room = rw c.in-Split.is at c.requires in
    let deep = rw c.in-Split.is at c.decreases in
    let falls : depth (plain c.deref-in-Ok.result.now) < t = rw c.deref-in-Ok.ensures (omega arith) in
    let next = pass_count f (c.args.node + 1) (nodes left) c.in-Ok.next (rw c.deref.ensures at (sym c.pass.ensures ∙ c.in-Ok.is)) in
    let same = nodes_counted left in
    (falls, rw c.deref-in-Ok.ensures (omega arith))

pub returns-in-Ok : goal.returns-in-Ok
returns-in-Ok t c =
    let f = misfit_at c.args.columns c.args.rows in
    let top = split_node c.in-Split.col c.in-Split.at tt in
    let own : own_misfit c.args.columns c.args.rows top ≡ None = rw c.in-Split.is at (sym c.node_misfit.ensures ∙ c.in-None.is) in
    let on = pass_right f c.args.node top (nodes (plain c.in-Split.left.value)) (nodes (plain c.in-Split.right.value)) c.in-Ok.next
    (ap (with_number c.args.node) own) (rw c.deref.ensures at (sym c.pass.ensures ∙ c.in-Ok.is)) in
    rw c.deref-in-Ok.ensures at c.pass-in-Ok.ensures ∙ sym on
    ∙ ap (λ (s : _). passed_over f c.args.node (nodes (plain s))) (sym c.in-Split.is)

pub returns-in-Err : goal.returns-in-Err
returns-in-Err t c =
    let f = misfit_at c.args.columns c.args.rows in
    let top = split_node c.in-Split.col c.in-Split.at tt in
    let own : own_misfit c.args.columns c.args.rows top ≡ None = rw c.in-Split.is at (sym c.node_misfit.ensures ∙ c.in-None.is) in
    sym (pass_left f c.args.node top (nodes (plain c.in-Split.left.value)) (nodes (plain c.in-Split.right.value)) c.in-Err.shape
    (ap (with_number c.args.node) own) (rw c.deref.ensures at (sym c.pass.ensures ∙ c.in-Err.is)))
    ∙ ap (λ (s : _). passed_over f c.args.node (nodes (plain s))) (sym c.in-Split.is)
