use Rattle.std.specs.Prelude.{slice_set}
use Rattle.std.proofs.Common.{ap, ◌∙◌, arith}
use Rattle.std.proofs.lemmas.List.{length-set}
use Rattle.ip_model.specs.Places.{changed_at}
use Rattle.sweep_pieces.proofs.MoveLaws.{set_is_changed, short_within}
use Rattle.sweep_pieces.specs.Internal.Moves.{without_claim, without_tree}
use Rattle.sweep_pieces.proofs.moves.take_piece.Goals as goal

pub returns-clause-left : goal.returns-clause-left
returns-clause-left c =
    let xs = c.args.left.now in
    let r = c.args.run in
    let x = c.take_claim-claim.new.made in
    let end = short_within xs r.last c.requires.end in
    let long = length-set xs r.first x in
    set_is_changed without_tree (slice_set xs r.first x) r.last c.take_tree-tree.new.made c.index-left-run-4.result (omega arith)
    c.take_tree-tree.ensures.rest
    ∙ ap (changed_at without_tree r.last) (set_is_changed without_claim xs r.first x c.index-left-run-3.result
    (short_within xs r.first c.requires.start) c.take_claim-claim.ensures.rest)
