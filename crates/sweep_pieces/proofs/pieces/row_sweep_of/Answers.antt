use Rattle.std.specs.Prelude.{◌≡◌, List}
use Rattle.std.proofs.Common.{subst, ◌∙◌}
use Rattle.branching.specs.Outcomes.{Pairwise}
use Rattle.sweep_pieces.proofs.FitLaws.{pieces_within}
use Rattle.sweep_pieces.proofs.PieceLaws.{pieces_proved}
use Rattle.sweep_pieces.specs.Pieces.{IsPieceOf}
use Rattle.sweep_solves.specs.declared.made_solves.Made.{Made}
use Rattle.sweep_pieces.proofs.pieces.row_sweep_of.Goals as goal

pub returns-clause-proved : goal.returns-clause-proved
returns-clause-proved c =
    let rs = c.args.runs.now in
    let ps = c.in_ok-pieces.pieces in
    let same : c.deref_mut.result.now ≡ c.args.mades = c.deref_mut.ensures.value ∙ c.into_vec-left.ensures in
    let pairs = subst (λ (ms : List Made). Pairwise (IsPieceOf ms) rs ps) same (c.in_ok-pieces.ensures) in
    pieces_proved c.args.model.now c.args.dir.now c.args.mades c.args.steps rs ps c.requires.widening c.requires.solves c.requires.runs
    c.requires.ends pairs

pub returns-clause-fits : goal.returns-clause-fits
returns-clause-fits c =
    let rs = c.args.runs.now in
    let ps = c.in_ok-pieces.pieces in
    let same : c.deref_mut.result.now ≡ c.args.mades = c.deref_mut.ensures.value ∙ c.into_vec-left.ensures in
    let pairs = subst (λ (ms : List Made). Pairwise (IsPieceOf ms) rs ps) same (c.in_ok-pieces.ensures) in
    pieces_within c.args.model.now c.args.dir.now c.args.mades c.args.steps rs ps c.parts-parts.ensures.limits c.requires.widening
    c.requires.steps c.requires.few c.requires.solves c.requires.nodes c.requires.runs c.requires.ends pairs
