use Rattle.std.specs.Prelude.{◌∷◌, ◌++◌, [], map}
use Rattle.std.proofs.Common.{ap, ◌∙◌}
use Rattle.std.proofs.lemmas.List.{map-append}
use Rattle.mps_defs.specs.declared.reading.Number.{Number}
use Rattle.perturbation.specs.declared.edits.Datum.{Datum}
use Rattle.question_text.specs.SweepFiles.{side_name}
use Rattle.question_text.proofs.DirectionLaws.{side_named}
use Rattle.question_text.proofs.directions.add_side.Goals as goal

pub returns-clause-named : goal.returns-clause-named
returns-clause-named c =
    let f = λ (d : Datum × Number). side_name d.0 in
    let old = c.args.dir.now in
    ap (map f) c.in_ok-push.ensures.ok
    ∙ map-append f old ((c.in_ok-side_by.field-0, c.in-Ok.number) ∷ [])
    ∙ ap (λ n. map f old ++ n ∷ [])
    (ap side_name c.in_ok-side_by.ensures ∙ side_named c.args.word.now c.args.row.now c.in-Ok.ensures.side)
