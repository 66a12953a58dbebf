use Rattle.std.proofs.Common.{rules, get_or, pos, ◌≡◌, ◌∙◌, Some, Ok}
use Rattle.std.proofs.lemmas.Option.{slice_get-get_or}
use Rattle.std.specs.Int.{w64}
use mir.Val.{SFits}
use Rattle.std.proofs.lemmas.Int.{to_z-of_z}
use Rattle.ip_model.specs.declared.places.Place.TheVariants.{Cost}
use Rattle.perturbation.specs.Lines.{side_moved}
use Rattle.perturbation.proofs.SideLaws.{one_stepped, all_stepped, row_line_says}
use Rattle.perturbation.proofs.row_lines.row_line.Goals as goal

pub loop-place-preserved : goal.loop-place-preserved
loop-place-preserved c =
    let dir = c.args.dir.now in
    let d = get_or dir c.loop-place.place-index (Cost 0, pos 0) in
    let found = slice_get-get_or dir c.loop-place.place-index (Cost 0, pos 0) c.loop-place-test.true in
    let fits : SFits w64 d.1 = search rules in
    let is : side_moved c.loop-place.parts d.0 d.1 c.args.t ≡ Ok c.in-Ok.parts = rw (to_z-of_z w64 d.1 fits) at c.in-Ok.ensures in
    one_stepped c.args.model.now dir c.args.t c.loop-place.place-index c.loop-place.parts c.in-Ok.parts d c.loop-place.invariant found is

pub returns-in-Some-clause-model : goal.returns-in-Some-clause-model
returns-in-Some-clause-model c =
    let told : Some c.in-Some.model ≡ Some c.loop-place.parts = c.in-Some.ensures in
    let same : c.in-Some.model ≡ c.loop-place.parts = cc in
    same ∙ row_line_says c.args.model.now c.args.dir.now c.args.t c.loop-place.parts
    (all_stepped c.args.model.now c.args.dir.now c.args.t c.loop-place.place-index c.loop-place.parts c.loop-place.invariant
    c.loop-place-test.false)
