use Rattle.std.specs.Prelude.{◌≤◌, length}
use Rattle.std.proofs.Common.{◌∙◌, sym, subst}
use Rattle.ip_defs.specs.Lists.{Each}
use Rattle.sweep_directions.specs.Directions.{no_place, placed_of}
use Rattle.sweep_directions.specs.Internal.Sides.{IsPlaced}
use Rattle.sweep_directions.proofs.FaultLaws.{no_fault}
use Rattle.sweep_directions.proofs.directing.directed.Goals as goal

pub off_grid-requires-clause-few : goal.off_grid-requires-clause-few
off_grid-requires-clause-few c =
    let m = c.args.model.now in
    let ds = c.args.dirs.now in
    let same = (no_fault (no_place m ds) (placed_of m ds) c.in-Ok.places c.in-Ok.ensures).1 in
    subst (λ s. length s ≤ 2048) (same ∙ sym c.as_slice.ensures) c.are_few.ensures.few

pub off_grid-requires-clause-placed : goal.off_grid-requires-clause-placed
off_grid-requires-clause-placed c =
    let m = c.args.model.now in
    let ds = c.args.dirs.now in
    let same = (no_fault (no_place m ds) (placed_of m ds) c.in-Ok.places c.in-Ok.ensures).1 in
    subst (Each (IsPlaced m)) (same ∙ sym c.as_slice.ensures) c.are_few.ensures.placed

pub moves-requires-clause-few : goal.moves-requires-clause-few
moves-requires-clause-few c =
    let m = c.args.model.now in
    let ds = c.args.dirs.now in
    let same = (no_fault (no_place m ds) (placed_of m ds) c.in-Ok.places c.in-Ok.ensures).1 in
    subst (λ s. length s ≤ 2048) (same ∙ sym c.as_slice-2.ensures) c.are_few.ensures.few

pub moves-requires-clause-placed : goal.moves-requires-clause-placed
moves-requires-clause-placed c =
    let m = c.args.model.now in
    let ds = c.args.dirs.now in
    let same = (no_fault (no_place m ds) (placed_of m ds) c.in-Ok.places c.in-Ok.ensures).1 in
    subst (Each (IsPlaced m)) (same ∙ sym c.as_slice-2.ensures) c.are_few.ensures.placed
