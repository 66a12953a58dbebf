use Rattle.std.specs.Int.{w128}
use Rattle.std.proofs.lemmas.Int.{to_z-of_z}
use Rattle.range_finder.proofs.PointLaws.{point_stays}
use Rattle.range_finder.proofs.points.stays_feasible.Goals as goal

pub returns : goal.returns
returns c =
    let here = rw (to_z-of_z w128 c.args.by c.ranges.by, c.parts.ensures.parts, c.as_slice.ensures) at c.stays.ensures in
    let law = point_stays c.args.model.now c.args.place c.args.by c.args.point.now c.requires.exists c.requires.feasible in
    (λ t. law.1 (here.0 t), λ ok. here.1 (law.0 ok))
