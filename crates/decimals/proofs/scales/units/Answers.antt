use Rattle.std.proofs.Common.{arith, ◌≡◌, ◌<◌, ◌+◌, ◌^◌, to_z, of_z}
use Rattle.std.specs.Int.{w128}
use Rattle.std.specs.Int.RustNames.{unsigned_abs}
use Rattle.std.proofs.lemmas.Int.{ints}
use Rattle.decimals.proofs.NumberLaws.{more_units_fit}
use Rattle.decimals.proofs.scales.units.Goals as goal

pub times_tens-requires-clause-fits : goal.times_tens-requires-clause-fits
times_tens-requires-clause-fits c =
    let below : unsigned_abs c.in-Dec.units < 10 ^ (20 + c.in-Dec.written) = rw c.in-Dec.is at c.requires.below in
    let wanted = c.from.ensures in
    let more = c.saturating_sub.ensures in
    let most = c.requires.decimals in
    let back : to_z w128 (of_z w128 c.in-Dec.units) ≡ c.in-Dec.units = omega (arith, ints) in
    rw back (more_units_fit c.in-Dec.units c.in-Dec.written c.from.result c.saturating_sub.result below (omega (arith, ints)) (omega arith)
    (omega arith))
