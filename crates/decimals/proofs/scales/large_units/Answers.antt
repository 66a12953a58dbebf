use Rattle.std.proofs.Common.{arith, ◌≡◌, ◌+◌}
use Rattle.std.proofs.lemmas.Int.{ints}
use Rattle.decimals.proofs.NumberLaws.{tens_rise}
use Rattle.decimals.proofs.scales.large_units.Goals as goal

pub pow-absolute-requires : goal.pow-absolute-requires
pow-absolute-requires c =
    let most = c.requires in
    let places : c.from.result ≡ c.args.decimals = c.from.ensures in
    let within = tens_rise (20 + c.from.result) 29 (omega arith) in
    omega (arith, ints)
