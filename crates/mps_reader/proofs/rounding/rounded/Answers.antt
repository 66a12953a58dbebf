use Rattle.std.specs.Prelude.{◌≡◌, ◌+◌, ◌-◌, ◌/◌, ◌^◌}
use Rattle.std.specs.Int.{w128}
use Rattle.std.specs.Int.RustNames.{unsigned_abs}
use Rattle.std.proofs.Common.{ap, sym, ◌∙◌, arith, to_z, of_z}
use Rattle.std.proofs.lemmas.Int.{ints}
use Rattle.mps_defs.specs.Numbers.{signed}
use Rattle.mps_reader.specs.Internal.Rounding.{rounded_by}
use Rattle.mps_reader.proofs.RoundingLaws.{rounded_away}
use Rattle.mps_reader.proofs.rounding.rounded.Goals as goal

pub returns-then-goes_away : goal.returns-then-goes_away
returns-then-goes_away c =
    let units = c.in-Dec.units in
    let back : to_z w128 (of_z w128 c.signed.result) ≡ c.signed.result = omega (arith, ints) in
    let read : to_z w128 (of_z w128 units) ≡ units = omega (arith, ints) in
    back
    ∙ c.signed.ensures.value
    ∙ ap (λ q. signed c.is_down-down.result (q + 1))
    (c.whole_part.ensures.value ∙ ap (λ n. (n - 1) / 10 ^ c.in-Dec.decimals) (c.unsigned_abs-absolute.ensures.value ∙ ap unsigned_abs read))
    ∙ ap (λ b. signed b ((unsigned_abs units - 1) / 10 ^ c.in-Dec.decimals + 1)) c.is_down-down.ensures
    ∙ rounded_away c.args.direction units c.in-Dec.decimals (rw read at (sym c.goes_away.ensures ∙ c.if-goes_away.true))
    ∙ ap (rounded_by c.args.direction) (sym c.in-Dec.is)
