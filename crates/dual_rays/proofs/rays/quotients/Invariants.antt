use Rattle.std.proofs.Common.{◌≡◌}
use Rattle.std.specs.Prelude.{map, take}
use Rattle.frac128.specs.Rationals.{quotient}
use Rattle.frac128.specs.Values.{value_of}
use Rattle.dual_rays.specs.Certificates.{values}
use Rattle.dual_rays.proofs.rays.quotients.Given as goal

abbrev pub invariant-loop-number : goal.invariant-loop-number
invariant-loop-number l = record {
  divided : values l.quotients ≡ map (λ p. quotient p (value_of l.divisor)) (values (take l.number-index l.ray));
}
