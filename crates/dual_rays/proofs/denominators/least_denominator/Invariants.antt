use Rattle.std.proofs.Common.{◌≡◌, ◌≤◌, ◌^◌, ◌<◌}
use Rattle.std.specs.Prelude.{take}
use Rattle.dual_rays.specs.Multiples.{common_denominator}
use Rattle.dual_rays.specs.Certificates.{values}
use Rattle.dual_rays.proofs.denominators.least_denominator.Given as goal

abbrev pub invariant-loop-price : goal.invariant-loop-price
invariant-loop-price l = record {
  is : l.q ≡ common_denominator (values (take l.price-index l.prices));
  positive : 0 < l.q;
  small : l.q ≤ 2 ^ 36;
}
