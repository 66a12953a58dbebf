use Rattle.std.proofs.Common.{◌≡◌, None}
use Rattle.std.specs.Prelude.{take}
use Rattle.dual_rays.specs.Certificates.{values}
use Rattle.dual_rays.specs.Internal.Quotients.{first_absolute}
use Rattle.dual_rays.proofs.rays.first_absolute.Given as goal

abbrev pub invariant-loop-number : goal.invariant-loop-number
invariant-loop-number l = record {
  zeros : first_absolute (values (take l.number-index l.ray)) ≡ None;
}
