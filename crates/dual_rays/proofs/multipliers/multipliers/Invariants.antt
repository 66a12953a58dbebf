use Rattle.std.proofs.Common.{◌≡◌, ◌^◌, false}
use Rattle.std.specs.Prelude.{map, take}
use Rattle.std.specs.List.{list_any}
use Rattle.ip_defs.specs.Limits.{exceeds}
use Rattle.dual_rays.specs.Multiples.{multiple}
use Rattle.dual_rays.specs.Certificates.{values, present}
use Rattle.dual_rays.proofs.multipliers.multipliers.Given as goal

abbrev pub invariant-loop-row : goal.invariant-loop-row
invariant-loop-row l = record {
  kept : l.y ≡ present (map (multiple l.q) (values (take l.row l.prices)));
  small : list_any (exceeds (2 ^ 36)) (map (multiple l.q) (values (take l.row l.prices))) ≡ false;
}
