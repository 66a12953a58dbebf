use Rattle.std.proofs.Common.{◌≡◌, ◌≤◌, ◌+◌, ◌*◌, ◌^◌, ◌+ℤ◌, ◌*ℤ◌}
use Rattle.std.specs.Int.RustNames.{unsigned_abs}
use Rattle.ip_defs.specs.Sums.{sum_below}
use Rattle.ip_defs.specs.Program.{at, costs_of}
use Rattle.ip_model.proofs.costs.cost_at.Given as goal

abbrev pub invariant-loop-j : goal.invariant-loop-j
invariant-loop-j l = record {
  sum : l.total ≡ l.parts.constant +ℤ sum_below (λ j. at (costs_of l.parts) j *ℤ at l.point j) l.j;
  small : unsigned_abs l.total ≤ 2 ^ 62 + l.j * 2 ^ 103;
}
