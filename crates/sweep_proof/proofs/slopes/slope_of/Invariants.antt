use Rattle.std.specs.Prelude.{◌≡◌, ◌≤◌, ◌*◌, ◌^◌, ◌*ℤ◌}
use Rattle.std.specs.Int.RustNames.{unsigned_abs}
use Rattle.ip_defs.specs.Program.{at}
use Rattle.ip_defs.specs.Sums.{sum_below}
use Rattle.sweep_proof.proofs.slopes.slope_of.Given as goal

abbrev pub invariant-loop-j : goal.invariant-loop-j
invariant-loop-j l = record {
  sum : l.total ≡ sum_below (λ j. at l.dir j *ℤ at l.point j) l.j;
  small : unsigned_abs l.total ≤ l.j * 2 ^ 103;
}
