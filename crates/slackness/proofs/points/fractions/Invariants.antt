use Rattle.std.proofs.Common.{◌≡◌, ◌<◌, ℕ, length}
use Rattle.lp_duality.specs.Relaxations.{numbers_of}
use Rattle.slackness.specs.Points.{point_of}
use Rattle.slackness.proofs.points.fractions.Given as goal

abbrev pub invariant-loop-numerator : goal.invariant-loop-numerator
invariant-loop-numerator l = record {
  count : length l.point.items ≡ l.numerator-index;
  values : (j : ℕ) → j < l.numerator-index → numbers_of l.point.items j ≡ point_of l.denominator l.numerators j;
}
