-- A point is optimal by its numbers alone.
use Rattle.std.specs.Prelude.{◌≡◌, ℕ, ◌<◌, List, length, Some, ℤ}
use Rattle.std.proofs.Common.{ap, ◌∙◌, subst}
use Rattle.ip_defs.specs.Program.{low_at, high_at}
use Rattle.ip_defs.specs.Certificates.{coefficient_of}
use Rattle.ip_defs.specs.declared.certificates.Cert.{Cert}
use Rattle.ip_defs.specs.declared.programs.Parts.{Parts}
use Rattle.ring_laws.proofs.Sums.{sum_same}
use Rattle.frac128.proofs.Rationals.{Rational, of, add, mul, rationals}
use Rattle.frac128.proofs.Order.{AtMost}
use Rattle.lp_duality.specs.Relaxations.{row_low, row_high, cost_of, row_total, total_cost, IsBetween, IsRelaxed}
use Rattle.slackness.specs.Points.{IsOptimal}

module _ (m : Parts) (b : List (ℤ × ℤ)) (x y : ℕ → Rational) (c : Cert) (same : (j : ℕ) → j < length m.columns → x j ≡ y j) where
  row_same : (k : ℕ) → row_total m x k ≡ row_total m y k
  row_same k = sum_same rationals (λ j. mul (of (coefficient_of m.rows k j)) (x j)) (λ j. mul (of (coefficient_of m.rows k j)) (y j))
      (length m.columns) (λ j l. ap (mul (of (coefficient_of m.rows k j))) (same j l))

  cost_same : total_cost m x ≡ total_cost m y
  cost_same = ap (add (of m.constant)) (sum_same rationals (λ j. mul (cost_of m j) (x j)) (λ j. mul (cost_of m j) (y j))
      (length m.columns) (λ j l. ap (mul (cost_of m j)) (same j l)))

  relaxed_same : IsRelaxed m b x → IsRelaxed m b y
  relaxed_same r = record {
    low = λ j l. subst (λ w. AtMost (of (low_at b j)) w) (same j l) (r.low j l);
    high = λ j l. subst (λ w. AtMost w (of (high_at b j))) (same j l) (r.high j l);
    rows = λ k l. subst (IsBetween (row_low m k) (row_high m k)) (row_same k) (r.rows k l);
  }

  pub optimal_same : IsOptimal m b x c → IsOptimal m b y c
  optimal_same o = record {
    relaxed = relaxed_same o.relaxed;
    positive = o.positive;
    dual = o.dual ∙ ap (λ w. Some (mul (of c.q) w)) cost_same;
  }
