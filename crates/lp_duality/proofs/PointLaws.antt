-- A point of a relaxation whose numbers are whole costs the same, and its rows have the same values.
use Rattle.std.specs.Prelude.{◌≡◌, ℕ, ◌<◌, List, length, Some, slice_get, ℤ, ◌*ℤ◌}
use Rattle.std.proofs.Common.{ap, sym, ◌∙◌}
use Rattle.ring_laws.proofs.Sums.{sum, sum_same}
use Rattle.ip_defs.specs.declared.programs.Parts.{Parts}
use Rattle.ip_defs.specs.declared.programs.Row.{Row}
use Rattle.ip_defs.specs.Certificates.{coefs_of, coefficient_of}
use Rattle.ip_defs.specs.Program.{at, coefficient, cost, costs_of, row_sum}
use Rattle.ip_defs.specs.Sums.{sum_below}
use Rattle.frac128.specs.Rationals.{Rational, of, add, mul}
use Rattle.frac128.proofs.Rationals.{of_add, of_mul, rationals}
use Rattle.lp_duality.specs.Relaxations.{row_total, total_cost}
use Rattle.lp_duality.proofs.CertificateLaws.{of_sum}

module _ (m : Parts) (p : ℕ → Rational) (x : List ℤ) (size : length x ≡ length m.columns) (same : (j : ℕ) → j < length m.columns →
    p j ≡ of (at x j)) where
  sum_whole : (a : ℕ → ℤ) → sum rationals (λ j. mul (of (a j)) (p j)) (length m.columns) ≡ of (sum_below (λ j. a j *ℤ at x j) (length x))
  sum_whole a =
      sum_same rationals (λ j. mul (of (a j)) (p j)) (λ j. of (a j *ℤ at x j)) (length m.columns) (λ j l. ap (mul (of (a j))) (same j l)
      ∙ sym (of_mul (a j) (at x j)))
      ∙ sym (of_sum (λ j. a j *ℤ at x j) (length m.columns))
      ∙ ap (λ n. of (sum_below (λ j. a j *ℤ at x j) n)) (sym size)

  -- it costs the same
  pub whole_cost : total_cost m p ≡ of (cost m x)
  whole_cost = ap (add (of m.constant)) (sum_whole (at (costs_of m)))
      ∙ sym (of_add m.constant (sum_below (λ j. at (costs_of m) j *ℤ at x j) (length x)))

  pub row_whole : (k : ℕ) (r : Row) → slice_get m.rows k ≡ Some r → row_total m p k ≡ of (row_sum r.coefs x)
  row_whole k r e = sum_whole (λ j. coefficient_of m.rows k j)
      ∙ ap (λ o. of (sum_below (λ j. coefficient (coefs_of o) j *ℤ at x j) (length x))) e
