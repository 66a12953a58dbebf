-- Complementary slackness: a point that stands at the sides that a certificate pays is optimal.
use Rattle.std.specs.Prelude.{◌≡◌, ℕ, List, length, Option, Some, None, IfSome, slice_get, option_map, option_and_then, ℤ, pos, ◌*ℤ◌}
use Rattle.std.specs.Prelude.{◌≤ℤ◌, ◌<ℤ◌}
use Rattle.std.proofs.Common.{arith, refl, ap, sym, ◌∙◌, subst}
use Rattle.ip_defs.specs.Sums.{sum_below}
use Rattle.ip_defs.specs.Program.{at, costs_of, low_at, high_at, row_sum}
use Rattle.ip_defs.specs.Certificates.{coefs_of, coefficient_of, dual_value}
use Rattle.ip_defs.specs.declared.programs.Parts.{Parts}
use Rattle.ip_defs.specs.declared.programs.Row.{Row}
use Rattle.ip_defs.specs.declared.certificates.Cert.{Cert}
use Rattle.frac128.proofs.Rationals.{of, add, mul}
use Rattle.frac128.proofs.Fractions.{rational}
use Rattle.frac128.proofs.Order.{AtMost}
use Rattle.lp_duality.specs.Relaxations.{row_total, total_cost, IsRelaxed}
use Rattle.slackness.specs.Points.{point_of, IsOptimal}
use Rattle.slackness.specs.Tight.{activity, IsTight}
use Rattle.slackness.specs.Laws.{ComplementarySlackness}
use Rattle.slackness.proofs.RationalLaws.{of_scaled, rational_add, rational_mul, rational_at_most, rational_sum}
use Rattle.slackness.proofs.WholeLaws.{whole_cost, whole_dual}

-- what holds of the value of an option
some_of : (P : ℤ → Type 0) (o : Option ℤ) (x : ℤ) → o ≡ Some x → IfSome o P → P x
some_of P o x e h = subst (λ (o : Option ℤ). IfSome o P) e h

module _ (m : Parts) (b : List (ℤ × ℤ)) (d : ℤ) (n : List ℤ) (c : Cert) (size : length b ≡ length m.columns)
    (tight : IsTight m b d n c) where
  p : pos 0 <ℤ d
  p = tight.positive

  row_is : (k : ℕ) → row_total m (point_of d n) k ≡ rational (activity m.rows n k) d
  row_is k = rational_sum d p (coefficient_of m.rows k) (at n) (length m.columns)
      ∙ ap (λ l. rational (sum_below (λ j. coefficient_of m.rows k j *ℤ at n j) l) d) (sym tight.size)

  cost_is : total_cost m (point_of d n) ≡ rational (whole_cost m d n) d
  cost_is =
      let s = sum_below (λ j. at (costs_of m) j *ℤ at n j) (length n) in
      ap (λ w. add (of m.constant) w) (rational_sum d p (at (costs_of m)) (at n) (length m.columns)
      ∙ ap (λ l. rational (sum_below (λ j. at (costs_of m) j *ℤ at n j) l) d) (sym tight.size))
      ∙ ap (λ w. add w (rational s d)) (of_scaled d p m.constant) ∙ rational_add d p (d *ℤ m.constant) s

  -- a fraction over d and a whole number
  above : (side s : ℤ) → (d *ℤ side) ≤ℤ s → AtMost (of side) (rational s d)
  above side s h = subst (λ w. AtMost w (rational s d)) (sym (of_scaled d p side)) (rational_at_most d p (d *ℤ side) s h)

  below : (side s : ℤ) → s ≤ℤ (d *ℤ side) → AtMost (rational s d) (of side)
  below side s h = subst (λ w. AtMost (rational s d) w) (sym (of_scaled d p side)) (rational_at_most d p s (d *ℤ side) h)

  row_low_holds : (k : ℕ) (o : Option Row) → slice_get m.rows k ≡ o → (side : ℤ) → option_and_then (λ r. r.low) o ≡ Some side →
      AtMost (of side) (row_total m (point_of d n) k)
  row_low_holds k None e side f = absurd cc
  row_low_holds k (Some r) e side f =
      let read : activity m.rows n k ≡ row_sum r.coefs n = ap (λ o. row_sum (coefs_of o) n) e in
      subst (AtMost (of side)) (sym (row_is k ∙ ap (λ z. rational z d) read)) (above side (row_sum r.coefs n)
      (some_of (λ s. (d *ℤ s) ≤ℤ row_sum r.coefs n) r.low side f (tight.rows k r e).at_least))

  row_high_holds : (k : ℕ) (o : Option Row) → slice_get m.rows k ≡ o → (side : ℤ) → option_and_then (λ r. r.high) o ≡ Some side →
      AtMost (row_total m (point_of d n) k) (of side)
  row_high_holds k None e side f = absurd cc
  row_high_holds k (Some r) e side f =
      let read : activity m.rows n k ≡ row_sum r.coefs n = ap (λ o. row_sum (coefs_of o) n) e in
      subst (λ w. AtMost w (of side)) (sym (row_is k ∙ ap (λ z. rational z d) read)) (below side (row_sum r.coefs n)
      (some_of (λ s. row_sum r.coefs n ≤ℤ (d *ℤ s)) r.high side f (tight.rows k r e).at_most))

  relaxed : IsRelaxed m b (point_of d n)
  relaxed = record {
    low = λ j l. above (low_at b j) (at n j) (tight.columns j l).between.at_least;
    high = λ j l. below (high_at b j) (at n j) (tight.columns j l).between.at_most;
    rows = λ k l. record { low = row_low_holds k (slice_get m.rows k) refl; high = row_high_holds k (slice_get m.rows k) refl };
  }

  dual_is : option_map of (dual_value m b c.q c.y) ≡ Some (mul (of c.q) (total_cost m (point_of d n)))
  dual_is =
      let found = whole_dual m b d n c.q c.y p (tight.size ∙ sym size) (λ j l. tight.columns j (omega arith)) tight.paid in
      let g = found.0 in
      let value : of g ≡ mul (of c.q) (total_cost m (point_of d n)) =
      of_scaled d p g ∙ ap (λ z. rational z d) found.2 ∙ sym (rational_mul d p c.q (whole_cost m d n))
      ∙ ap (mul (of c.q)) (sym cost_is) in
      ap (option_map of) found.1 ∙ ap Some value

  optimal : IsOptimal m b (point_of d n) c
  optimal = record { relaxed = relaxed; positive = tight.divisor; dual = dual_is }

pub complementary_slackness : ComplementarySlackness
complementary_slackness m b d n c size tight = optimal m b d n c size tight
