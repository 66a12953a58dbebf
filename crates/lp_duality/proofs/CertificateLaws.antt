-- The dual value of a certificate is that of its multipliers over the rational numbers.
use Rattle.std.specs.Prelude.{◌≡◌, ◌≢◌, ℕ, zero, suc, ◌<◌, List, [], ◌∷◌, length, Option, Some, None, slice_get, option_map}
use Rattle.std.specs.Prelude.{option_and_then, ℤ, pos, negsuc, ◌+ℤ◌, ◌-ℤ◌, ◌*ℤ◌, ◌≤ℤ◌}
use Rattle.std.specs.Int.{int_min}
use Rattle.std.proofs.Common.{arith, refl, ap, sym, ◌∙◌, ◌⊎◌, inl, inr}
use Rattle.std.proofs.lemmas.Int.{ints, clamps}
use Rattle.ip_defs.specs.Sums.{sum_below, sum_over}
use Rattle.ip_defs.specs.Program.{at, coefficient, low_at, high_at, costs_of}
use Rattle.ip_defs.specs.Certificates.{side_for, payment, pay, coefficient_of, reduced, column_part, dual_value}
use Rattle.ip_defs.specs.Limits.{AreOrdered}
use Rattle.ip_defs.specs.declared.programs.Parts.{Parts}
use Rattle.ip_defs.specs.declared.programs.Row.{Row}
use Rattle.ip_defs.specs.declared.certificates.Cert.{Cert}
use Rattle.ring_laws.proofs.Normal.{◌⊕◌, ◌⊖◌}
use Rattle.ring_laws.proofs.Named.{ring2}
use Rattle.ring_laws.proofs.Sums.{sum, sum_same}
use Rattle.frac128.proofs.Rationals.{of, of_add, of_mul, add, sub, mul, rationals}
use Rattle.frac128.proofs.Order.{zero_top}
use Rattle.lp_duality.specs.Relaxations.{row_low, row_high, cost_of}
use Rattle.lp_duality.specs.Duals.{paid, sum_of_all, lesser, left_of, dual}
use Rattle.lp_duality.specs.CertificateDuals.{multiplier}
use Rattle.lp_duality.specs.Laws.{CertificatesHaveTheirDuals}
use Rattle.lp_duality.proofs.SignLaws.{of_positive, of_negative, of_at_most, paid_up, paid_down, paid_zero, lesser_first, lesser_second}
use Rattle.lp_duality.proofs.OptionSumLaws.{plus, sum_of_all_same, sum_of_all_zero, sum_of_all_one}
use Rattle.lp_duality.proofs.SparseLaws.{ordered_tail, coefficient_free, coefficient_same, coefficient_other, coefficient_sum}
use Rattle.lp_duality.proofs.ScaleLaws.{column_sum, column_sum_same, paid_sum, dual_of}

pub of_sub : (x y : ℤ) → of (x -ℤ y) ≡ sub (of x) (of y)
of_sub x y =
    let e : (x -ℤ y) +ℤ y ≡ x = omega (arith, ints) in
    ring2 rationals (λ a c. a) (λ a c. (a ⊕ c) ⊖ c) refl (of (x -ℤ y)) (of y) ∙ ap (λ z. sub z (of y)) (sym (of_add (x -ℤ y) y) ∙ ap of e)

pub of_sum : (g : ℕ → ℤ) (n : ℕ) → of (sum_below g n) ≡ sum rationals (λ k. of (g k)) n
of_sum g zero = refl
of_sum g (suc n) = of_add (sum_below g n) (g n) ∙ ap (λ z. add z (of (g n))) (of_sum g n)

pub of_min : (x y : ℤ) → of (int_min x y) ≡ lesser (of x) (of y)
of_min x y = elim (either (y -ℤ x)) [
  | inl h ↦ (let e : int_min x y ≡ x = omega (arith, ints, clamps) in
      ap of e ∙ sym (lesser_first (of x) (of y) (of_at_most x y (omega (arith, ints)))))
  | inr h ↦
      (let e : int_min x y ≡ y = omega (arith, ints, clamps) in
      ap of e ∙ sym (lesser_second (of x) (of y) (of_at_most y x (omega (arith, ints)))))
]
  where
    either : (z : ℤ) → (pos 0 ≤ℤ z) ⊎ (z ≤ℤ pos 0)
    either (pos n) = inl (omega (arith, ints))
    either (negsuc n) = inr (omega (arith, ints))

-- ---- payments
mapped : (y : ℤ) (o : Option ℤ) → option_map (λ z. mul (of y) (of z)) o ≡ option_map of (option_map (λ side. y *ℤ side) o)
mapped y None = refl
mapped y (Some z) = ap Some (sym (of_mul y z))

paid_whole : (y : ℤ) (r : Row) → paid (of y) r.low r.high ≡ option_map of (option_map (λ side. y *ℤ side) (side_for y r))
paid_whole (pos zero) r = paid_zero (of (pos 0)) r.low r.high zero_top
paid_whole (pos (suc n)) r = paid_up (of (pos (suc n))) r.low r.high (of_positive (pos (suc n)) (omega (arith, ints)))
    ∙ mapped (pos (suc n)) r.low
paid_whole (negsuc n) r = paid_down (of (negsuc n)) r.low r.high (of_negative (negsuc n) (omega (arith, ints))) ∙ mapped (negsuc n) r.high

there : {A : Type 0} (xs : List A) (k : ℕ) → k < length xs → slice_get xs k ≢ None
there [] k l e = absurd (omega arith)
there (x ∷ xs) zero l e = absurd cc
there (x ∷ xs) (suc k) l e = there xs k (omega arith) e

payment_whole : (m : Parts) (k : ℕ) (y : ℤ) → k < length m.rows → paid (of y) (row_low m k) (row_high m k)
    ≡ option_map of (payment m.rows (k, y))
payment_whole m k y l = by (slice_get m.rows k) (there m.rows k l)
  where
    by : (o : Option Row) → o ≢ None → paid (of y) (option_and_then (λ r. r.low) o) (option_and_then (λ r. r.high) o)
        ≡ option_map of (option_map (λ side. y *ℤ side) (option_and_then (side_for y) o))
    by None n = absurd (n refl)
    by (Some r) n = paid_whole y r

-- 0 pays 0
payment_zero : (rows : List Row) (k : ℕ) → k < length rows → option_map of (payment rows (k, pos 0)) ≡ Some (of (pos 0))
payment_zero rows k l = by (slice_get rows k) (there rows k l)
  where
    by : (o : Option Row) → o ≢ None → option_map of (option_map (λ side. pos 0 *ℤ side) (option_and_then (side_for (pos 0)) o))
        ≡ Some (of (pos 0))
    by None n = absurd (n refl)
    by (Some r) n = refl

plus_whole : (o p : Option ℤ) → plus (option_map of o) (option_map of p)
    ≡ option_map of (option_and_then (λ one. option_map (λ rest. one +ℤ rest) p) o)
plus_whole None p = refl
plus_whole (Some x) None = refl
plus_whole (Some x) (Some y) = ap Some (sym (of_add x y))

pay_whole : (rows : List Row) (ps : List (ℕ × ℤ)) → AreOrdered (length rows) ps →
    sum_of_all (λ k. option_map of (payment rows (k, coefficient ps k))) (length rows) ≡ option_map of (pay rows ps)
pay_whole rows [] o = sum_of_all_same (λ k. option_map of (payment rows (k, pos 0))) (λ k. Some (of (pos 0))) (length rows)
    (λ k l. payment_zero rows k l) ∙ sum_of_all_zero (length rows)
pay_whole rows (p ∷ ps) o =
    let n = length rows in
    let free = coefficient_free n p ps o in
    let own : coefficient (p ∷ ps) p.0 ≡ p.1 = let s = coefficient_same p ps in omega (arith, ints) in
    sum_of_all_one (λ k. option_map of (payment rows (k, coefficient (p ∷ ps) k)))
    (λ k. option_map of (payment rows (k, coefficient ps k))) p.0 n (o.within 0 (omega arith))
    (λ k l apart. ap (λ z. option_map of (payment rows (k, z))) (coefficient_other p ps k apart))
    (ap (λ z. option_map of (payment rows (p.0, z))) free ∙ payment_zero rows p.0 (o.within 0 (omega arith)))
    ∙ ap (λ z. plus (option_map of (payment rows (p.0, z))) (sum_of_all (λ k. option_map of (payment rows (k, coefficient ps k))) n)) own
    ∙ ap (plus (option_map of (payment rows p))) (pay_whole rows ps (ordered_tail n p ps o))
    ∙ plus_whole (payment rows p) (pay rows ps)

module _ (m : Parts) (b : List (ℤ × ℤ)) (c : Cert) (o : AreOrdered (length m.rows) c.y) where
  left_whole : (j : ℕ) → left_of m (of c.q) (multiplier c) j ≡ of (reduced m c.q c.y j)
  left_whole j =
      let e : ℕ → ℤ = λ k. coefficient_of m.rows k j in
      let taken = sum_over (λ p. p.1 *ℤ coefficient_of m.rows p.0 j) c.y in
      let rest = sum_same rationals (λ k. mul (multiplier c k) (of (e k))) (λ k. of (coefficient c.y k *ℤ e k)) (length m.rows)
      (λ k l. sym (of_mul (coefficient c.y k) (e k)))
      ∙ sym (of_sum (λ k. coefficient c.y k *ℤ e k) (length m.rows))
      ∙ ap of (coefficient_sum e (length m.rows) c.y o.within) in
      ap (λ z. sub (mul (of c.q) (cost_of m j)) z) rest
      ∙ ap (λ z. sub z (of taken)) (sym (of_mul c.q (at (costs_of m) j)))
      ∙ sym (of_sub (c.q *ℤ at (costs_of m) j) taken)

  columns_whole : length b ≡ length m.columns → column_sum (left_of m (of c.q) (multiplier c)) b (length m.columns)
      ≡ of (column_part m b c.q c.y)
  columns_whole size =
      let r : ℕ → ℤ = reduced m c.q c.y in
      let g : ℕ → ℤ = λ j. int_min (r j *ℤ low_at b j) (r j *ℤ high_at b j) in
      column_sum_same (left_of m (of c.q) (multiplier c)) (λ j. of (r j)) b (length m.columns) left_whole
      ∙ sum_same rationals (λ j. lesser (mul (of (r j)) (of (low_at b j))) (mul (of (r j)) (of (high_at b j)))) (λ j. of (g j))
      (length m.columns) (λ j l.
      ap (λ z. lesser z (mul (of (r j)) (of (high_at b j)))) (sym (of_mul (r j) (low_at b j)))
      ∙ ap (λ z. lesser (of (r j *ℤ low_at b j)) z) (sym (of_mul (r j) (high_at b j)))
      ∙ sym (of_min (r j *ℤ low_at b j) (r j *ℤ high_at b j)))
      ∙ sym (of_sum g (length m.columns))
      ∙ ap (λ n. of (sum_below g n)) (sym size)

  pub dual_whole : length b ≡ length m.columns → dual m b (of c.q) (multiplier c) ≡ option_map of (dual_value m b c.q c.y)
  dual_whole size =
      let pays : paid_sum m (multiplier c) ≡ option_map of (pay m.rows c.y) =
      sum_of_all_same (λ k. paid (multiplier c k) (row_low m k) (row_high m k))
      (λ k. option_map of (payment m.rows (k, coefficient c.y k))) (length m.rows) (λ k l. payment_whole m k (coefficient c.y k) l)
      ∙ pay_whole m.rows c.y o in
      ap (λ s. dual_of m (of c.q) s (paid_sum m (multiplier c))) (columns_whole size)
      ∙ ap (dual_of m (of c.q) (of (column_part m b c.q c.y))) pays
      ∙ by (pay m.rows c.y) (column_part m b c.q c.y)
    where
      by : (o : Option ℤ) (s : ℤ) → dual_of m (of c.q) (of s) (option_map of o)
          ≡ option_map of (option_map (λ paid. paid +ℤ (c.q *ℤ m.constant) +ℤ s) o)
      by None s = refl
      by (Some x) s = ap Some (ap (λ z. add (add (of x) z) (of s)) (sym (of_mul c.q m.constant))
          ∙ ap (λ z. add z (of s)) (sym (of_add x (c.q *ℤ m.constant))) ∙ sym (of_add (x +ℤ (c.q *ℤ m.constant)) s))

pub certificates_have_their_duals : CertificatesHaveTheirDuals
certificates_have_their_duals m b c o size = dual_whole m b c o size
