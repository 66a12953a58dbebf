-- Complementary slackness in whole numbers: d times the dual value is q times d times the cost.
use Rattle.std.specs.Prelude.{◌≡◌, ℕ, zero, suc, ◌<◌, List, [], ◌∷◌, length, Option, Some, None, slice_get, option_map, option_and_then}
use Rattle.std.specs.Prelude.{ℤ, pos, negsuc, ◌+ℤ◌, ◌-ℤ◌, ◌*ℤ◌, ◌≤ℤ◌, ◌<ℤ◌}
use Rattle.std.specs.Int.{int_min}
use Rattle.std.proofs.Common.{arith, refl, ap, sym, ◌∙◌}
use Rattle.std.proofs.lemmas.Int.{ints, clamps}
use Rattle.ip_defs.specs.Sums.{sum_below, sum_over}
use Rattle.ip_defs.specs.Program.{at, costs_of, low_at, high_at}
use Rattle.ip_defs.specs.Certificates.{side_for, pay, reduced, column_part, dual_value}
use Rattle.ip_defs.specs.Limits.{index_at, value_at}
use Rattle.ip_defs.specs.declared.programs.Parts.{Parts}
use Rattle.ip_defs.specs.declared.programs.Row.{Row}
use Rattle.ip_defs.proofs.SumLaws.{sum_same, sum_scale}
use Rattle.ip_defs.proofs.DualityLaws.{reduced_sum}
use Rattle.ring_laws.proofs.Products.{mul_add, mul_up, mul_down}
use Rattle.ring_laws.proofs.Rings.{whole}
use Rattle.ring_laws.proofs.Normal.{◌⊗◌}
use Rattle.ring_laws.proofs.Named.{ring3}
use Rattle.slackness.specs.Tight.{activity, IsTightColumn, StandsAt}

-- a factor that is positive may be left out of an order
less_cancel : (k a b : ℤ) → pos 0 <ℤ k → (k *ℤ a) ≤ℤ (k *ℤ b) → a ≤ℤ b
less_cancel (pos zero) a b p h = absurd (omega (arith, ints))
less_cancel (negsuc n) a b p h = absurd (omega (arith, ints))
less_cancel (pos (suc n)) a b p h = by (b -ℤ a) refl
  where
    by : (z : ℤ) → b -ℤ a ≡ z → a ≤ℤ b
    by (pos k) e = omega (arith, ints)
    by (negsuc k) e =
        let is : a ≡ b +ℤ pos (suc k) = omega (arith, ints) in
        let out = mul_add (pos (suc n)) b (pos (suc k)) in
        let large : pos 0 <ℤ (pos (suc n) *ℤ pos (suc k)) = omega (arith, ints) in
        let h' : (pos (suc n) *ℤ (b +ℤ pos (suc k))) ≤ℤ (pos (suc n) *ℤ b) = rw is at h in
        absurd (omega (arith, ints))

-- a column adds its reduced cost times its number
pub column_adds : (d low high n r : ℤ) → pos 0 <ℤ d → IsTightColumn d low high n r → d *ℤ int_min (r *ℤ low) (r *ℤ high) ≡ r *ℤ n
column_adds d low high n (pos zero) p t =
    let e : int_min (pos zero *ℤ low) (pos zero *ℤ high) ≡ pos 0 = omega (arith, ints, clamps) in
    ap (λ z. d *ℤ z) e ∙ omega (arith, ints)
column_adds d low high n (pos (suc k)) p t =
    let order : low ≤ℤ high = less_cancel d low high p (let l = t.between.at_least in let h = t.between.at_most in omega (arith, ints)) in
    let up = mul_up (suc k) low high order in
    let e : int_min (pos (suc k) *ℤ low) (pos (suc k) *ℤ high) ≡ pos (suc k) *ℤ low = omega (arith, ints, clamps) in
    ap (λ z. d *ℤ z) e ∙ ring3 whole (λ d r l. d ⊗ (r ⊗ l)) (λ d r l. r ⊗ (d ⊗ l)) refl d (pos (suc k)) low
    ∙ ap (λ z. pos (suc k) *ℤ z) (sym (t.paid.rises (omega (arith, ints))))
column_adds d low high n (negsuc k) p t =
    let order : low ≤ℤ high = less_cancel d low high p (let l = t.between.at_least in let h = t.between.at_most in omega (arith, ints)) in
    let down = mul_down k low high order in
    let e : int_min (negsuc k *ℤ low) (negsuc k *ℤ high) ≡ negsuc k *ℤ high = omega (arith, ints, clamps) in
    ap (λ z. d *ℤ z) e ∙ ring3 whole (λ d r l. d ⊗ (r ⊗ l)) (λ d r l. r ⊗ (d ⊗ l)) refl d (negsuc k) high
    ∙ ap (λ z. negsuc k *ℤ z) (sym (t.paid.falls (omega (arith, ints))))

-- one payment, d times, is the multiplier times the row's value
one_pays : (d y s : ℤ) (row : Option Row) → StandsAt d y row s → (v : ℤ) →
    option_map (λ side. y *ℤ side) (option_and_then (side_for y) row) ≡ Some v → d *ℤ v ≡ y *ℤ s
one_pays d y s row stands v e = by (option_and_then (side_for y) row) stands e
  where
    by : (o : Option ℤ) → option_map (λ side. d *ℤ side) o ≡ Some s → option_map (λ side. y *ℤ side) o ≡ Some v → d *ℤ v ≡ y *ℤ s
    by None f g = absurd cc
    by (Some side) f g =
        let is : d *ℤ side ≡ s = cc in
        let is' : y *ℤ side ≡ v = cc in
        ap (λ z. d *ℤ z) (sym is') ∙ ring3 whole (λ d y z. d ⊗ (y ⊗ z)) (λ d y z. y ⊗ (d ⊗ z)) refl d y side ∙ ap (λ z. y *ℤ z) is

there : (d y s : ℤ) (row : Option Row) → StandsAt d y row s →
    (v : ℤ) × (option_map (λ side. y *ℤ side) (option_and_then (side_for y) row) ≡ Some v)
there d y s row stands = by (option_and_then (side_for y) row) stands
  where
    by : (o : Option ℤ) → option_map (λ side. d *ℤ side) o ≡ Some s → (v : ℤ) × (option_map (λ side. y *ℤ side) o ≡ Some v)
    by None f = absurd cc
    by (Some side) f = (y *ℤ side, refl)

-- all payments together
pub all_pay : (d : ℤ) (rows : List Row) (n : List ℤ) (y : List (ℕ × ℤ)) →
    ((i : ℕ) → i < length y → StandsAt d (value_at y i) (slice_get rows (index_at y i)) (activity rows n (index_at y i)))
    → (v : ℤ) × (pay rows y ≡ Some v) × (d *ℤ v ≡ sum_over (λ p. p.1 *ℤ activity rows n p.0) y)
all_pay d rows n [] h = (pos 0, refl, omega (arith, ints))
all_pay d rows n (p ∷ ps) h =
    let stands = h 0 (omega arith) in
    let one = there d p.1 (activity rows n p.0) (slice_get rows p.0) stands in
    let first = one_pays d p.1 (activity rows n p.0) (slice_get rows p.0) stands one.0 one.1 in
    let rest = all_pay d rows n ps (λ i l. h (suc i) (omega arith)) in
    let is : pay rows (p ∷ ps) ≡ Some (one.0 +ℤ rest.0) = ap (λ o. option_and_then (λ a. option_map (λ r. a +ℤ r) (pay rows ps)) o) one.1
    ∙ ap (option_map (λ r. one.0 +ℤ r)) rest.1 in
    let out = mul_add d one.0 rest.0 in
    let others = rest.2 in
    (one.0 +ℤ rest.0, is, omega (arith, ints))

-- the columns, d times, add the reduced costs times the numbers
pub columns_add : (m : Parts) (b : List (ℤ × ℤ)) (d : ℤ) (n : List ℤ) (q : ℤ) (y : List (ℕ × ℤ)) → pos 0 <ℤ d →
    ((j : ℕ) → j < length b → IsTightColumn d (low_at b j) (high_at b j) (at n j) (reduced m q y j))
    → d *ℤ column_part m b q y ≡ sum_below (λ j. reduced m q y j *ℤ at n j) (length b)
columns_add m b d n q y p h =
    sym (sum_scale d (λ j. int_min (reduced m q y j *ℤ low_at b j) (reduced m q y j *ℤ high_at b j)) (length b))
    ∙ sum_same (λ j. d *ℤ int_min (reduced m q y j *ℤ low_at b j) (reduced m q y j *ℤ high_at b j)) (λ j. reduced m q y j *ℤ at n j)
    (length b)
    (λ j l. column_adds d (low_at b j) (high_at b j) (at n j) (reduced m q y j) p (h j l))

-- d times what the point n / d costs
abbrev pub whole_cost : Parts → ℤ → List ℤ → ℤ
whole_cost m d n = d *ℤ m.constant +ℤ sum_below (λ j. at (costs_of m) j *ℤ at n j) (length n)

pub whole_dual : (m : Parts) (b : List (ℤ × ℤ)) (d : ℤ) (n : List ℤ) (q : ℤ) (y : List (ℕ × ℤ)) → pos 0 <ℤ d → length n ≡ length b
    → ((j : ℕ) → j < length b → IsTightColumn d (low_at b j) (high_at b j) (at n j) (reduced m q y j))
    → ((i : ℕ) → i < length y → StandsAt d (value_at y i) (slice_get m.rows (index_at y i)) (activity m.rows n (index_at y i)))
    → (g : ℤ) × (dual_value m b q y ≡ Some g) × (d *ℤ g ≡ q *ℤ whole_cost m d n)
whole_dual m b d n q y p size columns rows =
    let paid = all_pay d m.rows n y rows in
    let part = column_part m b q y in
    let g = paid.0 +ℤ (q *ℤ m.constant) +ℤ part in
    let is : dual_value m b q y ≡ Some g = ap (option_map (λ paid. paid +ℤ (q *ℤ m.constant) +ℤ part)) paid.1 in
    let rest = paid.2 in
    let added = columns_add m b d n q y p columns in
    let sized : sum_below (λ j. reduced m q y j *ℤ at n j) (length n) ≡ sum_below (λ j. reduced m q y j *ℤ at n j) (length b) =
    ap (sum_below (λ j. reduced m q y j *ℤ at n j)) size in
    let all_reduced = reduced_sum m n q y in
    let out = mul_add d (paid.0 +ℤ (q *ℤ m.constant)) part in
    let out' = mul_add d paid.0 (q *ℤ m.constant) in
    let swap = ring3 whole (λ d q k. d ⊗ (q ⊗ k)) (λ d q k. q ⊗ (d ⊗ k)) refl d q m.constant in
    let cost = mul_add q (d *ℤ m.constant) (sum_below (λ j. at (costs_of m) j *ℤ at n j) (length n)) in
    (g, is, omega (arith, ints))
