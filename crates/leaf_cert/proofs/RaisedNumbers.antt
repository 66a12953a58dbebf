-- A program with one number raised: how its costs, coefficients, payments and reduced costs differ.
use Rattle.std.specs.Prelude.{◌≡◌, ◌≢◌, ℕ, zero, suc, ◌<◌, ◌==◌, nat_lt, if◌then◌else◌, Bool, true, false, List, [], ◌∷◌, length}
use Rattle.std.specs.Prelude.{map, Option, Some, None, option_map, option_and_then, slice_get, ℤ, pos, negsuc, ◌+ℤ◌, ◌-ℤ◌, ◌*ℤ◌, cond}
use Rattle.std.specs.Int.{int_min, int_max}
use Rattle.std.proofs.Common.{arith, refl, ap, sym, ◌∙◌}
use Rattle.std.proofs.lemmas.Int.{ints, clamps}
use Rattle.std.proofs.lemmas.Bool.{eqb-true, eqb-false}
use Rattle.std.proofs.lemmas.Option.{get_or_from_slice_get, slice_get_within}
use Rattle.ip_defs.specs.Sums.{sum_over}
use Rattle.ip_defs.specs.Limits.{AreOrdered}
use Rattle.ip_defs.specs.Program.{at, coefficient, costs_of}
use Rattle.ip_defs.specs.Certificates.{side_for, payment, pay, coefs_of, coefficient_of, reduced}
use Rattle.ip_defs.specs.declared.programs.Column.{Column}
use Rattle.ip_defs.specs.declared.programs.Row.{Row}
use Rattle.ip_defs.specs.declared.programs.Parts.{Parts}
use Rattle.ip_defs.proofs.DualityLaws.{sum_over_same}
use Rattle.ip_model.proofs.ChangeLaws.{ordered_tail, number_here, number_after}
use Rattle.ring_laws.proofs.Products.{add_mul, mul_add}
use Rattle.ip_model.specs.declared.places.Place.{Place}
use Rattle.ip_model.specs.declared.places.Place.TheVariants.{Cost, Low, High, Coef, Lower, Upper}
use Rattle.ip_model.specs.Places.{changed_at, listed, changed_coefs, with_cost, with_lower, with_upper, with_low, with_high, with_coef}
use Rattle.ip_model.specs.Places.{raised, Exists}
use Rattle.leaf_cert.specs.Internal.Changes.{more_at, rise_at, rise_in}

-- a number raised by e, and coefficients with that of one column raised
abbrev pub plus : ℤ → ℤ → ℤ
plus e z = z +ℤ e

abbrev pub raised_coefs : ℕ → ℤ → List (ℕ × ℤ) → List (ℕ × ℤ)
raised_coefs j e ps = changed_coefs j (plus e) ps

-- what f changes in no element, no list of it sees
pub changed_map : {A B : Type 0} (h : A → B) (f : A → A) → ((x : A) → h (f x) ≡ h x) → (xs : List A) (j : ℕ)
    → map h (changed_at f j xs) ≡ map h xs
changed_map h f same [] j = refl
changed_map h f same (x ∷ xs) zero = ap (λ z. z ∷ map h xs) (same x)
changed_map h f same (x ∷ xs) (suc j) = ap (λ zs. h x ∷ zs) (changed_map h f same xs j)

-- a coefficient that is raised is one more that is listed for its column
listed_is : (j : ℕ) (e : ℤ) (ps : List (ℕ × ℤ)) (k : ℕ) → coefficient (listed j e ps) k ≡ coefficient ((j, e) ∷ ps) k
listed_is j (pos zero) ps k = by (j == k)
  where
    by : (t : Bool) → coefficient ps k ≡ cond t (pos zero +ℤ coefficient ps k) (coefficient ps k)
    by true = omega (arith, ints)
    by false = refl
listed_is j (pos (suc n)) ps k = refl
listed_is j (negsuc n) ps k = refl

none_more : (e : ℤ) → pos 0 +ℤ e ≡ e
none_more e = omega (arith, ints)

pub raised_coefs_is : (j : ℕ) (e : ℤ) (ps : List (ℕ × ℤ)) (k : ℕ) → coefficient (raised_coefs j e ps) k ≡ coefficient ((j, e) ∷ ps) k
raised_coefs_is j e [] k = listed_is j (pos 0 +ℤ e) [] k ∙ ap (λ z. coefficient ((j, z) ∷ []) k) (none_more e)
raised_coefs_is j e (p ∷ ps) k = by (p.0 == j) (nat_lt j p.0) refl (raised_coefs_is j e ps k)
  where
    joined : p.0 ≡ j → (t s : Bool) → (p.0 == k) ≡ t → (j == k) ≡ s
        → cond s ((p.1 +ℤ e) +ℤ coefficient ps k) (coefficient ps k) ≡ cond s (e +ℤ cond t (p.1 +ℤ coefficient ps k) (coefficient ps k))
        (cond t (p.1 +ℤ coefficient ps k) (coefficient ps k))
    joined same true true f g = omega (arith, ints)
    joined same false false f g = refl
    joined same true false f g = let h = ap (λ z. z == k) same in absurd cc
    joined same false true f g = let h = ap (λ z. z == k) same in absurd cc

    after : (t s : Bool) → (c : ℤ) → c ≡ cond s (e +ℤ coefficient ps k) (coefficient ps k)
        → cond t (p.1 +ℤ c) c ≡ cond s (e +ℤ cond t (p.1 +ℤ coefficient ps k) (coefficient ps k))
        (cond t (p.1 +ℤ coefficient ps k) (coefficient ps k))
    after true true c f = omega (arith, ints)
    after true false c f = omega (arith, ints)
    after false true c f = f
    after false false c f = f

    by : (u v : Bool) → (p.0 == j) ≡ u → coefficient (raised_coefs j e ps) k ≡ coefficient ((j, e) ∷ ps) k
        → coefficient (cond u (listed j (p.1 +ℤ e) ps) (cond v (listed j (pos 0 +ℤ e) (p ∷ ps)) (p ∷ raised_coefs j e ps))) k ≡
        coefficient ((j, e) ∷ p ∷ ps) k
    by true v f rest = listed_is j (p.1 +ℤ e) ps k ∙ joined (eqb-true p.0 j f) (p.0 == k) (j == k) refl refl
    by false true f rest = listed_is j (pos 0 +ℤ e) (p ∷ ps) k ∙ ap (λ z. coefficient ((j, z) ∷ p ∷ ps) k) (none_more e)
    by false false f rest = after (p.0 == k) (j == k) (coefficient (raised_coefs j e ps) k) rest

-- a number where two numbers are equal, and else 0
abbrev pub where_same : ℕ → ℕ → ℤ → ℤ
where_same j k z = if j == k then z else pos 0

-- a multiplier where it is paid for the low side, and where it is paid for the high side
abbrev pub pays_low : ℤ → ℤ
pays_low (pos n) = pos n
pays_low (negsuc n) = pos 0

abbrev pub pays_high : ℤ → ℤ
pays_high (pos n) = pos 0
pays_high (negsuc n) = negsuc n

-- other numbers stay (`0 == suc k` does not compute)
apart : (j k : ℕ) (z : ℤ) → j ≢ k → where_same j k z ≡ pos 0
apart j k z other = by (j == k) refl
  where
    by : (t : Bool) → (j == k) ≡ t → cond t z (pos 0) ≡ pos 0
    by true e = absurd (other (eqb-true j k e))
    by false e = refl

first_apart : (k : ℕ) (z : ℤ) → where_same 0 (suc k) z ≡ pos 0
first_apart k z = apart 0 (suc k) z (λ h. omega arith)

-- `suc j == suc k` does not compute either
same_next : (j k : ℕ) (z : ℤ) → where_same j k z ≡ where_same (suc j) (suc k) z
same_next j k z = by (j == k) (suc j == suc k) refl refl
  where
    by : (s t : Bool) → (j == k) ≡ s → (suc j == suc k) ≡ t → cond s z (pos 0) ≡ cond t z (pos 0)
    by true true e f = refl
    by false false e f = refl
    by true false e f = absurd (eqb-false (suc j) (suc k) f (ap suc (eqb-true j k e)))
    by false true e f = let same = eqb-true (suc j) (suc k) f in absurd (eqb-false j k e (omega arith))

plus_zero : (z w : ℤ) → w ≡ pos 0 → z ≡ z +ℤ w
plus_zero z w e = omega (arith, ints)

-- costs
pub cost_is : (cs : List Column) (j k : ℕ) (e : ℤ) → j < length cs
    → at (map (λ (d : Column). d.cost) (changed_at (with_cost (plus e)) j cs)) k ≡ at (map (λ (d : Column). d.cost) cs) k +ℤ where_same j
    k e
cost_is [] j k e l = absurd (omega arith)
cost_is (d ∷ cs) zero zero e l = refl
cost_is (d ∷ cs) zero (suc k) e l = plus_zero (at (map (λ (d : Column). d.cost) cs) k) (where_same 0 (suc k) e) (first_apart k e)
cost_is (d ∷ cs) (suc j) zero e l = plus_zero d.cost (where_same (suc j) 0 e) (apart (suc j) 0 e (λ h. omega arith))
cost_is (d ∷ cs) (suc j) (suc k) e l = cost_is cs j k e (omega arith)
    ∙ ap (λ z. at (map (λ (d : Column). d.cost) cs) k +ℤ z) (same_next j k e)

times_same : (t : Bool) (q e : ℤ) → q *ℤ cond t e (pos 0) ≡ cond t (q *ℤ e) (pos 0)
times_same true q e = refl
times_same false q e = omega (arith, ints)

reduced_by_cost : (m : Parts) (j : ℕ) (e q : ℤ) (y : List (ℕ × ℤ)) (k : ℕ) → j < length m.columns
    → reduced (raised m (Cost j) e) q y k ≡ reduced m q y k +ℤ where_same j k (q *ℤ e)
reduced_by_cost m j e q y k l =
    let is = ap (λ z. q *ℤ z) (cost_is m.columns j k e l) in
    let out = mul_add q (at (costs_of m) k) (where_same j k e) in
    let t = times_same (j == k) q e in
    omega (arith, ints)

-- coefficients
coef_is : (j : ℕ) (e : ℤ) (ps : List (ℕ × ℤ)) (k : ℕ) → coefficient (raised_coefs j e ps) k ≡ coefficient ps k +ℤ where_same j k e
coef_is j e ps k = raised_coefs_is j e ps k ∙ by (j == k)
  where
    by : (t : Bool) → cond t (e +ℤ coefficient ps k) (coefficient ps k) ≡ coefficient ps k +ℤ cond t e (pos 0)
    by true = omega (arith, ints)
    by false = omega (arith, ints)

-- the coefficient_of of a row and column
coefficient_is : (rs : List Row) (i j : ℕ) (e : ℤ) (l k : ℕ) → i < length rs
    → coefficient_of (changed_at (with_coef j (plus e)) i rs) l k ≡ coefficient_of rs l k +ℤ where_same l i (where_same j k e)
coefficient_is [] i j e l k h = absurd (omega arith)
coefficient_is (s ∷ rs) zero j e zero k h = coef_is j e s.coefs k
coefficient_is (s ∷ rs) zero j e (suc l) k h = plus_zero (coefficient_of rs l k) (where_same (suc l) 0 (where_same j k e))
    (apart (suc l) 0 (where_same j k e) (λ h. omega arith))
coefficient_is (s ∷ rs) (suc i) j e zero k h = plus_zero (coefficient s.coefs k) (where_same 0 (suc i) (where_same j k e))
    (first_apart i (where_same j k e))
coefficient_is (s ∷ rs) (suc i) j e (suc l) k h = coefficient_is rs i j e l k (omega arith)
    ∙ ap (λ z. coefficient_of rs l k +ℤ z) (same_next l i (where_same j k e))

-- what multipliers of the row take more
taken_is : (rs : List Row) (i j : ℕ) (e : ℤ) (k : ℕ) (y : List (ℕ × ℤ)) → i < length rs
    → sum_over (λ s. s.1 *ℤ coefficient_of (changed_at (with_coef j (plus e)) i rs) s.0 k) y ≡ sum_over
    (λ s. s.1 *ℤ coefficient_of rs s.0 k) y +ℤ where_same j k (coefficient y i *ℤ e)
taken_is rs i j e k [] h = by (j == k)
  where
    by : (t : Bool) → pos 0 ≡ pos 0 +ℤ cond t (pos 0 *ℤ e) (pos 0)
    by true = omega (arith, ints)
    by false = refl
taken_is rs i j e k (s ∷ ss) h =
    let rest = taken_is rs i j e k ss h in
    let is = ap (λ z. s.1 *ℤ z) (coefficient_is rs i j e s.0 k h) in
    let out = mul_add s.1 (coefficient_of rs s.0 k) (where_same s.0 i (where_same j k e)) in
    let more = by (s.0 == i) (j == k) in
    omega (arith, ints)
  where
    by : (t u : Bool) → s.1 *ℤ cond t (cond u e (pos 0)) (pos 0) +ℤ cond u (coefficient ss i *ℤ e) (pos 0) ≡ cond u
        (cond t (s.1 +ℤ coefficient ss i) (coefficient ss i) *ℤ e) (pos 0)
    by true true = let out = add_mul s.1 (coefficient ss i) e in omega (arith, ints)
    by true false = omega (arith, ints)
    by false true = omega (arith, ints)
    by false false = omega (arith, ints)

reduced_by_coef : (m : Parts) (i j : ℕ) (e q : ℤ) (y : List (ℕ × ℤ)) (k : ℕ) → i < length m.rows
    → reduced (raised m (Coef i j) e) q y k ≡ reduced m q y k -ℤ where_same j k (coefficient y i *ℤ e)
reduced_by_coef m i j e q y k l = let t = taken_is m.rows i j e k y l in omega (arith, ints)

-- payments
paid_low : (k e : ℤ) (r : Row) → option_map (λ side. k *ℤ side) (side_for k (with_low (plus e) r)) ≡ option_map
    (λ v. v +ℤ pays_low k *ℤ e) (option_map (λ side. k *ℤ side) (side_for k r))
paid_low (pos zero) e r = ap Some (omega (arith, ints))
paid_low (pos (suc n)) e r = by r.low
  where
    by : (o : Option ℤ) → option_map (λ side. pos (suc n) *ℤ side) (option_map (λ side. side +ℤ e) o) ≡ option_map
        (λ v. v +ℤ pos (suc n) *ℤ e) (option_map (λ side. pos (suc n) *ℤ side) o)
    by None = refl
    by (Some z) = ap Some (mul_add (pos (suc n)) z e)
paid_low (negsuc n) e r = by r.high
  where
    by : (o : Option ℤ) → option_map (λ side. negsuc n *ℤ side) o ≡ option_map (λ v. v +ℤ pos 0 *ℤ e)
        (option_map (λ side. negsuc n *ℤ side) o)
    by None = refl
    by (Some z) = ap Some (omega (arith, ints))

paid_high : (k e : ℤ) (r : Row) → option_map (λ side. k *ℤ side) (side_for k (with_high (plus e) r)) ≡ option_map
    (λ v. v +ℤ pays_high k *ℤ e) (option_map (λ side. k *ℤ side) (side_for k r))
paid_high (pos zero) e r = ap Some (omega (arith, ints))
paid_high (pos (suc n)) e r = by r.low
  where
    by : (o : Option ℤ) → option_map (λ side. pos (suc n) *ℤ side) o ≡ option_map (λ v. v +ℤ pos 0 *ℤ e)
        (option_map (λ side. pos (suc n) *ℤ side) o)
    by None = refl
    by (Some z) = ap Some (omega (arith, ints))
paid_high (negsuc n) e r = by r.high
  where
    by : (o : Option ℤ) → option_map (λ side. negsuc n *ℤ side) (option_map (λ side. side +ℤ e) o) ≡ option_map (λ v. v +ℤ negsuc n *ℤ e)
        (option_map (λ side. negsuc n *ℤ side) o)
    by None = refl
    by (Some z) = ap Some (mul_add (negsuc n) z e)

same_option : (o : Option ℤ) (w : ℤ) → w ≡ pos 0 → o ≡ option_map (λ v. v +ℤ w) o
same_option None w e = refl
same_option (Some z) w e = ap Some (omega (arith, ints))

payment_low : (rs : List Row) (i : ℕ) (e : ℤ) (l : ℕ) (k : ℤ)
    → payment (changed_at (with_low (plus e)) i rs) (l, k) ≡ option_map (λ v. v +ℤ where_same i l (pays_low k *ℤ e)) (payment rs (l, k))
payment_low [] i e l k = refl
payment_low (r ∷ rs) zero e zero k = paid_low k e r
payment_low (r ∷ rs) zero e (suc l) k = same_option (payment rs (l, k)) (where_same 0 (suc l) (pays_low k *ℤ e))
    (first_apart l (pays_low k *ℤ e))
payment_low (r ∷ rs) (suc i) e zero k = same_option (option_map (λ side. k *ℤ side) (side_for k r))
    (where_same (suc i) 0 (pays_low k *ℤ e)) (apart (suc i) 0 (pays_low k *ℤ e) (λ h. omega arith))
payment_low (r ∷ rs) (suc i) e (suc l) k = payment_low rs i e l k
    ∙ ap (λ z. option_map (λ v. v +ℤ z) (payment rs (l, k))) (same_next i l (pays_low k *ℤ e))

payment_high : (rs : List Row) (i : ℕ) (e : ℤ) (l : ℕ) (k : ℤ)
    → payment (changed_at (with_high (plus e)) i rs) (l, k) ≡ option_map (λ v. v +ℤ where_same i l (pays_high k *ℤ e)) (payment rs (l, k))
payment_high [] i e l k = refl
payment_high (r ∷ rs) zero e zero k = paid_high k e r
payment_high (r ∷ rs) zero e (suc l) k = same_option (payment rs (l, k)) (where_same 0 (suc l) (pays_high k *ℤ e))
    (first_apart l (pays_high k *ℤ e))
payment_high (r ∷ rs) (suc i) e zero k = same_option (option_map (λ side. k *ℤ side) (side_for k r))
    (where_same (suc i) 0 (pays_high k *ℤ e)) (apart (suc i) 0 (pays_high k *ℤ e) (λ h. omega arith))
payment_high (r ∷ rs) (suc i) e (suc l) k = payment_high rs i e l k
    ∙ ap (λ z. option_map (λ v. v +ℤ z) (payment rs (l, k))) (same_next i l (pays_high k *ℤ e))

pay_more : (rs ss : List Row) (h : ℕ × ℤ → ℤ) → ((s : ℕ × ℤ) → payment ss s ≡ option_map (λ v. v +ℤ h s) (payment rs s))
    → (y : List (ℕ × ℤ)) → pay ss y ≡ option_map (λ v. v +ℤ sum_over h y) (pay rs y)
pay_more rs ss h each [] = refl
pay_more rs ss h each (s ∷ y) = rw (each s, pay_more rs ss h each y) (by (payment rs s) (pay rs y))
  where
    by : (one rest : Option ℤ) → option_and_then (λ a. option_map (λ b. a +ℤ b) (option_map (λ v. v +ℤ sum_over h y) rest))
        (option_map (λ v. v +ℤ h s) one) ≡ option_map (λ v. v +ℤ (h s +ℤ sum_over h y))
        (option_and_then (λ a. option_map (λ b. a +ℤ b) rest) one)
    by None rest = refl
    by (Some a) None = refl
    by (Some a) (Some b) = ap Some (omega (arith, ints))

pay_by_low : (rs : List Row) (i : ℕ) (e : ℤ) (y : List (ℕ × ℤ))
    → pay (changed_at (with_low (plus e)) i rs) y ≡ option_map (λ v. v +ℤ sum_over (λ s. where_same i s.0 (pays_low s.1 *ℤ e)) y) (pay rs y)
pay_by_low rs i e y = pay_more rs (changed_at (with_low (plus e)) i rs) (λ s. where_same i s.0 (pays_low s.1 *ℤ e))
    (λ s. payment_low rs i e s.0 s.1) y

pay_by_high : (rs : List Row) (i : ℕ) (e : ℤ) (y : List (ℕ × ℤ))
    → pay (changed_at (with_high (plus e)) i rs) y ≡ option_map (λ v. v +ℤ sum_over (λ s. where_same i s.0 (pays_high s.1 *ℤ e)) y)
    (pay rs y)
pay_by_high rs i e y = pay_more rs (changed_at (with_high (plus e)) i rs) (λ s. where_same i s.0 (pays_high s.1 *ℤ e))
    (λ s. payment_high rs i e s.0 s.1) y

-- what does not change the coefficients of a row
coefs_same : (f : Row → Row) → ((r : Row) → (f r).coefs ≡ r.coefs) → (rs : List Row) (i l : ℕ)
    → coefs_of (slice_get (changed_at f i rs) l) ≡ coefs_of (slice_get rs l)
coefs_same f same [] i l = refl
coefs_same f same (r ∷ rs) zero zero = same r
coefs_same f same (r ∷ rs) zero (suc l) = refl
coefs_same f same (r ∷ rs) (suc i) zero = refl
coefs_same f same (r ∷ rs) (suc i) (suc l) = coefs_same f same rs i l

side_taken : (f : Row → Row) → ((r : Row) → (f r).coefs ≡ r.coefs) → (rs : List Row) (i k : ℕ) (y : List (ℕ × ℤ))
    → sum_over (λ s. s.1 *ℤ coefficient_of (changed_at f i rs) s.0 k) y ≡ sum_over (λ s. s.1 *ℤ coefficient_of rs s.0 k) y
side_taken f same rs i k y = sum_over_same (λ s. s.1 *ℤ coefficient_of (changed_at f i rs) s.0 k) (λ s. s.1 *ℤ coefficient_of rs s.0 k) y
    (λ s. ap (λ c. s.1 *ℤ coefficient c k) (coefs_same f same rs i s.0))

-- what does not change the sides of a row
sides_same : (j : ℕ) (e k : ℤ) (r : Row) → side_for k (with_coef j (plus e) r) ≡ side_for k r
sides_same j e (pos zero) r = refl
sides_same j e (pos (suc n)) r = refl
sides_same j e (negsuc n) r = refl

payment_coef : (rs : List Row) (i j : ℕ) (e : ℤ) (l : ℕ) (k : ℤ)
    → payment (changed_at (with_coef j (plus e)) i rs) (l, k) ≡ payment rs (l, k)
payment_coef [] i j e l k = refl
payment_coef (r ∷ rs) zero j e zero k = ap (option_map (λ side. k *ℤ side)) (sides_same j e k r)
payment_coef (r ∷ rs) zero j e (suc l) k = refl
payment_coef (r ∷ rs) (suc i) j e zero k = refl
payment_coef (r ∷ rs) (suc i) j e (suc l) k = payment_coef rs i j e l k

pub pay_by_coef : (rs : List Row) (i j : ℕ) (e : ℤ) (y : List (ℕ × ℤ)) → pay (changed_at (with_coef j (plus e)) i rs) y ≡ pay rs y
pay_by_coef rs i j e [] = refl
pay_by_coef rs i j e (s ∷ y) = rw (payment_coef rs i j e s.0 s.1, pay_by_coef rs i j e y) refl

-- ---- in terms of the place

low_part : (k : ℤ) → pays_low k ≡ int_max k (pos 0)
low_part (pos n) = omega (arith, ints, clamps)
low_part (negsuc n) = omega (arith, ints, clamps)

high_part : (k : ℤ) → pays_high k ≡ int_min k (pos 0)
high_part (pos n) = omega (arith, ints, clamps)
high_part (negsuc n) = omega (arith, ints, clamps)

zero_times : (e : ℤ) → pos 0 *ℤ e ≡ pos 0
zero_times e = omega (arith, ints)

-- of multipliers in order, one at most is of the row
part_is : (n i : ℕ) (part : ℤ → ℤ) (e : ℤ) (y : List (ℕ × ℤ)) → part (pos 0) ≡ pos 0 → AreOrdered n y
    → sum_over (λ s. where_same i s.0 (part s.1 *ℤ e)) y ≡ part (coefficient y i) *ℤ e
part_is n i part e [] none o = rw none (omega (arith, ints))
part_is n i part e (s ∷ y) none o = by (s.0 == i) (i == s.0) refl refl (part_is n i part e y none (ordered_tail n s y o))
  where
    by : (t u : Bool) → (s.0 == i) ≡ t → (i == s.0) ≡ u → sum_over (λ s. where_same i s.0 (part s.1 *ℤ e)) y ≡ part (coefficient y i) *ℤ e
        → cond u (part s.1 *ℤ e) (pos 0) +ℤ sum_over (λ s. where_same i s.0 (part s.1 *ℤ e)) y ≡ part (coefficient (s ∷ y) i) *ℤ e
    by true true h g rest =
        let here = number_here n i s y o h in
        let gone : coefficient y i ≡ pos 0 = let is : coefficient (s ∷ y) i ≡ s.1 +ℤ coefficient y i = ap
        (λ t. cond t (s.1 +ℤ coefficient y i)
        (coefficient y i)) h in omega (arith, ints) in
        let left : part (coefficient y i) *ℤ e ≡ pos 0 = ap (λ z. part z *ℤ e) gone ∙ ap (λ z. z *ℤ e) none ∙ zero_times e in
        rw here (omega (arith, ints))
    by false false h g rest = let after = number_after i s y h in rw after (omega (arith, ints))
    by true false h g rest = absurd (eqb-false i s.0 g (sym (eqb-true s.0 i h)))
    by false true h g rest = absurd (eqb-false s.0 i h (sym (eqb-true i s.0 g)))

pub pay_raised : (n : ℕ) (m : Parts) (p : Place) (e : ℤ) (y : List (ℕ × ℤ)) → AreOrdered n y
    → pay (raised m p e).rows y ≡ option_map (λ v. v +ℤ more_at p e y) (pay m.rows y)
pay_raised n m (Low i) e y o = pay_by_low m.rows i e y ∙ ap (λ z. option_map (λ v. v +ℤ z) (pay m.rows y))
    (part_is n i pays_low e y refl o ∙ ap (λ z. z *ℤ e) (low_part (coefficient y i)))
pay_raised n m (High i) e y o = pay_by_high m.rows i e y ∙ ap (λ z. option_map (λ v. v +ℤ z) (pay m.rows y))
    (part_is n i pays_high e y refl o ∙ ap (λ z. z *ℤ e) (high_part (coefficient y i)))
pay_raised n m (Coef i j) e y o = pay_by_coef m.rows i j e y ∙ same_option (pay m.rows y) (pos 0) refl
pay_raised n m (Cost j) e y o = same_option (pay m.rows y) (pos 0) refl
pay_raised n m (Lower j) e y o = same_option (pay m.rows y) (pos 0) refl
pay_raised n m (Upper j) e y o = same_option (pay m.rows y) (pos 0) refl

same_costs : (f : Column → Column) → ((c : Column) → (f c).cost ≡ c.cost) → (cs : List Column) (j k : ℕ)
    → at (map (λ (c : Column). c.cost) (changed_at f j cs)) k ≡ at (map (λ (c : Column). c.cost) cs) k
same_costs f same cs j k = ap (λ l. at l k) (changed_map (λ (c : Column). c.cost) f same cs j)

less_is_more : (t : Bool) (r z : ℤ) → r -ℤ cond t z (pos 0) ≡ r +ℤ cond t (pos 0 -ℤ z) (pos 0)
less_is_more true r z = omega (arith, ints)
less_is_more false r z = omega (arith, ints)

pub reduced_raised : (m : Parts) (p : Place) (e q : ℤ) (y : List (ℕ × ℤ)) (k : ℕ) → Exists m p
    → reduced (raised m p e) q y k ≡ reduced m q y k +ℤ rise_in (rise_at p e q y) k
reduced_raised m (Cost j) e q y k there = reduced_by_cost m j e q y k there
reduced_raised m (Coef i j) e q y k there =
    reduced_by_coef m i j e q y k there.0 ∙ less_is_more (j == k) (reduced m q y k) (coefficient y i *ℤ e)
reduced_raised m (Low i) e q y k there =
    ap (λ z. q *ℤ at (costs_of m) k -ℤ z) (side_taken (with_low (plus e)) (λ r. refl) m.rows i k y)
    ∙ plus_zero (reduced m q y k) (pos 0) refl
reduced_raised m (High i) e q y k there =
    ap (λ z. q *ℤ at (costs_of m) k -ℤ z) (side_taken (with_high (plus e)) (λ r. refl) m.rows i k y)
    ∙ plus_zero (reduced m q y k) (pos 0) refl
reduced_raised m (Lower j) e q y k there =
    ap (λ z. q *ℤ z -ℤ sum_over (λ s. s.1 *ℤ coefficient_of m.rows s.0 k) y) (same_costs (with_lower (plus e)) (λ c. refl) m.columns j k)
    ∙ plus_zero (reduced m q y k) (pos 0) refl
reduced_raised m (Upper j) e q y k there =
    ap (λ z. q *ℤ z -ℤ sum_over (λ s. s.1 *ℤ coefficient_of m.rows s.0 k) y) (same_costs (with_upper (plus e)) (λ c. refl) m.columns j k)
    ∙ plus_zero (reduced m q y k) (pos 0) refl

equal_is : (a b : ℕ) → a ≡ b → (a == b) ≡ true
equal_is a b e = grind (arith)

apart_is : (a b : ℕ) → a < b → (a == b) ≡ false
apart_is a b l = grind (arith)

-- the coefficient of a column that is listed
pub coefficient_there : (n i k : ℕ) (y : List (ℕ × ℤ)) (p : ℕ × ℤ) → AreOrdered n y → slice_get y k ≡ Some p → p.0 ≡ i
    → coefficient y i ≡ p.1
coefficient_there n i k [] p o found same = absurd cc
coefficient_there n i zero (q ∷ qs) p o found same =
    let is : q ≡ p = cc in
    let here : q.0 ≡ i = ap (λ (z : ℕ × ℤ). z.0) is ∙ same in
    number_here n i q qs o (equal_is q.0 i here) ∙ ap (λ (z : ℕ × ℤ). z.1) is
coefficient_there n i (suc k) (q ∷ qs) p o found same =
    let within = slice_get_within qs k p found in
    let read = get_or_from_slice_get qs k p (0, pos 0) found in
    let column = ap (λ (z : ℕ × ℤ). z.0) read in
    let less = o.rising 0 (suc k) (omega arith) (omega arith) in
    number_after i q qs (apart_is q.0 i (omega arith)) ∙ coefficient_there n i k qs p (ordered_tail n q qs o) found same

pub constant_raised : (m : Parts) (p : Place) (e : ℤ) → (raised m p e).constant ≡ m.constant
constant_raised m (Cost j) e = refl
constant_raised m (Low i) e = refl
constant_raised m (High i) e = refl
constant_raised m (Coef i j) e = refl
constant_raised m (Lower j) e = refl
constant_raised m (Upper j) e = refl
