-- Weak duality over boxes.
use Rattle.std.specs.Prelude.{◌≡◌, ℕ, zero, suc, ◌+◌, ◌-◌, ◌*◌, ◌/◌, ◌<◌, ◌≤◌, Bool, true, false, List, [], ◌∷◌, length, All, Option}
use Rattle.std.specs.Prelude.{Some, None, IfSome, slice_get, option_map, option_and_then, ℤ, pos, negsuc, ◌+ℤ◌, ◌-ℤ◌, ◌*ℤ◌, ◌≤ℤ◌, cond}
use Rattle.std.proofs.Common.{arith, refl, ap, subst}
use Rattle.std.proofs.lemmas.Int.{ints, clamps}
use Rattle.std.proofs.lemmas.Option.{get_or_from_slice_get, slice_get_within}
use Rattle.std.proofs.lemmas.List.Elements.{All-get_or, All-from_get_or}
use Rattle.std.proofs.lemmas.List.Folds.{list_any_none}
use Rattle.std.specs.Int.{int_min}
use Rattle.std.proofs.Math.Nat.{div-lt_iff_lt-mul}
use Rattle.std.proofs.lemmas.Nat.{le-div}
use Rattle.std.specs.Int.Signed.{lt_z}
use Rattle.std.specs.List.{list_any}
use Rattle.ip_defs.specs.Sums.{sum_below, sum_over}
use Rattle.ip_defs.specs.Program.{at, coefficient, row_sum, Meets, IsIn, low_at, high_at, cost, costs_of}
use Rattle.ip_defs.specs.Certificates.{side_for, payment, pay, coefs_of, coefficient_of, reduced, column_part, dual_value, box_sum}
use Rattle.ip_defs.specs.Certificates.{ceiling, is_empty_side, bound_by, IsAtMost, WeakDuality}
use Rattle.ip_defs.specs.declared.programs.Row.{Row}
use Rattle.ip_defs.specs.declared.programs.Parts.{Parts}
use Rattle.ip_defs.specs.declared.certificates.Bound.TheVariants.{At, Infinite}
use Rattle.ring_laws.proofs.Products.{add_mul, mul_add, sub_mul, mul_assoc, mul_up, mul_down}
use Rattle.ip_defs.proofs.SumLaws.{sum_same, sum_le, sum_sub, sum_scale, exchange}
use Rattle.ip_defs.proofs.OrderLaws.{less_false}

-- the lesser of reduced cost times the two bounds is at most reduced cost times the coordinate
pub lesser_end : (d lo x hi : ℤ) → lo ≤ℤ x → x ≤ℤ hi → int_min (d *ℤ lo) (d *ℤ hi) ≤ℤ (d *ℤ x)
lesser_end (pos n) lo x hi l h = let p = mul_up n lo x l in omega (arith, ints, clamps)
lesser_end (negsuc n) lo x hi l h = let p = mul_down n x hi h in omega (arith, ints, clamps)

pub sum_over_mul : {A : Type 0} (f : A → ℤ) (ys : List A) (k : ℤ) → sum_over f ys *ℤ k ≡ sum_over (λ p. f p *ℤ k) ys
sum_over_mul f [] k = omega (arith, ints)
sum_over_mul f (y ∷ ys) k =
    let rest = sum_over_mul f ys k in
    let out = add_mul (f y) (sum_over f ys) k in
    omega (arith, ints)

pub sum_over_same : {A : Type 0} (f g : A → ℤ) (ys : List A) → ((p : A) → f p ≡ g p) → sum_over f ys ≡ sum_over g ys
sum_over_same f g [] h = refl
sum_over_same f g (y ∷ ys) h =
    let rest = sum_over_same f g ys h in
    let first = h y in
    omega (arith, ints)

-- the value of a row at a point, by row number
abbrev pub activity : List Row → List ℤ → ℕ → ℤ
activity rows x i = sum_below (λ j. coefficient_of rows i j *ℤ at x j) (length x)

-- a payment is at most multiplier times the value of the row
one_pays : (x : List ℤ) (k : ℤ) (found : Option Row) (v : ℤ) → IfSome found (Meets x) →
    option_map (λ side. k *ℤ side) (option_and_then (side_for k) found) ≡ Some v →
    v ≤ℤ (k *ℤ sum_below (λ j. coefficient (coefs_of found) j *ℤ at x j) (length x))
one_pays x k None v meets e = absurd cc
one_pays x (pos zero) (Some r) v meets e = let is : pos 0 ≡ v = cc in omega (arith, ints)
one_pays x (pos (suc n)) (Some r) v meets e = by r.low meets.low e
  where
    by : (low : Option ℤ) → IfSome low (λ side. side ≤ℤ row_sum r.coefs x) → option_map (λ side. pos (suc n) *ℤ side) low ≡ Some v →
        v ≤ℤ (pos (suc n) *ℤ row_sum r.coefs x)
    by None m e = absurd cc
    by (Some l) m e = let is : pos (suc n) *ℤ l ≡ v = cc in
        subst (λ (z : ℤ). z ≤ℤ (pos (suc n) *ℤ row_sum r.coefs x)) is (mul_up (suc n) l (row_sum r.coefs x) m)
one_pays x (negsuc n) (Some r) v meets e = by r.high meets.high e
  where
    by : (high : Option ℤ) → IfSome high (λ side. row_sum r.coefs x ≤ℤ side) → option_map (λ side. negsuc n *ℤ side) high ≡ Some v →
        v ≤ℤ (negsuc n *ℤ row_sum r.coefs x)
    by None m e = absurd cc
    by (Some l) m e = let is : negsuc n *ℤ l ≡ v = cc in subst (λ (z : ℤ). z ≤ℤ (negsuc n *ℤ row_sum r.coefs x)) is
        (mul_down n (row_sum r.coefs x) l m)

pub meets_at : (rows : List Row) (x : List ℤ) (i : ℕ) → All (Meets x) rows → IfSome (slice_get rows i) (Meets x)
meets_at rows x i all = by (slice_get rows i) refl
  where
    by : (found : Option Row) → slice_get rows i ≡ found → IfSome found (Meets x)
    by None e = tt
    by (Some r) e = subst (Meets x) (get_or_from_slice_get rows i r r e) (All-get_or (Meets x) rows i r (slice_get_within rows i r e) all)

-- the sum of all payments
all_pay : (rows : List Row) (x : List ℤ) (y : List (ℕ × ℤ)) (v : ℤ) → All (Meets x) rows → pay rows y ≡ Some v →
    v ≤ℤ sum_over (λ p. p.1 *ℤ activity rows x p.0) y
all_pay rows x [] v all e = let is : pos 0 ≡ v = cc in omega (arith, ints)
all_pay rows x (p ∷ ps) v all e = by (payment rows p) (pay rows ps) refl (λ w g. all_pay rows x ps w all g) e
  where
    by : (one rest : Option ℤ) → payment rows p ≡ one → ((w : ℤ) → rest ≡ Some w → w ≤ℤ sum_over (λ q. q.1 *ℤ activity rows x q.0) ps) →
        option_and_then (λ first. option_map (λ others. first +ℤ others) rest) one ≡ Some v →
        v ≤ℤ (p.1 *ℤ activity rows x p.0 +ℤ sum_over (λ q. q.1 *ℤ activity rows x q.0) ps)
    by None rest f g e = absurd cc
    by (Some one) None f g e = absurd cc
    by (Some one) (Some rest) f g e =
        let first = one_pays x p.1 (slice_get rows p.0) one (meets_at rows x p.0 all) f in
        let others = g rest refl in
        let is : one +ℤ rest ≡ v = cc in
        omega (arith, ints)

-- the reduced costs at a point: q times the costs, less the multipliers times the values of the rows
pub reduced_sum : (m : Parts) (x : List ℤ) (q : ℤ) (y : List (ℕ × ℤ)) → sum_below (λ j. reduced m q y j *ℤ at x j) (length x)
    ≡ q *ℤ sum_below (λ j. at (costs_of m) j *ℤ at x j) (length x) -ℤ sum_over (λ p. p.1 *ℤ activity m.rows x p.0) y
reduced_sum m x q y =
    let n = length x in
    let F : ℕ × ℤ → ℕ → ℤ = λ p j. p.1 *ℤ (coefficient_of m.rows p.0 j *ℤ at x j) in
    let each : (j : ℕ) → reduced m q y j *ℤ at x j ≡ q *ℤ (at (costs_of m) j *ℤ at x j) -ℤ sum_over (λ p. F p j) y =
    λ j.
    let apart = sub_mul (q *ℤ at (costs_of m) j) (sum_over (λ p. p.1 *ℤ coefficient_of m.rows p.0 j) y) (at x j) in
    let left = mul_assoc q (at (costs_of m) j) (at x j) in
    let right = sum_over_mul (λ p. p.1 *ℤ coefficient_of m.rows p.0 j) y (at x j) in
    let inner = sum_over_same (λ p. (p.1 *ℤ coefficient_of m.rows p.0 j) *ℤ at x j) (λ p. F p j) y
    (λ p. mul_assoc p.1 (coefficient_of m.rows p.0 j) (at x j)) in
    omega (arith, ints) in
    let same = sum_same (λ j. reduced m q y j *ℤ at x j) (λ j. q *ℤ (at (costs_of m) j *ℤ at x j)
    -ℤ sum_over (λ p. F p j) y) n (λ j l. each j) in
    let split = sum_sub (λ j. q *ℤ (at (costs_of m) j *ℤ at x j)) (λ j. sum_over (λ p. F p j) y) n in
    let scaled = sum_scale q (λ j. at (costs_of m) j *ℤ at x j) n in
    let swapped = exchange F y n in
    let rowwise = sum_over_same (λ p. sum_below (F p) n) (λ p. p.1 *ℤ activity m.rows x p.0) y
    (λ p. sum_scale p.1 (λ j. coefficient_of m.rows p.0 j *ℤ at x j) n) in
    omega (arith, ints)

-- the dual value is at most q times the cost
pub dual_value_below : (m : Parts) (b : List (ℤ × ℤ)) (q : ℤ) (y : List (ℕ × ℤ)) (x : List ℤ) (g : ℤ) → All (Meets x) m.rows → IsIn b x →
    dual_value m b q y ≡ Some g → g ≤ℤ (q *ℤ cost m x)
dual_value_below m b q y x g all inside e = by (pay m.rows y) refl e
  where
    by : (paid : Option ℤ) → pay m.rows y ≡ paid → option_map (λ paid. paid +ℤ (q *ℤ m.constant) +ℤ column_part m b q y) paid ≡ Some g →
        g ≤ℤ (q *ℤ cost m x)
    by None f e = absurd cc
    by (Some paid) f e =
        let is : paid +ℤ (q *ℤ m.constant) +ℤ column_part m b q y ≡ g = cc in
        let pays = all_pay m.rows x y paid all f in
        let columns = sum_le (λ j. int_min (reduced m q y j *ℤ low_at b j) (reduced m q y j *ℤ high_at b j))
        (λ j. reduced m q y j *ℤ at x j) (length b) (λ j l. lesser_end (reduced m q y j) (low_at b j) (at x j) (high_at b j)
        (inside.low j l) (inside.high j l)) in
        let sized = ap (sum_below (λ j. reduced m q y j *ℤ at x j)) inside.size in
        let all_taken = reduced_sum m x q y in
        let whole = mul_add q m.constant (sum_below (λ j. at (costs_of m) j *ℤ at x j) (length x)) in
        omega (arith, ints)

-- g / (n + 1) rounded up is at most w where g is at most (n + 1) * w
pub ceiling_below : (g w : ℤ) (n : ℕ) → g ≤ℤ (pos (suc n) *ℤ w) → ceiling g (suc n) ≤ℤ w
ceiling_below (pos a) (pos k) n h =
    let le : a ≤ suc n * k = omega (arith, ints) in
    let far : a + suc n - 1 < (k + 1) * suc n = omega arith in
    let positive : 0 < suc n = omega arith in
    let d : (a + suc n - 1) / suc n < k + 1 = (div-lt_iff_lt-mul {k = suc n} {x = a + suc n - 1} {y = k + 1} positive).1 far in
    omega (arith, ints)
ceiling_below (pos a) (negsuc k) n h = absurd (omega (arith, ints))
ceiling_below (negsuc a) (pos k) n h = omega (arith, ints)
ceiling_below (negsuc a) (negsuc k) n h =
    let le : suc n * suc k ≤ suc a = omega (arith, ints) in
    let d : suc k ≤ suc a / suc n = le-div (suc k) (suc a) (suc n) (omega arith) (omega arith) in
    omega (arith, ints)

pub no_empty : (b : List (ℤ × ℤ)) (x : List ℤ) → IsIn b x → list_any is_empty_side b ≡ false
no_empty b x inside = list_any_none is_empty_side b (All-from_get_or (λ s. is_empty_side s ≡ false) b (pos 0, pos 0)
    (λ j l. let low = inside.low j l in let high = inside.high j l in less_false (high_at b j) (low_at b j) (omega (arith, ints))))

-- the sum of a box is at most the cost
pub box_sum_below : (m : Parts) (b : List (ℤ × ℤ)) (x : List ℤ) → All (Meets x) m.rows → IsIn b x → box_sum m b ≤ℤ cost m x
box_sum_below m b x all inside =
    let g = dual_value_below m b (pos 1) [] x (pos 0 +ℤ (pos 1 *ℤ m.constant) +ℤ column_part m b (pos 1) []) all inside refl in
    omega (arith, ints)

by_dual_value : (m : Parts) (b : List (ℤ × ℤ)) (q : ℤ) (y : List (ℕ × ℤ)) (x : List ℤ) (g : Option ℤ) → All (Meets x) m.rows → IsIn b x →
    dual_value m b q y ≡ g → IsAtMost (bound_by q (box_sum m b) g) (cost m x)
by_dual_value m b (pos (suc n)) y x (Some g) all inside e =
    ceiling_below g (cost m x) n (dual_value_below m b (pos (suc n)) y x g all inside e)
by_dual_value m b (pos zero) y x (Some g) all inside e = by (lt_z (pos 0) g) refl
  where
    by : (t : Bool) → lt_z (pos 0) g ≡ t → IsAtMost (cond t Infinite (At (box_sum m b))) (cost m x)
    by true f = let h = dual_value_below m b (pos zero) y x g all inside e in absurd (omega (arith, ints))
    by false f = box_sum_below m b x all inside
by_dual_value m b (negsuc n) y x (Some g) all inside e = box_sum_below m b x all inside
by_dual_value m b (pos zero) y x None all inside e = box_sum_below m b x all inside
by_dual_value m b (pos (suc n)) y x None all inside e = box_sum_below m b x all inside
by_dual_value m b (negsuc n) y x None all inside e = box_sum_below m b x all inside

pub weak_duality : WeakDuality
weak_duality m b c x size feasible inside =
    rw (no_empty b x inside) (by_dual_value m b c.q c.y x (dual_value m b c.q c.y) feasible.rows inside refl)
