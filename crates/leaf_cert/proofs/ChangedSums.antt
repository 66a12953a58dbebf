-- Dual values after a change of one number: how large a change can be, the sum over the columns, and the payments.
use Rattle.std.specs.Prelude.{◌≡◌, ℕ, zero, suc, ◌*◌, ◌^◌, ◌<◌, ◌≤◌, ◌==◌, Bool, true, false, List, length, Option, Some, None, IfSome}
use Rattle.std.specs.Prelude.{option_and_then, option_map, slice_get, ℤ, pos, ◌+ℤ◌, ◌-ℤ◌, ◌*ℤ◌, cond}
use Rattle.std.specs.Int.{int_min}
use Rattle.std.specs.Int.RustNames.{unsigned_abs}
use Rattle.std.proofs.Common.{arith, refl, ap, ◌∙◌, subst}
use Rattle.std.proofs.lemmas.Bool.{eqb-true, eqb-false}
use Rattle.std.proofs.lemmas.Int.{ints}
use Rattle.ip_defs.specs.Sums.{sum_below}
use Rattle.ip_defs.specs.Program.{coefficient, low_at, high_at}
use Rattle.ip_defs.specs.Certificates.{column_part, pay, reduced}
use Rattle.ip_defs.specs.Limits.{AreOrdered, IsWithinLimits}
use Rattle.ip_defs.specs.declared.programs.Parts.{Parts}
use Rattle.ip_defs.specs.declared.programs.Row.{Row}
use Rattle.ip_defs.proofs.BoxLaws.{box_within}
use Rattle.ip_defs.proofs.SumLaws.{sum_same}
use Rattle.ip_model.specs.declared.places.Place.{Place}
use Rattle.ip_model.specs.declared.places.Place.TheVariants.{Cost, Low, High, Coef, Lower, Upper}
use Rattle.ip_model.specs.Places.{Exists, number_of, limit_of, or_zero}
use Rattle.leaf_cert.specs.Changes.{changed_by, IsChange}
use Rattle.leaf_cert.specs.Internal.Changes.{more_paid, rise_of, rise_in}
use Rattle.leaf_cert.proofs.RaisedNumbers.{constant_raised, pay_raised, reduced_raised}
use Rattle.leaf_cert.proofs.Steps.{size_of_product}
use Rattle.leaf_cert.proofs.Taken.{cost_small, entry_small}

-- ---- how large a change can be

option_small : (o : Option ℤ) (most : ℕ) → ((z : ℤ) → o ≡ Some z → unsigned_abs z ≤ most) → unsigned_abs (or_zero o) ≤ most
option_small None most h = omega arith
option_small (Some z) most h = h z refl

side_small : (side : Row → Option ℤ) (o : Option Row) (most : ℕ)
    → ((r : Row) → o ≡ Some r → (z : ℤ) → side r ≡ Some z → unsigned_abs z ≤ most) → unsigned_abs (or_zero (option_and_then side o)) ≤ most
side_small side None most h = omega arith
side_small side (Some r) most h = option_small (side r) most (h r refl)

pub number_small : (m : Parts) (p : Place) → IsWithinLimits m → Exists m p → unsigned_abs (number_of m p) ≤ limit_of p
number_small m (Cost j) limits there = cost_small m j limits there
number_small m (Coef i j) limits there = entry_small m i j limits
number_small m (Low i) limits there = side_small (λ r. r.low) (slice_get m.rows i) (2 ^ 62) (λ r e z h. (limits.rows i r e).low z h)
number_small m (High i) limits there = side_small (λ r. r.high) (slice_get m.rows i) (2 ^ 62) (λ r e z h. (limits.rows i r e).high z h)
number_small m (Lower j) limits there = let area = box_within m limits in area.low j (omega (arith, area.size))
number_small m (Upper j) limits there = let area = box_within m limits in area.high j (omega (arith, area.size))

within_twice : (n e : ℤ) (most : ℕ) → unsigned_abs n ≤ most → unsigned_abs (n +ℤ e) ≤ most → unsigned_abs e ≤ 2 * most
within_twice n e most h g = omega (arith, ints)

pub change_small : (m : Parts) (change : Option (Place × ℤ)) → IsWithinLimits m → IsChange m change
    → IfSome change (λ c. unsigned_abs c.1 ≤ 2 * limit_of c.0)
change_small m None limits is = tt
change_small m (Some c) limits is = within_twice (number_of m c.0) c.1 (limit_of c.0) (number_small m c.0 limits is.0) is.1

-- the reduced cost of a column after its rise
pub risen_small : (q cost taken more old : ℤ) → unsigned_abs q ≤ 2 ^ 36 → unsigned_abs cost ≤ 2 ^ 40 → unsigned_abs taken ≤ 2 ^ 86
    → unsigned_abs more ≤ 2 ^ 77 → old ≡ q *ℤ cost -ℤ taken → unsigned_abs (old +ℤ more) ≤ 2 ^ 87
risen_small q cost taken more old hq hc ht hm is = let size = size_of_product q cost (2 ^ 36) (2 ^ 40) hq hc in omega (arith, ints)

-- ---- sums with one changed term

pub one_term : (f g : ℕ → ℤ) (j n : ℕ) → j < n → ((k : ℕ) → (j == k) ≡ false → g k ≡ f k) → sum_below g n ≡ sum_below f n -ℤ f j +ℤ g j
one_term f g j zero l same = absurd (omega arith)
one_term f g j (suc n) l same = by (j == n) refl (λ h. one_term f g j n h same)
  where
    others : j ≡ n → sum_below g n ≡ sum_below f n
    others is = sum_same g f n (λ k h. same k (apart k (omega arith)))
      where
        apart : (k : ℕ) → k < j → (j == k) ≡ false
        apart k h = grind (arith)

    by : (t : Bool) → (j == n) ≡ t → (j < n → sum_below g n ≡ sum_below f n -ℤ f j +ℤ g j)
        → sum_below g n +ℤ g n ≡ (sum_below f n +ℤ f n) -ℤ f j +ℤ g j
    by true e rest =
        let is = eqb-true j n e in
        let before = others is in
        let one = ap f is in
        let two = ap g is in
        omega (arith, ints)
    by false e rest =
        let other = eqb-false j n e in
        let before = rest (omega arith) in
        let last = same n e in
        omega (arith, ints)

-- the part of a column of the sum, by its reduced cost
abbrev pub part_of : List (ℤ × ℤ) → ℕ → ℤ → ℤ
part_of b k d = int_min (d *ℤ low_at b k) (d *ℤ high_at b k)

reduced_changed : (m : Parts) (change : Option (Place × ℤ)) (q : ℤ) (y : List (ℕ × ℤ)) (k : ℕ) → IsChange m change
    → reduced (changed_by m change) q y k ≡ reduced m q y k +ℤ rise_in (rise_of change q y) k
reduced_changed m None q y k is = plus_none (reduced m q y k)
  where
    plus_none : (z : ℤ) → z ≡ z +ℤ pos 0
    plus_none z = omega (arith, ints)
reduced_changed m (Some c) q y k is = reduced_raised m c.0 c.1 q y k is.0

pub sum_unmoved : (m : Parts) (change : Option (Place × ℤ)) (q : ℤ) (y : List (ℕ × ℤ)) (b : List (ℤ × ℤ)) → IsChange m change
    → rise_of change q y ≡ None → column_part (changed_by m change) b q y ≡ column_part m b q y
sum_unmoved m change q y b is none = sum_same (λ k. part_of b k (reduced (changed_by m change) q y k)) (λ k. part_of b k (reduced m q y k))
    (length b) (λ k l. ap (part_of b k) (reduced_changed m change q y k is ∙ ap (λ r. reduced m q y k +ℤ rise_in r k) none
    ∙ plus_none (reduced m q y k)))
  where
    plus_none : (z : ℤ) → z +ℤ pos 0 ≡ z
    plus_none z = omega (arith, ints)

pub sum_moved : (m : Parts) (change : Option (Place × ℤ)) (q : ℤ) (y : List (ℕ × ℤ)) (b : List (ℤ × ℤ)) (j : ℕ) (more : ℤ)
    → IsChange m change → rise_of change q y ≡ Some (j, more) → j < length b
    → column_part (changed_by m change) b q y
    ≡ column_part m b q y -ℤ part_of b j (reduced m q y j) +ℤ part_of b j (reduced m q y j +ℤ more)
sum_moved m change q y b j more is moved within =
    one_term (λ k. part_of b k (reduced m q y k)) (λ k. part_of b k (reduced (changed_by m change) q y k)) j (length b) within
    (λ k e. ap (part_of b k) (at_column k ∙ ap (λ t. reduced m q y k +ℤ cond t more (pos 0)) e ∙ plus_none (reduced m q y k)))
    ∙ ap (λ z. column_part m b q y -ℤ part_of b j (reduced m q y j) +ℤ part_of b j z)
    (at_column j ∙ ap (λ t. reduced m q y j +ℤ cond t more (pos 0)) (same_column j))
  where
    plus_none : (z : ℤ) → z +ℤ pos 0 ≡ z
    plus_none z = omega (arith, ints)

    same_column : (k : ℕ) → (k == k) ≡ true
    same_column k = grind (arith)

    at_column : (k : ℕ) → reduced (changed_by m change) q y k ≡ reduced m q y k +ℤ cond (j == k) more (pos 0)
    at_column k = reduced_changed m change q y k is ∙ ap (λ r. reduced m q y k +ℤ rise_in r k) moved

same_first : (r s : ℕ × ℤ) (n : ℕ) → r.0 < n → Some r ≡ Some s → s.0 < n
same_first r s n within same = let is : r ≡ s = cc in subst (λ (z : ℕ × ℤ). z.0 < n) is within

-- the column of a rise is one of the program
pub rise_within : (m : Parts) (change : Option (Place × ℤ)) (q : ℤ) (y : List (ℕ × ℤ)) (j : ℕ) (more : ℤ) → IsChange m change
    → rise_of change q y ≡ Some (j, more) → j < length m.columns
rise_within m None q y j more is moved = absurd cc
rise_within m (Some (Cost k, e)) q y j more is moved = same_first (k, q *ℤ e) (j, more) (length m.columns) is.0 moved
rise_within m (Some (Coef i k, e)) q y j more is moved =
    same_first (k, pos 0 -ℤ coefficient y i *ℤ e) (j, more) (length m.columns) is.0.1 moved
rise_within m (Some (Low i, e)) q y j more is moved = absurd cc
rise_within m (Some (High i, e)) q y j more is moved = absurd cc
rise_within m (Some (Lower i, e)) q y j more is moved = absurd cc
rise_within m (Some (Upper i, e)) q y j more is moved = absurd cc

-- ---- payments and the constant

plus_none_paid : (o : Option ℤ) → o ≡ option_map (λ v. v +ℤ pos 0) o
plus_none_paid None = refl
plus_none_paid (Some v) = ap Some (omega (arith, ints))

pub pay_changed : (n : ℕ) (m : Parts) (change : Option (Place × ℤ)) (y : List (ℕ × ℤ)) → AreOrdered n y
    → pay (changed_by m change).rows y ≡ option_map (λ v. v +ℤ more_paid change y) (pay m.rows y)
pay_changed n m None y o = plus_none_paid (pay m.rows y)
pay_changed n m (Some c) y o = pay_raised n m c.0 c.1 y o

pub constant_changed : (m : Parts) (change : Option (Place × ℤ)) → (changed_by m change).constant ≡ m.constant
constant_changed m None = refl
constant_changed m (Some c) = constant_raised m c.0 c.1
