-- Numbers within the limit of certificates and beyond it.
use Rattle.std.specs.Prelude.{◌≡◌, ℕ, ◌^◌, ◌<◌, ◌≤◌, if◌then◌else◌, None, Some, ℤ, nat_lt, Bool, true, false, unsigned_abs}
use Rattle.std.proofs.Common.{arith, refl, ap, sym}
use Rattle.std.proofs.lemmas.Bool.{lt-ltb, le-ltb, ltb-true}
use borrow.Author.Tests.{ltb-false}
use Rattle.ip_defs.specs.Limits.{exceeds}
use Rattle.dual_rays.specs.Certificates.{divisor_of, multiplier_of}

pub above_is : (z : ℤ) → 2 ^ 36 < unsigned_abs z → exceeds (2 ^ 36) z ≡ true
above_is z l = lt-ltb (2 ^ 36) (unsigned_abs z) l

pub not_above_is : (z : ℤ) → unsigned_abs z ≤ 2 ^ 36 → exceeds (2 ^ 36) z ≡ false
not_above_is z l = le-ltb (2 ^ 36) (unsigned_abs z) l

pub divisor_none : (q : ℕ) → 2 ^ 36 < q → None ≡ divisor_of q
divisor_none q l = sym (ap (λ t. if t then None else Some q) (lt-ltb (2 ^ 36) q l))

pub divisor_some : (q : ℕ) → q ≤ 2 ^ 36 → Some q ≡ divisor_of q
divisor_some q l = sym (ap (λ t. if t then None else Some q) (le-ltb (2 ^ 36) q l))

-- ---- what the answers say
pub divisor_past : (q : ℕ) → divisor_of q ≡ None → 2 ^ 36 < q
divisor_past q e = by (nat_lt (2 ^ 36) q) refl e
  where
    by : (t : Bool) → nat_lt (2 ^ 36) q ≡ t → (if t then None else Some q) ≡ None → 2 ^ 36 < q
    by true f g = ltb-true (2 ^ 36) q f
    by false f g = absurd cc

pub divisor_within : (q r : ℕ) → divisor_of q ≡ Some r → (r ≡ q) × (r ≤ 2 ^ 36)
divisor_within q r e = by (nat_lt (2 ^ 36) q) refl e
  where
    by : (t : Bool) → nat_lt (2 ^ 36) q ≡ t → (if t then None else Some q) ≡ Some r → (r ≡ q) × (r ≤ 2 ^ 36)
    by true f g = absurd cc
    by false f g = let is : r ≡ q = cc in let small = ltb-false (2 ^ 36) q f in (is, omega arith)

pub multiplier_past : (z : ℤ) → multiplier_of z ≡ None → exceeds (2 ^ 36) z ≡ true
multiplier_past z e = by (exceeds (2 ^ 36) z) e
  where
    by : (t : Bool) → (if t then None else Some z) ≡ None → t ≡ true
    by true g = refl
    by false g = absurd cc

pub multiplier_within : (z w : ℤ) → multiplier_of z ≡ Some w → (w ≡ z) × (exceeds (2 ^ 36) z ≡ false)
multiplier_within z w e = by (exceeds (2 ^ 36) z) e
  where
    by : (t : Bool) → (if t then None else Some z) ≡ Some w → (w ≡ z) × (t ≡ false)
    by true g = absurd cc
    by false g = let is : w ≡ z = cc in (is, refl)
