-- Tests of order and tests for 0, as statements.
use Rattle.std.specs.Prelude.{◌≡◌, ◌≢◌, ℕ, ◌<◌, ◌≤◌, ◌==◌, nat_lt, Bool, true, false, ℤ, pos, ◌≤ℤ◌, ◌<ℤ◌, unsigned_abs}
use Rattle.std.specs.Int.Signed.{lt_z}
use Rattle.std.proofs.Common.{arith, refl, ap}
use Rattle.std.proofs.lemmas.Bool.{eqb-true, eqb-false}
use Rattle.std.proofs.lemmas.Int.{ints}

pub lt_is : (a b : ℕ) → nat_lt a b ≡ true → a < b
lt_is a b e = grind (arith)

pub lt_true : (a b : ℕ) → a < b → nat_lt a b ≡ true
lt_true a b h = grind (arith)

pub lt_false : (a b : ℕ) → b ≤ a → nat_lt a b ≡ false
lt_false a b h = grind (arith)

pub less_is : (a b : ℤ) → lt_z a b ≡ true → a <ℤ b
less_is a b e = grind (arith, ints)

pub less_true : (a b : ℤ) → a <ℤ b → lt_z a b ≡ true
less_true a b h = grind (arith, ints)

pub less_false : (a b : ℤ) → b ≤ℤ a → lt_z a b ≡ false
less_false a b h = grind (arith, ints)

pub not_less : (a b : ℤ) → lt_z a b ≡ false → b ≤ℤ a
not_less a b e = omega (arith, ints)

-- ---- tests for 0
pub is_zero : (z : ℤ) → z ≡ pos 0 → (unsigned_abs z == 0) ≡ true
is_zero z e = ap (λ w. unsigned_abs w == 0) e

pub is_nonzero : (z : ℤ) → z ≢ pos 0 → (unsigned_abs z == 0) ≡ false
is_nonzero z n = by (unsigned_abs z == 0) refl
  where
    by : (t : Bool) → (unsigned_abs z == 0) ≡ t → t ≡ false
    by true f = absurd (n (let size = eqb-true (unsigned_abs z) 0 f in omega (arith, ints)))
    by false f = refl

pub zero_is : (z : ℤ) → (unsigned_abs z == 0) ≡ true → z ≡ pos 0
zero_is z e = let size = eqb-true (unsigned_abs z) 0 e in omega (arith, ints)

pub nonzero_is : (z : ℤ) → (unsigned_abs z == 0) ≡ false → z ≢ pos 0
nonzero_is z e f = eqb-false (unsigned_abs z) 0 e (ap unsigned_abs f)
