-- Quotients rounded up: which numbers they reach.
use Rattle.std.specs.Prelude.{◌≡◌, ℕ, suc, ◌+◌, ◌-◌, ◌*◌, ◌/◌, ◌<◌, ◌≤◌, Bool, true, false, ℤ, pos, negsuc, ◌+ℤ◌, ◌-ℤ◌, ◌*ℤ◌, ◌≤ℤ◌}
use Rattle.std.specs.Int.Signed.{lt_z}
use Rattle.std.proofs.Common.{arith, refl}
use Rattle.std.proofs.lemmas.Int.{ints}
use Rattle.std.proofs.Math.Nat.{lt-div-mul-add, div-mul-le_self}
use Rattle.ip_defs.specs.Certificates.{ceiling}
use Rattle.ip_defs.proofs.DualityLaws.{ceiling_below}
use Rattle.ring_laws.proofs.Rings.{whole}
use Rattle.ring_laws.proofs.Normal.{◌⊗◌, minus}
use Rattle.ring_laws.proofs.Named.{ring2}
use Rattle.ring_laws.proofs.Products.{mul_add, mul_sub, mul_up}

-- a quotient rounded up, times the divisor, is at least what was divided
pub ceiling_covers : (g : ℤ) (n : ℕ) → g ≤ℤ (pos (suc n) *ℤ ceiling g (suc n))
ceiling_covers (pos a) n =
    let far : a + suc n - 1 < (a + suc n - 1) / suc n * suc n + suc n = lt-div-mul-add (omega arith) in
    let turned : (a + suc n - 1) / suc n * suc n ≡ suc n * ((a + suc n - 1) / suc n) = omega arith in
    let le : a ≤ suc n * ((a + suc n - 1) / suc n) = omega arith in
    omega (arith, ints)
ceiling_covers (negsuc a) n =
    let below : suc a / suc n * suc n ≤ suc a = div-mul-le_self (suc a) (suc n) in
    let turned : suc n * (suc a / suc n) ≡ suc a / suc n * suc n = omega arith in
    let sign = ring2 whole (λ a b. a ⊗ minus b) (λ a b. minus (a ⊗ b)) refl (pos (suc n)) (pos (suc a / suc n)) in
    omega (arith, ints)

-- what a dual value is to due, so that it reaches w when it is divided and rounded up
abbrev pub mark : ℕ → ℤ → ℤ
mark n w = pos (suc n) *ℤ w -ℤ pos n

pub marked : (g w : ℤ) (n : ℕ) → w ≤ℤ ceiling g (suc n) → mark n w ≤ℤ g
marked g w n h = by (lt_z g (mark n w)) refl
  where
    by : (t : Bool) → lt_z g (mark n w) ≡ t → mark n w ≤ℤ g
    by false e = omega (arith, ints)
    by true e =
        let out = mul_sub (pos (suc n)) w (pos 1) in
        let below = ceiling_below g (w -ℤ pos 1) n (omega (arith, ints)) in
        absurd (omega (arith, ints))

pub reached : (g w : ℤ) (n : ℕ) → mark n w ≤ℤ g → w ≤ℤ ceiling g (suc n)
reached g w n h = by (lt_z (ceiling g (suc n)) w) refl
  where
    by : (t : Bool) → lt_z (ceiling g (suc n)) w ≡ t → w ≤ℤ ceiling g (suc n)
    by false e = omega (arith, ints)
    by true e =
        let cover = ceiling_covers g n in
        let more = mul_up (suc n) (ceiling g (suc n) +ℤ pos 1) w (omega (arith, ints)) in
        let out = mul_add (pos (suc n)) (ceiling g (suc n)) (pos 1) in
        absurd (omega (arith, ints))
