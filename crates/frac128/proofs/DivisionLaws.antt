-- Quotients rounded down and up lie by less than one from the quotient.
use Rattle.std.specs.Prelude.{◌≡◌, ◌/◌, ℤ, pos, negsuc, neg_ℤ, ◌+ℤ◌, ◌-ℤ◌, ◌*ℤ◌, ◌≤ℤ◌, ◌<ℤ◌}
use Rattle.std.proofs.Common.{arith, refl, subst, sym}
use Rattle.std.proofs.lemmas.Int.{ints}
use Rattle.ring_laws.proofs.Rings.{whole}
use Rattle.ring_laws.proofs.Normal.{num, ◌⊕◌, ◌⊖◌, ◌⊗◌, minus}
use Rattle.ring_laws.proofs.Named.{ring2}
use Rattle.frac128.specs.Division.{floor_of, ceiling_of}

pub floor-at_most : (a b : ℤ) → pos 0 <ℤ b → (floor_of a b *ℤ b) ≤ℤ a
floor-at_most (pos m) (pos n) p = omega (arith, ints)
floor-at_most (pos m) (negsuc n) p = absurd (omega (arith, ints))
floor-at_most (negsuc m) (pos n) p = omega (arith, ints)
floor-at_most (negsuc m) (negsuc n) p = absurd (omega (arith, ints))

pub floor-greatest : (a b : ℤ) → pos 0 <ℤ b → a <ℤ ((floor_of a b +ℤ pos 1) *ℤ b)
floor-greatest (pos m) (pos n) p = omega (arith, ints)
floor-greatest (pos m) (negsuc n) p = absurd (omega (arith, ints))
floor-greatest (negsuc m) (pos n) p =
    let next : negsuc (m / n) +ℤ pos 1 ≡ neg_ℤ (pos (m / n)) = omega (arith, ints) in
    let turned : neg_ℤ (pos (m / n)) *ℤ pos n ≡ neg_ℤ (pos (m / n) *ℤ pos n) =
    ring2 whole (λ x y. minus x ⊗ y) (λ x y. minus (x ⊗ y)) refl (pos (m / n)) (pos n) in
    let above : negsuc m <ℤ (neg_ℤ (pos (m / n)) *ℤ pos n) = omega (arith, ints) in
    subst (λ z. negsuc m <ℤ (z *ℤ pos n)) (sym next) above
floor-greatest (negsuc m) (negsuc n) p = absurd (omega (arith, ints))

pub ceiling-least : (a b : ℤ) → pos 0 <ℤ b → ((ceiling_of a b -ℤ pos 1) *ℤ b) <ℤ a
ceiling-least a b p =
    let q = floor_of (neg_ℤ a) b in
    let above = floor-greatest (neg_ℤ a) b p in
    let turned : (neg_ℤ q -ℤ pos 1) *ℤ b ≡ neg_ℤ ((q +ℤ pos 1) *ℤ b) =
    ring2 whole (λ x y. (minus x ⊖ num (pos 1)) ⊗ y) (λ x y. minus ((x ⊕ num (pos 1)) ⊗ y)) refl q b in
    omega (arith, ints)
