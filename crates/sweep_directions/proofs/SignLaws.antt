-- The sign of a number in units is that of the number.
use Rattle.std.specs.Prelude.{◌≡◌, ℕ, zero, suc, ◌-◌, ◌%◌, ◌^◌, ◌==◌, nat_le, Bool, true, false, cond, Some, ℤ, pos, negsuc, ◌*ℤ◌, ◌≤ℤ◌}
use Rattle.std.specs.Prelude.{int_div}
use Rattle.std.specs.Int.RustNames.{unsigned_abs}
use Rattle.std.proofs.Common.{arith, subst}
use Rattle.std.proofs.lemmas.Int.{ints}
use Rattle.ring_laws.proofs.Products.{mul_down, mul_up}
use Rattle.ip_defs.proofs.OrderLaws.{not_less}
use Rattle.mps_defs.specs.Lists.{where_true}
use Rattle.mps_defs.specs.Numbers.{exact_units, whole_quotient}
use Rattle.mps_defs.specs.TextModels.{is_negative_number}
use Rattle.mps_defs.specs.declared.reading.Number.{Number}
use Rattle.mps_defs.specs.declared.reading.Number.TheVariants.{Dec, Large}
use Rattle.question_text.specs.SweepFiles.{is_positive_number}

product_down : (u : ℤ) (n : ℕ) → u ≤ℤ pos 0 → (u *ℤ pos n) ≤ℤ pos 0
product_down (pos zero) n h = omega (arith, ints)
product_down (pos (suc a)) n h = absurd (omega (arith, ints))
product_down (negsuc a) n h = let less = mul_down a (pos 0) (pos n) (omega (arith, ints)) in omega (arith, ints)

product_up : (u : ℤ) (n : ℕ) → pos 0 ≤ℤ u → pos 0 ≤ℤ (u *ℤ pos n)
product_up (pos a) n h = let more = mul_up a (pos 0) (pos n) (omega (arith, ints)) in omega (arith, ints)
product_up (negsuc a) n h = absurd (omega (arith, ints))

quotient_down : (u : ℤ) (n : ℕ) → u ≤ℤ pos 0 → int_div u (pos n) ≤ℤ pos 0
quotient_down (pos zero) n h = omega (arith, ints)
quotient_down (pos (suc a)) n h = absurd (omega (arith, ints))
quotient_down (negsuc a) n h = omega (arith, ints)

quotient_up : (u : ℤ) (n : ℕ) → pos 0 ≤ℤ u → pos 0 ≤ℤ int_div u (pos n)
quotient_up (pos a) n h = omega (arith, ints)
quotient_up (negsuc a) n h = absurd (omega (arith, ints))

-- what holds of the products and the quotients of a number holds of it in units
in_units : (P : ℤ → Type 0) (u : ℤ) (decimals k : ℕ) (z : ℤ) → ((n : ℕ) → P (u *ℤ pos n)) → ((n : ℕ) → P (int_div u (pos n)))
    → exact_units (Dec u decimals) k ≡ Some z → P z
in_units P u decimals k z product quotient e = by (nat_le decimals k) e
  where
    whole : (n : ℕ) (t : Bool) → where_true t (int_div u (pos n)) ≡ Some z → P z
    whole n false e = absurd cc
    whole n true e = let same : int_div u (pos n) ≡ z = cc in subst P same (quotient n)

    by : (t : Bool) → cond t (Some (u *ℤ pos (10 ^ (k - decimals)))) (whole_quotient u (10 ^ (decimals - k))) ≡ Some z → P z
    by true e = let same : u *ℤ pos (10 ^ (k - decimals)) ≡ z = cc in subst P same (product (10 ^ (k - decimals)))
    by false e = whole (10 ^ (decimals - k)) (unsigned_abs u % 10 ^ (decimals - k) == 0) e

pub units_down : (x : Number) (k : ℕ) (z : ℤ) → is_positive_number x ≡ false → exact_units x k ≡ Some z → z ≤ℤ pos 0
units_down (Large negative) k z sign e = absurd cc
units_down (Dec u decimals) k z sign e =
    let low = not_less (pos 0) u sign in
    in_units (λ y. y ≤ℤ pos 0) u decimals k z (λ n. product_down u n low) (λ n. quotient_down u n low) e

pub units_up : (x : Number) (k : ℕ) (z : ℤ) → is_negative_number x ≡ false → exact_units x k ≡ Some z → pos 0 ≤ℤ z
units_up (Large negative) k z sign e = absurd cc
units_up (Dec u decimals) k z sign e =
    let high = not_less u (pos 0) sign in
    in_units (λ y. pos 0 ≤ℤ y) u decimals k z (λ n. product_up u n high) (λ n. quotient_up u n high) e
