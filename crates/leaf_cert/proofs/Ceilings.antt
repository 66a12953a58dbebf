-- Quotients rounded up.
use Rattle.std.specs.Prelude.{◌≡◌, zero, suc, ◌+◌, ◌-◌, ◌/◌, ℤ, pos, negsuc, ◌+ℤ◌, ◌-ℤ◌, ◌<ℤ◌, ◌≤ℤ◌}
use Rattle.std.specs.Int.RustNames.{unsigned_abs, int_div}
use Rattle.std.proofs.Common.{arith, refl, ap, sym, ◌∙◌}
use Rattle.std.proofs.lemmas.Int.{ints}
use Rattle.std.proofs.Math.Nat.{add-div_right, zero-div, div-eq_of_lt}
use Rattle.ip_defs.specs.Certificates.{ceiling}

-- of a positive number: one less is divided, and one is added
pub ceiling_up : (a b : ℤ) → pos 0 <ℤ a → pos 0 <ℤ b → int_div (a -ℤ pos 1) b +ℤ pos 1 ≡ ceiling a (unsigned_abs b)
ceiling_up (pos zero) b p q = absurd (omega (arith, ints))
ceiling_up (pos (suc a)) (pos zero) p q = absurd (omega (arith, ints))
ceiling_up (pos (suc a)) (pos (suc b)) p q =
    let is : suc a + suc b - 1 ≡ a + suc b = omega arith in
    let more : (a + suc b) / suc b ≡ a / suc b + 1 = add-div_right a (omega arith) in
    let less : pos (suc a) -ℤ pos 1 ≡ pos a = omega (arith, ints) in
    ap (λ z. int_div z (pos (suc b)) +ℤ pos 1) less ∙ ap pos (sym more ∙ ap (λ n. n / suc b) (sym is))
ceiling_up (pos (suc a)) (negsuc b) p q = absurd (omega (arith, ints))
ceiling_up (negsuc a) b p q = absurd (omega (arith, ints))

-- of any other number
pub ceiling_down : (a b : ℤ) → a ≤ℤ pos 0 → pos 0 <ℤ b → int_div a b ≡ ceiling a (unsigned_abs b)
ceiling_down (pos zero) (pos zero) p q = absurd (omega (arith, ints))
ceiling_down (pos zero) (pos (suc b)) p q = ap pos (zero-div (suc b) ∙ sym (div-eq_of_lt (omega arith)))
ceiling_down (pos (suc a)) b p q = absurd (omega (arith, ints))
ceiling_down (pos zero) (negsuc b) p q = absurd (omega (arith, ints))
ceiling_down (negsuc a) (pos b) p q = refl
ceiling_down (negsuc a) (negsuc b) p q = absurd (omega (arith, ints))
