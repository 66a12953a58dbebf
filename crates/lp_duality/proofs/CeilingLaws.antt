-- Quotients rounded up: equal fractions have equal ones.
use Rattle.std.specs.Prelude.{◌≡◌, ℕ, zero, suc, ◌+◌, ◌-◌, ◌*◌, ◌/◌, ◌<◌, ℤ, pos, negsuc, neg_ℤ, ◌*ℤ◌}
use Rattle.std.proofs.Common.{arith, ap, sym, ◌∙◌}
use Rattle.std.proofs.lemmas.Int.{ints}
use Rattle.std.proofs.lemmas.Nat.{div-mul-add}
use Rattle.std.proofs.Math.Nat.{add-div_right, div-eq_of_lt, div-div-eq-div-mul, mul-div_cancel_left, mul_comm}
use Rattle.std.proofs.Math.IntN.{*ℤ_comm}
use Rattle.ip_defs.specs.Certificates.{ceiling}

ceiling_next : (x n : ℕ) → 0 < n → (suc x + n - 1) / n ≡ x / n + 1
ceiling_next x n p = let e : suc x + n - 1 ≡ x + n = omega arith in ap (λ z. z / n) e ∙ add-div_right x p

ceiling_none : (n : ℕ) → 0 < n → (0 + n - 1) / n ≡ 0
ceiling_none n p = div-eq_of_lt (omega arith)

-- a common factor cancels
ceiling_scale : (k : ℕ) (a : ℤ) (n : ℕ) → ceiling (pos (suc k) *ℤ a) (suc k * suc n) ≡ ceiling a (suc n)
ceiling_scale k (pos zero) n =
    let e : pos (suc k) *ℤ pos zero ≡ pos zero = omega (arith, ints) in
    ap (λ z. ceiling z (suc k * suc n)) e ∙ ap pos (ceiling_none (suc k * suc n) (omega arith) ∙ sym (ceiling_none (suc n) (omega arith)))
ceiling_scale k (pos (suc x)) n =
    let less : ℕ = x * suc k + k in
    let e : pos (suc k) *ℤ pos (suc x) ≡ pos (suc less) = omega (arith, ints) in
    let out : less / suc k ≡ x = div-mul-add x (suc k) k (omega arith) in
    let quotient : less / (suc k * suc n) ≡ x / suc n = sym (div-div-eq-div-mul less (suc k) (suc n)) ∙ ap (λ z. z / suc n) out in
    ap (λ z. ceiling z (suc k * suc n)) e
    ∙ ap pos (ceiling_next less (suc k * suc n) (omega arith) ∙ ap (λ z. z + 1) quotient ∙ sym (ceiling_next x (suc n) (omega arith)))
ceiling_scale k (negsuc x) n =
    let less : ℕ = x * suc k + k in
    let e : pos (suc k) *ℤ negsuc x ≡ negsuc less = omega (arith, ints) in
    let is : suc less ≡ suc k * suc x = omega arith in
    let quotient : suc less / (suc k * suc n) ≡ suc x / suc n = sym (div-div-eq-div-mul (suc less) (suc k) (suc n))
    ∙ ap (λ z. z / suc k / suc n) is ∙ ap (λ z. z / suc n) (mul-div_cancel_left (suc x) (omega arith)) in
    ap (λ z. ceiling z (suc k * suc n)) e ∙ ap (λ z. neg_ℤ (pos z)) quotient

-- equal fractions are rounded up alike
pub ceiling_same : (a : ℤ) (n : ℕ) (b : ℤ) (d : ℕ) → a *ℤ pos (suc d) ≡ b *ℤ pos (suc n) → ceiling a (suc n) ≡ ceiling b (suc d)
ceiling_same a n b d e =
    sym (ceiling_scale d a n)
    ∙ ap (λ z. ceiling z (suc d * suc n)) (*ℤ_comm (pos (suc d)) a ∙ e ∙ *ℤ_comm b (pos (suc n)))
    ∙ ap (ceiling (pos (suc n) *ℤ b)) (mul_comm (suc d) (suc n))
    ∙ ceiling_scale n b d
