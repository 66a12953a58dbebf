-- Rounding numbers of texts to whole numbers.
use Rattle.std.specs.Prelude.{◌≡◌, ℕ, zero, suc, ◌+◌, ◌-◌, ◌/◌, ◌^◌, ◌<◌, Bool, true, false, not, ℤ, pos, negsuc, neg_ℤ, ◌<ℤ◌, ◌≤ℤ◌}
use Rattle.std.specs.Prelude.{refl}
use Rattle.std.specs.Int.{int_div_euclid}
use Rattle.std.specs.Int.RustNames.{unsigned_abs}
use Rattle.std.proofs.Common.{sym, ◌∙◌, ap, subst, arith}
use Rattle.std.proofs.Math.Nat.{add-div_right, div-eq_of_lt, div-lt_iff_lt-mul}
use Rattle.std.proofs.lemmas.Int.{ints}
use Rattle.std.proofs.lemmas.Nat.{pow-add}
use Rattle.ip_defs.specs.Certificates.{ceiling}
use Rattle.mps_defs.specs.Numbers.{signed}
use Rattle.mps_defs.specs.declared.reading.Number.TheVariants.{Dec, Large}
use Rattle.mps_defs.proofs.NumberLaws.{ten_positive}
use Rattle.mps_reader.specs.declared.rounding.Direction.{Direction}
use Rattle.mps_reader.specs.declared.rounding.Direction.TheVariants.{Up, Down}
use Rattle.mps_reader.specs.Internal.Rounding.{is_away, is_down, rounded_by}

-- a number below 10^20 has a whole part below 10^20
pub whole_is_small : (size d : ℕ) → size < 10 ^ (20 + d) → size / 10 ^ d < 10 ^ 20
whole_is_small size d h = (div-lt_iff_lt-mul (ten_positive d)).1 (subst (λ n. size < n) (pow-add 10 20 d) h)

one_more_part : (a n : ℕ) → 0 < n → (suc a + n - 1) / n ≡ a / n + 1
one_more_part a n h = ap (λ k. k / n) (omega arith) ∙ add-div_right a h

up_above : (u : ℤ) (n : ℕ) → 0 < n → pos 0 <ℤ u → signed false ((unsigned_abs u - 1) / n + 1) ≡ ceiling u n
up_above (pos zero) n h p = absurd (omega (arith, ints, p))
up_above (pos (suc a)) n h p = ap pos (ap (λ k. k / n + 1) (omega arith) ∙ sym (one_more_part a n h))
up_above (negsuc a) n h p = absurd (omega (arith, ints, p))

up_below : (u : ℤ) (n : ℕ) → 0 < n → u ≤ℤ pos 0 → signed true (unsigned_abs u / n) ≡ ceiling u n
up_below (pos zero) n h p = ap (λ k. neg_ℤ (pos k)) (div-eq_of_lt h) ∙ ap pos (sym (div-eq_of_lt (omega (arith, h))))
up_below (pos (suc a)) n h p = absurd (omega (arith, ints, p))
up_below (negsuc a) n h p = refl

down_below : (u : ℤ) (n : ℕ) → 0 < n → u <ℤ pos 0 → signed true ((unsigned_abs u - 1) / n + 1) ≡ int_div_euclid u (pos n)
down_below (pos a) n h p = absurd (omega (arith, ints, p))
down_below (negsuc a) n h p = ap (λ k. neg_ℤ (pos k)) (ap (λ k. k / n + 1) (omega arith) ∙ one_after (a / n))
  where
    one_after : (k : ℕ) → k + 1 ≡ suc k
    one_after k = omega arith

down_above : (u : ℤ) (n : ℕ) → pos 0 ≤ℤ u → signed false (unsigned_abs u / n) ≡ int_div_euclid u (pos n)
down_above (pos a) n p = refl
down_above (negsuc a) n p = absurd (omega (arith, ints, p))

-- ---- both directions
pub away_nonzero : (d : Direction) (u : ℤ) → is_away d u ≡ true → 0 < unsigned_abs u
away_nonzero Up u e = omega (arith, ints, e)
away_nonzero Down u e = omega (arith, ints, e)

pub rounded_away : (d : Direction) (u : ℤ) (k : ℕ) → is_away d u ≡ true →
    signed (is_down d) ((unsigned_abs u - 1) / 10 ^ k + 1) ≡ rounded_by d (Dec u k)
rounded_away Up u k e = up_above u (10 ^ k) (ten_positive k) (omega (arith, ints, e))
rounded_away Down u k e = down_below u (10 ^ k) (ten_positive k) (omega (arith, ints, e))

pub rounded_towards : (d : Direction) (u : ℤ) (k : ℕ) → is_away d u ≡ false →
    signed (not (is_down d)) (unsigned_abs u / 10 ^ k) ≡ rounded_by d (Dec u k)
rounded_towards Up u k e = up_below u (10 ^ k) (ten_positive k) (omega (arith, ints, e))
rounded_towards Down u k e = down_above u (10 ^ k) (omega (arith, ints, e))

pub rounded_large : (d : Direction) (negative : Bool) → signed negative (10 ^ 20) ≡ rounded_by d (Large negative)
rounded_large Up negative = refl
rounded_large Down negative = refl
