-- Digits of a fraction after a whole part: the number that they write, in the least decimals, and its units.
use Rattle.std.specs.Prelude.{◌≡◌, ℕ, zero, suc, ◌+◌, ◌-◌, ◌*◌, ◌/◌, ◌%◌, ◌^◌, ◌<◌, ◌≤◌, ◌==◌, Bool, true, false, if◌then◌else◌, [], ◌∷◌}
use Rattle.std.specs.Prelude.{length}
use Rattle.std.proofs.Common.{refl, arith, ap, sym, ◌∙◌}
use Rattle.std.proofs.lemmas.Bool.{eqb-true}
use Rattle.std.proofs.Math.Nat.{mul_assoc, mul-div_cancel, pow-suc}
use Rattle.std.proofs.lemmas.Nat.{pow-add}
use Rattle.decimals.proofs.DecimalLaws.{least_units, least-drop, units-drop, passes_at_k}
use Rattle.mps_defs.specs.Lists.{least_from}
use Rattle.mps_defs.specs.Numbers.{places, value_from, has_decimals, least_decimals}
use Rattle.mps_defs.proofs.NumberLaws.{ten_positive}

-- ten times the digits of a fraction, after a whole part
pub places_value : (k rest w : ℕ) → rest < 10 ^ k → value_from w (places k rest) * 10 ^ (k - length (places k rest)) ≡ w * 10 ^ k + rest
places_value zero rest w h = omega arith
places_value (suc k) rest w h =
    by (rest == 0) refl (places_value k (rest % 10 ^ k) (10 * w + rest / 10 ^ k) (let p = ten_positive k in omega arith))
  where
    by : (t : Bool) → (rest == 0) ≡ t
        → value_from (10 * w + rest / 10 ^ k) (places k (rest % 10 ^ k)) * 10 ^ (k - length (places k (rest % 10 ^ k)))
        ≡ (10 * w + rest / 10 ^ k) * 10 ^ k + rest % 10 ^ k
        → value_from w (if t then [] else (48 + rest / 10 ^ k) ∷ places k (rest % 10 ^ k)) * 10 ^
        (suc k - length (if t then [] else (48 + rest / 10 ^ k) ∷ places k (rest % 10 ^ k)))
        ≡ w * 10 ^ suc k + rest
    by true e rec =
        let none = eqb-true rest 0 e in let all : suc k - 0 ≡ suc k = omega arith in ap (λ (y : ℕ). w * 10 ^ y) all ∙ omega arith
    by false e rec =
        let digit : 10 * w + (48 + rest / 10 ^ k - 48) ≡ 10 * w + rest / 10 ^ k = omega arith in
        let left : suc k - suc (length (places k (rest % 10 ^ k))) ≡ k - length (places k (rest % 10 ^ k)) = omega arith in
        let whole : rest / 10 ^ k * 10 ^ k + rest % 10 ^ k ≡ rest = parts (10 ^ k) in
        let more : w * 10 ^ suc k ≡ 10 * w * 10 ^ k = ap (λ y. w * y) (pow-suc 10 k) ∙ omega arith in
        ap (λ (v : ℕ). value_from v (places k (rest % 10 ^ k)) * 10 ^ (suc k - suc (length (places k (rest % 10 ^ k))))) digit
        ∙ ap (λ (j : ℕ). value_from (10 * w + rest / 10 ^ k) (places k (rest % 10 ^ k)) * 10 ^ j) left ∙ rec ∙ omega arith
      where
        parts : (t : ℕ) → rest / t * t + rest % t ≡ rest
        parts t = omega arith

-- zeros at the end are dropped
pub zeros_dropped : (n k j : ℕ)
    → (least_units (n * 10 ^ j) (k + j) ≡ least_units n k) × (least_decimals (n * 10 ^ j) (k + j) ≡ least_decimals n k)
zeros_dropped n k zero =
    let one : n * 10 ^ 0 ≡ n = omega arith in
    let none : k + 0 ≡ k = omega arith in (
      ap (λ (m : ℕ). least_units m (k + 0)) one
          ∙ ap (least_units n) none,
      ap (λ (m : ℕ). least_decimals m (k + 0)) one
          ∙ ap (least_decimals n) none,
    )
zeros_dropped n k (suc j) =
    let one : n * 10 ^ suc j ≡ n * 10 ^ j * 10 = ap (λ y. n * y) (pow-suc 10 j) ∙ sym (mul_assoc n (10 ^ j) 10) in
    let more : k + suc j ≡ suc (k + j) = omega arith in
    let rest = zeros_dropped n k j in (
      ap (λ (m : ℕ). least_units m (k + suc j)) one ∙ ap (least_units (n * 10 ^ j * 10)) more ∙ units-drop (n * 10 ^ j) (k + j) ∙ rest.0,
      ap (λ (m : ℕ). least_decimals m (k + suc j)) one
          ∙ ap (least_decimals (n * 10 ^ j * 10)) more
          ∙ least-drop (n * 10 ^ j) (k + j)
          ∙ rest.1,
    )

-- the least place is no later than the last one, and will do where the last one does
pub least_within : (g : ℕ → Bool) (i n : ℕ) → (least_from g i n ≤ i + n)
least_within g i zero = omega arith
least_within g i (suc n) = by (g i) (least_within g (suc i) n)
  where
    by : (t : Bool) → least_from g (suc i) n ≤ suc i + n → (if t then i else least_from g (suc i) n) ≤ i + suc n
    by true h = omega arith
    by false h = omega arith

pub least_passes : (g : ℕ → Bool) (i n : ℕ) → g (n + i) ≡ true → g (least_from g i n) ≡ true
least_passes g i zero h = let e : 0 + i ≡ i = omega arith in ap g (sym e) ∙ h
least_passes g i (suc n) h = by (g i) refl (least_passes g (suc i) n (let e : suc n + i ≡ n + suc i = omega arith in ap g (sym e) ∙ h))
  where
    by : (t : Bool) → g i ≡ t → g (least_from g (suc i) n) ≡ true → g (if t then i else least_from g (suc i) n) ≡ true
    by true e rest = e
    by false e rest = rest

pub decimals_within : (n k : ℕ) → least_decimals n k ≤ k
decimals_within n k = let h = least_within (has_decimals n k) 0 k in omega arith

-- the least units, counted in the units that were written, are what was written
pub units_back : (n k : ℕ) → least_units n k * 10 ^ (k - least_decimals n k) ≡ n
units_back n k =
    let d = least_decimals n k in
    let whole : (n * 10 ^ d) % 10 ^ k ≡ 0 = eqb-true ((n * 10 ^ d) % 10 ^ k) 0 (least_passes (has_decimals n k) 0 k (passes_at_k n k)) in
    let exact : n * 10 ^ d / 10 ^ k * 10 ^ k ≡ n * 10 ^ d = divides (n * 10 ^ d) (10 ^ k) whole in
    let within = decimals_within n k in
    let sum : k - d + d ≡ k = omega arith in
    let split : 10 ^ (k - d) * 10 ^ d ≡ 10 ^ k = sym (pow-add 10 (k - d) d) ∙ ap (λ (y : ℕ). 10 ^ y) sum in
    cancelled (least_units n k * 10 ^ (k - d)) n (10 ^ d) (ten_positive d)
    (mul_assoc (least_units n k) (10 ^ (k - d)) (10 ^ d) ∙ ap (λ (y : ℕ). least_units n k * y) split ∙ exact)
  where
    divides : (a b : ℕ) → a % b ≡ 0 → a / b * b ≡ a
    divides a b e = omega arith

    cancelled : (a b c : ℕ) → 0 < c → a * c ≡ b * c → a ≡ b
    cancelled a b c p e = sym (mul-div_cancel a p) ∙ ap (λ y. y / c) e ∙ mul-div_cancel b p
