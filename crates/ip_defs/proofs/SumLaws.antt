-- Laws of sums of whole numbers.
use Rattle.std.specs.Prelude.{◌≡◌, ℕ, zero, suc, ◌<◌, List, [], ◌∷◌, ℤ, pos, ◌+ℤ◌, ◌-ℤ◌, ◌*ℤ◌, ◌≤ℤ◌}
use Rattle.std.proofs.Common.{arith, refl}
use Rattle.std.proofs.lemmas.Int.{ints}
use Rattle.ip_defs.specs.Sums.{sum_below, sum_over}
use Rattle.ring_laws.proofs.Rings.{whole}
use Rattle.ring_laws.proofs.Sums as Sums

pub sum_same : (f g : ℕ → ℤ) (n : ℕ) → ((j : ℕ) → j < n → f j ≡ g j) → sum_below f n ≡ sum_below g n
sum_same = Sums.sum_same whole

pub sum_le : (f g : ℕ → ℤ) (n : ℕ) → ((j : ℕ) → j < n → f j ≤ℤ g j) → sum_below f n ≤ℤ sum_below g n
sum_le f g zero h = omega (arith, ints)
sum_le f g (suc n) h =
    let rest = sum_le f g n (λ j l. h j (omega arith)) in
    let last = h n (omega arith) in
    omega (arith, ints)

pub sum_add : (f g : ℕ → ℤ) (n : ℕ) → sum_below (λ j. f j +ℤ g j) n ≡ sum_below f n +ℤ sum_below g n
sum_add = Sums.sum_add whole

pub sum_sub : (f g : ℕ → ℤ) (n : ℕ) → sum_below (λ j. f j -ℤ g j) n ≡ sum_below f n -ℤ sum_below g n
sum_sub f g zero = refl
sum_sub f g (suc n) = let rest = sum_sub f g n in omega (arith, ints)

pub sum_zero : (n : ℕ) → sum_below (λ j. pos 0) n ≡ pos 0
sum_zero = Sums.sum_zero whole

pub sum_scale : (k : ℤ) (f : ℕ → ℤ) (n : ℕ) → sum_below (λ j. k *ℤ f j) n ≡ k *ℤ sum_below f n
sum_scale = Sums.sum_scale whole

-- the order of two sums may be changed
pub exchange : {A : Type 0} (F : A → ℕ → ℤ) (ys : List A) (n : ℕ) → sum_below (λ j. sum_over (λ p. F p j) ys) n
    ≡ sum_over (λ p. sum_below (F p) n) ys
exchange F [] n = sum_zero n
exchange F (y ∷ ys) n =
    let rest = exchange F ys n in
    let split = sum_add (F y) (λ j. sum_over (λ p. F p j) ys) n in
    omega (arith, ints)
