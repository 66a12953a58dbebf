-- Laws of products of whole numbers, which `omega (arith, ints)` does not know.
use Rattle.std.specs.Prelude.{◌≡◌, ℤ, pos, negsuc, ◌+ℤ◌, ◌-ℤ◌, ◌*ℤ◌, ◌≤ℤ◌, ℕ, ◌≤◌, ◌+◌, ◌*◌}
use Rattle.std.proofs.Common.{arith, ap}
use Rattle.std.proofs.lemmas.Int.{ints}
use Rattle.std.proofs.Math.Nat.{mul-le-mul_left}
use borrow.Author.Differences.{up, down, sum_is_lem, product_is}

pub add_mul : (a b c : ℤ) → (a +ℤ b) *ℤ c ≡ a *ℤ c +ℤ b *ℤ c
add_mul a b c =
    let s = sum_is_lem a b in
    let x = ap (λ n. n * up c) s in
    let y = ap (λ n. n * down c) s in
    omega (arith, ints)

pub mul_add : (a b c : ℤ) → a *ℤ (b +ℤ c) ≡ a *ℤ b +ℤ a *ℤ c
mul_add a b c =
    let s = sum_is_lem b c in
    let x = ap (λ n. up a * n) s in
    let y = ap (λ n. down a * n) s in
    omega (arith, ints)

pub sub_mul : (a b c : ℤ) → (a -ℤ b) *ℤ c ≡ a *ℤ c -ℤ b *ℤ c
sub_mul a b c =
    let s : up (a -ℤ b) + down a + up b ≡ down (a -ℤ b) + up a + down b = omega (arith, ints) in
    let x = ap (λ n. n * up c) s in
    let y = ap (λ n. n * down c) s in
    omega (arith, ints)

pub mul_sub : (a b c : ℤ) → a *ℤ (b -ℤ c) ≡ a *ℤ b -ℤ a *ℤ c
mul_sub a b c =
    let s : up (b -ℤ c) + down b + up c ≡ down (b -ℤ c) + up b + down c = omega (arith, ints) in
    let x = ap (λ n. up a * n) s in
    let y = ap (λ n. down a * n) s in
    omega (arith, ints)

pub mul_assoc : (a b c : ℤ) → (a *ℤ b) *ℤ c ≡ a *ℤ (b *ℤ c)
mul_assoc a b c =
    let p = product_is a b in
    let q = product_is b c in
    let x = ap (λ n. n * up c) p.0 in
    let y = ap (λ n. n * down c) p.0 in
    let z = ap (λ n. n * up c) p.1 in
    let w = ap (λ n. n * down c) p.1 in
    let x' = ap (λ n. up a * n) q.0 in
    let y' = ap (λ n. down a * n) q.0 in
    let z' = ap (λ n. up a * n) q.1 in
    let w' = ap (λ n. down a * n) q.1 in
    omega (arith, ints)

-- a factor that is not negative keeps the order, and a negative factor reverses it
pub mul_up : (n : ℕ) (b c : ℤ) → b ≤ℤ c → (pos n *ℤ b) ≤ℤ (pos n *ℤ c)
mul_up n b c h =
    let p : up b + down c ≤ up c + down b = omega (arith, ints) in
    omega (arith, ints, mul-le-mul_left n p)

pub mul_down : (n : ℕ) (b c : ℤ) → b ≤ℤ c → (negsuc n *ℤ c) ≤ℤ (negsuc n *ℤ b)
mul_down n b c h =
    let p : up b + down c ≤ up c + down b = omega (arith, ints) in
    omega (arith, ints, mul-le-mul_left (n + 1) p)
