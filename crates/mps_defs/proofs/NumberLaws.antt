-- Powers of ten, the absolute value of a number with a sign, and the largest of some numbers.
use Rattle.std.specs.Prelude.{◌≡◌, ℕ, zero, suc, ◌^◌, ◌<◌, max, Bool, true, false, List, [], ◌∷◌, ◌++◌}
use Rattle.std.specs.Int.RustNames.{unsigned_abs}
use Rattle.std.proofs.Common.{refl, arith, ap, ◌∙◌}
use Rattle.std.proofs.Math.Nat.{one-le-pow}
use Rattle.mps_defs.specs.Numbers.{signed}
use Rattle.mps_defs.specs.TextModels.{largest}

-- a power of ten is not 0
pub ten_positive : (k : ℕ) → 0 < 10 ^ k
ten_positive k = one-le-pow k 10 (omega arith)

-- an absolute value with its sign
pub signed_size : (negative : Bool) (n : ℕ) → unsigned_abs (signed negative n) ≡ n
signed_size false n = refl
signed_size true zero = refl
signed_size true (suc n) = refl

-- ---- the largest of some numbers

pub largest-append : (n : ℕ) (xs ys : List ℕ) → largest n (xs ++ ys) ≡ largest (largest n xs) ys
largest-append n [] ys = refl
largest-append n (x ∷ xs) ys = largest-append (max n x) xs ys

-- the least number of all may be taken last
pub largest-max : (n m : ℕ) (ns : List ℕ) → largest (max n m) ns ≡ max n (largest m ns)
largest-max n m [] = refl
largest-max n m (k ∷ ns) = ap (λ j. largest j ns) (omega arith) ∙ largest-max n (max m k) ns

pub largest-from : (n : ℕ) (ns : List ℕ) → largest n ns ≡ max n (largest 0 ns)
largest-from n ns = ap (λ k. largest k ns) (omega arith) ∙ largest-max n 0 ns
