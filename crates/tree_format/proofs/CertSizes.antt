-- How many multipliers a certificate within the limits has.
use Rattle.std.specs.Prelude.{ℕ, zero, ◌≡◌, suc, ◌<◌, ◌≤◌, List, length, ℤ}
use Rattle.std.proofs.Common.{arith, refl}
use Rattle.ip_defs.specs.Limits.{AreOrdered, index_at}

-- numbers that rise are at least their places
at_least : (n : ℕ) (ps : List (ℕ × ℤ)) → AreOrdered n ps → (i : ℕ) → i < length ps → i ≤ index_at ps i
at_least n ps o zero l = omega arith
at_least n ps o (suc i) l = let below = at_least n ps o i (omega arith) in let up = o.rising i (suc i) (omega arith) l in omega arith

pub count_within : (n : ℕ) (ps : List (ℕ × ℤ)) → AreOrdered n ps → length ps ≤ n
count_within n ps o = by (length ps) refl
  where
    by : (k : ℕ) → length ps ≡ k → length ps ≤ n
    by zero e = omega arith
    by (suc k) e = let low = at_least n ps o k (omega arith) in let high = o.within k (omega arith) in omega arith
