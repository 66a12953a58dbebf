-- The rows that a certificate keeps: in order, none with 0, and read by row they are what was given.
use Rattle.std.specs.Prelude.{◌≡◌, ◌≢◌, ℕ, zero, suc, ◌+◌, ◌^◌, ◌<◌, ◌≤◌, ◌==◌, not, Bool, true, false, cond, List, [], ◌∷◌, length}
use Rattle.std.specs.Prelude.{filter, ℤ, pos, unsigned_abs}
use Rattle.std.specs.List.{enumerate_from, list_any}
use Rattle.std.proofs.Common.{arith, refl, ap, sym, ◌∙◌}
use Rattle.std.proofs.lemmas.Int.{ints}
use borrow.Author.Tests.{ltb-false}
use Rattle.ip_defs.specs.Program.{at, coefficient}
use Rattle.ip_defs.specs.Limits.{exceeds, index_at, value_at, AreOrdered, AreSmall}
use Rattle.dual_rays.specs.Certificates.{is_present, present}
use Rattle.ip_defs.proofs.OrderLaws.{zero_is, nonzero_is}
use Rattle.lp_duality.proofs.SparseLaws.{coefficient_absent, coefficient_same, coefficient_other}
use Rattle.ip_defs.proofs.BoolLaws.{neither_true}

abbrev kept : ℕ → List ℤ → List (ℕ × ℤ)
kept n zs = filter is_present (enumerate_from n zs)

-- pairs in order whose numbers are n or more
record AreFrom (n rows : ℕ) (ps : List (ℕ × ℤ)) : Type 0 where
  least : (i : ℕ) → i < length ps → n ≤ index_at ps i
  ordered : AreOrdered rows ps

from_more : (n rows : ℕ) (ps : List (ℕ × ℤ)) → AreFrom (n + 1) rows ps → AreFrom n rows ps
from_more n rows ps f = record { least = λ i l. let h = f.least i l in omega arith; ordered = f.ordered }

from_cons : (n rows : ℕ) (z : ℤ) (ps : List (ℕ × ℤ)) → n < rows → z ≢ pos 0 → AreFrom (n + 1) rows ps → AreFrom n rows ((n, z) ∷ ps)
from_cons n rows z ps l present' f = record {
  least = least;
  ordered = record { rising = rising; within = within; present = nonzero };
}
  where
    least : (i : ℕ) → i < length ((n, z) ∷ ps) → n ≤ index_at ((n, z) ∷ ps) i
    least zero m = omega arith
    least (suc i) m = let h = f.least i (omega arith) in omega arith

    rising : (i k : ℕ) → i < k → k < length ((n, z) ∷ ps) → index_at ((n, z) ∷ ps) i < index_at ((n, z) ∷ ps) k
    rising i zero h m = absurd (omega arith)
    rising zero (suc k) h m = let g = f.least k (omega arith) in omega arith
    rising (suc i) (suc k) h m = f.ordered.rising i k (omega arith) (omega arith)

    within : (i : ℕ) → i < length ((n, z) ∷ ps) → index_at ((n, z) ∷ ps) i < rows
    within zero m = l
    within (suc i) m = f.ordered.within i (omega arith)

    nonzero : (i : ℕ) → i < length ((n, z) ∷ ps) → value_at ((n, z) ∷ ps) i ≢ pos 0
    nonzero zero m = present'
    nonzero (suc i) m = f.ordered.present i (omega arith)

kept_from : (n rows : ℕ) (zs : List ℤ) → n + length zs ≤ rows → AreFrom n rows (kept n zs)
kept_from n rows [] l = record {
  least = λ i m. absurd (omega arith);
  ordered = record {
    rising = λ i k h m. absurd (omega arith);
    within = λ i m. absurd (omega arith);
    present = λ i m. absurd (omega arith);
  };
}
kept_from n rows (z ∷ zs) l = by (unsigned_abs z == 0) refl (kept_from (n + 1) rows zs (omega arith))
  where
    by : (t : Bool) → (unsigned_abs z == 0) ≡ t → AreFrom (n + 1) rows (kept (n + 1) zs) →
        AreFrom n rows (cond (not t) ((n, z) ∷ kept (n + 1) zs) (kept (n + 1) zs))
    by true e f = from_more n rows (kept (n + 1) zs) f
    by false e f = from_cons n rows z (kept (n + 1) zs) (omega arith) (nonzero_is z e) f

pub present-ordered : (zs : List ℤ) → AreOrdered (length zs) (present zs)
present-ordered zs = (kept_from 0 (length zs) zs (omega arith)).ordered

-- ---- absolute values
kept_small : (n : ℕ) (zs : List ℤ) → list_any (exceeds (2 ^ 36)) zs ≡ false → AreSmall (2 ^ 36) (kept n zs)
kept_small n [] e = λ i l. absurd (omega arith)
kept_small n (z ∷ zs) e = let parts = neither_true (exceeds (2 ^ 36) z) (list_any (exceeds (2 ^ 36)) zs) e in
    by (unsigned_abs z == 0) (ltb-false (2 ^ 36) (unsigned_abs z) parts.0) (kept_small (n + 1) zs parts.1)
  where
    cons : unsigned_abs z ≤ 2 ^ 36 → AreSmall (2 ^ 36) (kept (n + 1) zs) → AreSmall (2 ^ 36) ((n, z) ∷ kept (n + 1) zs)
    cons s f zero l = s
    cons s f (suc i) l = f i (omega arith)

    by : (t : Bool) → unsigned_abs z ≤ 2 ^ 36 → AreSmall (2 ^ 36) (kept (n + 1) zs) →
        AreSmall (2 ^ 36) (cond (not t) ((n, z) ∷ kept (n + 1) zs) (kept (n + 1) zs))
    by true s f = f
    by false s f = cons s f

pub present-small : (zs : List ℤ) → list_any (exceeds (2 ^ 36)) zs ≡ false → AreSmall (2 ^ 36) (present zs)
present-small zs e = kept_small 0 zs e

-- ---- by row
kept_before : (n : ℕ) (zs : List ℤ) → coefficient (kept (n + 1) zs) n ≡ pos 0
kept_before n zs =
    let f = kept_from (n + 1) (n + 1 + length zs) zs (omega arith) in
    coefficient_absent (kept (n + 1) zs) n (λ i l e. let h = f.least i l in absurd (omega arith))

kept_at : (n k j : ℕ) (zs : List ℤ) → j ≡ n + k → k < length zs → coefficient (kept n zs) j ≡ at zs k
kept_at n k j [] e l = absurd (omega arith)
kept_at n zero j (z ∷ zs) e l = let is : j ≡ n = omega arith in ap (coefficient (kept n (z ∷ zs))) is ∙ by (unsigned_abs z == 0) refl
  where
    by : (t : Bool) → (unsigned_abs z == 0) ≡ t → coefficient (cond (not t) ((n, z) ∷ kept (n + 1) zs) (kept (n + 1) zs)) n ≡ z
    by true f = kept_before n zs ∙ sym (zero_is z f)
    by false f = let same = coefficient_same (n, z) (kept (n + 1) zs) in let rest = kept_before n zs in omega (arith, ints)
kept_at n (suc k) j (z ∷ zs) e l = by (unsigned_abs z == 0) (kept_at (n + 1) k j zs (omega arith) (omega arith))
  where
    by : (t : Bool) → coefficient (kept (n + 1) zs) j ≡ at zs k → coefficient (cond (not t) ((n, z) ∷ kept (n + 1) zs) (kept (n + 1) zs)) j
        ≡ at zs k
    by true f = f
    by false f = coefficient_other (n, z) (kept (n + 1) zs) j (λ (s : j ≡ n). absurd (omega arith)) ∙ f

pub present-at : (zs : List ℤ) (k : ℕ) → k < length zs → coefficient (present zs) k ≡ at zs k
present-at zs k l = kept_at 0 k k zs (omega arith) l
