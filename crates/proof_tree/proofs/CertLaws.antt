-- The test of a certificate answers true exactly where the certificate is within its limits.
use Rattle.std.specs.Prelude.{IsTrue, ◌↔◌, ◌≡◌, ◌≢◌, ℕ, zero, suc, ◌^◌, ◌<◌, ◌≤◌, ◌&&◌, not, nat_lt, List, [], ◌∷◌, length, Bool, true}
use Rattle.std.specs.Prelude.{false, ℤ, pos, negsuc, ◌≤ℤ◌}
use Rattle.std.specs.Int.RustNames.{unsigned_abs}
use Rattle.std.specs.Int.Signed.{lt_z}
use Rattle.std.specs.List.{list_all}
use Rattle.std.proofs.Common.{refl, arith}
use Rattle.std.proofs.lemmas.Int.{ints}
use Rattle.ip_defs.specs.declared.certificates.Cert.{Cert}
use Rattle.ip_defs.specs.Limits.{index_at, value_at, IsCert}
use Rattle.proof_tree.specs.Trees.{is_at_most, rise_from, is_multiplier, is_cert}
use Rattle.ip_defs.proofs.BoolLaws.{both_true}
use Rattle.ip_defs.proofs.OrderLaws.{lt_true, lt_is, less_false}

join : (s t : Bool) → s ≡ true → t ≡ true → (s && t) ≡ true
join true t e f = f
join false t e f = absurd cc

-- the numbers rise from a least one
risen : (least : ℕ) (ps : List (ℕ × ℤ)) → rise_from least ps ≡ true → (i : ℕ) → i < length ps → least ≤ index_at ps i
risen least [] e i l = absurd (omega arith)
risen least (p ∷ ps) e zero l = let h = lt_is least (suc p.0) (both_true (is_at_most least p.0) (rise_from (suc p.0) ps) e).0 in
    omega arith
risen least (p ∷ ps) e (suc i) l =
    let b = both_true (is_at_most least p.0) (rise_from (suc p.0) ps) e in
    let h = lt_is least (suc p.0) b.0 in
    let g = risen (suc p.0) ps b.1 i (omega arith) in
    omega arith

rising : (least : ℕ) (ps : List (ℕ × ℤ)) → rise_from least ps ≡ true → (i k : ℕ) → i < k → k < length ps → index_at ps i < index_at ps k
rising least [] e i k l h = absurd (omega arith)
rising least (p ∷ ps) e i zero l h = absurd (omega arith)
rising least (p ∷ ps) e zero (suc k) l h =
    risen (suc p.0) ps (both_true (is_at_most least p.0) (rise_from (suc p.0) ps) e).1 k (omega arith)
rising least (p ∷ ps) e (suc i) (suc k) l h =
    rising (suc p.0) ps (both_true (is_at_most least p.0) (rise_from (suc p.0) ps) e).1 i k (omega arith) (omega arith)

rises : (least : ℕ) (ps : List (ℕ × ℤ)) → ((i : ℕ) → i < length ps → least ≤ index_at ps i)
    → ((i k : ℕ) → i < k → k < length ps → index_at ps i < index_at ps k) → rise_from least ps ≡ true
rises least [] h r = refl
rises least (p ∷ ps) h r =
    let first : least ≤ p.0 = h 0 (omega arith) in
    join (is_at_most least p.0) (rise_from (suc p.0) ps) (lt_true least (suc p.0) (omega arith))
    (rises (suc p.0) ps (λ i l. r 0 (suc i) (omega arith) (omega arith)) (λ i k l g. r (suc i) (suc k) (omega arith) (omega arith)))

-- one multiplier
pub record IsOne (rows : ℕ) (p : ℕ × ℤ) : Type 0 where
  pub within : p.0 < rows
  pub present : p.1 ≢ pos 0
  pub small : unsigned_abs p.1 ≤ 2 ^ 36

one_is : (rows : ℕ) (p : ℕ × ℤ) → is_multiplier rows p ≡ true → IsOne rows p
one_is rows p e =
    let b = both_true (nat_lt p.0 rows && nat_lt 0 (unsigned_abs p.1)) (is_at_most (unsigned_abs p.1) (2 ^ 36)) e in
    let d = both_true (nat_lt p.0 rows) (nat_lt 0 (unsigned_abs p.1)) b.0 in
    record {
      within = lt_is p.0 rows d.0;
      present = λ z. (let h = lt_is 0 (unsigned_abs p.1) d.1 in omega (arith, ints));
      small = (let h = lt_is (unsigned_abs p.1) (suc (2 ^ 36)) b.1 in omega arith);
    }

one_back : (rows : ℕ) (p : ℕ × ℤ) → IsOne rows p → is_multiplier rows p ≡ true
one_back rows p o =
    let w = o.within in
    let s = o.small in
    join (nat_lt p.0 rows && nat_lt 0 (unsigned_abs p.1)) (is_at_most (unsigned_abs p.1) (2 ^ 36))
    (join (nat_lt p.0 rows) (nat_lt 0 (unsigned_abs p.1)) (lt_true p.0 rows w) (lt_true 0 (unsigned_abs p.1) (positive p.1 o.present)))
    (lt_true (unsigned_abs p.1) (suc (2 ^ 36)) (omega arith))
  where
    positive : (z : ℤ) → z ≢ pos 0 → 0 < unsigned_abs z
    positive (pos zero) n = absurd (n refl)
    positive (pos (suc k)) n = omega (arith, ints)
    positive (negsuc k) n = omega (arith, ints)

ones : (rows : ℕ) (ps : List (ℕ × ℤ)) → list_all (is_multiplier rows) ps ≡ true → (i : ℕ) → i < length ps
    → IsOne rows (index_at ps i, value_at ps i)
ones rows [] e i l = absurd (omega arith)
ones rows (p ∷ ps) e zero l = one_is rows p (both_true (is_multiplier rows p) (list_all (is_multiplier rows) ps) e).0
ones rows (p ∷ ps) e (suc i) l = ones rows ps (both_true (is_multiplier rows p) (list_all (is_multiplier rows) ps) e).1 i (omega arith)

ones_back : (rows : ℕ) (ps : List (ℕ × ℤ)) → ((i : ℕ) → i < length ps → IsOne rows (index_at ps i, value_at ps i))
    → list_all (is_multiplier rows) ps ≡ true
ones_back rows [] h = refl
ones_back rows (p ∷ ps) h = join (is_multiplier rows p) (list_all (is_multiplier rows) ps) (one_back rows p (h 0 (omega arith)))
    (ones_back rows ps (λ i l. h (suc i) (omega arith)))

-- a divisor within its limits
at_least : (q : ℤ) → not (lt_z q (pos 0)) ≡ true → pos 0 ≤ℤ q
at_least q e = by (lt_z q (pos 0)) refl e
  where
    by : (t : Bool) → lt_z q (pos 0) ≡ t → not t ≡ true → pos 0 ≤ℤ q
    by true f g = absurd cc
    by false f g = omega (arith, ints)

at_most : (q : ℤ) → not (lt_z (pos (2 ^ 36)) q) ≡ true → q ≤ℤ pos (2 ^ 36)
at_most q e = by (lt_z (pos (2 ^ 36)) q) refl e
  where
    by : (t : Bool) → lt_z (pos (2 ^ 36)) q ≡ t → not t ≡ true → q ≤ℤ pos (2 ^ 36)
    by true f g = absurd cc
    by false f g = omega (arith, ints)

pub cert_exact : (rows : ℕ) (c : Cert) → (is_cert rows c ≡ true → IsCert rows c) × (IsCert rows c → is_cert rows c ≡ true)
cert_exact rows c = (to, back)
  where
    to : is_cert rows c ≡ true → IsCert rows c
    to e =
        let f = both_true ((not (lt_z c.q (pos 0)) && not (lt_z (pos (2 ^ 36)) c.q)) && rise_from 0 c.y)
        (list_all (is_multiplier rows) c.y) e in
        let g = both_true (not (lt_z c.q (pos 0)) && not (lt_z (pos (2 ^ 36)) c.q)) (rise_from 0 c.y) f.0 in
        let h = both_true (not (lt_z c.q (pos 0))) (not (lt_z (pos (2 ^ 36)) c.q)) g.0 in
        record {
          not_negative = at_least c.q h.0;
          divisor = at_most c.q h.1;
          ordered = record {
            rising = rising 0 c.y g.1;
            within = λ i l. (ones rows c.y f.1 i l).within;
            present = λ i l. (ones rows c.y f.1 i l).present;
          };
          multipliers = λ i l. (ones rows c.y f.1 i l).small;
        }

    back : IsCert rows c → is_cert rows c ≡ true
    back h =
        let a : not (lt_z c.q (pos 0)) ≡ true = rw (less_false c.q (pos 0) h.not_negative) refl in
        let b : not (lt_z (pos (2 ^ 36)) c.q) ≡ true = rw (less_false (pos (2 ^ 36)) c.q h.divisor) refl in
        let r = rises 0 c.y (λ i l. omega arith) h.ordered.rising in
        let o = ones_back rows c.y (λ i l. record
        { within = h.ordered.within i l; present = h.ordered.present i l; small = h.multipliers i l }) in
        join ((not (lt_z c.q (pos 0)) && not (lt_z (pos (2 ^ 36)) c.q)) && rise_from 0 c.y) (list_all (is_multiplier rows) c.y)
        (join (not (lt_z c.q (pos 0)) && not (lt_z (pos (2 ^ 36)) c.q)) (rise_from 0 c.y)
        (join (not (lt_z c.q (pos 0))) (not (lt_z (pos (2 ^ 36)) c.q)) a b) r) o

-- a test that decides whether a certificate is within its limits agrees with the definition
pub cert_test : (rows : ℕ) (c : Cert) (t : Bool) → (IsTrue t ↔ IsCert rows c) → is_cert rows c ≡ t
cert_test rows c true h = (cert_exact rows c).1 (h.0 refl)
cert_test rows c false h = by (is_cert rows c) refl
  where
    by : (s : Bool) → is_cert rows c ≡ s → s ≡ false
    by false e = refl
    by true e = let f : false ≡ true = h.1 ((cert_exact rows c).0 e) in absurd cc
