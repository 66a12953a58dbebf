-- Reading a certificate that stands at a place of bytes, part by part.
use Rattle.std.specs.Prelude.{◌≡◌, ℕ, zero, suc, ◌+◌, ◌^◌, ◌<◌, ◌≤◌, ◌&&◌, true, nat_lt, List, [], ◌∷◌, ◌++◌, length, drop, ℤ, pos}
use Rattle.std.specs.Int.RustNames.{unsigned_abs}
use Rattle.std.specs.List.{flat_map, list_all}
use Rattle.std.proofs.Common.{arith, refl, ap, ◌∙◌, sym, subst, lit<, length-append, append_assoc}
use Rattle.std.proofs.lemmas.List.{flat_map_more}
use Rattle.ip_defs.proofs.BoolLaws.{both_true}
use Rattle.ip_defs.proofs.OrderLaws.{lt_true}
use Rattle.proof_tree.specs.Trees.{is_at_most, is_multiplier, rise_from}
use Rattle.tree_format.specs.Readings.{Reading, part_then}
use Rattle.tree_format.specs.Spellings.{number, signed_number, multiplier_bytes, cert_bytes}
use Rattle.tree_format.specs.Grammar.{number_at, multiplier_at, multipliers_at, cert_at}
use Rattle.tree_format.specs.Internal.Steps.{Stands, IsFault, IsNumberFault, AreMultipliers}
use Rattle.tree_format.specs.declared.errors.TreeError.{TreeError}
use Rattle.tree_format.specs.declared.errors.TreeError.TheVariants as faults
use Rattle.tree_format.specs.declared.tokens.Token.{Token}
use Rattle.tree_format.specs.declared.tokens.Token.TheVariants.{Part, Parts}
use Rattle.tree_format.proofs.GrammarLaws.{join}
use Rattle.tree_format.proofs.SpellingLaws.{row_is_read, multiplier_is_read}
use Rattle.tree_format.proofs.ClaimStepLaws.{HasFaultOf, same_fault, nothing_stands}
use Rattle.tree_format.proofs.NumberStepLaws.{both_stand, number_reads, signed_reads, stops, error_at}

-- ---- a multiplier

-- a row below the least one
pub row_fails : (bytes : List ℕ) (i j row least n : ℕ) → row ≤ 1023 → row < least → Stands bytes i j (number row)
    → IsFault (multipliers_at (suc n) least i (drop i bytes)) (faults.Order i)
row_fails bytes i j row least n fits low s next =
    stops _ (faults.Order i) (number_reads 1023 bytes i row j (lit< tt) fits s _ ∙ rw (lt_true row least low) refl)

-- a multiplier of 0
pub value_fails : (bytes : List ℕ) (i j row : ℕ) (z : ℤ) → z ≡ pos 0 → Stands bytes i j (signed_number z)
    → IsFault (multiplier_at row i (drop i bytes)) (faults.Zero i)
value_fails bytes i j row z is s next =
    stops _ (faults.Zero i)
    (signed_reads (2 ^ 36) bytes i (pos 0) j (lit< tt) (omega arith) (subst (λ (z : ℤ). Stands bytes i j (signed_number z)) is s) _)

-- the row of a multiplier is read
row_reads : (bytes : List ℕ) (i j row least n : ℕ) (next : ℕ → List ℕ → Reading Token) → least ≤ row → row ≤ 1023
    → Stands bytes i j (number row) → multipliers_at (suc n) least i (drop i bytes) next
    ≡ multiplier_at row j (drop j bytes) (λ p rest. multipliers_at n (row + 1) p rest next)
row_reads bytes i j row least n next up fits s =
    ap (λ (bs : List ℕ). multipliers_at (suc n) least i bs next) s.is
    ∙ row_is_read row least n i (drop j bytes) next up fits
    ∙ ap (λ (p : ℕ). multiplier_at row p (drop j bytes) (λ p rest. multipliers_at n (row + 1) p rest next)) (sym s.place)

-- the value after a row fails
pub multiplier_fails : (bytes : List ℕ) (i j row least n : ℕ) (e : TreeError) → least ≤ row → row ≤ 1023
    → Stands bytes i j (number row) → ((row : ℕ) → IsFault (multiplier_at row j (drop j bytes)) e)
    → IsFault (multipliers_at (suc n) least i (drop i bytes)) e
multiplier_fails bytes i j row least n e up fits s h =
    same_fault (multipliers_at (suc n) least i (drop i bytes))
    (λ next. multiplier_at row j (drop j bytes) (λ p rest. multipliers_at n (row + 1) p rest next)) e
    (λ next. ap (λ (r : Reading Token). r.fault) (row_reads bytes i j row least n next up fits s)) (λ next. h row _)

-- a row and a value are read, from a bytes' place where both stand
multiplier_reads : (bytes : List ℕ) (i k least n : ℕ) (p : ℕ × ℤ) (next : ℕ → List ℕ → Reading Token) → least ≤ p.0 → p.0 ≤ 1023
    → 0 < unsigned_abs p.1 → unsigned_abs p.1 ≤ 2 ^ 36 → Stands bytes i k (multiplier_bytes p)
    → multipliers_at (suc n) least i (drop i bytes) next ≡ part_then (Part p.0 p.1) (multipliers_at n (p.0 + 1) k (drop k bytes) next)
multiplier_reads bytes i k least n p next up fits some small s =
    let row = number p.0 in
    let value = signed_number p.1 in
    let others = drop k bytes in
    ap (λ (bs : List ℕ). multipliers_at (suc n) least i bs next) (s.is ∙ append_assoc row value others)
    ∙ row_is_read p.0 least n i (value ++ others) next up fits
    ∙ multiplier_is_read p.0 p.1 (i + length row) others (λ q rest. multipliers_at n (p.0 + 1) q rest next) some small
    ∙ ap (λ (q : ℕ). part_then (Part p.0 p.1) (multipliers_at n (p.0 + 1) q others next))
    (let l = length-append row value in let place = s.place in omega arith)

-- ---- some multipliers

-- the least row that may come after multipliers
pub next_row : ℕ → List (ℕ × ℤ) → ℕ
next_row least [] = least
next_row least (p ∷ y) = next_row (suc p.0) y

rise_more : (least : ℕ) (y : List (ℕ × ℤ)) (p : ℕ × ℤ) → rise_from least y ≡ true → next_row least y ≤ p.0
    → (rise_from least (y ++ p ∷ []) ≡ true) × (next_row least (y ++ p ∷ []) ≡ suc p.0)
unfolding next_row
rise_more least [] p e l = (join (is_at_most least p.0) true (lt_true least (suc p.0) (omega arith)) refl, refl)
rise_more least (q ∷ y) p e l =
    let b = both_true (is_at_most least q.0) (rise_from (suc q.0) y) e in
    let on = rise_more (suc q.0) y p b.1 l in
    (join (is_at_most least q.0) (rise_from (suc q.0) (y ++ p ∷ [])) b.0 on.0, on.1)

all_more : (y : List (ℕ × ℤ)) (p : ℕ × ℤ) → list_all (is_multiplier 1024) y ≡ true → is_multiplier 1024 p ≡ true
    → list_all (is_multiplier 1024) (y ++ p ∷ []) ≡ true
all_more [] p all is = join (is_multiplier 1024 p) true is refl
all_more (q ∷ y) p all is =
    let b = both_true (is_multiplier 1024 q) (list_all (is_multiplier 1024) y) all in
    join (is_multiplier 1024 q) (list_all (is_multiplier 1024) (y ++ p ∷ [])) b.0 (all_more y p b.1 is)

multiplier_within : (p : ℕ × ℤ) → p.0 ≤ 1023 → 0 < unsigned_abs p.1 → unsigned_abs p.1 ≤ 2 ^ 36 → is_multiplier 1024 p ≡ true
multiplier_within p fits some small =
    join (nat_lt p.0 1024 && nat_lt 0 (unsigned_abs p.1)) (is_at_most (unsigned_abs p.1) (2 ^ 36))
    (join (nat_lt p.0 1024) (nat_lt 0 (unsigned_abs p.1)) (lt_true p.0 1024 (omega arith)) (lt_true 0 (unsigned_abs p.1) some))
    (lt_true (unsigned_abs p.1) (suc (2 ^ 36)) (omega arith))

-- some multipliers are read, and the next row is at least a least one
pub record MultipliersRead (bytes : List ℕ) (i at least counter count : ℕ) (y : List (ℕ × ℤ)) : Type 0 where
  pub size : length y ≡ counter
  pub within : AreMultipliers 0 y
  pub following : next_row 0 y ≡ least
  pub on : Stands bytes i at (flat_map multiplier_bytes y)
  pub more : ℕ
  pub all : more + counter ≡ count
  pub left : HasFaultOf (multipliers_at count 0 i (drop i bytes)) (multipliers_at more least at (drop at bytes))

pub no_multiplier : (bytes : List ℕ) (i count : ℕ) → i ≤ length bytes → MultipliersRead bytes i i 0 0 count []
unfolding next_row
no_multiplier bytes i count l = record {
  size = refl;
  within = record { rising = refl; each = refl };
  following = refl;
  on = nothing_stands bytes i l;
  more = count;
  all = omega arith;
  left = λ next. refl;
}

-- one multiplier more
pub multiplier_read : (bytes : List ℕ) (i at least counter count k : ℕ) (y : List (ℕ × ℤ)) (p : ℕ × ℤ) → counter < count
    → MultipliersRead bytes i at least counter count y → (least ≤ p.0) × (p.0 ≤ 1023) → (0 < unsigned_abs p.1) × (unsigned_abs p.1 ≤ 2 ^ 36)
    → Stands bytes at k (multiplier_bytes p) → MultipliersRead bytes i k (p.0 + 1) (counter + 1) count (y ++ p ∷ [])
multiplier_read bytes i at least counter count k y p l r row value s = by r.more r.all r.left
  where
    rise : (rise_from 0 (y ++ p ∷ []) ≡ true) × (next_row 0 (y ++ p ∷ []) ≡ suc p.0)
    rise = rise_more 0 y p r.within.rising (let e = r.following in let up = row.0 in omega arith)

    by : (n : ℕ) → n + counter ≡ count
        → HasFaultOf (multipliers_at count 0 i (drop i bytes)) (multipliers_at n least at (drop at bytes))
        → MultipliersRead bytes i k (p.0 + 1) (counter + 1) count (y ++ p ∷ [])
    by zero all left = absurd (omega arith)
    by (suc n) all left = record {
      size = (let size = r.size in let one = length-append y (p ∷ []) in omega arith);
      within = record { rising = rise.0; each = all_more y p r.within.each (multiplier_within p row.1 value.0 value.1) };
      following = (let e = rise.1 in omega arith);
      on = subst (λ (bs : List ℕ). Stands bytes i k bs) (flat_map_more multiplier_bytes [] y p)
          (both_stand bytes i at k (flat_map multiplier_bytes y) (multiplier_bytes p) r.on s);
      more = n;
      all = omega arith;
      left = λ next. left next
          ∙ ap (λ (r : Reading Token). r.fault) (multiplier_reads bytes at k least n p next row.0 row.1 value.0 value.1 s);
    }

-- a multiplier that fails
pub next_fails : (bytes : List ℕ) (i at least counter count : ℕ) (y : List (ℕ × ℤ)) (e : TreeError) → counter < count
    → MultipliersRead bytes i at least counter count y
    → ((n : ℕ) → IsFault (multipliers_at (suc n) least at (drop at bytes)) e)
    → IsFault (multipliers_at count 0 i (drop i bytes)) e
next_fails bytes i at least counter count y e l r h = by r.more r.all r.left
  where
    by : (n : ℕ) → n + counter ≡ count
        → HasFaultOf (multipliers_at count 0 i (drop i bytes)) (multipliers_at n least at (drop at bytes))
        → IsFault (multipliers_at count 0 i (drop i bytes)) e
    by zero all left = absurd (omega arith)
    by (suc n) all left =
        same_fault (multipliers_at count 0 i (drop i bytes)) (multipliers_at (suc n) least at (drop at bytes)) e left (h n)

-- ---- certificates

-- a divisor that is read, before the count
divisor_reads : (bytes : List ℕ) (i j q : ℕ) (next : ℕ → List ℕ → Reading Token) → q ≤ 2 ^ 36 → Stands bytes i j (number q)
    → (cert_at i (drop i bytes) next).fault
    ≡ (number_at 1024 j (drop j bytes) (λ n p rest. part_then (Parts n) (multipliers_at n 0 p rest next))).fault
divisor_reads bytes i j q next fits s = ap (λ (r : Reading Token). r.fault) (number_reads (2 ^ 36) bytes i q j (lit< tt) fits s _)

pub count_fails : (bytes : List ℕ) (i j q : ℕ) (e : TreeError) → q ≤ 2 ^ 36 → Stands bytes i j (number q)
    → IsNumberFault 1024 j (drop j bytes) e → IsFault (cert_at i (drop i bytes)) e
count_fails bytes i j q e fits s h next = error_at _ _ e (divisor_reads bytes i j q next fits s) (h _)

pub multipliers_fail : (bytes : List ℕ) (i j k q n : ℕ) (e : TreeError) → q ≤ 2 ^ 36 → Stands bytes i j (number q) → n ≤ 1024
    → Stands bytes j k (number n) → IsFault (multipliers_at n 0 k (drop k bytes)) e → IsFault (cert_at i (drop i bytes)) e
multipliers_fail bytes i j k q n e fits s few t h next =
    error_at _ _ e (divisor_reads bytes i j q next fits s
    ∙ ap (λ (r : Reading Token). r.fault) (number_reads 1024 bytes j n k (lit< tt) few t _)) (h next)

pub cert_stands : (bytes : List ℕ) (i j k l q n : ℕ) (y : List (ℕ × ℤ)) → length y ≡ n → Stands bytes i j (number q)
    → Stands bytes j k (number n) → Stands bytes k l (flat_map multiplier_bytes y)
    → Stands bytes i l (cert_bytes (record { q = pos q; y = y }))
cert_stands bytes i j k l q n y size a b c =
    both_stand bytes i k l (number q ++ number (length y)) (flat_map multiplier_bytes y)
    (both_stand bytes i j k (number q) (number (length y)) a (subst (λ (m : ℕ). Stands bytes j k (number m)) (sym size) b)) c
