-- What is read without a fault was written, part by part.
use Rattle.std.specs.Prelude.{◌≡◌, ℕ, zero, suc, ◌+◌, ◌*◌, ◌%◌, ◌^◌, ◌<◌, ◌≤◌, ◌==◌, ◌&&◌, not, Bool, true, false, nat_lt, List, [], ◌∷◌}
use Rattle.std.specs.Prelude.{◌++◌, length, ℤ, pos, negsuc, Some, None, if◌then◌else◌}
use Rattle.std.specs.Int.RustNames.{unsigned_abs}
use Rattle.std.specs.Int.Signed.{lt_z}
use Rattle.std.specs.List.{flat_map, list_all}
use Rattle.std.proofs.Common.{arith, refl, ap, ◌∙◌, sym, append_assoc, add-one, length-append, lit<}
use Rattle.std.proofs.lemmas.Bool.{eqb-true, eqb-false}
use Rattle.std.proofs.lemmas.Int.{ints}
use Rattle.std.proofs.lemmas.List.{append-nil}
use Rattle.ip_defs.specs.declared.certificates.Cert.{Cert}
use Rattle.ip_defs.specs.Limits.{IsCert}
use Rattle.ip_defs.specs.Lists.{Each}
use Rattle.ip_defs.proofs.OrderLaws.{lt_true, lt_is, less_false}
use Rattle.proof_tree.specs.LabelledTrees.{leaf, split, node_count, depth}
use Rattle.proof_tree.specs.Trees.{PlainTree, is_at_most, rise_from, is_multiplier}
use Rattle.proof_tree.specs.Within.{AreNumbersWithin}
use Rattle.proof_tree.specs.declared.claims.Claim.TheVariants.{Best, Empty}
use Rattle.proof_tree.proofs.CertLaws.{cert_exact}
use Rattle.tree_format.specs.Readings.{Reading, stopped, part_then}
use Rattle.tree_format.specs.Numbers.{unsigned, signed}
use Rattle.tree_format.specs.Spellings.{number, signed_number, opening, claim_bytes, multiplier_bytes, cert_bytes, tree_bytes}
use Rattle.tree_format.specs.Spellings.{IsClaimWithin}
use Rattle.tree_format.specs.Grammar.{number_at, opening_at, coordinates_at, point_at, claim_at, claim_kind, of_point, of_emptiness}
use Rattle.tree_format.specs.Grammar.{of_neither, ClaimKind, multiplier_at, multipliers_at, cert_at, split_at, NodeKind, node_kind}
use Rattle.tree_format.specs.Grammar.{leaf_kind, split_kind, no_kind, tree_at, end_at}
use Rattle.tree_format.specs.Laws.{ReadingsAreSpelled}
use Rattle.tree_format.specs.declared.errors.TreeError.TheVariants as faults
use Rattle.tree_format.specs.declared.tokens.Token.{Token}
use Rattle.tree_format.specs.declared.tokens.Token.TheVariants.{Part}
use Rattle.tree_format.proofs.NumberLaws.{not_lt}
use Rattle.tree_format.proofs.SpelledNumbers.{number_spelled}
use Rattle.tree_format.proofs.SpellingLaws.{number_is_read, place_more}

-- a value at the front of bytes, and what follows it, where the rest has no fault either
pub record Taken {A : Type 0} (P : A → Type 0) (spell : A → List ℕ) (after : A → List ℕ → Reading Token) (bytes : List ℕ) : Type 0 where
  pub value : A
  pub fits : P value
  pub others : List ℕ
  pub is : bytes ≡ spell value ++ others
  pub are_bytes : Each (λ b. b < 256) others
  pub none : (after value others).fault ≡ None

-- readings that are one have one fault
moved : (r s : Reading Token) → r ≡ s → r.fault ≡ None → s.fault ≡ None
moved r s e none = sym (ap (λ (r : Reading Token). r.fault) e) ∙ none

-- ---- numbers

pub number_taken : (g place : ℕ) (bytes : List ℕ) (next : ℕ → ℕ → List ℕ → Reading Token) → g < 2 ^ 42 → Each (λ b. b < 256) bytes
    → (number_at g place bytes next).fault ≡ None
    → Taken (λ n. n ≤ g) number (λ n rest. next n (place + length (number n)) rest) bytes
number_taken g place bytes next small each none =
    let n = number_spelled 6 5 g 0 0 place bytes next refl each none in
    let fits = n.fits in
    let within : n.value ≤ g = omega arith in
    let read = ap (λ (bs : List ℕ). number_at g place bs next) n.is ∙ number_is_read g n.value place n.others next within small in
    record { value = n.value; fits = within; others = n.others; is = n.is; are_bytes = n.are_bytes; none = moved _ _ read none }

pub unsigned_signed : (v : ℕ) → unsigned (signed v) ≡ v
unsigned_signed v = by (v % 2 == 0) refl
  where
    by : (t : Bool) → (v % 2 == 0) ≡ t → unsigned (signed v) ≡ v
    by true e = rw e (let even = eqb-true (v % 2) 0 e in omega arith)
    by false e = rw e (let odd = eqb-false (v % 2) 0 e in omega arith)

pub signed_within : (m v : ℕ) → v ≤ 2 * m → unsigned_abs (signed v) ≤ m
signed_within m v l = by (v % 2 == 0) refl
  where
    by : (t : Bool) → (v % 2 == 0) ≡ t → unsigned_abs (signed v) ≤ m
    by true e = rw e (let even = eqb-true (v % 2) 0 e in omega (arith, ints))
    by false e = rw e (let odd = eqb-false (v % 2) 0 e in omega (arith, ints))

signed_taken : (m place : ℕ) (bytes : List ℕ) (next : ℕ → ℕ → List ℕ → Reading Token) → 2 * m < 2 ^ 42 → Each (λ b. b < 256) bytes
    → (number_at (2 * m) place bytes next).fault ≡ None
    → Taken (λ z. unsigned_abs z ≤ m) signed_number (λ z rest. next (unsigned z) (place + length (signed_number z)) rest) bytes
signed_taken m place bytes next small each none =
    let n = number_taken (2 * m) place bytes next small each none in
    let back = sym (unsigned_signed n.value) in
    record {
      value = signed n.value;
      fits = signed_within m n.value n.fits;
      others = n.others;
      is = n.is ∙ ap (λ (v : ℕ). number v ++ n.others) back;
      are_bytes = n.are_bytes;
      none = moved _ _ (ap (λ (v : ℕ). next v (place + length (number v)) n.others) back) n.none;
    }

-- ---- points

coordinates_taken : (n place : ℕ) (bytes : List ℕ) (next : ℕ → List ℕ → Reading Token) → Each (λ b. b < 256) bytes
    → (coordinates_at n place bytes next).fault ≡ None
    → Taken (λ x. (length x ≡ n) × Each (λ z. unsigned_abs z ≤ 2 ^ 24) x) (flat_map signed_number)
    (λ x rest. next (place + length (flat_map signed_number x)) rest) bytes
coordinates_taken zero place bytes next each none = record {
  value = [];
  fits = (refl, tt);
  others = bytes;
  is = refl;
  are_bytes = each;
  none = moved _ _ (ap (λ (k : ℕ). next k bytes) (omega arith)) none;
}
coordinates_taken (suc n) place bytes next each none =
    let z = signed_taken (2 ^ 24) place bytes _ (lit< tt) each none in
    let x = coordinates_taken n (place + length (signed_number z.value)) z.others next z.are_bytes z.none in
    let first = signed_number z.value in
    let second = flat_map signed_number x.value in
    record {
      value = z.value ∷ x.value;
      fits = (ap suc x.fits.0, (z.fits, x.fits.1));
      others = x.others;
      is = z.is ∙ ap (λ (bs : List ℕ). first ++ bs) x.is ∙ sym (append_assoc first second x.others);
      are_bytes = x.are_bytes;
      none = moved _ _ (place_more place first second x.others next) x.none;
    }

-- ---- certificates

pub join : (s t : Bool) → s ≡ true → t ≡ true → (s && t) ≡ true
join true t e f = f
join false t e f = absurd cc

present : (z : ℤ) → (unsigned z == 0) ≡ false → 0 < unsigned_abs z
present (pos n) e = let h = eqb-false (2 * n) 0 e in omega (arith, ints)
present (negsuc n) e = omega (arith, ints)

multiplier_taken : (row place : ℕ) (bytes : List ℕ) (next : ℕ → List ℕ → Reading Token) → Each (λ b. b < 256) bytes
    → (multiplier_at row place bytes next).fault ≡ None
    → Taken (λ z. (0 < unsigned_abs z) × (unsigned_abs z ≤ 2 ^ 36)) signed_number (λ z rest. next (place + length (signed_number z))
    rest) bytes
multiplier_taken row place bytes next each none = by (unsigned z.value == 0) refl
  where
    z : Taken (λ z. unsigned_abs z ≤ 2 ^ 36) signed_number (λ z rest. elim (unsigned z == 0) [
      | true ↦ stopped (faults.Zero place)
      | false ↦ part_then (Part row (signed (unsigned z))) (next (place + length (signed_number z)) rest)
    ]) bytes
    z = signed_taken (2 ^ 36) place bytes _ (lit< tt) each none

    by : (t : Bool) → (unsigned z.value == 0) ≡ t
        → Taken (λ z. (0 < unsigned_abs z) × (unsigned_abs z ≤ 2 ^ 36)) signed_number (λ z rest. next (place + length (signed_number
        z)) rest) bytes
    by true e = absurd (let no : Some (faults.Zero place) ≡ None = rw e at z.none in cc)
    by false e = record {
      value = z.value;
      fits = (present z.value e, z.fits);
      others = z.others;
      is = z.is;
      are_bytes = z.are_bytes;
      none = rw e at z.none;
    }

-- a list of multipliers that may stand
record AreMultipliers (n least : ℕ) (y : List (ℕ × ℤ)) : Type 0 where
  size : length y ≡ n
  rising : rise_from least y ≡ true
  each : list_all (is_multiplier 1024) y ≡ true

one_more : (n least row : ℕ) (z : ℤ) (y : List (ℕ × ℤ)) → least ≤ row → row ≤ 1023 → 0 < unsigned_abs z → unsigned_abs z ≤ 2 ^ 36
    → AreMultipliers n (row + 1) y → AreMultipliers (suc n) least ((row, z) ∷ y)
one_more n least row z y up within some small a = record {
  size = ap suc a.size;
  rising = join (is_at_most least row) (rise_from (suc row) y) (lt_true least (suc row) (omega arith)) (rw (add-one row) at a.rising);
  each = join (is_multiplier 1024 (row, z)) (list_all (is_multiplier 1024) y) (join (nat_lt row 1024 && nat_lt 0 (unsigned_abs z))
      (is_at_most (unsigned_abs z) (2 ^ 36)) (join (nat_lt row 1024) (nat_lt 0 (unsigned_abs z)) (lt_true row 1024 (omega arith))
      (lt_true 0 (unsigned_abs z) some)) (lt_true (unsigned_abs z) (suc (2 ^ 36)) (omega arith))) a.each;
}

row_taken : (n least place : ℕ) (bytes : List ℕ) (next : ℕ → List ℕ → Reading Token) → Each (λ b. b < 256) bytes
    → (multipliers_at (suc n) least place bytes next).fault ≡ None
    → Taken (λ row. (least ≤ row) × (row ≤ 1023)) number
    (λ row rest. multiplier_at row (place + length (number row)) rest (λ p rest. multipliers_at n (row + 1) p rest next)) bytes
row_taken n least place bytes next each none = by (nat_lt row.value least) refl
  where
    row : Taken (λ n. n ≤ 1023) number (λ row rest. elim (nat_lt row least) [
      | true ↦ stopped (faults.Order place)
      | false ↦ multiplier_at row (place + length (number row)) rest (λ p rest. multipliers_at n (row + 1) p rest next)
    ]) bytes
    row = number_taken 1023 place bytes _ (lit< tt) each none

    by : (t : Bool) → nat_lt row.value least ≡ t
        → Taken (λ row. (least ≤ row) × (row ≤ 1023)) number
        (λ row rest. multiplier_at row (place + length (number row)) rest (λ p rest. multipliers_at n (row + 1) p rest next)) bytes
    by true e = absurd (let no : Some (faults.Order place) ≡ None = rw e at row.none in cc)
    by false e = record {
      value = row.value;
      fits = (not_lt row.value least e, row.fits);
      others = row.others;
      is = row.is;
      are_bytes = row.are_bytes;
      none = rw e at row.none;
    }

multipliers_taken : (n least place : ℕ) (bytes : List ℕ) (next : ℕ → List ℕ → Reading Token) → Each (λ b. b < 256) bytes
    → (multipliers_at n least place bytes next).fault ≡ None
    → Taken (AreMultipliers n least) (flat_map multiplier_bytes)
    (λ y rest. next (place + length (flat_map multiplier_bytes y)) rest) bytes
multipliers_taken zero least place bytes next each none = record {
  value = [];
  fits = record { size = refl; rising = refl; each = refl };
  others = bytes;
  is = refl;
  are_bytes = each;
  none = moved _ _ (ap (λ (k : ℕ). next k bytes) (omega arith)) none;
}
multipliers_taken (suc n) least place bytes next each none =
    let row = row_taken n least place bytes next each none in
    let z = multiplier_taken row.value (place + length (number row.value)) row.others _ row.are_bytes row.none in
    let first = number row.value in
    let second = signed_number z.value in
    let y = multipliers_taken n (row.value + 1) (place + length first + length second) z.others next z.are_bytes z.none in
    let third = flat_map multiplier_bytes y.value in
    record {
      value = (row.value, z.value) ∷ y.value;
      fits = one_more n least row.value z.value y.value row.fits.0 row.fits.1 z.fits.0 z.fits.1 y.fits;
      others = y.others;
      is = row.is ∙ ap (λ (bs : List ℕ). first ++ bs) (z.is ∙ ap (λ (bs : List ℕ). second ++ bs) y.is)
          ∙ sym (append_assoc first second (third ++ y.others)) ∙ sym (append_assoc (first ++ second) third y.others);
      are_bytes = y.are_bytes;
      none = moved _ _ (ap (λ (k : ℕ). next k y.others)
          (let l = length-append (first ++ second) third in let m = length-append first second in omega arith)) y.none;
    }

divisor_test : (q : ℕ) → q ≤ 2 ^ 36 → (not (lt_z (pos q) (pos 0)) && not (lt_z (pos (2 ^ 36)) (pos q))) ≡ true
divisor_test q l = rw (less_false (pos q) (pos 0) (omega (arith, ints)), less_false (pos (2 ^ 36)) (pos q) (omega (arith, ints))) refl

-- a divisor and multipliers that may stand
pub cert_within : (q : ℕ) (y : List (ℕ × ℤ)) → q ≤ 2 ^ 36 → rise_from 0 y ≡ true → list_all (is_multiplier 1024) y ≡ true
    → IsCert 1024 (record { q = pos q; y = y })
cert_within q y small rising each =
    (cert_exact 1024 (record { q = pos q; y = y })).0
    (join ((not (lt_z (pos q) (pos 0)) && not (lt_z (pos (2 ^ 36)) (pos q))) && rise_from 0 y) (list_all (is_multiplier 1024) y)
    (join (not (lt_z (pos q) (pos 0)) && not (lt_z (pos (2 ^ 36)) (pos q))) (rise_from 0 y) (divisor_test q small) rising) each)

cert_taken : (place : ℕ) (bytes : List ℕ) (next : ℕ → List ℕ → Reading Token) → Each (λ b. b < 256) bytes
    → (cert_at place bytes next).fault ≡ None → Taken (IsCert 1024) cert_bytes (λ c rest. next (place + length (cert_bytes c)) rest) bytes
cert_taken place bytes next each none =
    let q = number_taken (2 ^ 36) place bytes _ (lit< tt) each none in
    let n = number_taken 1024 (place + length (number q.value)) q.others _ (lit< tt) q.are_bytes q.none in
    let y = multipliers_taken n.value 0 (place + length (number q.value) + length (number n.value)) n.others next n.are_bytes n.none in
    let size = ap number y.fits.size in
    let first = number q.value in
    let third = flat_map multiplier_bytes y.value in
    let c : Cert = record { q = pos q.value; y = y.value } in
    let second = number (length y.value) in
    record {
      value = c;
      fits = cert_within q.value y.value q.fits y.fits.rising y.fits.each;
      others = y.others;
      is = q.is ∙ ap (λ (bs : List ℕ). first ++ bs)
          (n.is ∙ ap (λ (bs : List ℕ). bs ++ n.others) (sym size) ∙ ap (λ (bs : List ℕ). second ++ bs) y.is)
          ∙ sym (append_assoc first second (third ++ y.others)) ∙ sym (append_assoc (first ++ second) third y.others);
      are_bytes = y.are_bytes;
      none = moved _ _ (ap (λ (k : ℕ). next k y.others)
          (let l = length-append (first ++ second) third in let m = length-append first second in
          let s = ap (λ (bs : List ℕ). length bs) size in omega arith)) y.none;
    }

-- ---- trees

split_bytes : ℕ × ℤ → List ℕ
split_bytes s = number s.0 ++ signed_number s.1

split_taken : (place : ℕ) (bytes : List ℕ) (next : ℕ → List ℕ → Reading Token) → Each (λ b. b < 256) bytes
    → (split_at place bytes next).fault ≡ None
    → Taken (λ (s : ℕ × ℤ). (s.0 ≤ 4095) × (unsigned_abs s.1 ≤ 2 ^ 24)) (λ (s : ℕ × ℤ). number s.0 ++ signed_number s.1)
    (λ s rest. next (place + length (number s.0) + length (signed_number s.1)) rest) bytes
split_taken place bytes next each none =
    let col = number_taken 4095 place bytes _ (lit< tt) each none in
    let cut = signed_taken (2 ^ 24) (place + length (number col.value)) col.others _ (lit< tt) col.are_bytes col.none in
    let first = number col.value in
    let second = signed_number cut.value in
    record {
      value = (col.value, cut.value);
      fits = (col.fits, cut.fits);
      others = cut.others;
      is = col.is ∙ ap (λ (bs : List ℕ). first ++ bs) cut.is ∙ sym (append_assoc first second cut.others);
      are_bytes = cut.are_bytes;
      none = cut.none;
    }

-- a tree within the limits, after some nodes
pub record IsTree (levels nodes : ℕ) (t : PlainTree) : Type 0 where
  pub deep : depth t < levels
  pub count : nodes + node_count t ≤ 1000000
  pub numbers : AreNumbersWithin t

abbrev pub TreeTaken : ℕ → ℕ → ℕ → List ℕ → (ℕ → ℕ → List ℕ → Reading Token) → Type 0
TreeTaken levels nodes place bytes next =
    Taken (IsTree levels nodes) tree_bytes (λ t rest. next (nodes + node_count t) (place + length (tree_bytes t)) rest) bytes

leaf_taken : (k nodes place b : ℕ) (bytes : List ℕ) (next : ℕ → ℕ → List ℕ → Reading Token) → Each (λ b. b < 256) bytes
    → nodes < 1000000 → b ≡ 76 → (cert_at (place + 1) bytes (next (nodes + 1))).fault ≡ None
    → TreeTaken (suc k) nodes place (b ∷ bytes) next
leaf_taken k nodes place b bytes next each few e none =
    let c = cert_taken (place + 1) bytes (next (nodes + 1)) each none in
    record {
      value = leaf c.value;
      fits = record { deep = omega arith; count = omega arith; numbers = c.fits };
      others = c.others;
      is = ap (λ (n : ℕ). n ∷ bytes) e ∙ ap (λ (bs : List ℕ). 76 ∷ bs) c.is;
      are_bytes = c.are_bytes;
      none = moved _ _ (ap (λ (q : ℕ). next (nodes + 1) q c.others) (omega arith)) c.none;
    }

abbrev pub AreTaken : ℕ → Type 0
AreTaken levels = (nodes place : ℕ) (bytes : List ℕ) (next : ℕ → ℕ → List ℕ → Reading Token) → Each (λ b. b < 256) bytes
    → (tree_at levels nodes place bytes next).fault ≡ None → TreeTaken levels nodes place bytes next

sides_taken : (k nodes place b : ℕ) (bytes : List ℕ) (next : ℕ → ℕ → List ℕ → Reading Token) → Each (λ b. b < 256) bytes
    → b ≡ 83 → AreTaken k
    → (split_at (place + 1) bytes (λ p rest. tree_at k (nodes + 1) p rest (λ n p rest. tree_at k n p rest next))).fault ≡ None
    → TreeTaken (suc k) nodes place (b ∷ bytes) next
sides_taken k nodes place b bytes next each e sides none =
    let s = split_taken (place + 1) bytes _ each none in
    let first = number s.value.0 in
    let second = signed_number s.value.1 in
    let one = place + 1 + length first + length second in
    let left = sides (nodes + 1) one s.others _ s.are_bytes s.none in
    let third = tree_bytes left.value in
    let right = sides (nodes + 1 + node_count left.value) (one + length third) left.others next left.are_bytes left.none in
    let fourth = tree_bytes right.value in
    let a = length-append (first ++ second ++ third) fourth in
    let b' = length-append (first ++ second) third in
    let c = length-append first second in
    let dl = left.fits.deep in
    let dr = right.fits.deep in
    let few = right.fits.count in
    let t = split s.value.0 s.value.1 tt left.value right.value in
    record {
      value = t;
      fits = record {
        deep = omega arith;
        count = omega arith;
        numbers = (s.fits.0, s.fits.1, left.fits.numbers, right.fits.numbers);
      };
      others = right.others;
      is = ap (λ (n : ℕ). n ∷ bytes) e ∙ ap (λ (bs : List ℕ). 83 ∷ bs)
          (s.is ∙ ap (λ (bs : List ℕ). (first ++ second) ++ bs) (left.is ∙ ap (λ (bs : List ℕ). third ++ bs) right.is)
          ∙ sym (append_assoc (first ++ second) third (fourth ++ right.others))
          ∙ sym (append_assoc (first ++ second ++ third) fourth right.others));
      are_bytes = right.are_bytes;
      none = moved _ _ (ap (λ (n : ℕ). next n (one + length third + length fourth) right.others) (omega arith)
          ∙ ap (λ (q : ℕ). next (nodes + node_count t) q right.others) (omega arith)) right.none;
    }

-- what holds of each of three kinds, of the first two for their bytes, holds of the kind of a byte
by_kind : {K : Type 0} (P : K → Type 0) (b m n : ℕ) (x y z : K) → (b ≡ m → P x) → (b ≡ n → P y) → P z →
    P (if b == m then x else if b == n then y else z)
by_kind P b m n x y z first second other = by (b == m) (b == n) refl refl
  where
    by : (t u : Bool) → (b == m) ≡ t → (b == n) ≡ u → P (if t then x else if u then y else z)
    by true u f g = first (eqb-true b m f)
    by false true f g = second (eqb-true b n g)
    by false false f g = other

kind_leaf : (b : ℕ) → node_kind b ≡ leaf_kind → b ≡ 76
kind_leaf b = by_kind (λ k. k ≡ leaf_kind → b ≡ 76) b 76 83 leaf_kind split_kind no_kind (λ e h. e) (λ e h. absurd cc) (λ h. absurd cc)

kind_split : (b : ℕ) → node_kind b ≡ split_kind → b ≡ 83
kind_split b = by_kind (λ k. k ≡ split_kind → b ≡ 83) b 76 83 leaf_kind split_kind no_kind (λ e h. absurd cc) (λ e h. e) (λ h. absurd cc)

pub tree_taken : (levels : ℕ) → AreTaken levels
tree_taken zero nodes place [] next each none = absurd cc
tree_taken zero nodes place (b ∷ bytes) next each none = by (nat_lt nodes 1000000) refl
  where
    by : (t : Bool) → nat_lt nodes 1000000 ≡ t → TreeTaken zero nodes place (b ∷ bytes) next
    by true e = absurd (let no : Some (faults.TooDeep place) ≡ None = rw (tree_at, e) at none in cc)
    by false e = absurd (let no : Some (faults.TooMany place) ≡ None = rw (tree_at, e) at none in cc)
tree_taken (suc k) nodes place [] next each none = absurd cc
tree_taken (suc k) nodes place (b ∷ bytes) next each none = by (nat_lt nodes 1000000) (node_kind b) refl refl (tree_taken k)
  where
    by : (t : Bool) (kind : NodeKind) → nat_lt nodes 1000000 ≡ t → node_kind b ≡ kind → AreTaken k
        → TreeTaken (suc k) nodes place (b ∷ bytes) next
    by false kind e f sides = absurd (let no : Some (faults.TooMany place) ≡ None = rw (tree_at, e) at none in cc)
    by true leaf_kind e f sides = leaf_taken k nodes place b bytes next each.1 (lt_is nodes 1000000 e) (kind_leaf b f) (rw (
      tree_at,
      e,
      f,
    ) at none)
    by true split_kind e f sides = sides_taken k nodes place b bytes next each.1 (kind_split b f) sides (rw (tree_at, e, f) at none)
    by true no_kind e f sides = absurd (let no : Some (faults.Tag place) ≡ None = rw (tree_at, e, f) at none in cc)

-- ---- the whole file

kind_of_point : (b : ℕ) → claim_kind b ≡ of_point → b ≡ 66
kind_of_point b =
    by_kind (λ k. k ≡ of_point → b ≡ 66) b 66 69 of_point of_emptiness of_neither (λ e h. e) (λ e h. absurd cc) (λ h. absurd cc)

kind_of_emptiness : (b : ℕ) → claim_kind b ≡ of_emptiness → b ≡ 69
kind_of_emptiness b =
    by_kind (λ k. k ≡ of_emptiness → b ≡ 69) b 66 69 of_point of_emptiness of_neither (λ e h. absurd cc) (λ e h. e) (λ h. absurd cc)

abbrev pub ClaimTaken : ℕ → List ℕ → (ℕ → List ℕ → Reading Token) → Type 0
ClaimTaken place bytes next = Taken IsClaimWithin claim_bytes (λ c rest. next (place + length (claim_bytes c)) rest) bytes

point_taken : (place b : ℕ) (bytes : List ℕ) (next : ℕ → List ℕ → Reading Token) → Each (λ b. b < 256) bytes → b ≡ 66
    → (point_at (place + 1) bytes next).fault ≡ None → ClaimTaken place (b ∷ bytes) next
point_taken place b bytes next each e none =
    let n = number_taken 4096 (place + 1) bytes _ (lit< tt) each none in
    let x = coordinates_taken n.value (place + 1 + length (number n.value)) n.others next n.are_bytes n.none in
    let size = ap number x.fits.0 in
    let within = n.fits in
    let same = x.fits.0 in
    let first = number (length x.value) in
    let second = flat_map signed_number x.value in
    record {
      value = Best x.value;
      fits = (omega arith, x.fits.1);
      others = x.others;
      is = ap (λ (k : ℕ). k ∷ bytes) e ∙ ap (λ (bs : List ℕ). 66 ∷ bs)
          (n.is ∙ ap (λ (bs : List ℕ). bs ++ n.others) (sym size) ∙ ap (λ (bs : List ℕ). first ++ bs) x.is
          ∙ sym (append_assoc first second x.others));
      are_bytes = x.are_bytes;
      none = moved _ _ (ap (λ (q : ℕ). next q x.others) (let l = length-append first second in
          let s = ap (λ (bs : List ℕ). length bs) size in omega arith)) x.none;
    }

pub claim_taken : (place : ℕ) (bytes : List ℕ) (next : ℕ → List ℕ → Reading Token) → Each (λ b. b < 256) bytes
    → (claim_at place bytes next).fault ≡ None → ClaimTaken place bytes next
claim_taken place [] next each none = absurd cc
claim_taken place (b ∷ bytes) next each none = by (claim_kind b) refl
  where
    by : (kind : ClaimKind) → claim_kind b ≡ kind → ClaimTaken place (b ∷ bytes) next
    by of_point f = point_taken place b bytes next each.1 (kind_of_point b f) (rw (claim_at, f) at none)
    by of_emptiness f = record {
      value = Empty;
      fits = tt;
      others = bytes;
      is = ap (λ (k : ℕ). k ∷ bytes) (kind_of_emptiness b f);
      are_bytes = each.1;
      none = rw (claim_at, f) at none;
    }
    by of_neither f = absurd (let no : Some (faults.Tag place) ≡ None = rw (claim_at, f) at none in cc)

pub opening_taken : (wanted : List ℕ) (place : ℕ) (bytes : List ℕ) (next : ℕ → List ℕ → Reading Token) → Each (λ b. b < 256) bytes
    → (opening_at wanted place bytes next).fault ≡ None
    → Taken {A = Unit {0}} (λ u. Unit {0}) (λ u. wanted) (λ u rest. next (place + length wanted) rest) bytes
opening_taken [] place bytes next each none = record {
  value = tt;
  fits = tt;
  others = bytes;
  is = refl;
  are_bytes = each;
  none = moved _ _ (ap (λ (q : ℕ). next q bytes) (omega arith)) none;
}
opening_taken (w ∷ more) place [] next each none = absurd cc
opening_taken (w ∷ more) place (b ∷ bytes) next each none =
    by (b == w) refl (λ f. opening_taken more (place + 1) bytes next each.1 f)
  where
    by : (t : Bool) → (b == w) ≡ t
        → ((opening_at more (place + 1) bytes next).fault ≡ None
        → Taken {A = Unit {0}} (λ u. Unit {0}) (λ u. more) (λ u rest. next (place + 1 + length more) rest) bytes)
        → Taken {A = Unit {0}} (λ u. Unit {0}) (λ u. w ∷ more) (λ u rest. next (place + length (w ∷ more)) rest) (b ∷ bytes)
    by false e others = absurd (let no : Some (faults.Magic place) ≡ None = rw (opening_at, e) at none in cc)
    by true e others =
        let o = others (rw (opening_at, e) at none) in
        record {
          value = tt;
          fits = tt;
          others = o.others;
          is = ap (λ (k : ℕ). k ∷ bytes) (eqb-true b w e) ∙ ap (λ (bs : List ℕ). w ∷ bs) o.is;
          are_bytes = o.are_bytes;
          none = moved _ _ (ap (λ (q : ℕ). next q o.others) (omega arith)) o.none;
        }

pub nothing_left : (place : ℕ) (bytes : List ℕ) → (end_at place bytes).fault ≡ None → bytes ≡ []
nothing_left place [] none = refl
nothing_left place (b ∷ bytes) none = absurd cc

pub readings_are_spelled : ReadingsAreSpelled
readings_are_spelled bytes each none =
    let o = opening_taken opening 0 bytes _ each none in
    let c = claim_taken 5 o.others _ o.are_bytes o.none in
    let t = tree_taken 801 0 (5 + length (claim_bytes c.value)) c.others (λ n p rest. end_at p rest) c.are_bytes c.none in
    let end = nothing_left _ t.others t.none in
    let deep = t.fits.deep in
    let few = t.fits.count in
    let spelled = o.is ∙ ap (λ (bs : List ℕ). opening ++ bs)
    (c.is ∙ ap (λ (bs : List ℕ). claim_bytes c.value ++ bs)
    (t.is ∙ ap (λ (bs : List ℕ). tree_bytes t.value ++ bs) end ∙ append-nil (tree_bytes t.value))) in (
      c.value,
      t.value,
      record {
        claim = c.fits;
        tree = record { count = omega arith; deep = omega arith; numbers = t.fits.numbers };
        spelled = spelled ∙ sym (append_assoc opening (claim_bytes c.value) (tree_bytes t.value));
      },
    )
