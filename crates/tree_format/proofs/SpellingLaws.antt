-- What spells a proof is read, part by part, whatever follows it.
use Rattle.std.specs.Prelude.{◌≡◌, ℕ, zero, suc, ◌+◌, ◌*◌, ◌/◌, ◌%◌, ◌^◌, ◌<◌, ◌≤◌, ◌&&◌, not, true, nat_lt, List, [], ◌∷◌, ◌++◌, length}
use Rattle.std.specs.Prelude.{ℤ, pos, negsuc, ◌≤ℤ◌}
use Rattle.std.specs.Int.RustNames.{unsigned_abs}
use Rattle.std.specs.Int.Signed.{lt_z}
use Rattle.std.specs.List.{flat_map, list_all}
use Rattle.std.proofs.Common.{arith, refl, ap, ◌∙◌, sym, append_assoc, add-one, length-append, eq-eqb, lit<, lit≤}
use Rattle.std.proofs.lemmas.Int.{ints}
use Rattle.std.proofs.lemmas.List.{append-nil}
use Rattle.ip_defs.specs.declared.certificates.Cert.{Cert}
use Rattle.ip_defs.specs.Limits.{IsCert}
use Rattle.ip_defs.specs.Lists.{Each}
use Rattle.ip_defs.proofs.BoolLaws.{both_true}
use Rattle.ip_defs.proofs.OrderLaws.{lt_true, lt_false, lt_is}
use Rattle.proof_tree.specs.LabelledTrees.{leaf, split, node_count, depth}
use Rattle.proof_tree.specs.Trees.{PlainTree, is_at_most, rise_from, is_multiplier}
use Rattle.proof_tree.specs.Within.{AreNumbersWithin, IsTreeWithin}
use Rattle.proof_tree.specs.declared.claims.Claim.{Claim}
use Rattle.proof_tree.specs.declared.claims.Claim.TheVariants.{Best, Empty}
use Rattle.proof_tree.proofs.CertLaws.{cert_exact}
use Rattle.tree_format.specs.Readings.{Reading, part_then, parts_then, complete}
use Rattle.tree_format.specs.Numbers.{unsigned, signed}
use Rattle.tree_format.specs.Spellings.{number, signed_number, claim_bytes, multiplier_bytes, cert_bytes, tree_bytes, spelling}
use Rattle.tree_format.specs.Spellings.{claim_parts, coordinate_part, multiplier_part, tree_parts, proof_parts, IsClaimWithin}
use Rattle.tree_format.specs.Grammar.{number_at, coordinates_at, point_at, claim_at, multiplier_at, multipliers_at, cert_at, split_at}
use Rattle.tree_format.specs.Grammar.{tree_at, end_at, reading}
use Rattle.tree_format.specs.Laws.{SpellingsAreRead}
use Rattle.tree_format.specs.declared.tokens.Token.{Token}
use Rattle.tree_format.specs.declared.tokens.Token.TheVariants.{Claimed, Coordinate, SplitAt, LeafQ, Parts, Part}
use Rattle.tree_format.proofs.CertSizes.{count_within}
use Rattle.tree_format.proofs.FieldLaws.{apart}
use Rattle.tree_format.proofs.NumberLaws.{number_read}
use Rattle.tree_format.proofs.ReadLaws.{parts_then_more}

-- ---- numbers

-- a number up to a greatest one
pub number_is_read : (g n place : ℕ) (bytes : List ℕ) (next : ℕ → ℕ → List ℕ → Reading Token) → n ≤ g → g < 2 ^ 42
    → number_at g place (number n ++ bytes) next ≡ next n (place + length (number n)) bytes
number_is_read g n place bytes next fits small =
    number_read 6 5 g 0 0 place n bytes next (lit≤ tt) (omega arith) (λ h. omega arith) (omega arith)
    ∙ ap (λ (v : ℕ). next v (place + (0 + length (number n))) bytes) (omega arith)
    ∙ ap (λ (p : ℕ). next n p bytes) (omega arith)

-- a signed number stands for itself
pub signed_unsigned : (z : ℤ) → signed (unsigned z) ≡ z
signed_unsigned (pos n) =
    let rest : 2 * n % 2 ≡ 0 = omega arith in
    let half : 2 * n / 2 ≡ n = omega arith in
    rw (eq-eqb (2 * n % 2) 0 rest) (ap pos half)
signed_unsigned (negsuc n) =
    let rest : (2 * n + 1) % 2 ≡ 0 → ⊥ = λ e. omega arith in
    let half : (2 * n + 1) / 2 ≡ n = omega arith in
    rw (apart ((2 * n + 1) % 2) 0 rest) (ap negsuc half)

unsigned_within : (m : ℕ) (z : ℤ) → unsigned_abs z ≤ m → unsigned z ≤ 2 * m
unsigned_within m (pos n) l = omega (arith, ints)
unsigned_within m (negsuc n) l = omega (arith, ints)

-- what a signed number is followed by
pub signed_is_read : (m : ℕ) (z : ℤ) (place : ℕ) (bytes : List ℕ) (next : ℕ → ℕ → List ℕ → Reading Token) → unsigned_abs z ≤ m
    → 2 * m < 2 ^ 42 → number_at (2 * m) place (signed_number z ++ bytes) next
    ≡ next (unsigned z) (place + length (signed_number z)) bytes
signed_is_read m z place bytes next l small = number_is_read (2 * m) (unsigned z) place bytes next (unsigned_within m z l) small

-- ---- lists

-- two places that are one
pub place_more : {A B : Type 0} (place : ℕ) (xs : List A) (ys : List A) (bytes : List ℕ) (next : ℕ → List ℕ → Reading B)
    → next (place + length xs + length ys) bytes ≡ next (place + length (xs ++ ys)) bytes
place_more place xs ys bytes next = ap (λ (k : ℕ). next k bytes) (let l = length-append xs ys in omega arith)

pub coordinates_are_read : (x : List ℤ) (place : ℕ) (bytes : List ℕ) (next : ℕ → List ℕ → Reading Token)
    → Each (λ z. unsigned_abs z ≤ 2 ^ 24) x
    → coordinates_at (length x) place (flat_map signed_number x ++ bytes) next
    ≡ parts_then (flat_map coordinate_part x) (next (place + length (flat_map signed_number x)) bytes)
coordinates_are_read [] place bytes next each = ap (λ (k : ℕ). next k bytes) (omega arith)
coordinates_are_read (z ∷ x) place bytes next each =
    let first = signed_number z in
    let others = flat_map signed_number x in
    let after : ℕ → ℕ → List ℕ → Reading Token =
    λ v p rest. part_then (Coordinate (signed v)) (coordinates_at (length x) p rest next) in
    ap (λ (bs : List ℕ). number_at (2 ^ 25) place bs after) (append_assoc first others bytes)
    ∙ signed_is_read (2 ^ 24) z place (others ++ bytes) after each.0 (lit< tt)
    ∙ ap (λ (w : ℤ). part_then (Coordinate w) (coordinates_at (length x) (place + length first) (others ++ bytes) next))
    (signed_unsigned z)
    ∙ ap (part_then (Coordinate z)) (coordinates_are_read x (place + length first) bytes next each.1)
    ∙ ap (λ (r : Reading Token). part_then (Coordinate z) (parts_then (flat_map coordinate_part x) r))
    (place_more place first others bytes next)

-- a multiplier that may stand
record IsMultiplier (p : ℕ × ℤ) : Type 0 where
  within : p.0 < 1024
  present : 0 < unsigned_abs p.1
  small : unsigned_abs p.1 ≤ 2 ^ 36

multiplier_is : (p : ℕ × ℤ) → is_multiplier 1024 p ≡ true → IsMultiplier p
multiplier_is p e =
    let b = both_true (nat_lt p.0 1024 && nat_lt 0 (unsigned_abs p.1)) (is_at_most (unsigned_abs p.1) (2 ^ 36)) e in
    let d = both_true (nat_lt p.0 1024) (nat_lt 0 (unsigned_abs p.1)) b.0 in
    record {
      within = lt_is p.0 1024 d.0;
      present = lt_is 0 (unsigned_abs p.1) d.1;
      small = (let h = lt_is (unsigned_abs p.1) (suc (2 ^ 36)) b.1 in omega arith);
    }

unsigned_present : (z : ℤ) → 0 < unsigned_abs z → unsigned z ≡ 0 → ⊥
unsigned_present (pos n) l e = omega (arith, ints)
unsigned_present (negsuc n) l e = omega (arith, ints)

pub multiplier_is_read : (row : ℕ) (z : ℤ) (place : ℕ) (bytes : List ℕ) (next : ℕ → List ℕ → Reading Token) → 0 < unsigned_abs z
    → unsigned_abs z ≤ 2 ^ 36
    → multiplier_at row place (signed_number z ++ bytes) next ≡ part_then (Part row z) (next (place + length (signed_number z)) bytes)
multiplier_is_read row z place bytes next present small =
    signed_is_read (2 ^ 36) z place bytes _ small (lit< tt)
    ∙ rw (apart (unsigned z) 0 (unsigned_present z present))
    (ap (λ (w : ℤ). part_then (Part row w) (next (place + length (signed_number z)) bytes)) (signed_unsigned z))

pub row_is_read : (row least n place : ℕ) (bytes : List ℕ) (next : ℕ → List ℕ → Reading Token) → least ≤ row → row ≤ 1023
    → multipliers_at (suc n) least place (number row ++ bytes) next
    ≡ multiplier_at row (place + length (number row)) bytes (λ p rest. multipliers_at n (row + 1) p rest next)
row_is_read row least n place bytes next up l =
    number_is_read 1023 row place bytes _ l (lit< tt) ∙ rw (lt_false row least up) refl

pub multipliers_are_read : (y : List (ℕ × ℤ)) (least place : ℕ) (bytes : List ℕ) (next : ℕ → List ℕ → Reading Token)
    → rise_from least y ≡ true → list_all (is_multiplier 1024) y ≡ true
    → multipliers_at (length y) least place (flat_map multiplier_bytes y ++ bytes) next
    ≡ parts_then (flat_map multiplier_part y) (next (place + length (flat_map multiplier_bytes y)) bytes)
multipliers_are_read [] least place bytes next rises all = ap (λ (k : ℕ). next k bytes) (omega arith)
multipliers_are_read (p ∷ y) least place bytes next rises all =
    let row = number p.0 in
    let value = signed_number p.1 in
    let others = flat_map multiplier_bytes y in
    let up = both_true (is_at_most least p.0) (rise_from (suc p.0) y) rises in
    let least_row = lt_is least (suc p.0) up.0 in
    let both = both_true (is_multiplier 1024 p) (list_all (is_multiplier 1024) y) all in
    let one = multiplier_is p both.0 in
    let within = one.within in
    let rises' = rw (sym (add-one p.0)) at up.1 in
    let after : ℕ → List ℕ → Reading Token = λ q rest. multipliers_at (length y) (p.0 + 1) q rest next in
    let bytes_are = append_assoc (row ++ value) others bytes ∙ append_assoc row value (others ++ bytes) in
    let start : place + length row + length value + length others ≡ place + length ((row ++ value) ++ others) =
    (let l = length-append (row ++ value) others in let m = length-append row value in omega arith) in
    ap (λ (bs : List ℕ). multipliers_at (suc (length y)) least place bs next) bytes_are
    ∙ row_is_read p.0 least (length y) place (value ++ (others ++ bytes)) next (omega arith) (omega arith)
    ∙ multiplier_is_read p.0 p.1 (place + length row) (others ++ bytes) after one.present one.small
    ∙ ap (part_then (Part p.0 p.1)) (multipliers_are_read y (p.0 + 1) (place + length row + length value) bytes next rises' both.1)
    ∙ ap (λ (k : ℕ). parts_then (Part p.0 p.1 ∷ flat_map multiplier_part y) (next k bytes)) start

-- ---- certificates and trees

not_negative : (z : ℤ) → pos 0 ≤ℤ z → pos (unsigned_abs z) ≡ z
not_negative (pos n) l = refl
not_negative (negsuc n) l = absurd (omega (arith, ints))

absolute : (m : ℕ) (z : ℤ) → pos 0 ≤ℤ z → z ≤ℤ pos m → unsigned_abs z ≤ m
absolute m z l h = omega (arith, ints)

pub cert_is_read : (c : Cert) (place : ℕ) (bytes : List ℕ) (next : ℕ → List ℕ → Reading Token) → IsCert 1024 c
    → cert_at place (cert_bytes c ++ bytes) next
    ≡ parts_then (LeafQ c.q ∷ Parts (length c.y) ∷ flat_map multiplier_part c.y) (next (place + length (cert_bytes c)) bytes)
cert_is_read c place bytes next h =
    let divisor = number (unsigned_abs c.q) in
    let count = number (length c.y) in
    let others = flat_map multiplier_bytes c.y in
    let test = (cert_exact 1024 c).1 h in
    let two = both_true ((not (lt_z c.q (pos 0)) && not (lt_z (pos (2 ^ 36)) c.q)) && rise_from 0 c.y)
    (list_all (is_multiplier 1024) c.y) test in
    let rises = (both_true (not (lt_z c.q (pos 0)) && not (lt_z (pos (2 ^ 36)) c.q)) (rise_from 0 c.y) two.0).1 in
    let few = count_within 1024 c.y h.ordered in
    let after : ℕ → ℕ → List ℕ → Reading Token = λ n p rest. part_then (Parts n) (multipliers_at n 0 p rest next) in
    let bytes_are = append_assoc (divisor ++ count) others bytes ∙ append_assoc divisor count (others ++ bytes) in
    let start : place + length divisor + length count + length others ≡ place + length ((divisor ++ count) ++ others) =
    (let l = length-append (divisor ++ count) others in let m = length-append divisor count in omega arith) in
    ap (λ (bs : List ℕ). cert_at place bs next) bytes_are
    ∙ number_is_read (2 ^ 36) (unsigned_abs c.q) place (count ++ (others ++ bytes)) _
    (absolute (2 ^ 36) c.q h.not_negative h.divisor) (lit< tt)
    ∙ ap (λ (z : ℤ). part_then (LeafQ z) (number_at 1024 (place + length divisor) (count ++ (others ++ bytes)) after))
    (not_negative c.q h.not_negative)
    ∙ ap (part_then (LeafQ c.q)) (number_is_read 1024 (length c.y) (place + length divisor) (others ++ bytes) after few (lit< tt))
    ∙ ap (λ (r : Reading Token). part_then (LeafQ c.q) (part_then (Parts (length c.y)) r))
    (multipliers_are_read c.y 0 (place + length divisor + length count) bytes next rises two.1)
    ∙ ap (λ (k : ℕ). parts_then (LeafQ c.q ∷ Parts (length c.y) ∷ flat_map multiplier_part c.y) (next k bytes)) start

pub split_is_read : (col : ℕ) (cut : ℤ) (place : ℕ) (bytes : List ℕ) (next : ℕ → List ℕ → Reading Token) → col ≤ 4095
    → unsigned_abs cut ≤ 2 ^ 24 → split_at place (number col ++ (signed_number cut ++ bytes)) next
    ≡ part_then (SplitAt col cut) (next (place + length (number col) + length (signed_number cut)) bytes)
split_is_read col cut place bytes next l small =
    number_is_read 4095 col place (signed_number cut ++ bytes) _ l (lit< tt)
    ∙ signed_is_read (2 ^ 24) cut (place + length (number col)) bytes _ small (lit< tt)
    ∙ ap (λ (z : ℤ). part_then (SplitAt col z) (next (place + length (number col) + length (signed_number cut)) bytes))
    (signed_unsigned cut)

pub tree_is_read : (t : PlainTree) (k nodes place : ℕ) (bytes : List ℕ) (next : ℕ → ℕ → List ℕ → Reading Token) → depth t ≤ k
    → nodes + node_count t ≤ 1000000 → AreNumbersWithin t
    → tree_at (suc k) nodes place (tree_bytes t ++ bytes) next
    ≡ parts_then (tree_parts t) (next (nodes + node_count t) (place + length (tree_bytes t)) bytes)
tree_is_read (leaf c) k nodes place bytes next deep few within =
    let start : place + 1 + length (cert_bytes c) ≡ place + suc (length (cert_bytes c)) = omega arith in
    rw (tree_at, lt_true nodes 1000000 (omega arith)) (cert_is_read c (place + 1) bytes (next (nodes + 1)) within
    ∙ ap (λ (q : ℕ). parts_then (tree_parts (leaf c)) (next (nodes + 1) q bytes)) start)
tree_is_read (split col cut y left right) zero nodes place bytes next deep few within = absurd (omega arith)
tree_is_read (split col cut y left right) (suc k) nodes place bytes next deep few within =
    rw (tree_at, lt_true nodes 1000000 (omega arith)) (
    ap (λ (bs : List ℕ). split_at (place + 1) bs first) bytes_are
    ∙ split_is_read col cut (place + 1) (tree_bytes left ++ (tree_bytes right ++ bytes)) first within.0 within.1
    ∙ ap (part_then (SplitAt col cut)) (tree_is_read left k (nodes + 1) one (tree_bytes right ++ bytes) second (omega arith) (omega
    arith) within.2
    ∙ ap (parts_then (tree_parts left))
    (tree_is_read right k (nodes + 1 + node_count left) two bytes next (omega arith) (omega arith) within.3)
    ∙ parts_then_more (tree_parts left) (tree_parts right) _)
    ∙ ap (λ (n : ℕ). parts_then all (next n (two + length (tree_bytes right)) bytes)) counted
    ∙ ap (λ (q : ℕ). parts_then all (next (nodes + suc (node_count left + node_count right)) q bytes)) ended
    )
  where
    second : ℕ → ℕ → List ℕ → Reading Token
    second n p rest = tree_at (suc k) n p rest next

    first : ℕ → List ℕ → Reading Token
    first p rest = tree_at (suc k) (nodes + 1) p rest second

    one : ℕ
    one = place + 1 + length (number col) + length (signed_number cut)

    two : ℕ
    two = one + length (tree_bytes left)

    all : List Token
    all = SplitAt col cut ∷ (tree_parts left ++ tree_parts right)

    bytes_are : (number col ++ signed_number cut ++ tree_bytes left ++ tree_bytes right) ++ bytes
        ≡ number col ++ (signed_number cut ++ (tree_bytes left ++ (tree_bytes right ++ bytes)))
    bytes_are = append_assoc (number col ++ signed_number cut ++ tree_bytes left) (tree_bytes right) bytes
        ∙ append_assoc (number col ++ signed_number cut) (tree_bytes left) (tree_bytes right ++ bytes)
        ∙ append_assoc (number col) (signed_number cut) (tree_bytes left ++ (tree_bytes right ++ bytes))

    counted : nodes + 1 + node_count left + node_count right ≡ nodes + suc (node_count left + node_count right)
    counted = omega arith

    ended : two + length (tree_bytes right) ≡ place + length (tree_bytes (split col cut y left right))
    ended =
        let a = length-append (number col ++ signed_number cut ++ tree_bytes left) (tree_bytes right) in
        let b = length-append (number col ++ signed_number cut) (tree_bytes left) in
        let c = length-append (number col) (signed_number cut) in
        omega arith

-- ---- the whole file

pub claim_is_read : (c : Claim) (place : ℕ) (bytes : List ℕ) (next : ℕ → List ℕ → Reading Token) → IsClaimWithin c
    → claim_at place (claim_bytes c ++ bytes) next ≡ parts_then (claim_parts c) (next (place + length (claim_bytes c)) bytes)
claim_is_read Empty place bytes next h = refl
claim_is_read (Best x) place bytes next h =
    let count = number (length x) in
    let others = flat_map signed_number x in
    let start : place + 1 + length count + length others ≡ place + suc (length (count ++ others)) =
    (let l = length-append count others in omega arith) in
    ap (λ (bs : List ℕ). part_then Claimed (point_at (place + 1) bs next)) (append_assoc count others bytes)
    ∙ ap (part_then Claimed) (number_is_read 4096 (length x) (place + 1) (others ++ bytes) _ h.0 (lit< tt)
    ∙ coordinates_are_read x (place + 1 + length count) bytes next h.1)
    ∙ ap (λ (k : ℕ). parts_then (claim_parts (Best x)) (next k bytes)) start

pub spelling_is_read : (c : Claim) (t : PlainTree) → IsClaimWithin c → IsTreeWithin t
    → reading (spelling c t) ≡ parts_then (proof_parts c t) complete
spelling_is_read c t claim tree =
    claim_is_read c 5 (tree_bytes t) _ claim
    ∙ ap (λ (bs : List ℕ). parts_then (claim_parts c) (tree_at 801 0 (5 + length (claim_bytes c)) bs (λ n p rest. end_at p rest)))
    (sym (append-nil (tree_bytes t)))
    ∙ ap (parts_then (claim_parts c))
    (tree_is_read t 800 0 (5 + length (claim_bytes c)) [] (λ n p rest. end_at p rest) tree.deep (let few = tree.count in omega arith)
    tree.numbers)
    ∙ parts_then_more (claim_parts c) (tree_parts t) complete

pub spellings_are_read : SpellingsAreRead
spellings_are_read bytes c t s =
    let all = ap reading s.spelled ∙ spelling_is_read c t s.claim s.tree in
    (ap (λ (r : Reading Token). r.fault) all, ap (λ (r : Reading Token). r.parts) all ∙ append-nil (proof_parts c t))
