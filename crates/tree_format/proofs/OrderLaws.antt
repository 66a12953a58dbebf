-- The parts of all bytes are in order.
use Rattle.std.specs.Prelude.{◌≡◌, ℕ, zero, suc, ◌+◌, ◌<◌, ◌^◌, ◌==◌, if◌then◌else◌, Bool, true, false, nat_lt, List, [], ◌∷◌, ◌++◌}
use Rattle.std.specs.Prelude.{length, ℤ, Option, Some, None}
use Rattle.std.specs.List.{flat_map}
use Rattle.std.proofs.Common.{arith, refl, sym, subst, append_assoc, ap, length-append, ◌∙◌}
use Rattle.proof_tree.specs.LabelledTrees.{leaf, split}
use Rattle.proof_tree.specs.Trees.{PlainTree}
use Rattle.tree_format.specs.Readings.{Reading, complete, stopped, part_then, parts_then}
use Rattle.tree_format.specs.Numbers.{number_from, next_digit, signed}
use Rattle.tree_format.specs.Spellings.{longest, opening, tree_parts, multiplier_part}
use Rattle.tree_format.specs.Grammar.{opening_at, coordinates_at, point_at, claim_at, claim_kind, of_point, of_emptiness, of_neither}
use Rattle.tree_format.specs.Grammar.{ClaimKind, multiplier_at, multipliers_at, cert_at, split_at, NodeKind, node_kind, leaf_kind}
use Rattle.tree_format.specs.Grammar.{split_kind, no_kind, node_at, tree_at, end_at}
use Rattle.tree_format.specs.Orders.{Expected, a_claim, a_coordinate, trees, a_count, a_multiplier, multipliers, AreInOrder, IsInOrder}
use Rattle.tree_format.specs.Orders.{PartsAreInOrder, MayEnd}
use Rattle.tree_format.specs.declared.errors.TreeError.{TreeError}
use Rattle.tree_format.specs.declared.errors.TreeError.TheVariants as faults
use Rattle.tree_format.specs.declared.numbers.Digit.{Digit}
use Rattle.tree_format.specs.declared.numbers.Digit.TheVariants.{GoesOn, Ends, Fails}
use Rattle.tree_format.specs.declared.tokens.Token.{Token}
use Rattle.tree_format.specs.declared.tokens.Token.TheVariants.{Nothing, Claimed, Coordinate, SplitAt, LeafQ, Parts, Part}
use Rattle.tree_format.proofs.NumberLaws.{from_ends, from_on, from_fails}

-- ---- reading, part by part

number_in_order : (g read low start : ℕ) (bytes : List ℕ) (next : ℕ → ℕ → List ℕ → Reading Token) (e : Expected)
    → ((v p : ℕ) (rest : List ℕ) → IsInOrder e (next v p rest)) → IsInOrder e (number_from longest g read low start bytes next)
number_in_order g read low start [] next e h = tt
number_in_order g read low start (b ∷ bytes) next e h =
    by (next_digit longest g read low start b) refl (λ v. number_in_order g (read + 1) v start bytes next e h)
  where
    by : (d : Digit) → next_digit longest g read low start b ≡ d
        → ((v : ℕ) → IsInOrder e (number_from longest g (read + 1) v start bytes next))
        → IsInOrder e (number_from longest g read low start (b ∷ bytes) next)
    by (GoesOn v) d on = subst (IsInOrder e) (sym (from_on longest g read low start b v bytes next d)) (on v)
    by (Ends v) d on = subst (IsInOrder e) (sym (from_ends longest g read low start b v bytes next d)) (h v (start + (read + 1)) bytes)
    by (Fails f) d on = subst (IsInOrder e) (sym (from_fails longest g read low start b f bytes next d)) tt

-- a tree in place of coordinates
pub no_coordinate : (r : Reading Token) → IsInOrder (trees 1) r → IsInOrder a_coordinate r
no_coordinate r h = by r.parts r.fault h
  where
    by : (parts : List Token) (fault : Option TreeError) → AreInOrder (Some (trees 1)) parts fault
        → AreInOrder (Some a_coordinate) parts fault
    by [] (Some f) h = tt
    by [] None h = h
    by (LeafQ q ∷ more) fault h = h
    by (SplitAt col at ∷ more) fault h = h
    by (Nothing ∷ more) fault h = h
    by (Claimed ∷ more) fault h = h
    by (Coordinate z ∷ more) fault h = absurd h
    by (Parts n ∷ more) fault h = h
    by (Part row m ∷ more) fault h = h

coordinates_in_order : (n place : ℕ) (bytes : List ℕ) (next : ℕ → List ℕ → Reading Token)
    → ((p : ℕ) (rest : List ℕ) → IsInOrder (trees 1) (next p rest)) → IsInOrder a_coordinate (coordinates_at n place bytes next)
coordinates_in_order zero place bytes next h = no_coordinate (next place bytes) (h place bytes)
coordinates_in_order (suc n) place bytes next h =
    number_in_order (2 ^ 25) 0 0 place bytes _ a_coordinate (λ v p rest. coordinates_in_order n p rest next h)

multiplier_in_order : (n k row place : ℕ) (bytes : List ℕ) (next : ℕ → List ℕ → Reading Token)
    → ((p : ℕ) (rest : List ℕ) → IsInOrder (multipliers n k) (next p rest))
    → IsInOrder (a_multiplier n k) (multiplier_at row place bytes next)
multiplier_in_order n k row place bytes next h =
    number_in_order (2 ^ 37) 0 0 place bytes _ (a_multiplier n k) (λ v p rest. by v p rest (v == 0))
  where
    by : (v p : ℕ) (rest : List ℕ) (t : Bool) → IsInOrder (a_multiplier n k)
        (elim t [ true ↦ stopped (faults.Zero place) | false ↦ part_then (Part row (signed v)) (next p rest) ])
    by v p rest true = tt
    by v p rest false = h p rest

multipliers_in_order : (n k least place : ℕ) (bytes : List ℕ) (next : ℕ → List ℕ → Reading Token)
    → ((p : ℕ) (rest : List ℕ) → IsInOrder (trees k) (next p rest)) → IsInOrder (multipliers n k) (multipliers_at n least place bytes next)
multipliers_in_order zero k least place bytes next h = h place bytes
multipliers_in_order (suc n) k least place bytes next h =
    number_in_order 1023 0 0 place bytes _ (a_multiplier n k) (λ row p rest. by row p rest (nat_lt row least)
    (λ q others. multipliers_in_order n k (row + 1) q others next h))
  where
    by : (row p : ℕ) (rest : List ℕ) (t : Bool)
        → ((q : ℕ) (others : List ℕ) → IsInOrder (multipliers n k) (multipliers_at n (row + 1) q others next))
        → IsInOrder (a_multiplier n k) (elim t [
          | true ↦ stopped (faults.Order place)
          | false ↦ multiplier_at row p rest (λ p rest. multipliers_at n (row + 1) p rest next)
        ])
    by row p rest true on = tt
    by row p rest false on = multiplier_in_order n k row p rest (λ p rest. multipliers_at n (row + 1) p rest next) on

cert_in_order : (k place : ℕ) (bytes : List ℕ) (next : ℕ → List ℕ → Reading Token)
    → ((p : ℕ) (rest : List ℕ) → IsInOrder (trees k) (next p rest)) → IsInOrder (trees (suc k)) (cert_at place bytes next)
cert_in_order k place bytes next h =
    number_in_order (2 ^ 36) 0 0 place bytes _ (trees (suc k)) (λ q p rest.
    number_in_order 1024 0 0 p rest _ (a_count k) (λ n p rest. multipliers_in_order n k 0 p rest next h))

split_in_order : (k place : ℕ) (bytes : List ℕ) (next : ℕ → List ℕ → Reading Token)
    → ((p : ℕ) (rest : List ℕ) → IsInOrder (trees (suc (suc k))) (next p rest)) → IsInOrder (trees (suc k)) (split_at place bytes next)
split_in_order k place bytes next h =
    number_in_order 4095 0 0 place bytes _ (trees (suc k)) (λ col p rest.
    number_in_order (2 ^ 25) 0 0 p rest _ (trees (suc k)) (λ v p rest. h p rest))

tree_in_order : (levels k nodes place : ℕ) (bytes : List ℕ) (next : ℕ → ℕ → List ℕ → Reading Token)
    → ((n p : ℕ) (rest : List ℕ) → IsInOrder (trees k) (next n p rest)) → IsInOrder (trees (suc k)) (tree_at levels nodes place bytes next)
tree_in_order zero k nodes place [] next h = tt
tree_in_order zero k nodes place (b ∷ bytes) next h = by (nat_lt nodes 1000000)
  where
    by : (t : Bool) → IsInOrder (trees (suc k)) (if t then stopped (faults.TooDeep place) else stopped (faults.TooMany place))
    by true = tt
    by false = tt
tree_in_order (suc levels) k nodes place [] next h = tt
tree_in_order (suc levels) k nodes place (b ∷ bytes) next h = by (nat_lt nodes 1000000) (node_kind b)
    (λ p rest. tree_in_order levels (suc k) (nodes + 1) p rest (λ n p rest. tree_at levels n p rest next)
    (λ n p rest. tree_in_order levels k n p rest next h))
  where
    by : (t : Bool) (kind : NodeKind)
        → ((p : ℕ) (rest : List ℕ) → IsInOrder (trees (suc (suc k)))
        (tree_at levels (nodes + 1) p rest (λ n p rest. tree_at levels n p rest next)))
        → IsInOrder (trees (suc k)) (node_at t kind place (cert_at (place + 1) bytes (next (nodes + 1)))
        (split_at (place + 1) bytes (λ p rest. tree_at levels (nodes + 1) p rest (λ n p rest. tree_at levels n p rest next))))
    by false kind on = tt
    by true leaf_kind on = cert_in_order k (place + 1) bytes (next (nodes + 1)) (h (nodes + 1))
    by true split_kind on = split_in_order k (place + 1) bytes _ on
    by true no_kind on = tt

end_in_order : (place : ℕ) (bytes : List ℕ) → IsInOrder (trees 0) (end_at place bytes)
end_in_order place [] = tt
end_in_order place (b ∷ bytes) = tt

claim_in_order : (place : ℕ) (bytes : List ℕ) (next : ℕ → List ℕ → Reading Token)
    → ((p : ℕ) (rest : List ℕ) → IsInOrder (trees 1) (next p rest)) → IsInOrder a_claim (claim_at place bytes next)
claim_in_order place [] next h = tt
claim_in_order place (b ∷ bytes) next h = by (claim_kind b)
  where
    by : (kind : ClaimKind) → IsInOrder a_claim (elim kind [
      | of_point ↦ part_then Claimed (point_at (place + 1) bytes next)
      | of_emptiness ↦ part_then Claimed (next (place + 1) bytes)
      | of_neither ↦ stopped (faults.Tag place)
    ])
    by of_point = number_in_order 4096 0 0 (place + 1) bytes _ a_coordinate (λ n p rest. coordinates_in_order n p rest next h)
    by of_emptiness = no_coordinate (next (place + 1) bytes) (h (place + 1) bytes)
    by of_neither = tt

opening_in_order : (wanted : List ℕ) (place : ℕ) (bytes : List ℕ) (next : ℕ → List ℕ → Reading Token)
    → ((p : ℕ) (rest : List ℕ) → IsInOrder a_claim (next p rest)) → IsInOrder a_claim (opening_at wanted place bytes next)
opening_in_order [] place bytes next h = h place bytes
opening_in_order (w ∷ more) place [] next h = tt
opening_in_order (w ∷ more) place (b ∷ bytes) next h = by (b == w) (opening_in_order more (place + 1) bytes next h)
  where
    by : (t : Bool) → IsInOrder a_claim (opening_at more (place + 1) bytes next)
        → IsInOrder a_claim (elim t [ true ↦ opening_at more (place + 1) bytes next | false ↦ stopped (faults.Magic place) ])
    by true on = on
    by false on = tt

pub parts_are_in_order : PartsAreInOrder
parts_are_in_order bytes =
    opening_in_order opening 0 bytes _ (λ p rest. claim_in_order p rest _ (λ p rest. tree_in_order 801 0 0 p rest _
    (λ n p rest. end_in_order p rest)))

-- ---- what is left of an order

-- where something has to come, something is left
pub something_left : (e : Expected) (r : Reading Token) → (MayEnd None e → ⊥) → IsInOrder e r → r ≡ complete → ⊥
something_left e r wanted order is = wanted (subst (IsInOrder e) is order)

after_multipliers : (y : List (ℕ × ℤ)) (k : ℕ) (ys : List Token) (fault : Option TreeError)
    → AreInOrder (Some (multipliers (length y) k)) (flat_map multiplier_part y ++ ys) fault → AreInOrder (Some (trees k)) ys fault
after_multipliers [] k ys fault h = h
after_multipliers (p ∷ y) k ys fault h = after_multipliers y k ys fault h

-- after the parts of a tree
pub after_tree : (t : PlainTree) (k : ℕ) (ys : List Token) (fault : Option TreeError)
    → AreInOrder (Some (trees (suc k))) (tree_parts t ++ ys) fault → AreInOrder (Some (trees k)) ys fault
after_tree (leaf c) k ys fault h = after_multipliers c.y k ys fault h
after_tree (split col cut y left right) k ys fault h =
    let regrouped = subst (λ (ps : List Token). AreInOrder (Some (trees (suc (suc k)))) ps fault)
    (append_assoc (tree_parts left) (tree_parts right) ys) h in
    after_tree right k ys fault (after_tree left (suc k) (tree_parts right ++ ys) fault regrouped)

-- the multipliers after the next one
pub after_one : (n k : ℕ) (p : ℕ × ℤ) (r s : Reading Token) → 0 < n → IsInOrder (multipliers n k) r → r ≡ parts_then (multiplier_part p) s
    → (m : ℕ) × (suc m ≡ n) × IsInOrder (multipliers m k) s
after_one zero k p r s l order is = absurd (omega arith)
after_one (suc m) k p r s l order is = (m, refl, subst (IsInOrder (a_multiplier m k)) is order)

-- after the left side of a split
pub after_left : (k : ℕ) (first part : Token) (col : ℕ) (cut : ℤ) (ps : List Token) (left : PlainTree) (r s t : Reading Token)
    → IsInOrder (trees (suc k)) (part_then first r) → first ≡ SplitAt col cut → r ≡ parts_then (part ∷ []) s → tree_parts left ≡ part ∷ ps
    → s ≡ parts_then ps t → IsInOrder (trees (suc k)) t
after_left k first part col cut ps left r s t order is one all others =
    let both : IsInOrder (trees (suc (suc k))) r = subst (λ (token : Token). IsInOrder (trees (suc k)) (part_then token r)) is order in
    let known : r ≡ parts_then (tree_parts left) t = one ∙ ap (part_then part) others
    ∙ ap (λ (qs : List Token). parts_then qs t) (sym all) in
    after_tree left (suc k) t.parts t.fault (subst (IsInOrder (trees (suc (suc k)))) known both)

-- how many parts are left before some are read
pub parts_before : (ps : List Token) (r s : Reading Token) → r ≡ parts_then ps s → length r.parts ≡ length ps + length s.parts
parts_before ps r s e = ap (λ (r : Reading Token). length r.parts) e ∙ length-append ps s.parts

-- the parts of a split by those of its sides
pub split_parts : (first : Token) (col : ℕ) (cut : ℤ) (left right : PlainTree) (p q : Token) (ps qs : List Token) → first ≡ SplitAt col cut
    → tree_parts left ≡ p ∷ ps → tree_parts right ≡ q ∷ qs
    → SplitAt col cut ∷ (tree_parts left ++ tree_parts right) ≡ first ∷ (((p ∷ ps) ++ q ∷ []) ++ qs)
split_parts first col cut left right p q ps qs is l r =
    ap (λ (token : Token). token ∷ (tree_parts left ++ tree_parts right)) (sym is)
    ∙ ap (λ (xs : List Token). first ∷ (xs ++ tree_parts right)) l ∙ ap (λ (xs : List Token). first ∷ ((p ∷ ps) ++ xs)) r
    ∙ ap (λ (xs : List Token). first ∷ xs) (sym (append_assoc (p ∷ ps) (q ∷ []) qs))
