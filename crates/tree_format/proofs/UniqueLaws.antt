-- No bytes spell two proofs, and no spelling begins another.
use Rattle.std.specs.Prelude.{◌≡◌, ℕ, ◌+◌, List, [], ◌∷◌, ◌++◌, length, ℤ}
use Rattle.std.specs.List.{flat_map}
use Rattle.std.proofs.Common.{arith, refl, ap, ◌∙◌, sym, append_assoc, drop}
use Rattle.std.proofs.lemmas.List.{append-nil}
use Rattle.ip_defs.specs.declared.certificates.Cert.{Cert}
use Rattle.proof_tree.specs.LabelledTrees.{leaf, split}
use Rattle.proof_tree.specs.Trees.{PlainTree}
use Rattle.proof_tree.specs.declared.claims.Claim.{Claim}
use Rattle.proof_tree.specs.declared.claims.Claim.TheVariants.{Best, Empty}
use Rattle.tree_format.specs.Readings.{Reading, parts_then, complete}
use Rattle.tree_format.specs.Spellings.{spelling, opening, claim_bytes, tree_bytes, claim_parts, tree_parts, proof_parts, coordinate_part}
use Rattle.tree_format.specs.Spellings.{multiplier_part, IsClaimWithin}
use Rattle.tree_format.specs.Grammar.{reading, end_at}
use Rattle.tree_format.specs.Laws.{OneSpelling}
use Rattle.tree_format.specs.declared.tokens.Token.{Token}
use Rattle.proof_tree.specs.Within.{IsTreeWithin}
use Rattle.tree_format.proofs.GrammarLaws.{nothing_left}
use Rattle.tree_format.proofs.ReadLaws.{parts_then_more}
use Rattle.tree_format.proofs.SpellingLaws.{claim_is_read, tree_is_read, spelling_is_read}

-- ---- parts of one proof alone

same_multipliers : (y z : List (ℕ × ℤ)) (xs ys : List Token) → length y ≡ length z
    → flat_map multiplier_part y ++ xs ≡ flat_map multiplier_part z ++ ys → (y ≡ z) × (xs ≡ ys)
same_multipliers [] [] xs ys size e = (refl, e)
same_multipliers [] (q ∷ z) xs ys size e = absurd (omega arith)
same_multipliers (p ∷ y) [] xs ys size e = absurd (omega arith)
same_multipliers (p ∷ y) (q ∷ z) xs ys size e =
    let row : p.0 ≡ q.0 = cc in
    let value : p.1 ≡ q.1 = cc in
    let others : flat_map multiplier_part y ++ xs ≡ flat_map multiplier_part z ++ ys = cc in
    let on = same_multipliers y z xs ys (omega arith) others in
    let first : p ≡ q = ap (λ (r : ℕ). (r, p.1)) row ∙ ap (λ (v : ℤ). (q.0, v)) value in
    (ap (λ (r : ℕ × ℤ). r ∷ y) first ∙ ap (λ (rs : List (ℕ × ℤ)). q ∷ rs) on.0, on.1)

same_cert : (c d : Cert) → c.q ≡ d.q → c.y ≡ d.y → c ≡ d
same_cert c d e f = ap (λ (q : ℤ). record { q = q; y = c.y }) e ∙ ap (λ (y : List (ℕ × ℤ)). record { q = d.q; y = y }) f

pub same_trees : (t u : PlainTree) (xs ys : List Token) → tree_parts t ++ xs ≡ tree_parts u ++ ys → (t ≡ u) × (xs ≡ ys)
same_trees (leaf c) (leaf d) xs ys e =
    let q : c.q ≡ d.q = cc in
    let size : length c.y ≡ length d.y = cc in
    let others : flat_map multiplier_part c.y ++ xs ≡ flat_map multiplier_part d.y ++ ys = cc in
    let y = same_multipliers c.y d.y xs ys size others in
    (ap (λ (c : Cert). leaf c) (same_cert c d q y.0), y.1)
same_trees (leaf c) (split col cut w left right) xs ys e = absurd cc
same_trees (split col cut w left right) (leaf c) xs ys e = absurd cc
same_trees (split col cut w left right) (split col' cut' w' left' right') xs ys e =
    let column : col ≡ col' = cc in
    let number : cut ≡ cut' = cc in
    let others : (tree_parts left ++ tree_parts right) ++ xs ≡ (tree_parts left' ++ tree_parts right') ++ ys = cc in
    let l = same_trees left left' (tree_parts right ++ xs) (tree_parts right' ++ ys)
    (sym (append_assoc (tree_parts left) (tree_parts right) xs) ∙ others ∙ append_assoc (tree_parts left') (tree_parts right') ys) in
    let r = same_trees right right' xs ys l.1 in (
      ap (λ (k : ℕ). split k cut w left right) column ∙ ap (λ (z : ℤ). split col' z w left right) number
          ∙ ap (λ (s : PlainTree). split col' cut' w s right) l.0 ∙ ap (λ (s : PlainTree). split col' cut' w left' s) r.0,
      r.1,
    )

-- coordinates, before a tree
pub same_points : (x z : List ℤ) (t u : PlainTree) → flat_map coordinate_part x ++ tree_parts t
    ≡ flat_map coordinate_part z ++ tree_parts u → (x ≡ z) × (tree_parts t ≡ tree_parts u)
same_points [] [] t u e = (refl, e)
same_points [] (w ∷ z) (leaf c) u e = absurd cc
same_points [] (w ∷ z) (split col cut y left right) u e = absurd cc
same_points (v ∷ x) [] t (leaf c) e = absurd cc
same_points (v ∷ x) [] t (split col cut y left right) e = absurd cc
same_points (v ∷ x) (w ∷ z) t u e =
    let first : v ≡ w = cc in
    let others : flat_map coordinate_part x ++ tree_parts t ≡ flat_map coordinate_part z ++ tree_parts u = cc in
    let on = same_points x z t u others in
    (ap (λ (k : ℤ). k ∷ x) first ∙ ap (λ (ks : List ℤ). w ∷ ks) on.0, on.1)

same_head : (a b : ℕ) (xs ys : List ℕ) → a ∷ xs ≡ b ∷ ys → a ≡ b
same_head a b xs ys e = cc

-- claims, by their first byte and their parts
same_proofs : (c d : Claim) (t u : PlainTree) (xs ys : List ℕ) → claim_bytes c ++ xs ≡ claim_bytes d ++ ys
    → proof_parts c t ≡ proof_parts d u → (c ≡ d) × (t ≡ u)
same_proofs (Best x) (Best z) t u xs ys b e =
    let p = same_points x z t u (let f : flat_map coordinate_part x ++ tree_parts t
    ≡ flat_map coordinate_part z ++ tree_parts u = cc in f) in
    let s = same_trees t u [] [] (append-nil (tree_parts t) ∙ p.1 ∙ sym (append-nil (tree_parts u))) in
    (ap (λ (x : List ℤ). Best x) p.0, s.0)
same_proofs (Best x) Empty t u xs ys b e = absurd (omega (arith, same_head 66 69 _ _ b))
same_proofs Empty (Best z) t u xs ys b e = absurd (omega (arith, same_head 69 66 _ _ b))
same_proofs Empty Empty t u xs ys b e =
    let p : tree_parts t ≡ tree_parts u = cc in
    let s = same_trees t u [] [] (append-nil (tree_parts t) ∙ p ∙ sym (append-nil (tree_parts u))) in
    (refl, s.0)

-- ---- what follows a spelling

regrouped : (c : Claim) (t : PlainTree) (more : List ℕ) → spelling c t ++ more ≡ opening ++ (claim_bytes c ++ (tree_bytes t ++ more))
regrouped c t more = append_assoc (opening ++ claim_bytes c) (tree_bytes t) more
    ∙ append_assoc opening (claim_bytes c) (tree_bytes t ++ more)

-- a spelling with bytes after it
followed : (c : Claim) (t : PlainTree) (more : List ℕ) → IsClaimWithin c → IsTreeWithin t → (place : ℕ)
    × (reading (spelling c t ++ more) ≡ parts_then (proof_parts c t) (end_at place more))
followed c t more claim tree = (
  5 + length (claim_bytes c) + length (tree_bytes t),
  ap reading (regrouped c t more)
      ∙ claim_is_read c 5 (tree_bytes t ++ more) _ claim
      ∙ ap (parts_then (claim_parts c))
      (tree_is_read t 800 0 (5 + length (claim_bytes c)) more (λ n p rest. end_at p rest) tree.deep (let few = tree.count in omega arith)
      tree.numbers)
      ∙ parts_then_more (claim_parts c) (tree_parts t) (end_at (5 + length (claim_bytes c) + length (tree_bytes t)) more),
)

pub one_spelling : OneSpelling
one_spelling bytes more c d t u s v =
    let is : spelling c t ++ more ≡ spelling d u = ap (λ (bs : List ℕ). bs ++ more) (sym s.spelled) ∙ v.spelled in
    let f = followed c t more s.claim s.tree in
    let both : parts_then (proof_parts c t) (end_at f.0 more) ≡ parts_then (proof_parts d u) complete =
    sym f.1 ∙ ap reading is ∙ spelling_is_read d u v.claim v.tree in
    let none = nothing_left f.0 more (ap (λ (r : Reading Token). r.fault) both) in
    let parts : proof_parts c t ≡ proof_parts d u =
    sym (append-nil (proof_parts c t)) ∙ ap (λ (bs : List ℕ). proof_parts c t ++ (end_at f.0 bs).parts) (sym none)
    ∙ ap (λ (r : Reading Token). r.parts) both ∙ append-nil (proof_parts d u) in
    let from_claim : claim_bytes c ++ (tree_bytes t ++ more) ≡ claim_bytes d ++ tree_bytes u =
    ap (λ (bs : List ℕ). drop 5 bs) (sym (regrouped c t more) ∙ is ∙ append_assoc opening (claim_bytes d) (tree_bytes u)) in
    let same = same_proofs c d t u (tree_bytes t ++ more) (tree_bytes u) from_claim parts in
    (none, same.0, same.1)
