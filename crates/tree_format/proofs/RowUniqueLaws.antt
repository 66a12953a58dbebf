-- No bytes spell two row sweeps, and no spelling begins another.
use Rattle.std.specs.Prelude.{◌≡◌, ℕ, ◌^◌, List, [], ◌∷◌, ◌++◌, length}
use Rattle.std.specs.List.{flat_map}
use Rattle.std.proofs.Common.{arith, refl, ap, ◌∙◌, sym, subst, append_assoc, drop, lit<}
use Rattle.std.proofs.lemmas.List.{append-nil}
use Rattle.ip_defs.specs.Lists.{Each}
use Rattle.proof_tree.specs.Trees.{PlainTree}
use Rattle.proof_tree.specs.Within.{IsTreeWithin}
use Rattle.proof_tree.specs.declared.claims.Claim.{Claim}
use Rattle.tree_format.specs.Spellings.{number, opening, claim_bytes, tree_bytes, IsClaimWithin, Spells}
use Rattle.tree_format.specs.RowSpellings.{PlainPiece, piece_bytes, row_spelling, IsPieceWithin, SpellsRows}
use Rattle.tree_format.specs.RowGrammar.{first_row_fault, IsRowRefusal}
use Rattle.tree_format.specs.RowLaws.{OneRowSpelling}
use Rattle.tree_format.specs.declared.errors.TreeError.{TreeError}
use Rattle.tree_format.specs.declared.errors.TreeError.TheVariants as faults
use Rattle.tree_format.proofs.GrammarLaws.{nothing_left}
use Rattle.tree_format.proofs.NumberStepLaws.{same_number, fine_error}
use Rattle.tree_format.proofs.RowSpellingLaws.{regrouped, followed, row_spellings_are_read}
use Rattle.tree_format.proofs.UniqueLaws.{one_spelling}

-- ---- lists

-- of two lists that begin one list, one begins the other
data Begins (xs ys : List ℕ) : Type 0 where
  shorter : (more : List ℕ) → xs ++ more ≡ ys → Begins xs ys
  longer : (more : List ℕ) → ys ++ more ≡ xs → Begins xs ys

begins : (xs ys vs bs : List ℕ) → xs ++ vs ≡ ys ++ bs → Begins xs ys
begins [] ys vs bs e = shorter ys refl
begins (x ∷ xs) [] vs bs e = longer (x ∷ xs) refl
begins (x ∷ xs) (y ∷ ys) vs bs e =
    let first : x ≡ y = cc in
    let others : xs ++ vs ≡ ys ++ bs = cc in
    by first (begins xs ys vs bs others)
  where
    by : x ≡ y → Begins xs ys → Begins (x ∷ xs) (y ∷ ys)
    by f (shorter more g) = shorter more (ap (λ (z : ℕ). z ∷ (xs ++ more)) f ∙ ap (λ (zs : List ℕ). y ∷ zs) g)
    by f (longer more g) = longer more (ap (λ (z : ℕ). z ∷ (ys ++ more)) (sym f) ∙ ap (λ (zs : List ℕ). x ∷ zs) g)

same_rest : (xs vs bs : List ℕ) → xs ++ vs ≡ xs ++ bs → vs ≡ bs
same_rest [] vs bs e = e
same_rest (x ∷ xs) vs bs e = let others : xs ++ vs ≡ xs ++ bs = cc in same_rest xs vs bs others

-- ---- a claim and its tree

-- what a claim and its tree are by their bytes, before other bytes
record AreSame (c d : Claim) (t u : PlainTree) (vs bs : List ℕ) : Type 0 where
  claim : c ≡ d
  tree : t ≡ u
  others : vs ≡ bs

body : Claim → PlainTree → List ℕ
body c t = claim_bytes c ++ tree_bytes t

spells : (c : Claim) (t : PlainTree) → IsClaimWithin c → IsTreeWithin t → Spells (opening ++ body c t) c t
unfolding body
spells c t claim tree = record { claim = claim; tree = tree; spelled = sym (append_assoc opening (claim_bytes c) (tree_bytes t)) }

begun : (c d : Claim) (t u : PlainTree) (more : List ℕ) → IsClaimWithin c → IsTreeWithin t → IsClaimWithin d → IsTreeWithin u
    → body c t ++ more ≡ body d u → (c ≡ d) × (t ≡ u)
begun c d t u more cw tw dw uw e =
    let same = one_spelling (opening ++ body c t) more c d t u (spells c t cw tw)
    (subst (λ (bs : List ℕ). Spells bs d u) (ap (λ (bs : List ℕ). opening ++ bs) (sym e) ∙ sym (append_assoc opening (body c t) more))
    (spells d u dw uw)) in
    (same.1, same.2)

same_proofs : (c d : Claim) (t u : PlainTree) (vs bs : List ℕ) → IsClaimWithin c → IsTreeWithin t → IsClaimWithin d → IsTreeWithin u
    → body c t ++ vs ≡ body d u ++ bs → AreSame c d t u vs bs
same_proofs c d t u vs bs cw tw dw uw e = by (begins (body c t) (body d u) vs bs e)
  where
    all : (c ≡ d) × (t ≡ u) → AreSame c d t u vs bs
    all s = record {
      claim = s.0;
      tree = s.1;
      others = same_rest (body d u) vs bs
          (ap (λ (f : Claim). body f u ++ vs) (sym s.0) ∙ ap (λ (v : PlainTree). body c v ++ vs) (sym s.1) ∙ e);
    }

    by : Begins (body c t) (body d u) → AreSame c d t u vs bs
    by (shorter more f) = all (begun c d t u more cw tw dw uw f)
    by (longer more f) = let s = begun d c u t more dw uw cw tw f in all (sym s.0, sym s.1)

-- ---- pieces

same_piece : (p q : PlainPiece) → p.from ≡ q.from → p.to ≡ q.to → p.claim ≡ q.claim → p.tree ≡ q.tree → p ≡ q
same_piece p q e f g h =
    ap (λ (n : ℕ). record { from = n; to = p.to; claim = p.claim; tree = p.tree }) e
    ∙ ap (λ (n : ℕ). record { from = q.from; to = n; claim = p.claim; tree = p.tree }) f
    ∙ ap (λ (c : Claim). record { from = q.from; to = q.to; claim = c; tree = p.tree }) g
    ∙ ap (λ (t : PlainTree). record { from = q.from; to = q.to; claim = q.claim; tree = t }) h

parted : (p : PlainPiece) (more : List ℕ) → piece_bytes p ++ more
    ≡ number p.from ++ (number p.to ++ (body p.claim p.tree ++ more))
unfolding body
parted p more =
    append_assoc (number p.from ++ number p.to ++ claim_bytes p.claim) (tree_bytes p.tree) more
    ∙ append_assoc (number p.from ++ number p.to) (claim_bytes p.claim) (tree_bytes p.tree ++ more)
    ∙ append_assoc (number p.from) (number p.to) (claim_bytes p.claim ++ (tree_bytes p.tree ++ more))
    ∙ ap (λ (bs : List ℕ). number p.from ++ (number p.to ++ bs)) (sym (append_assoc (claim_bytes p.claim) (tree_bytes p.tree) more))

one_piece : (p q : PlainPiece) (vs bs : List ℕ) → IsPieceWithin p → IsPieceWithin q → piece_bytes p ++ vs ≡ piece_bytes q ++ bs
    → (p ≡ q) × (vs ≡ bs)
one_piece p q vs bs v w e =
    let from = same_number (10 ^ 6) p.from q.from _ _ (lit< tt) v.from w.from (sym (parted p vs) ∙ e ∙ parted q bs) in
    let to = same_number (10 ^ 6) p.to q.to _ _ (lit< tt) v.to w.to from.1 in
    let all = same_proofs p.claim q.claim p.tree q.tree vs bs v.claim v.tree w.claim w.tree to.1 in
    (same_piece p q from.0 to.0 all.claim all.tree, all.others)

same_pieces : (ps qs : List PlainPiece) (vs bs : List ℕ) → Each IsPieceWithin ps → Each IsPieceWithin qs → length ps ≡ length qs
    → flat_map piece_bytes ps ++ vs ≡ flat_map piece_bytes qs ++ bs → ps ≡ qs
same_pieces [] [] vs bs v w size e = refl
same_pieces [] (q ∷ qs) vs bs v w size e = absurd (omega arith)
same_pieces (p ∷ ps) [] vs bs v w size e = absurd (omega arith)
same_pieces (p ∷ ps) (q ∷ qs) vs bs v w size e =
    let first = one_piece p q (flat_map piece_bytes ps ++ vs) (flat_map piece_bytes qs ++ bs) v.0 w.0
    (sym (append_assoc (piece_bytes p) (flat_map piece_bytes ps) vs) ∙ e
    ∙ append_assoc (piece_bytes q) (flat_map piece_bytes qs) bs) in
    let others = same_pieces ps qs vs bs v.1 w.1 (omega arith) first.1 in
    ap (λ (r : PlainPiece). r ∷ ps) first.0 ∙ ap (λ (rs : List PlainPiece). q ∷ rs) others

-- ---- sweeps

pub one_row_spelling : OneRowSpelling
one_row_spelling bytes more ps qs s v =
    let is : row_spelling ps ++ more ≡ row_spelling qs = ap (λ (bs : List ℕ). bs ++ more) (sym s.spelled) ∙ v.spelled in
    let f = followed ps more s.within in
    let fine = row_spellings_are_read (row_spelling qs) qs (record { within = v.within; spelled = refl }) in
    let none = nothing_left f.0 more (sym f.1 ∙ ap first_row_fault is ∙ fine) in
    let all = ap (λ (bs : List ℕ). drop 5 bs) (sym (regrouped ps more) ∙ is ∙ sym (append-nil (row_spelling qs)) ∙ regrouped qs []) in
    let count = same_number 10000 (length ps) (length qs) _ _ (lit< tt) s.within.few v.within.few all in
    (none, same_pieces ps qs more [] s.within.each v.within.each count.0 count.1)

-- bytes spell one sweep alone
pub rows_spelled_once : (bytes : List ℕ) (ps qs : List PlainPiece) → SpellsRows bytes ps → SpellsRows bytes qs → ps ≡ qs
rows_spelled_once bytes ps qs s v =
    (one_row_spelling bytes [] ps qs s (subst (λ (bs : List ℕ). SpellsRows bs qs) (sym (append-nil bytes)) v)).1

-- bytes that spell a sweep are refused by want of memory alone
pub rows_refused : (bytes : List ℕ) (ps : List PlainPiece) (e : TreeError) → SpellsRows bytes ps → IsRowRefusal bytes e
    → e ≡ faults.Memory
rows_refused bytes ps e s r = fine_error (first_row_fault bytes) e (row_spellings_are_read bytes ps s) r
