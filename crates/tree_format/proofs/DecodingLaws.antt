-- What is read as a claim and a tree is spelled by the bytes.
use Rattle.std.specs.Prelude.{◌≡◌, ℕ, suc, ◌<◌, Bool, true, false, List, [], ◌∷◌, ◌++◌, length, drop, ℤ, Option, Some, None, Result, Ok}
use Rattle.std.specs.Prelude.{Err, IfOk, IfErr}
use Rattle.std.specs.List.{flat_map}
use Rattle.std.proofs.Common.{arith, refl, ap, ◌∙◌, sym, subst, append_assoc, get_or}
use Rattle.std.proofs.lemmas.List.{append-nil, take_all}
use Rattle.ip_defs.specs.Lists.{Each}
use Rattle.proof_tree.specs.Trees.{PlainTree}
use Rattle.proof_tree.specs.declared.claims.Claim.{Claim}
use Rattle.proof_tree.specs.declared.claims.Claim.TheVariants.{Best, Empty}
use Rattle.tree_format.specs.Readings.{Reading, part_then, parts_then}
use Rattle.tree_format.specs.Spellings.{Spells, coordinate_part, tree_parts}
use Rattle.tree_format.specs.Grammar.{reading, first_fault, claims_point, IsErrorOf, IsRefusal}
use Rattle.tree_format.specs.Orders.{IsInOrder, AreInOrder, trees, a_claim, a_coordinate}
use Rattle.tree_format.specs.Internal.Remaining.{remaining, HasRead}
use Rattle.tree_format.specs.Internal.Stretches.{ReadsOn, IsReadAs, claim_of}
use Rattle.tree_format.specs.declared.errors.TreeError.{TreeError}
use Rattle.tree_format.specs.declared.errors.TreeError.TheVariants as faults
use Rattle.tree_format.specs.declared.progress.Progress.{Progress}
use Rattle.tree_format.specs.declared.tokens.Token.{Token}
use Rattle.tree_format.specs.declared.tokens.Token.TheVariants.{Nothing, Claimed, Coordinate, SplitAt, LeafQ, Parts, Part}
use Rattle.tree_format.proofs.GrammarLaws.{readings_are_spelled}
use Rattle.tree_format.proofs.OrderLaws.{after_tree, parts_are_in_order}
use Rattle.tree_format.proofs.SpellingLaws.{spellings_are_read}
use Rattle.tree_format.proofs.StretchLaws.{both_read}
use Rattle.tree_format.proofs.UniqueLaws.{one_spelling, same_points, same_trees}

-- ---- the start

-- all is left to a reader that has read nothing
pub all_left : (s : Progress) (bytes : List ℕ) → HasRead s [] → reading bytes ≡ remaining s (drop 0 bytes)
all_left s bytes h = h.left bytes

pub starts_in_order : (s : Progress) (bytes : List ℕ) → HasRead s [] → IsInOrder a_claim (remaining s (drop 0 bytes))
starts_in_order s bytes h = subst (IsInOrder a_claim) (all_left s bytes h) (parts_are_in_order bytes)

claimed_first : (f : Token) (r : Reading Token) → IsInOrder a_claim (part_then f r) → (f ≡ Claimed) × IsInOrder a_coordinate r
claimed_first Claimed r h = (refl, h)
claimed_first Nothing r h = absurd h
claimed_first (Coordinate z) r h = absurd h
claimed_first (SplitAt col at) r h = absurd h
claimed_first (LeafQ q) r h = absurd h
claimed_first (Parts n) r h = absurd h
claimed_first (Part row m) r h = absurd h

-- the first part is the claim
pub claim_first : (s t : Progress) (bytes : List ℕ) (i : ℕ) (f : Token) → HasRead s [] → ReadsOn bytes s 0 t i (f ∷ [])
    → (f ≡ Claimed) × IsInOrder a_coordinate (remaining t (drop i bytes))
claim_first s t bytes i f h on =
    claimed_first f (remaining t (drop i bytes)) (subst (IsInOrder a_claim) on.left (starts_in_order s bytes h))

-- ---- the end

nothing_after : (parts : List Token) (fault : Option TreeError) → AreInOrder (Some (trees 0)) parts fault → parts ≡ []
nothing_after [] fault h = refl
nothing_after (x ∷ xs) fault h = absurd h

-- the stretches of a file that was read to its end
pub record IsWhole (bytes : List ℕ) (s r u v w : Progress) (i j k : ℕ) (f first : Token) (x : List ℤ) (t : PlainTree) (ps qs : List Token)
    : Type 0 where
  pub start : HasRead s []
  pub claim : ReadsOn bytes s 0 r i (f ∷ [])
  pub point : ReadsOn bytes r i u j (flat_map coordinate_part x ++ first ∷ [])
  pub order : IsInOrder (trees 1) (part_then first (remaining u (drop j bytes)))
  pub parts : tree_parts t ≡ first ∷ ps
  pub tree : ReadsOn bytes u j v k ps
  pub rest : ReadsOn bytes v k w (length bytes) qs
  pub none : (remaining v (drop k bytes)).fault ≡ None

pub whole_is_read : (bytes : List ℕ) (s r u v w : Progress) (i j k : ℕ) (f first : Token) (x : List ℤ) (t : PlainTree) (ps qs : List Token)
    (c : Claim) → IsWhole bytes s r u v w i j k f first x t ps qs
    → (HasRead w bytes → c ≡ claim_of (claims_point bytes) x) → IsReadAs bytes c t
whole_is_read bytes s r u v w i j k f first x t ps qs c h claim = record {
  none = ap (λ (a : Reading Token). a.fault) known ∙ h.none;
  point = x;
  claim = claim (subst (HasRead w) (take_all (length bytes) bytes (omega arith)) (h.rest.read (to_tree.read h.start)));
  parts = ap (λ (a : Reading Token). a.parts) known ∙ ap (λ (zs : List Token). all ++ zs) over ∙ append-nil all ∙ whole;
}
  where
    all : List Token
    all = ((f ∷ []) ++ (flat_map coordinate_part x ++ first ∷ [])) ++ ps

    to_point : ReadsOn bytes s 0 u j ((f ∷ []) ++ (flat_map coordinate_part x ++ first ∷ []))
    to_point = both_read bytes s r u 0 i j (f ∷ []) (flat_map coordinate_part x ++ first ∷ []) h.claim h.point

    to_tree : ReadsOn bytes s 0 v k all
    to_tree = both_read bytes s u v 0 j k ((f ∷ []) ++ (flat_map coordinate_part x ++ first ∷ [])) ps to_point h.tree

    known : reading bytes ≡ parts_then all (remaining v (drop k bytes))
    known = all_left s bytes h.start ∙ to_tree.left

    over : (remaining v (drop k bytes)).parts ≡ []
    over =
        let end = remaining v (drop k bytes) in
        let is : part_then first (remaining u (drop j bytes)) ≡ parts_then (tree_parts t) end =
        ap (part_then first) h.tree.left ∙ ap (λ (zs : List Token). parts_then zs end) (sym h.parts) in
        nothing_after end.parts end.fault (after_tree t 0 end.parts end.fault (subst (IsInOrder (trees 1)) is h.order))

    whole : all ≡ Claimed ∷ (flat_map coordinate_part x ++ tree_parts t)
    whole =
        ap (λ (g : Token). g ∷ ((flat_map coordinate_part x ++ first ∷ []) ++ ps)) (claim_first s r bytes i f h.start h.claim).0
        ∙ ap (λ (zs : List Token). Claimed ∷ zs) (append_assoc (flat_map coordinate_part x) (first ∷ []) ps
        ∙ ap (λ (zs : List Token). flat_map coordinate_part x ++ zs) (sym h.parts))

-- ---- spelled

read_is_spelled_by : (bytes : List ℕ) (c d : Claim) (t u : PlainTree) → IsReadAs bytes c t → Spells bytes d u → (d ≡ c) × (u ≡ t)
read_is_spelled_by bytes c (Best z) t u r s =
    let parts : flat_map coordinate_part r.point ++ tree_parts t ≡ flat_map coordinate_part z ++ tree_parts u =
    (let e = sym r.parts ∙ (spellings_are_read bytes (Best z) u s).1 in cc) in
    let same = same_points r.point z t u parts in
    let trees' = same_trees t u [] [] (append-nil (tree_parts t) ∙ same.1 ∙ sym (append-nil (tree_parts u))) in
    let kind : claims_point bytes ≡ true = ap claims_point s.spelled in
    (sym (r.claim ∙ ap (λ (b : Bool). claim_of b r.point) kind ∙ ap (λ (x : List ℤ). Best x) same.0), sym trees'.0)
read_is_spelled_by bytes c Empty t u r s =
    let parts : flat_map coordinate_part r.point ++ tree_parts t ≡ tree_parts u =
    (let e = sym r.parts ∙ (spellings_are_read bytes Empty u s).1 in cc) in
    let same = same_points r.point [] t u parts in
    let trees' = same_trees t u [] [] (append-nil (tree_parts t) ∙ same.1 ∙ sym (append-nil (tree_parts u))) in
    let kind : claims_point bytes ≡ false = ap claims_point s.spelled in
    (sym (r.claim ∙ ap (λ (b : Bool). claim_of b r.point) kind), sym trees'.0)

-- each byte of a slice is one
pub are_bytes : (bytes : List ℕ) → ((i : ℕ) → get_or bytes i 0 < 256) → Each (λ b. b < 256) bytes
are_bytes [] h = tt
are_bytes (b ∷ bytes) h = (h 0, are_bytes bytes (λ i. h (suc i)))

pub read_is_spelled : (bytes : List ℕ) (c : Claim) (t : PlainTree) → Each (λ b. b < 256) bytes → IsReadAs bytes c t → Spells bytes c t
read_is_spelled bytes c t each r =
    let s = readings_are_spelled bytes each r.none in
    let same = read_is_spelled_by bytes c s.0 t s.1 r s.2 in
    subst (λ (u : PlainTree). Spells bytes c u) same.1 (subst (λ (d : Claim). Spells bytes d s.1) same.0 s.2)

-- bytes spell one proof alone
pub spelled_once : (bytes : List ℕ) (c d : Claim) (t u : PlainTree) → Spells bytes c t → Spells bytes d u → (c ≡ d) × (t ≡ u)
spelled_once bytes c d t u s v =
    let all = one_spelling bytes [] c d t u s (subst (λ (bs : List ℕ). Spells bs d u) (sym (append-nil bytes)) v) in (all.1, all.2)

-- bytes that spell a proof are refused by want of memory alone
pub spelled_refusal : (bytes : List ℕ) (c : Claim) (t : PlainTree) (e : TreeError) → Spells bytes c t → IsRefusal bytes e → e
    ≡ faults.Memory
spelled_refusal bytes c t e s r = by e r
  where
    no : (x : TreeError) → first_fault bytes ≡ Some x → ⊥
    no x f = let both : None ≡ Some x = sym (spellings_are_read bytes c t s).0 ∙ f in absurd cc

    by : (e : TreeError) → IsErrorOf (first_fault bytes) e → e ≡ faults.Memory
    by faults.Memory r = refl
    by (faults.Magic p) r = absurd (no (faults.Magic p) r)
    by (faults.Cut p) r = absurd (no (faults.Cut p) r)
    by (faults.LongNumber p) r = absurd (no (faults.LongNumber p) r)
    by (faults.Order p) r = absurd (no (faults.Order p) r)
    by (faults.Zero p) r = absurd (no (faults.Zero p) r)
    by (faults.Width p) r = absurd (no (faults.Width p) r)
    by (faults.TooDeep p) r = absurd (no (faults.TooDeep p) r)
    by (faults.TooMany p) r = absurd (no (faults.TooMany p) r)
    by (faults.Tail p) r = absurd (no (faults.Tail p) r)
    by (faults.Tag p) r = absurd (no (faults.Tag p) r)

-- what follows of an answer
pub if_ok : {A E : Type 0} (r : Result A E) (P Q : A → Type 0) → ((x : A) → P x → Q x) → IfOk r P → IfOk r Q
if_ok (Ok x) P Q h p = h x p
if_ok (Err e) P Q h p = tt

pub if_err : {A E : Type 0} (r : Result A E) (P Q : E → Type 0) → ((e : E) → P e → Q e) → IfErr r P → IfErr r Q
if_err (Ok x) P Q h p = tt
if_err (Err e) P Q h p = h e p
