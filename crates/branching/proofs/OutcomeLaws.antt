-- A right outcome is true.
use Rattle.std.specs.Prelude.{◌≡◌, ℕ, ◌<◌, ℤ, pos, ◌+ℤ◌, List, [], ◌∷◌, ◌++◌, length}
use Rattle.std.proofs.Common.{arith, subst, length-set, inl, inr}
use Rattle.std.proofs.lemmas.List.{length-map}
use Rattle.std.specs.Int.{int_min, int_max}
use Rattle.ip_defs.specs.declared.programs.Column.{Column}
use Rattle.ip_defs.specs.declared.programs.Parts.{Parts}
use Rattle.ip_defs.specs.Boxes.{below, above}
use Rattle.ip_defs.specs.Program.{box_of, low_at, high_at}
use Rattle.proof_tree.proofs.VerdictLaws.{proofs_are_true}
use Rattle.proof_tree.specs.LabelledTrees.{leaf, split, splits_over}
use Rattle.proof_tree.specs.Trees.{PlainTree, plain, FitsColumns}
use Rattle.proof_tree.specs.Verdicts.{IsTrueClaim}
use Rattle.proof_tree.specs.declared.claims.Claim.{Claim}
use Rattle.proof_tree.specs.declared.claims.Claim.TheVariants as Claims
use Rattle.proof_tree.specs.declared.claims.Proof.{Proof}
use Rattle.branching.specs.declared.budgets.Limits.{Limits}
use Rattle.branching.specs.declared.outcomes.Outcome.TheVariants.{Best, Empty, Budget}
use Rattle.node_bounds.specs.declared.reasons.Why.{Why}
use Rattle.branching.specs.Outcomes.{Pairwise, ClaimsPoint, ClaimsLeast, IsFinished, OutcomesAreTrue}
use Rattle.open_nodes.specs.OpenTrees.{SomeOf}
use Rattle.node_bounds.specs.Reasons.{IsReasoned}
use Rattle.node_bounds.specs.Splits.{IsProper}
use Rattle.ip_defs.proofs.ListLaws.{each_left, each_right}
use Rattle.ip_defs.specs.Lists.{Each}

-- ---- lists in two parts

pub some_left : {A : Type 0} (P : A → Type 0) (xs ys : List A) → SomeOf P xs → SomeOf P (xs ++ ys)
some_left P [] ys h = absurd h
some_left P (x ∷ xs) ys (inl h) = inl h
some_left P (x ∷ xs) ys (inr h) = inr (some_left P xs ys h)

pub some_right : {A : Type 0} (P : A → Type 0) (xs ys : List A) → SomeOf P ys → SomeOf P (xs ++ ys)
some_right P [] ys h = h
some_right P (x ∷ xs) ys h = inr (some_right P xs ys h)

-- what follows from either part follows from the whole
pub some_of_parts : {A C : Type 0} (P : A → Type 0) (xs ys : List A) → SomeOf P (xs ++ ys) → (SomeOf P xs → C) → (SomeOf P ys → C) → C
some_of_parts P [] ys h f g = g h
some_of_parts P (x ∷ xs) ys (inl p) f g = f (inl p)
some_of_parts P (x ∷ xs) ys (inr h) f g = some_of_parts P xs ys h (λ q. f (inr q)) g

-- what pairs say of their first parts alone
pub firsts : {A B : Type 0} (R : A → B → Type 0) (P : A → Type 0) (xs : List A) (ys : List B) → ((a : A) (b : B) → R a b → P a)
    → Pairwise R xs ys → Each P xs
firsts R P [] ys f h = tt
firsts R P (x ∷ xs) [] f h = absurd h
firsts R P (x ∷ xs) (y ∷ ys) f h = (f x y h.0, firsts R P xs ys f h.1)

pub pair_join : {A B : Type 0} (R : A → B → Type 0) (xs xs' : List A) (ys ys' : List B) → Pairwise R xs ys → Pairwise R xs' ys'
    → Pairwise R (xs ++ xs') (ys ++ ys')
pair_join R [] xs' [] ys' h g = g
pair_join R [] xs' (y ∷ ys) ys' h g = absurd h
pair_join R (x ∷ xs) xs' [] ys' h g = absurd h
pair_join R (x ∷ xs) xs' (y ∷ ys) ys' h g = (h.0, pair_join R xs xs' ys ys' h.1 g)

-- ---- proofs

-- a tree of proper splits fits its box
pub fits_of : (n : ℕ) (b : List (ℤ × ℤ)) (t : PlainTree) → length b ≡ n → Each IsProper (splits_over b t) → FitsColumns n t
fits_of n b (leaf c) size h = tt
fits_of n b (split col cut y left right) size h =
    let within : col < length b = h.0.col in
    let first = each_left IsProper (splits_over (below b col cut) left) (splits_over (above b col cut) right) h.1 in
    let second = each_right IsProper (splits_over (below b col cut) left) (splits_over (above b col cut) right) h.1 in (
      omega (arith, within),
      fits_of n (below b col cut) left (omega (arith, length-set b col (low_at b col, int_min (high_at b col) cut)))
          first,
      fits_of n (above b col cut) right (omega (arith, length-set b col (int_max (low_at b col) (cut +ℤ pos 1), high_at b col)))
          second,
    )

finished : (m : Parts) (l : Limits) (p : Proof) (whys : List Why) → IsFinished m l p whys → IsTrueClaim m p.claim
finished m l p whys h =
    let proper = firsts (IsReasoned m l.pivots) IsProper (splits_over (box_of m) (plain p.tree)) whys (λ a b r. r.0) h.reasons in
    proofs_are_true m p (fits_of (length m.columns) (box_of m) (plain p.tree) (length-map m.columns (λ (c : Column). (c.lo, c.hi))) proper)
    h.proved

best_is_least : (m : Parts) (c : Claim) → ClaimsPoint c → IsTrueClaim m c → ClaimsLeast m c
best_is_least m (Claims.Best x) is true_claim = true_claim
best_is_least m Claims.Empty is true_claim = absurd is

pub outcomes_are_true : OutcomesAreTrue
outcomes_are_true m l (Best p whys) h = best_is_least m p.claim h.0 (finished m l p whys h.1)
outcomes_are_true m l (Empty p whys) h = subst (IsTrueClaim m) h.0 (finished m l p whys h.1)
outcomes_are_true m l (Budget what grown best) h = h.point
