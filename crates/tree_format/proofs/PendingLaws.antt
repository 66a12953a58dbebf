-- The levels of pending trees.
use Rattle.std.specs.Prelude.{◌≡◌, ℕ, suc, ◌+◌, ◌≤◌, Bool, true, false, nat_eq, List, [], ◌∷◌, length, drop}
use Rattle.std.proofs.Common.{arith, refl, sym, ◌∙◌, ap, length-drop, eq-eqb, subst}
use Rattle.std.proofs.lemmas.Bool.{eqb-true}
use Rattle.std.proofs.lemmas.List.{drop_all}
use Rattle.tree_format.specs.Internal.Fields.{is_none}
use Rattle.tree_format.specs.Internal.Remaining.{RiseFrom, ArePending}

-- there are no more than the numbers that they rise through
pub rise_length : (least : ℕ) (ks : List ℕ) → RiseFrom least ks → length ks + least ≤ 801
rise_length least [] r = omega (arith, r)
rise_length least (k ∷ more) r = let l = rise_length (suc k) more r.1 in omega (arith, r.0)

pub rise_lower : (least lower : ℕ) (ks : List ℕ) → lower ≤ least → RiseFrom least ks → RiseFrom lower ks
rise_lower least lower [] l r = omega (arith, r)
rise_lower least lower (k ∷ more) l r = (omega (arith, r.0), r.1)

-- the trees after the first
pub pending_after : (k : ℕ) (ks : List ℕ) → RiseFrom k ks → ArePending ks
pending_after k [] r = tt
pending_after k (j ∷ more) r = rise_lower (suc j) j more (omega arith) r.1

-- the two sides of a split are pending in its place
pub pending_split : (k : ℕ) (ks : List ℕ) → RiseFrom (suc k) ks → ArePending (k ∷ k ∷ ks)
pending_split k ks r = (omega arith, r)

-- no level is kept exactly where all of the room is unused
pub unused_all : (n : ℕ) (xs ks : List ℕ) → drop n xs ≡ ks → length xs ≡ 802 → n ≤ 802 → nat_eq n 802 ≡ is_none ks
unused_all n xs [] e size within = eq-eqb n 802 (let l = length-drop n xs in let l' = ap (λ (k : List ℕ). length k) e in omega arith)
unused_all n xs (k ∷ more) e size within = by (nat_eq n 802) refl
  where
    by : (t : Bool) → nat_eq n 802 ≡ t → t ≡ false
    by false f = refl
    by true f =
        let all = drop_all n xs (let same = eqb-true n 802 f in omega arith) in
        let none : k ∷ more ≡ [] = sym e ∙ all in absurd cc

-- where one tree is taken away there is room for two
pub room_after : (k : ℕ) (ks all : List ℕ) → all ≡ k ∷ ks → ArePending all → length ks + k ≤ 801
room_after k ks all e p = rise_length k ks (subst ArePending e p)
