-- The coefficient of a column among the coefficients of a row: where it stands, and the list with another one in its place.
use Rattle.std.specs.Prelude.{◌≡◌, ◌≢◌, ℕ, zero, suc, ◌<◌, ◌≤◌, ◌==◌, nat_lt, Bool, true, false, cond, List, [], ◌∷◌, ◌++◌, length}
use Rattle.std.specs.Prelude.{take, drop}
use Rattle.std.specs.Prelude.{Option, Some, None, slice_get, slice_set, insert, remove, Ok, Err, ℤ, pos, negsuc}
use Rattle.std.proofs.Common.{arith, refl, ap, sym, ◌∙◌, subst}
use Rattle.std.proofs.lemmas.Bool.{eqb-false}
use Rattle.std.proofs.lemmas.List.{take-append-drop}
use Rattle.std.proofs.lemmas.Option.{slice_get_within}
use Rattle.ip_defs.specs.Program.{coefficient}
use Rattle.ip_defs.specs.Limits.{AreOrdered}
use Rattle.ip_defs.proofs.OrderLaws.{lt_is, lt_false}
use Rattle.ip_model.proofs.ChangeLaws.{ordered_tail, number_here, number_before, number_after}
use Rattle.ip_model.specs.Places.{listed, changed_coefs}
use Rattle.perturbation.specs.Internal.Coefs.{columns_before, is_column, place_in}

-- ---- where it stands

pub before_within : (j : ℕ) (ps : List (ℕ × ℤ)) → columns_before j ps ≤ length ps
before_within j [] = omega arith
before_within j (p ∷ ps) = by (nat_lt p.0 j) (before_within j ps)
  where
    by : (t : Bool) → columns_before j ps ≤ length ps → cond t (suc (columns_before j ps)) 0 ≤ suc (length ps)
    by true h = omega arith
    by false h = omega arith

-- what the list is after another value is put, from the entry at the place
put_here : (j : ℕ) (f : ℤ → ℤ) (ps : List (ℕ × ℤ)) (p : ℕ × ℤ) → slice_get ps (columns_before j ps) ≡ Some p → (p.0 == j) ≡ true
    → changed_coefs j f ps ≡ take (columns_before j ps) ps ++ listed j (f p.1) (drop (suc (columns_before j ps)) ps)
put_here j f [] p at e = absurd cc
put_here j f (q ∷ qs) p at e = by (nat_lt q.0 j) refl (put_here j f qs p) at
  where
    Goal : Bool → Type 0
    Goal t = slice_get (q ∷ qs) (cond t (suc (columns_before j qs)) 0) ≡ Some p
        → cond (q.0 == j) (listed j (f q.1) qs) (cond (nat_lt j q.0) (listed j (f (pos 0)) (q ∷ qs)) (q ∷ changed_coefs j f qs))
        ≡ take (cond t (suc (columns_before j qs)) 0) (q ∷ qs)
        ++ listed j (f p.1) (drop (suc (cond t (suc (columns_before j qs)) 0)) (q ∷ qs))

    by : (t : Bool) → nat_lt q.0 j ≡ t
        → (slice_get qs (columns_before j qs) ≡ Some p → (p.0 == j) ≡ true
        → changed_coefs j f qs ≡ take (columns_before j qs) qs ++ listed j (f p.1) (drop (suc (columns_before j qs)) qs))
        → Goal t
    by true g rest at =
        let less = lt_is q.0 j g in
        let apart : (q.0 == j) ≡ false = grind (arith) in
        let not_after = lt_false j q.0 (omega arith) in
        rw (apart, not_after) (ap (λ k. q ∷ k) (rest at e))
    by false g rest at =
        let same : q ≡ p = cc in
        let here : (q.0 == j) ≡ true = ap (λ (z : ℕ × ℤ). z.0 == j) same ∙ e in
        rw here (ap (λ (z : ℕ × ℤ). listed j (f z.1) qs) same)

put_new : (j : ℕ) (f : ℤ → ℤ) (ps : List (ℕ × ℤ)) → is_column j (slice_get ps (columns_before j ps)) ≡ false
    → changed_coefs j f ps ≡ take (columns_before j ps) ps ++ listed j (f (pos 0)) (drop (columns_before j ps) ps)
put_new j f [] e = refl
put_new j f (q ∷ qs) e = by (nat_lt q.0 j) refl (put_new j f qs) e
  where
    Goal : Bool → Type 0
    Goal t = is_column j (slice_get (q ∷ qs) (cond t (suc (columns_before j qs)) 0)) ≡ false
        → cond (q.0 == j) (listed j (f q.1) qs) (cond (nat_lt j q.0) (listed j (f (pos 0)) (q ∷ qs)) (q ∷ changed_coefs j f qs))
        ≡ take (cond t (suc (columns_before j qs)) 0) (q ∷ qs)
        ++ listed j (f (pos 0)) (drop (cond t (suc (columns_before j qs)) 0) (q ∷ qs))

    by : (t : Bool) → nat_lt q.0 j ≡ t
        → (is_column j (slice_get qs (columns_before j qs)) ≡ false
        → changed_coefs j f qs ≡ take (columns_before j qs) qs ++ listed j (f (pos 0)) (drop (columns_before j qs) qs))
        → Goal t
    by true g rest at =
        let less = lt_is q.0 j g in
        let apart : (q.0 == j) ≡ false = grind (arith) in
        let not_after = lt_false j q.0 (omega arith) in
        rw (apart, not_after) (ap (λ k. q ∷ k) (rest at))
    by false g rest at =
        let other = eqb-false q.0 j at in
        let after : nat_lt j q.0 ≡ true = grind (arith) in
        rw (at, after) refl

-- ---- the number there

-- what is listed, where it is no 0
listed_is : (j : ℕ) (z : ℤ) (ps : List (ℕ × ℤ)) → z ≢ pos 0 → listed j z ps ≡ (j, z) ∷ ps
listed_is j (pos zero) ps n = absurd (n refl)
listed_is j (pos (suc k)) ps n = refl
listed_is j (negsuc k) ps n = refl

listed_here : (n j : ℕ) (ps : List (ℕ × ℤ)) (p : ℕ × ℤ) → AreOrdered n ps → slice_get ps (columns_before j ps) ≡ Some p
    → (p.0 == j) ≡ true → coefficient ps j ≡ p.1
listed_here n j [] p o at e = absurd cc
listed_here n j (q ∷ qs) p o at e = by (nat_lt q.0 j) refl (listed_here n j qs p (ordered_tail n q qs o)) at
  where
    by : (t : Bool) → nat_lt q.0 j ≡ t
        → (slice_get qs (columns_before j qs) ≡ Some p → (p.0 == j) ≡ true → coefficient qs j ≡ p.1)
        → slice_get (q ∷ qs) (cond t (suc (columns_before j qs)) 0) ≡ Some p → coefficient (q ∷ qs) j ≡ p.1
    by true g rest at =
        let less = lt_is q.0 j g in
        let apart : (q.0 == j) ≡ false = grind (arith) in
        number_after j q qs apart ∙ rest at e
    by false g rest at =
        let same : q ≡ p = cc in
        number_here n j q qs o (ap (λ (z : ℕ × ℤ). z.0 == j) same ∙ e) ∙ ap (λ (z : ℕ × ℤ). z.1) same

number_none : (n j : ℕ) (ps : List (ℕ × ℤ)) → AreOrdered n ps → is_column j (slice_get ps (columns_before j ps)) ≡ false
    → coefficient ps j ≡ pos 0
number_none n j [] o e = refl
number_none n j (q ∷ qs) o e = by (nat_lt q.0 j) refl (number_none n j qs (ordered_tail n q qs o)) e
  where
    by : (t : Bool) → nat_lt q.0 j ≡ t
        → (is_column j (slice_get qs (columns_before j qs)) ≡ false → coefficient qs j ≡ pos 0)
        → is_column j (slice_get (q ∷ qs) (cond t (suc (columns_before j qs)) 0)) ≡ false → coefficient (q ∷ qs) j ≡ pos 0
    by true g rest at =
        let less = lt_is q.0 j g in
        let apart : (q.0 == j) ≡ false = grind (arith) in
        number_after j q qs apart ∙ rest at
    by false g rest at =
        let other = eqb-false q.0 j at in
        number_before n j q qs o (grind (arith))

-- what the place of a column says of its coefficient
pub record IsListed (j : ℕ) (ps : List (ℕ × ℤ)) (k : ℕ) : Type 0 where
  pub index : columns_before j ps ≡ k
  pub listed : is_column j (slice_get ps (columns_before j ps)) ≡ true

pub record IsUnlisted (j : ℕ) (ps : List (ℕ × ℤ)) (k : ℕ) : Type 0 where
  pub index : columns_before j ps ≡ k
  pub unlisted : is_column j (slice_get ps (columns_before j ps)) ≡ false

is_listed : (j : ℕ) (ps : List (ℕ × ℤ)) (k : ℕ) → place_in j ps ≡ Ok k → IsListed j ps k
is_listed j ps k e = by (is_column j (slice_get ps (columns_before j ps))) refl e
  where
    by : (t : Bool) → is_column j (slice_get ps (columns_before j ps)) ≡ t
        → cond t (Ok (columns_before j ps)) (Err (columns_before j ps)) ≡ Ok k → IsListed j ps k
    by true is e = let same : columns_before j ps ≡ k = cc in record { index = same; listed = is }
    by false is e = absurd cc

is_unlisted : (j : ℕ) (ps : List (ℕ × ℤ)) (k : ℕ) → place_in j ps ≡ Err k → IsUnlisted j ps k
is_unlisted j ps k e = by (is_column j (slice_get ps (columns_before j ps))) refl e
  where
    by : (t : Bool) → is_column j (slice_get ps (columns_before j ps)) ≡ t
        → cond t (Ok (columns_before j ps)) (Err (columns_before j ps)) ≡ Err k → IsUnlisted j ps k
    by true is e = absurd cc
    by false is e = let same : columns_before j ps ≡ k = cc in record { index = same; unlisted = is }

-- the coefficient of a column by its place
pub number_listed : (n j : ℕ) (ps : List (ℕ × ℤ)) (k : ℕ) (p : ℕ × ℤ) → AreOrdered n ps → place_in j ps ≡ Ok k → slice_get ps k ≡ Some p
    → coefficient ps j ≡ p.1
number_listed n j ps k p o e at =
    let is = is_listed j ps k e in
    let there = ap (slice_get ps) is.index ∙ at in
    listed_here n j ps p o there (ap (is_column j) (sym there) ∙ is.listed)

pub number_unlisted : (n j : ℕ) (ps : List (ℕ × ℤ)) (k : ℕ) → AreOrdered n ps → place_in j ps ≡ Err k → coefficient ps j ≡ pos 0
number_unlisted n j ps k o e = number_none n j ps o (is_unlisted j ps k e).unlisted

-- ---- another number there

set_parts : {A : Type 0} (xs : List A) (i : ℕ) (x : A) → i < length xs → slice_set xs i x ≡ take i xs ++ x ∷ drop (suc i) xs
set_parts [] i x l = absurd (omega arith)
set_parts (y ∷ ys) zero x l = refl
set_parts (y ∷ ys) (suc i) x l = ap (λ zs. y ∷ zs) (set_parts ys i x (omega arith))

put_listed : (j : ℕ) (z : ℤ) (ps : List (ℕ × ℤ)) (k : ℕ) → place_in j ps ≡ Ok k
    → changed_coefs j (λ old. z) ps ≡ take k ps ++ listed j z (drop (suc k) ps)
put_listed j z ps k e = by (slice_get ps (columns_before j ps)) refl is.listed
  where
    is : IsListed j ps k
    is = is_listed j ps k e

    by : (o : Option (ℕ × ℤ)) → slice_get ps (columns_before j ps) ≡ o → is_column j o ≡ true
        → changed_coefs j (λ old. z) ps ≡ take k ps ++ listed j z (drop (suc k) ps)
    by None at here = absurd cc
    by (Some p) at here = put_here j (λ old. z) ps p at here ∙ ap (λ i. take i ps ++ listed j z (drop (suc i) ps)) is.index

put_unlisted : (j : ℕ) (z : ℤ) (ps : List (ℕ × ℤ)) (k : ℕ) → place_in j ps ≡ Err k
    → changed_coefs j (λ old. z) ps ≡ take k ps ++ listed j z (drop k ps)
put_unlisted j z ps k e =
    let is = is_unlisted j ps k e in
    put_new j (λ old. z) ps is.unlisted ∙ ap (λ i. take i ps ++ listed j z (drop i ps)) is.index

listed_within : (j : ℕ) (ps : List (ℕ × ℤ)) (k : ℕ) → IsListed j ps k → k < length ps
listed_within j ps k is = by (slice_get ps (columns_before j ps)) refl is.listed
  where
    by : (o : Option (ℕ × ℤ)) → slice_get ps (columns_before j ps) ≡ o → is_column j o ≡ true → k < length ps
    by None at here = absurd cc
    by (Some p) at here = subst (λ i. i < length ps) is.index (slice_get_within ps (columns_before j ps) p at)

-- the four ways in which a number is put
pub put_removed : (j : ℕ) (z : ℤ) (ps : List (ℕ × ℤ)) (k : ℕ) → place_in j ps ≡ Ok k → z ≡ pos 0
    → changed_coefs j (λ old. z) ps ≡ remove ps k
put_removed j z ps k e is = put_listed j z ps k e ∙ ap (λ y. take k ps ++ listed j y (drop (suc k) ps)) is

pub put_over : (j : ℕ) (z : ℤ) (ps : List (ℕ × ℤ)) (k : ℕ) → place_in j ps ≡ Ok k → z ≢ pos 0
    → changed_coefs j (λ old. z) ps ≡ slice_set ps k (j, z)
put_over j z ps k e some = put_listed j z ps k e ∙ ap (λ qs. take k ps ++ qs) (listed_is j z (drop (suc k) ps) some)
    ∙ sym (set_parts ps k (j, z) (listed_within j ps k (is_listed j ps k e)))

pub put_nothing : (j : ℕ) (z : ℤ) (ps : List (ℕ × ℤ)) (k : ℕ) → place_in j ps ≡ Err k → z ≡ pos 0 → changed_coefs j (λ old. z) ps ≡ ps
put_nothing j z ps k e is =
    put_unlisted j z ps k e ∙ ap (λ y. take k ps ++ listed j y (drop k ps)) is ∙ take-append-drop k ps

pub put_inserted : (j : ℕ) (z : ℤ) (ps : List (ℕ × ℤ)) (k : ℕ) → place_in j ps ≡ Err k → z ≢ pos 0
    → changed_coefs j (λ old. z) ps ≡ insert ps k (j, z)
put_inserted j z ps k e some = put_unlisted j z ps k e ∙ ap (λ qs. take k ps ++ qs) (listed_is j z (drop k ps) some)
