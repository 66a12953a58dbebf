-- A tableau over any ring stands for the equations of its node, before and after a pivot.
use Rattle.std.specs.Prelude.{◌≡◌, ◌≢◌, ℕ, ◌+◌, ◌<◌, ◌==◌, Bool, true, false, cond, [], ◌∷◌, ℤ, pos}
use Rattle.std.proofs.Common.{arith, refl, ap, sym, ◌∙◌}
use Rattle.std.proofs.lemmas.Bool.{eqb-true, eqb-false}
use Rattle.ring_laws.proofs.Rings.{Ring, zero_mul, one_mul}
use Rattle.ring_laws.proofs.Normal.{num, var, ◌⊕◌, ◌⊖◌, ◌⊗◌, minus, combine, identity}
use Rattle.ring_laws.proofs.Named.{ring3}
use Rattle.ring_laws.proofs.Sums.{sum, sum_same, sum_add, sum_scale, sum_single}

-- a node with whole coefficients, by its numbers of rows and columns; row i has the basic variable `basic i`
pub record IsSystem (R : Ring) (rows columns : ℕ) (coefficient : ℕ → ℕ → ℤ) (entry : ℕ → ℕ → R.carrier) (basic : ℕ → ℕ) : Type 0 where
  pub within : (i : ℕ) → i < rows → basic i < columns + rows
  pub different : (i k : ℕ) → i < rows → k < rows → basic i ≡ basic k → i ≡ k
  pub one : (i : ℕ) → i < rows → entry i (basic i) ≡ R.of (pos 1)
  pub zeros : (i k : ℕ) → i < rows → k < rows → i ≢ k → entry i (basic k) ≡ R.of (pos 0)
  pub combination : (i j : ℕ) → i < rows → j < columns → entry i j
      ≡ R.neg (sum R (λ k. R.mul (entry i (columns + k)) (R.of (coefficient k j))) rows)

-- the entries after a pivot at row r and variable v, whose entry has that inverse
abbrev pub pivoted : (R : Ring) → (ℕ → ℕ → R.carrier) → ℕ → ℕ → R.carrier → ℕ → ℕ → R.carrier
pivoted R entry r v inverse i w = cond (i == r) (R.mul (entry r w) inverse) (R.sub (entry i w)
    (R.mul (entry i v) (R.mul (entry r w) inverse)))

abbrev pub entered : (ℕ → ℕ) → ℕ → ℕ → ℕ → ℕ
entered basic r v i = cond (i == r) v (basic i)

module _ (R : Ring) (rows columns : ℕ) (coefficient : ℕ → ℕ → ℤ) (entry : ℕ → ℕ → R.carrier) (basic : ℕ →
    ℕ) (r v : ℕ) (inverse : R.carrier) where
  open R use {carrier, of, add as ◌+r◌, sub as ◌-r◌, mul as ◌*r◌, neg}

  infixl 60 ◌+r◌
  infixl 60 ◌-r◌
  infixl 70 ◌*r◌
  -- entry (i, w) of the new tableau, where t says whether i is r
  abbrev new : Bool → ℕ → ℕ → carrier
  new t i w = cond t (entry r w *r inverse) (entry i w -r entry i v *r (entry r w *r inverse))

  abbrev total : ℕ → ℕ → carrier
  total i j = sum R (λ k. entry i (columns + k) *r of (coefficient k j)) rows

  new_combination : (t : Bool) (i j : ℕ) → entry r j ≡ neg (total r j) → entry i j ≡ neg (total i j) →
      new t i j ≡ neg (sum R (λ k. new t i (columns + k) *r of (coefficient k j)) rows)
  new_combination true i j h g =
      let s = sum_same R (λ k. (entry r (columns + k) *r inverse) *r of (coefficient k j))
      (λ k. inverse *r (entry r (columns + k) *r of (coefficient k j))) rows
      (λ k l. ring3 R (λ e p c. (e ⊗ p) ⊗ c) (λ e p c. p ⊗ (e ⊗ c)) refl (entry r (columns + k)) inverse (of (coefficient k j)))
      ∙ sum_scale R inverse (λ k. entry r (columns + k) *r of (coefficient k j)) rows in
      combine R (entry r j ∷ total r j ∷ inverse ∷ sum R (λ k. (entry r (columns + k) *r inverse) *r of (coefficient k j)) rows ∷ [])
      ((var 2, var 0, minus (var 1)) ∷ (num (pos 1), var 3, var 2 ⊗ var 1) ∷ [])
      (var 0 ⊗ var 2) (minus (var 3)) refl (h, (s, tt))
  new_combination false i j h g =
      let f = entry i v in
      let s = sum_same R (λ k. (entry i (columns + k) -r f *r (entry r (columns + k) *r inverse)) *r of (coefficient k j))
      (λ k. entry i (columns + k) *r of (coefficient k j) +r neg (f *r inverse) *r (entry r (columns + k) *r of (coefficient k j)))
      rows
      (λ k l. identity R (entry i (columns + k) ∷ f ∷ entry r (columns + k) ∷ inverse ∷ of (coefficient k j) ∷ [])
      ((var 0 ⊖ var 1 ⊗ (var 2 ⊗ var 3)) ⊗ var 4) (var 0 ⊗ var 4 ⊕ minus (var 1 ⊗ var 3) ⊗ (var 2 ⊗ var 4)) refl)
      ∙ sum_add R (λ k. entry i (columns + k) *r of (coefficient k j)) (λ k. neg (f *r inverse) *r
      (entry r (columns + k) *r of (coefficient k j))) rows
      ∙ ap (λ z. total i j +r z) (sum_scale R (neg (f *r inverse)) (λ k. entry r (columns + k) *r of (coefficient k j)) rows) in
      combine R (entry i j ∷ total i j ∷ entry r j ∷ total r j ∷ f ∷ inverse ∷ sum R
      (λ k. (entry i (columns + k) -r f *r (entry r (columns + k) *r inverse)) *r of (coefficient k j)) rows ∷ [])
      ((num (pos 1), var 0, minus (var 1)) ∷ (minus (var 4 ⊗ var 5), var 2, minus (var 3)) ∷ (
        num (pos 1),
        var 6,
        var 1 ⊕ minus (var 4 ⊗ var 5) ⊗ var 3,
      ) ∷ [])
      (var 0 ⊖ var 4 ⊗ (var 2 ⊗ var 5)) (minus (var 6)) refl (g, (h, (s, tt)))

  module _ (s : IsSystem R rows columns coefficient entry basic) (inside : r < rows) (enters : v < columns + rows) (free : (i : ℕ) →
      i < rows → basic i ≢ v) (pivot : entry r v *r inverse ≡ of (pos 1)) where
    new_one : (t : Bool) (i : ℕ) → (i == r) ≡ t → i < rows → new t i (cond t v (basic i)) ≡ of (pos 1)
    new_one true i e l = pivot
    new_one false i e l =
        combine R (entry i (basic i) ∷ entry i v ∷ entry r (basic i) ∷ inverse ∷ [])
        ((num (pos 1), var 0, num (pos 1)) ∷ (minus (var 1 ⊗ var 3), var 2, num (pos 0)) ∷ [])
        (var 0 ⊖ var 1 ⊗ (var 2 ⊗ var 3)) (num (pos 1)) refl (s.one i l, (s.zeros r i inside l (λ q. eqb-false i r e (sym q)), tt))

    new_zeros : (t u : Bool) (i k : ℕ) → (i == r) ≡ t → (k == r) ≡ u → i < rows → k < rows → i ≢ k →
        new t i (cond u v (basic k)) ≡ of (pos 0)
    new_zeros true true i k e f l m n = absurd (n (eqb-true i r e ∙ sym (eqb-true k r f)))
    new_zeros true false i k e f l m n =
        ap (λ z. z *r inverse) (s.zeros r k inside m (λ q. eqb-false k r f (sym q))) ∙ zero_mul R inverse
    new_zeros false true i k e f l m n =
        combine R (entry i v ∷ entry r v ∷ inverse ∷ []) ((minus (var 0), var 1 ⊗ var 2, num (pos 1)) ∷ [])
        (var 0 ⊖ var 0 ⊗ (var 1 ⊗ var 2)) (num (pos 0)) refl (pivot, tt)
    new_zeros false false i k e f l m n =
        combine R (entry i (basic k) ∷ entry i v ∷ entry r (basic k) ∷ inverse ∷ [])
        ((num (pos 1), var 0, num (pos 0)) ∷ (minus (var 1 ⊗ var 3), var 2, num (pos 0)) ∷ [])
        (var 0 ⊖ var 1 ⊗ (var 2 ⊗ var 3)) (num (pos 0)) refl (s.zeros i k l m n, (s.zeros r k inside m (λ q. eqb-false k r f (sym q)), tt))

    new_within : (t : Bool) (i : ℕ) → i < rows → cond t v (basic i) < columns + rows
    new_within true i l = enters
    new_within false i l = s.within i l

    new_different : (t u : Bool) (i k : ℕ) → (i == r) ≡ t → (k == r) ≡ u → i < rows → k < rows → cond t v (basic i) ≡ cond u v (basic k) →
        i ≡ k
    new_different true true i k e f l m h = eqb-true i r e ∙ sym (eqb-true k r f)
    new_different true false i k e f l m h = absurd (free k m (sym h))
    new_different false true i k e f l m h = absurd (free i l h)
    new_different false false i k e f l m h = s.different i k l m h

    -- a pivot keeps it
    pub pivot_keeps : IsSystem R rows columns coefficient (pivoted R entry r v inverse) (entered basic r v)
    pivot_keeps = record {
      within = λ i l. new_within (i == r) i l;
      different = λ i k l m h. new_different (i == r) (k == r) i k refl refl l m h;
      one = λ i l. new_one (i == r) i refl l;
      zeros = λ i k l m n. new_zeros (i == r) (k == r) i k refl refl l m n;
      combination = λ i j l m. new_combination (i == r) i j (s.combination r j inside m) (s.combination i j l m);
    }

-- entries and basic variables matter only within the tableau
pub stands_same : (R : Ring) (rows columns : ℕ) (coefficient : ℕ → ℕ → ℤ) (e f : ℕ → ℕ → R.carrier) (b c : ℕ → ℕ) →
    ((i v : ℕ) → i < rows → v < columns + rows → f i v ≡ e i v) → ((i : ℕ) → i < rows → c i ≡ b i) →
    IsSystem R rows columns coefficient e b → IsSystem R rows columns coefficient f c
stands_same R rows columns coefficient e f b c entries basics s =
    let at_basic : (i k : ℕ) → i < rows → k < rows → f i (c k) ≡ e i (b k) = λ i k l m. ap (f i) (basics k m)
    ∙ entries i (b k) l (s.within k m) in
    record {
      within = λ i l. rw (basics i l) (s.within i l);
      different = λ i k l m h. s.different i k l m (sym (basics i l) ∙ h ∙ basics k m);
      one = λ i l. at_basic i i l l ∙ s.one i l;
      zeros = λ i k l m n. at_basic i k l m ∙ s.zeros i k l m n;
      combination = λ i j l m. entries i j l (omega arith) ∙ s.combination i j l m
          ∙ ap R.neg (sum_same R (λ k. R.mul (e i (columns + k)) (R.of (coefficient k j)))
          (λ k. R.mul (f i (columns + k)) (R.of (coefficient k j))) rows
          (λ k o. ap (λ z. R.mul z (R.of (coefficient k j))) (sym (entries i (columns + k) l (omega arith)))));
    }

-- the tableau at the start: minus the coefficients, and a unit matrix at the slacks
pub start_stands : (R : Ring) (rows columns : ℕ) (coefficient : ℕ → ℕ → ℤ) (e : ℕ → ℕ → R.carrier) →
    ((i j : ℕ) → i < rows → j < columns → e i j ≡ R.neg (R.of (coefficient i j))) → ((i : ℕ) → i < rows → e i (columns + i) ≡ R.of (pos 1))
    → ((i k : ℕ) → i < rows → k < rows → i ≢ k → e i (columns + k) ≡ R.of (pos 0)) →
    IsSystem R rows columns coefficient e (λ k. columns + k)
start_stands R rows columns coefficient e columns_are one zeros = record {
  within = λ i l. omega arith;
  different = λ i k l m h. omega arith;
  one = one;
  zeros = zeros;
  combination = λ i j l m.
      let f : ℕ → R.carrier = λ k. R.mul (e i (columns + k)) (R.of (coefficient k j)) in
      let single = sum_single R f i rows l (λ k o n. ap (λ z. R.mul z (R.of (coefficient k j))) (zeros i k l o (λ q. n (sym q)))
      ∙ zero_mul R (R.of (coefficient k j))) in
      columns_are i j l m ∙ ap R.neg (sym (single ∙ ap (λ z. R.mul z (R.of (coefficient i j))) (one i l)
      ∙ one_mul R (R.of (coefficient i j))));
}
