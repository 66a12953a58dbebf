-- The points of a tableau over any ring: where its rows are 0 after a pivot they were so before, and at the start only where each slack is
-- its row's sum.
use Rattle.std.specs.Prelude.{◌≡◌, ◌≢◌, ℕ, zero, suc, ◌+◌, ◌<◌, ◌==◌, Bool, true, false, cond, [], ◌∷◌, ℤ, pos}
use Rattle.std.proofs.Common.{arith, refl, ap, sym, ◌∙◌, subst}
use Rattle.std.proofs.lemmas.Bool.{eqb-true, eqb-false}
use Rattle.ring_laws.proofs.Rings.{Ring, zero_mul, one_mul}
use Rattle.ring_laws.proofs.Normal.{num, var, ◌⊕◌, ◌⊖◌, ◌⊗◌, minus, combine, identity}
use Rattle.ring_laws.proofs.Named.{ring2, ring3}
use Rattle.ring_laws.proofs.Sums.{sum, sum_same, sum_add, sum_scale, sum_single}
use Rattle.tableau.proofs.SystemLaws.{pivoted}

-- the slacks are the rows' sums
abbrev pub Solves : (R : Ring) → ℕ → ℕ → (ℕ → ℕ → ℤ) → (ℕ → R.carrier) → Type 0
Solves R rows columns coefficient x = (k : ℕ) → k < rows → x (columns + k) ≡ sum R (λ j. R.mul (R.of (coefficient k j)) (x j)) columns

-- row i of the tableau at a point
abbrev pub row_at : (R : Ring) → ℕ → (ℕ → ℕ → R.carrier) → (ℕ → R.carrier) → ℕ → R.carrier
row_at R all entry x i = sum R (λ v. R.mul (entry i v) (x v)) all

module _ (R : Ring) where
  open R use {carrier, of, add as ◌+r◌, sub as ◌-r◌, mul as ◌*r◌, neg}

  infixl 60 ◌+r◌
  infixl 60 ◌-r◌
  infixl 70 ◌*r◌
  pub sum_split : (f : ℕ → carrier) (n m : ℕ) → sum R f (n + m) ≡ sum R f n +r sum R (λ k. f (n + k)) m
  sum_split f n zero = ap (sum R f) (let e : n + 0 ≡ n = omega arith in e) ∙ sym (R.add_zero (sum R f n))
  sum_split f n (suc m) = ap (sum R f) (let e : n + suc m ≡ suc (n + m) = omega arith in e) ∙ ap (λ z. z +r f (n + m)) (sum_split f n m)
      ∙ R.add_assoc (sum R f n) (sum R (λ k. f (n + k)) m) (f (n + m))

  pub sum_neg : (f : ℕ → carrier) (n : ℕ) → sum R (λ k. neg (f k)) n ≡ neg (sum R f n)
  sum_neg f zero = identity R [] (num (pos 0)) (minus (num (pos 0))) refl
  sum_neg f (suc n) = ap (λ z. z +r neg (f n)) (sum_neg f n)
      ∙ ring2 R (λ a b. minus a ⊕ minus b) (λ a b. minus (a ⊕ b)) refl (sum R f n) (f n)

module _ (R : Ring) (rows columns : ℕ) (entry : ℕ → ℕ → R.carrier) where
  open R use {carrier, of, add as ◌+r◌, sub as ◌-r◌, mul as ◌*r◌, neg}

  infixl 60 ◌+r◌
  infixl 60 ◌-r◌
  infixl 70 ◌*r◌
  -- a pivot keeps the points: where the new rows are zero, the old ones are
  pub pivot_back : (r v : ℕ) (inverse : carrier) → r < rows → entry r v *r inverse ≡ of (pos 1) → (x : ℕ → carrier)
      → ((i : ℕ) → i < rows → row_at R (columns + rows) (pivoted R entry r v inverse) x i ≡ of (pos 0)) → (i : ℕ) → i < rows →
      row_at R (columns + rows) entry x i ≡ of (pos 0)
  pivot_back r v inverse inside pivot x hold i l = others (i == r) refl (hold i l)
    where
      scaled : sum R (λ w. (entry r w *r inverse) *r x w) (columns + rows) ≡ inverse *r row_at R (columns + rows) entry x r
      scaled = sum_same R (λ w. (entry r w *r inverse) *r x w) (λ w. inverse *r (entry r w *r x w)) (columns
          + rows) (λ w o. ring3 R (λ a b d. (a ⊗ b) ⊗ d) (λ a b d. b ⊗ (a ⊗ d)) refl (entry r w) inverse (x w))
          ∙ sum_scale R inverse (λ w. entry r w *r x w) (columns + rows)

      first : sum R (λ w. (entry r w *r inverse) *r x w) (columns + rows) ≡ of (pos 0) → row_at R (columns + rows) entry x r ≡ of (pos 0)
      first h = combine R (row_at R (columns + rows) entry x r ∷ inverse ∷ entry r v ∷ sum R (λ w. (entry r w *r inverse) *r x w) (columns
          + rows) ∷ [])
          ((num (pos 0) ⊖ var 0, var 2 ⊗ var 1, num (pos 1)) ∷ (var 2, var 3, num (pos 0)) ∷ (
            num (pos 0) ⊖ var 2,
            var 3,
            var 1 ⊗ var 0,
          ) ∷ [])
          (var 0) (num (pos 0)) refl (pivot, (h, (scaled, tt)))

      own : (t : Bool) → (r == r) ≡ t → sum R (λ w. cond t (entry r w *r inverse) (entry r w -r entry r v *r (entry r w *r inverse)) *r x
          w) (columns + rows) ≡ of (pos 0) → row_at R (columns + rows) entry x r ≡ of (pos 0)
      own true e h = first h
      own false e h = absurd (eqb-false r r e refl)

      others : (t : Bool) → (i == r) ≡ t → sum R (λ w. cond t (entry r w *r inverse) (entry i w -r entry i v *r (entry r w *r inverse)) *r
          x w) (columns + rows) ≡ of (pos 0) → row_at R (columns + rows) entry x i ≡ of (pos 0)
      others true e h = subst (λ (z : ℕ). row_at R (columns + rows) entry x z ≡ of (pos 0)) (sym (eqb-true i r e)) (first h)
      others false e h =
          let f = entry i v in
          let apart = sum_same R (λ w. (entry i w -r f *r (entry r w *r inverse)) *r x w)
          (λ w. entry i w *r x w +r neg (f *r inverse) *r (entry r w *r x w)) (columns + rows)
          (λ w o. identity R (entry i w ∷ f ∷ entry r w ∷ inverse ∷ x w ∷ []) ((var 0 ⊖ var 1 ⊗ (var 2 ⊗ var 3)) ⊗ var 4)
          (var 0 ⊗ var 4 ⊕ minus (var 1 ⊗ var 3) ⊗ (var 2 ⊗ var 4)) refl)
          ∙ sum_add R (λ w. entry i w *r x w) (λ w. neg (f *r inverse) *r (entry r w *r x w)) (columns + rows)
          ∙ ap (λ z. row_at R (columns + rows) entry x i +r z) (sum_scale R (neg (f *r inverse)) (λ w. entry r w *r x w) (columns
          + rows)) in
          combine R (row_at R (columns + rows) entry x i ∷ row_at R (columns + rows) entry x r ∷ f ∷ inverse ∷ sum R
          (λ w. (entry i w -r f *r (entry r w *r inverse)) *r x w) (columns + rows) ∷ [])
          ((num (pos 1), var 4, num (pos 0)) ∷ (minus (num (pos 1)), var 4, var 0 ⊕ minus (var 2 ⊗ var 3) ⊗ var 1) ∷ (
            var 2 ⊗ var 3,
            var 1,
            num (pos 0),
          ) ∷ [])
          (var 0) (num (pos 0)) refl (h, (apart, (own (r == r) refl (hold r inside), tt)))

-- at the start the rows are zero exactly where the slacks are the rows' sums
pub start_back : (R : Ring) (rows columns : ℕ) (coefficient : ℕ → ℕ → ℤ) (e : ℕ → ℕ → R.carrier) →
    ((i j : ℕ) → i < rows → j < columns → e i j ≡ R.neg (R.of (coefficient i j))) → ((i : ℕ) → i < rows → e i (columns + i) ≡ R.of (pos 1))
    → ((i k : ℕ) → i < rows → k < rows → i ≢ k → e i (columns + k) ≡ R.of (pos 0)) → (x : ℕ → R.carrier)
    → ((i : ℕ) → i < rows → row_at R (columns + rows) e x i ≡ R.of (pos 0)) → Solves R rows columns coefficient x
start_back R rows columns coefficient e columns_are one zeros x hold i l =
    let total = sum R (λ j. R.mul (R.of (coefficient i j)) (x j)) columns in
    let first = sum_same R (λ j. R.mul (e i j) (x j)) (λ j. R.neg (R.mul (R.of (coefficient i j)) (x j))) columns
    (λ j m. ap (λ z. R.mul z (x j)) (columns_are i j l m)
    ∙ ring2 R (λ a b. minus a ⊗ b) (λ a b. minus (a ⊗ b)) refl (R.of (coefficient i j)) (x j))
    ∙ sum_neg R (λ j. R.mul (R.of (coefficient i j)) (x j)) columns in
    let second = sum_single R (λ k. R.mul (e i (columns + k)) (x (columns + k))) i rows l
    (λ k o n. ap (λ z. R.mul z (x (columns + k))) (zeros i k l o (λ q. n (sym q))) ∙ zero_mul R (x (columns + k)))
    ∙ ap (λ z. R.mul z (x (columns + i))) (one i l) ∙ one_mul R (x (columns + i)) in
    combine R (x (columns + i) ∷ total ∷ row_at R (columns + rows) e x i ∷ sum R (λ j. R.mul (e i j) (x j)) columns ∷ sum R
    (λ k. R.mul (e i (columns + k)) (x (columns + k))) rows ∷ [])
    ((num (pos 1), var 2, num (pos 0)) ∷ (minus (num (pos 1)), var 2, var 3 ⊕ var 4) ∷ (
      minus (num (pos 1)),
      var 3,
      minus (var 1),
    ) ∷ (minus (num (pos 1)), var 4, var 0) ∷ [])
    (var 0) (var 1) refl
    (hold i l, (sum_split R (λ v. R.mul (e i v) (x v)) columns rows, (first, (second, tt))))
