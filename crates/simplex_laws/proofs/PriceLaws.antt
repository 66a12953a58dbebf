-- Prices over any ring: a point at which the rows are 0 costs the sum of its prices, the price of a column comes from the prices of the
-- slacks, and the prices of basic variables are 0.
use Rattle.std.specs.Prelude.{◌≡◌, ◌≢◌, ℕ, ◌+◌, ◌<◌, [], ◌∷◌, ℤ, pos}
use Rattle.std.proofs.Common.{refl, ap, sym, ◌∙◌, ◌⊎◌, inl, inr}
use Rattle.ring_laws.proofs.Rings.{Ring, mul_zero, zero_mul}
use Rattle.ring_laws.proofs.Normal.{num, var, ◌⊕◌, ◌⊖◌, ◌⊗◌, minus, combine}
use Rattle.ring_laws.proofs.Named.{ring2, ring3}
use Rattle.ring_laws.proofs.Sums.{sum, sum_same, sum_zero, sum_add, sum_scale, sum_single, exchange}
use Rattle.tableau.proofs.SystemLaws.{IsSystem}
use Rattle.tableau.proofs.PointLaws.{row_at, sum_neg}

-- the price of a variable
abbrev pub price : (R : Ring) → ℕ → (ℕ → ℕ → R.carrier) → (ℕ → ℕ) → (ℕ → R.carrier) → ℕ → R.carrier
price R rows entry basic cost v = R.sub (cost v) (sum R (λ i. R.mul (entry i v) (cost (basic i))) rows)

module _ (R : Ring) where
  open R use {carrier, of, add as ◌+r◌, sub as ◌-r◌, mul as ◌*r◌, neg}

  infixl 60 ◌+r◌
  infixl 60 ◌-r◌
  infixl 70 ◌*r◌
  pub sum_scale_right : (f : ℕ → carrier) (a : carrier) (n : ℕ) → sum R f n *r a ≡ sum R (λ k. f k *r a) n
  sum_scale_right f a n = R.mul_comm (sum R f n) a ∙ sym (sum_scale R a f n)
      ∙ sum_same R (λ k. a *r f k) (λ k. f k *r a) n (λ k l. R.mul_comm a (f k))

module _ (R : Ring) (rows columns : ℕ) (coefficient : ℕ → ℕ → ℤ) (entry : ℕ → ℕ → R.carrier) (basic : ℕ → ℕ) where
  open R use {carrier, of, add as ◌+r◌, sub as ◌-r◌, mul as ◌*r◌, neg}

  infixl 60 ◌+r◌
  infixl 60 ◌-r◌
  infixl 70 ◌*r◌
  abbrev c : ℕ → ℕ → carrier
  c k j = of (coefficient k j)

  -- the cost of a point at which the rows are 0 is the sum of its prices
  pub cost_by_prices : (cost x : ℕ → carrier) → ((i : ℕ) → i < rows → row_at R (columns + rows) entry x i ≡ of (pos 0)) →
      sum R (λ v. cost v *r x v) (columns + rows) ≡ sum R (λ v. price R rows entry basic cost v *r x v) (columns + rows)
  cost_by_prices cost x hold =
      let all = columns + rows in
      let F : ℕ → ℕ → carrier = λ i v. cost (basic i) *r (entry i v *r x v) in
      let part : ℕ → carrier = λ v. sum R (λ i. entry i v *r cost (basic i)) rows in
      let each : (v : ℕ) → v < all → cost v *r x v ≡ price R rows entry basic cost v *r x v +r sum R (λ i. F i v) rows = λ v m.
      ring3 R (λ a b d. a ⊗ d) (λ a b d. (a ⊖ b) ⊗ d ⊕ b ⊗ d) refl (cost v) (part v) (x v)
      ∙ ap (λ z. price R rows entry basic cost v *r x v +r z) (sum_scale_right R (λ i. entry i v *r cost (basic i)) (x v) rows
      ∙ sum_same R (λ i. (entry i v *r cost (basic i)) *r x v) (λ i. F i v) rows
      (λ i o. ring3 R (λ a b d. (a ⊗ b) ⊗ d) (λ a b d. b ⊗ (a ⊗ d)) refl (entry i v) (cost (basic i)) (x v))) in
      let rest = exchange R F rows all
      ∙ sum_same R (λ i. sum R (F i) all) (λ i. of (pos 0)) rows (λ i o. sum_scale R (cost (basic i)) (λ v. entry i v *r x v) all
      ∙ ap (λ z. cost (basic i) *r z) (hold i o) ∙ mul_zero R (cost (basic i)))
      ∙ sum_zero R rows in
      sum_same R (λ v. cost v *r x v) (λ v. price R rows entry basic cost v *r x v +r sum R (λ i. F i v) rows) all each
      ∙ sum_add R (λ v. price R rows entry basic cost v *r x v) (λ v. sum R (λ i. F i v) rows) all
      ∙ ap (λ z. sum R (λ v. price R rows entry basic cost v *r x v) all +r z) rest
      ∙ R.add_zero (sum R (λ v. price R rows entry basic cost v *r x v) all)

  -- where slacks cost nothing, the price of a column is its cost less the slacks' prices times its coefficients
  pub column_price : IsSystem R rows columns coefficient entry basic → (cost : ℕ → carrier) →
      ((k : ℕ) → k < rows → cost (columns + k) ≡ of (pos 0)) → (j : ℕ) → j < columns →
      price R rows entry basic cost j ≡ cost j -r sum R (λ k. price R rows entry basic cost (columns + k) *r c k j) rows
  column_price s cost free j m =
      let b : ℕ → carrier = λ i. cost (basic i) in
      let F : ℕ → ℕ → carrier = λ k i. (entry i (columns + k) *r b i) *r c k j in
      let each : (i : ℕ) → i < rows → entry i j *r b i ≡ neg (sum R (λ k. F k i) rows) = λ i l.
      ap (λ z. z *r b i) (s.combination i j l m)
      ∙ ring2 R (λ a b. minus a ⊗ b) (λ a b. minus (a ⊗ b)) refl (sum R (λ k. entry i (columns + k) *r c k j) rows) (b i)
      ∙ ap neg (sum_scale_right R (λ k. entry i (columns + k) *r c k j) (b i) rows
      ∙ sum_same R (λ k. (entry i (columns + k) *r c k j) *r b i) (λ k. F k i) rows
      (λ k o. ring3 R (λ x y z. (x ⊗ y) ⊗ z) (λ x y z. (x ⊗ z) ⊗ y) refl (entry i (columns + k)) (c k j) (b i))) in
      let left = sum_same R (λ i. entry i j *r b i) (λ i. neg (sum R (λ k. F k i) rows)) rows each
      ∙ sum_neg R (λ i. sum R (λ k. F k i) rows) rows ∙ ap neg (exchange R F rows rows) in
      let right = sum_same R (λ k. price R rows entry basic cost (columns + k) *r c k j) (λ k. neg (sum R (F k) rows)) rows (λ k o.
      ap (λ z. (z -r sum R (λ i. entry i (columns + k) *r b i) rows) *r c k j) (free k o)
      ∙ ring2 R (λ x y. (num (pos 0) ⊖ x) ⊗ y) (λ x y. minus (x ⊗ y)) refl (sum R (λ i. entry i (columns + k) *r b i) rows) (c k j)
      ∙ ap neg (sum_scale_right R (λ i. entry i (columns + k) *r b i) (c k j) rows))
      ∙ sum_neg R (λ k. sum R (F k) rows) rows in
      ap (λ z. cost j -r z) left ∙ ap (λ z. cost j -r z) (sym right)

  -- a basic variable has price 0
  pub basic_price : IsSystem R rows columns coefficient entry basic → (cost : ℕ → carrier) (i : ℕ) → i < rows →
      price R rows entry basic cost (basic i) ≡ of (pos 0)
  basic_price s cost i l =
      let one = sum_single R (λ k. entry k (basic i) *r cost (basic k)) i rows l
      (λ k m n. ap (λ z. z *r cost (basic k)) (s.zeros k i m l n) ∙ zero_mul R (cost (basic k))) in
      combine R (cost (basic i) ∷ sum R (λ k. entry k (basic i) *r cost (basic k)) rows ∷ entry i (basic i) ∷ [])
      ((minus (num (pos 1)), var 1, var 2 ⊗ var 0) ∷ (minus (var 0), var 2, num (pos 1)) ∷ [])
      (var 0 ⊖ var 1) (num (pos 0)) refl (one, (s.one i l, tt))

  -- a point that is q but for the basic variables, whose values make up for q in each row, makes each row 0
  pub basic_point : IsSystem R rows columns coefficient entry basic → (x q : ℕ → carrier)
      → ((v : ℕ) → v < columns + rows → ((k : ℕ) × (k < rows) × (basic k ≡ v)) ⊎ (x v ≡ q v))
      → ((i : ℕ) → i < rows → q (basic i) ≡ of (pos 0))
      → ((i : ℕ) → i < rows → x (basic i) ≡ neg (row_at R (columns + rows) entry q i))
      → (i : ℕ) → i < rows → row_at R (columns + rows) entry x i ≡ of (pos 0)
  basic_point s x q apart free values i l =
      let all = columns + rows in
      let f : ℕ → carrier = λ v. entry i v *r (x v -r q v) in
      let two = sum_same R (λ v. entry i v *r x v) (λ v. entry i v *r q v +r f v) all
      (λ v m. ring3 R (λ a b c. a ⊗ b) (λ a b c. a ⊗ c ⊕ a ⊗ (b ⊖ c)) refl (entry i v) (x v) (q v))
      ∙ sum_add R (λ v. entry i v *r q v) f all in
      let one = sum_single R f (basic i) all (s.within i l) (λ v m n. others v n (apart v m)) in
      combine R (row_at R all entry x i ∷ row_at R all entry q i ∷ sum R f all ∷ entry i (basic i) ∷ x (basic i) ∷ q (basic i) ∷ [])
      ((num (pos 1), var 0, var 1 ⊕ var 2) ∷ (num (pos 1), var 2, var 3 ⊗ (var 4 ⊖ var 5)) ∷ (
        var 4 ⊖ var 5,
        var 3,
        num (pos 1),
      ) ∷ (num (pos 1), var 4, minus (var 1)) ∷ (minus (num (pos 1)), var 5, num (pos 0)) ∷ [])
      (var 0) (num (pos 0)) refl
      (two, (one, (s.one i l, (values i l, (free i l, tt)))))
    where
      others : (v : ℕ) → v ≢ basic i → ((k : ℕ) × (k < rows) × (basic k ≡ v)) ⊎ (x v ≡ q v) → entry i v *r (x v -r q v) ≡ of (pos 0)
      others v n (inl (k, m, p)) =
          ap (λ z. z *r (x v -r q v)) (ap (entry i) (sym p) ∙ s.zeros i k l m (λ e. n (sym p ∙ ap basic (sym e))))
          ∙ zero_mul R (x v -r q v)
      others v n (inr p) = combine R (entry i v ∷ x v ∷ q v ∷ []) ((var 0, var 1, var 2) ∷ []) (var 0 ⊗ (var 1 ⊖ var 2)) (num (pos 0)) refl
          (p, tt)
