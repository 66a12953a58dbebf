-- Values u, v, w at three changes a, b, c, where p = c - b and r = b - a: linear ones lie on a line, of concave ones v is not below it.
use Rattle.std.specs.Prelude.{◌≡◌, ℕ, zero, suc, ◌+◌, ◌<◌, List, [], ◌∷◌, ℤ, pos, ◌+ℤ◌, ◌-ℤ◌, ◌*ℤ◌, ◌≤ℤ◌, Bool, true, false}
use Rattle.std.specs.Int.{int_min}
use Rattle.std.specs.Int.Signed.{lt_z}
use Rattle.std.proofs.Common.{arith, refl, ap}
use Rattle.std.proofs.lemmas.Int.{ints, clamps}
use Rattle.ip_defs.specs.Sums.{sum_below, sum_over}
use Rattle.ring_laws.proofs.Products.{mul_add, mul_sub, mul_up}
use Rattle.ring_laws.proofs.Rings.{whole}
use Rattle.ring_laws.proofs.Normal.{◌⊕◌, ◌⊖◌, ◌⊗◌}
use Rattle.ring_laws.proofs.Named.{ring3, ring4}

-- three values on a line, and three of which the middle one is not below the line
abbrev pub Linear : ℕ → ℕ → ℤ → ℤ → ℤ → Type 0
Linear p r u v w = pos p *ℤ u +ℤ pos r *ℤ w ≡ pos p *ℤ v +ℤ pos r *ℤ v

abbrev pub Concave : ℕ → ℕ → ℤ → ℤ → ℤ → Type 0
Concave p r u v w = (pos p *ℤ u +ℤ pos r *ℤ w) ≤ℤ (pos p *ℤ v +ℤ pos r *ℤ v)

module _ (p r : ℕ) where
  pub linear_same : (v : ℤ) → Linear p r v v v
  linear_same v = refl

  sum_apart : (u x w z : ℤ) → pos p *ℤ (u +ℤ x) +ℤ pos r *ℤ (w +ℤ z) ≡ (pos p *ℤ u +ℤ pos r *ℤ w) +ℤ (pos p *ℤ x +ℤ pos r *ℤ z)
  sum_apart u x w z = let a = mul_add (pos p) u x in let b = mul_add (pos r) w z in omega (arith, ints)

  pub linear_add : (u v w x y z : ℤ) → Linear p r u v w → Linear p r x y z → Linear p r (u +ℤ x) (v +ℤ y) (w +ℤ z)
  linear_add u v w x y z h g = let a = sum_apart u x w z in let b = sum_apart v y v y in omega (arith, ints)

  pub linear_sub : (u v w x y z : ℤ) → Linear p r u v w → Linear p r x y z → Linear p r (u -ℤ x) (v -ℤ y) (w -ℤ z)
  linear_sub u v w x y z h g =
      let a = mul_sub (pos p) u x in
      let b = mul_sub (pos p) v y in
      let c = mul_sub (pos r) w z in
      let d = mul_sub (pos r) v y in
      omega (arith, ints)

  pub linear_scale : (k u v w : ℤ) → Linear p r u v w → Linear p r (k *ℤ u) (k *ℤ v) (k *ℤ w)
  linear_scale k u v w h =
      let out = ap (λ z. k *ℤ z) h in
      let left = ring4 whole (λ k u p r. k ⊗ (p ⊗ u)) (λ k u p r. p ⊗ (k ⊗ u)) refl k u (pos p) (pos r) in
      let a = mul_add k (pos p *ℤ u) (pos r *ℤ w) in
      let b = mul_add k (pos p *ℤ v) (pos r *ℤ v) in
      let s = swap k (pos p) u in
      let t = swap k (pos r) w in
      let x = swap k (pos p) v in
      let y = swap k (pos r) v in
      omega (arith, ints)
    where
      swap : (k p u : ℤ) → k *ℤ (p *ℤ u) ≡ p *ℤ (k *ℤ u)
      swap k p u = ring3 whole (λ k p u. k ⊗ (p ⊗ u)) (λ k p u. p ⊗ (k ⊗ u)) refl k p u

  pub linear_times : (k u v w : ℤ) → Linear p r u v w → Linear p r (u *ℤ k) (v *ℤ k) (w *ℤ k)
  linear_times k u v w h = rw (turn u k, turn v k, turn w k) (linear_scale k u v w h)
    where
      turn : (u k : ℤ) → u *ℤ k ≡ k *ℤ u
      turn u k = ring3 whole (λ u k z. u ⊗ k) (λ u k z. k ⊗ u) refl u k u

  pub linear_sum : (f g h : ℕ → ℤ) (n : ℕ) → ((j : ℕ) → Linear p r (f j) (g j) (h j))
      → Linear p r (sum_below f n) (sum_below g n) (sum_below h n)
  linear_sum f g h zero e = refl
  linear_sum f g h (suc n) e = linear_add (sum_below f n) (sum_below g n) (sum_below h n) (f n) (g n) (h n) (linear_sum f g h n e) (e n)

  pub linear_over : {A : Type 0} (f g h : A → ℤ) (xs : List A) → ((x : A) → Linear p r (f x) (g x) (h x))
      → Linear p r (sum_over f xs) (sum_over g xs) (sum_over h xs)
  linear_over f g h [] e = refl
  linear_over f g h (x ∷ xs) e = linear_add (f x) (g x) (h x) (sum_over f xs) (sum_over g xs) (sum_over h xs) (e x) (linear_over f g h xs e)

  pub linear_is_concave : (u v w : ℤ) → Linear p r u v w → Concave p r u v w
  linear_is_concave u v w h = omega (arith, ints)

  pub concave_add : (u v w x y z : ℤ) → Concave p r u v w → Concave p r x y z → Concave p r (u +ℤ x) (v +ℤ y) (w +ℤ z)
  concave_add u v w x y z h g = let a = sum_apart u x w z in let b = sum_apart v y v y in omega (arith, ints)

  pub concave_sum : (f g h : ℕ → ℤ) (n : ℕ) → ((j : ℕ) → Concave p r (f j) (g j) (h j))
      → Concave p r (sum_below f n) (sum_below g n) (sum_below h n)
  concave_sum f g h zero e = omega (arith, ints)
  concave_sum f g h (suc n) e = concave_add (sum_below f n) (sum_below g n) (sum_below h n) (f n) (g n) (h n) (concave_sum f g h n e) (e n)

  -- the lesser of two linear values is concave
  pub concave_min : (u v w x y z : ℤ) → Linear p r u v w → Linear p r x y z → Concave p r (int_min u x) (int_min v y) (int_min w z)
  concave_min u v w x y z h g =
      let a = mul_up p (int_min u x) u (omega (arith, ints, clamps)) in
      let b = mul_up p (int_min u x) x (omega (arith, ints, clamps)) in
      let c = mul_up r (int_min w z) w (omega (arith, ints, clamps)) in
      let d = mul_up r (int_min w z) z (omega (arith, ints, clamps)) in
      by (lt_z v y) refl a b c d
    where
      by : (t : Bool) → lt_z v y ≡ t → (pos p *ℤ int_min u x) ≤ℤ (pos p *ℤ u) → (pos p *ℤ int_min u x) ≤ℤ (pos p *ℤ x)
          → (pos r *ℤ int_min w z) ≤ℤ (pos r *ℤ w) → (pos r *ℤ int_min w z) ≤ℤ (pos r *ℤ z)
          → Concave p r (int_min u x) (int_min v y) (int_min w z)
      by true e a b c d = let is : int_min v y ≡ v = omega (arith, ints, clamps) in rw is (omega (arith, ints))
      by false e a b c d = let is : int_min v y ≡ y = omega (arith, ints, clamps) in rw is (omega (arith, ints))

  -- concave values that reach linear marks at the outer two changes reach them at the middle one
  pub concave_past : (u v w x y z : ℤ) → 0 < p + r → Concave p r u v w → Linear p r x y z → x ≤ℤ u → z ≤ℤ w → y ≤ℤ v
  concave_past u v w x y z some h g first last = by (lt_z v y) refl
    where
      by : (t : Bool) → lt_z v y ≡ t → y ≤ℤ v
      by false e = omega (arith, ints)
      by true e =
          let a = mul_up p x u first in
          let b = mul_up r z w last in
          let c = mul_up p (v +ℤ pos 1) y (omega (arith, ints)) in
          let d = mul_up r (v +ℤ pos 1) y (omega (arith, ints)) in
          let i = mul_add (pos p) v (pos 1) in
          let j = mul_add (pos r) v (pos 1) in
          absurd (omega (arith, ints))

-- three changes are linear with the weights p = c - b and r = b - a
pub linear_steps : (p r : ℕ) (a b c : ℤ) → pos p ≡ c -ℤ b → pos r ≡ b -ℤ a → Linear p r a b c
linear_steps p r a b c d e = rw (d, e) (ring3 whole (λ a b c. (c ⊖ b) ⊗ a ⊕ (b ⊖ a) ⊗ c) (λ a b c. (c ⊖ b) ⊗ b ⊕ (b ⊖ a) ⊗ b) refl a b c)
