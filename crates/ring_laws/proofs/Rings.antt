-- Commutative rings with a map from the whole numbers: a record of operations and laws, and what follows from them.
use Rattle.std.specs.Prelude.{◌≡◌, ℤ, pos, negsuc, neg_ℤ, ◌+ℤ◌, ◌-ℤ◌, ◌*ℤ◌}
use Rattle.std.proofs.Common.{arith, refl, ap, sym, ◌∙◌}
use Rattle.std.proofs.lemmas.Int.{ints}
use Rattle.std.proofs.Math.IntN.{*ℤ_comm}
use Rattle.ring_laws.proofs.Products as Whole

pub record Ring : Type 1 where
  pub carrier : Type 0
  pub of : ℤ → carrier
  pub add : carrier → carrier → carrier
  pub sub : carrier → carrier → carrier
  pub mul : carrier → carrier → carrier
  pub neg : carrier → carrier
  pub add_assoc : (a b c : carrier) → add (add a b) c ≡ add a (add b c)
  pub add_comm : (a b : carrier) → add a b ≡ add b a
  pub add_zero : (a : carrier) → add a (of (pos 0)) ≡ a
  pub add_neg : (a : carrier) → add a (neg a) ≡ of (pos 0)
  pub sub_is : (a b : carrier) → sub a b ≡ add a (neg b)
  pub mul_assoc : (a b c : carrier) → mul (mul a b) c ≡ mul a (mul b c)
  pub mul_comm : (a b : carrier) → mul a b ≡ mul b a
  pub mul_one : (a : carrier) → mul a (of (pos 1)) ≡ a
  pub mul_add : (a b c : carrier) → mul a (add b c) ≡ add (mul a b) (mul a c)
  pub of_add : (x y : ℤ) → of (x +ℤ y) ≡ add (of x) (of y)
  pub of_mul : (x y : ℤ) → of (x *ℤ y) ≡ mul (of x) (of y)

-- the whole numbers
abbrev pub whole : Ring
whole = record {
  carrier = ℤ;
  of = λ z. z;
  add = ◌+ℤ◌;
  sub = ◌-ℤ◌;
  mul = ◌*ℤ◌;
  neg = neg_ℤ;
  add_assoc = λ a b c. omega (arith, ints);
  add_comm = λ a b. omega (arith, ints);
  add_zero = λ a. omega (arith, ints);
  add_neg = λ a. omega (arith, ints);
  sub_is = λ a b. omega (arith, ints);
  mul_assoc = Whole.mul_assoc;
  mul_comm = *ℤ_comm;
  mul_one = λ a. omega (arith, ints);
  mul_add = Whole.mul_add;
  of_add = λ x y. refl;
  of_mul = λ x y. refl;
}

module _ (R : Ring) where
  open R use {carrier, of, add as ◌+r◌, sub as ◌-r◌, mul as ◌*r◌, neg}
  open R use {add_assoc, add_comm, add_zero, add_neg, sub_is, mul_assoc, mul_comm, mul_one, mul_add, of_add}

  infixl 60 ◌+r◌
  infixl 60 ◌-r◌
  infixl 70 ◌*r◌
  pub zero_add : (a : carrier) → of (pos 0) +r a ≡ a
  zero_add a = add_comm (of (pos 0)) a ∙ add_zero a

  pub one_mul : (a : carrier) → of (pos 1) *r a ≡ a
  one_mul a = mul_comm (of (pos 1)) a ∙ mul_one a

  pub add_mul : (a b c : carrier) → (a +r b) *r c ≡ a *r c +r b *r c
  add_mul a b c = mul_comm (a +r b) c ∙ mul_add c a b ∙ ap (λ z. z +r c *r b) (mul_comm c a) ∙ ap (λ z. a *r c +r z) (mul_comm c b)

  pub add_swap : (a b c : carrier) → a +r (b +r c) ≡ b +r (a +r c)
  add_swap a b c = sym (add_assoc a b c) ∙ ap (λ z. z +r c) (add_comm a b) ∙ add_assoc b a c

  pub mul_swap : (a b c : carrier) → a *r (b *r c) ≡ b *r (a *r c)
  mul_swap a b c = sym (mul_assoc a b c) ∙ ap (λ z. z *r c) (mul_comm a b) ∙ mul_assoc b a c

  pub mul_four : (a b c d : carrier) → (a *r b) *r (c *r d) ≡ (a *r c) *r (b *r d)
  mul_four a b c d = mul_assoc a b (c *r d) ∙ ap (λ z. a *r z) (mul_swap b c d) ∙ sym (mul_assoc a c (b *r d))

  -- an equal summand cancels
  pub add_cancel : (a b c : carrier) → a +r c ≡ b +r c → a ≡ b
  add_cancel a b c e = sym (back a) ∙ ap (λ z. z +r neg c) e ∙ back b
    where
      back : (d : carrier) → (d +r c) +r neg c ≡ d
      back d = add_assoc d c (neg c) ∙ ap (λ z. d +r z) (add_neg c) ∙ add_zero d

  pub zero_mul : (a : carrier) → of (pos 0) *r a ≡ of (pos 0)
  zero_mul a = add_cancel (of (pos 0) *r a) (of (pos 0)) (of (pos 0) *r a)
      (sym (add_mul (of (pos 0)) (of (pos 0)) a) ∙ ap (λ z. z *r a) (add_zero (of (pos 0))) ∙ sym (zero_add (of (pos 0) *r a)))

  pub mul_zero : (a : carrier) → a *r of (pos 0) ≡ of (pos 0)
  mul_zero a = mul_comm a (of (pos 0)) ∙ zero_mul a

  pub neg_is : (a : carrier) → of (negsuc 0) *r a ≡ neg a
  neg_is a = add_cancel (of (negsuc 0) *r a) (neg a) a
      (ap (λ z. of (negsuc 0) *r a +r z) (sym (one_mul a)) ∙ sym (add_mul (of (negsuc 0)) (of (pos 1)) a)
      ∙ ap (λ z. z *r a) (sym (of_add (negsuc 0) (pos 1))) ∙ zero_mul a ∙ sym (add_neg a) ∙ add_comm a (neg a))

  pub same_of_sub : (a b : carrier) → a -r b ≡ of (pos 0) → a ≡ b
  same_of_sub a b e = add_cancel a b (neg b) (sym (sub_is a b) ∙ e ∙ sym (add_neg b))

  pub sub_of_same : (a b : carrier) → a ≡ b → a -r b ≡ of (pos 0)
  sub_of_same a b e = sub_is a b ∙ ap (λ z. z +r neg b) e ∙ add_neg b
