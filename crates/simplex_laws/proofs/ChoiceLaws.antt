-- First and nearest answers: where they come from, and how a search by number finds them.
use Rattle.std.specs.Prelude.{◌≡◌, ◌≢◌, ℕ, zero, suc, ◌+◌, ◌<◌, ◌==◌, Bool, true, false, cond, Option, Some, None}
use Rattle.std.proofs.Common.{arith, refl, ap, ◌∙◌}
use Rattle.std.proofs.lemmas.Bool.{eqb-true, eqb-false}
use Rattle.frac128.specs.Rationals.{Rational}
use Rattle.lp_duality.specs.Duals.{is_below}
use Rattle.simplex_laws.specs.declared.next.Next.{Next}
use Rattle.simplex_laws.specs.Steps.{nearer, nearest}
use Rattle.ip_defs.specs.Lists.{first}
use Rattle.std.specs.Option.{option_or}

abbrev pub paired : {A B : Type 0} → A → B → A × B
paired a b = (a, b)

-- ---- the first answer
-- a first answer is the answer at some number
pub first_is : {A : Type 0} (f : ℕ → Option A) (n : ℕ) (x : A) → first f n ≡ Some x → (v : ℕ) × (v < n) × (f v ≡ Some x)
first_is f zero x e = absurd cc
first_is {A = A} f (suc n) x e = by (first f n) refl (first_is f n x) e
  where
    by : (o : Option A) → first f n ≡ o → (first f n ≡ Some x → (v : ℕ) × (v < n) × (f v ≡ Some x)) → option_or o (f n) ≡ Some x → (v : ℕ)
        × (v < suc n) × (f v ≡ Some x)
    by None g ih h = (n, omega arith, h)
    by (Some y) g ih h = let r = ih (g ∙ h) in (r.0, (let l = r.1 in omega arith), r.2)

-- ---- the nearest block
pub nearest_is : (f : ℕ → Option (Rational × Next)) (n : ℕ) (x : Rational × Next) → nearest f n ≡ Some x → (v : ℕ) × (v < n)
    × (f v ≡ Some x)
nearest_is f zero x e = absurd cc
nearest_is f (suc n) x e = by (nearest f n) (f n) refl refl (nearest_is f n x) e
  where
    by : (o p : Option (Rational × Next)) → nearest f n ≡ o → f n ≡ p → (nearest f n ≡ Some x → (v : ℕ) × (v < n) × (f v ≡ Some x)) →
        nearer o p ≡ Some x → (v : ℕ) × (v < suc n) × (f v ≡ Some x)
    by None p g k ih h = (n, omega arith, k ∙ h)
    by (Some y) None g k ih h = let r = ih (g ∙ h) in (r.0, (let l = r.1 in omega arith), r.2)
    by (Some y) (Some z) g k ih h = choose (is_below z.0 y.0) h
      where
        choose : (t : Bool) → cond t (Some z) (Some y) ≡ Some x → (v : ℕ) × (v < suc n) × (f v ≡ Some x)
        choose true q = (n, omega arith, k ∙ q)
        choose false q = let r = ih (g ∙ q) in (r.0, (let l = r.1 in omega arith), r.2)

pub nearest_none : (f : ℕ → Option (Rational × Next)) (n : ℕ) → nearest f n ≡ None → (v : ℕ) → v < n → f v ≡ None
nearest_none f zero e v l = absurd (omega arith)
nearest_none f (suc n) e v l = by (nearest f n) (f n) refl refl e (v == n) refl (nearest_none f n)
  where
    chosen : (t : Bool) (x y : Rational × Next) → cond t (Some y) (Some x) ≢ None
    chosen true x y e = absurd cc
    chosen false x y e = absurd cc

    by : (o p : Option (Rational × Next)) → nearest f n ≡ o → f n ≡ p → nearer o p ≡ None → (t : Bool) → (v == n) ≡ t →
        (nearest f n ≡ None → (v : ℕ) → v < n → f v ≡ None) → f v ≡ None
    by None p g k h true q ih = ap f (eqb-true v n q) ∙ k ∙ h
    by None p g k h false q ih = ih g v (let r = eqb-false v n q in omega arith)
    by (Some x) None g k h t q ih = absurd cc
    by (Some x) (Some y) g k h t q ih = absurd (chosen (is_below y.0 x.0) x y h)

-- one more block
pub nearest_next : (f : ℕ → Option (Rational × Next)) (n : ℕ) → nearest f (n + 1) ≡ nearer (nearest f n) (f n)
nearest_next f n = let s : n + 1 ≡ suc n = omega arith in ap (nearest f) s

pub nearest_same : (f g : ℕ → Option (Rational × Next)) (n : ℕ) → ((v : ℕ) → v < n → f v ≡ g v) → nearest f n ≡ nearest g n
nearest_same f g zero h = refl
nearest_same f g (suc n) h = ap (λ (o : Option (Rational × Next)). nearer o (f n)) (nearest_same f g n (λ v l. h v (omega arith)))
    ∙ ap (nearer (nearest g n)) (h n (omega arith))
