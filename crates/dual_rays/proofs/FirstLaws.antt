-- The first number of a ray that is not 0.
use Rattle.std.specs.Prelude.{◌≡◌, ◌≢◌, ℕ, zero, suc, ◌+◌, ◌<◌, ◌==◌, Bool, true, false, cond, List, [], ◌∷◌, ◌++◌, length, take, drop}
use Rattle.std.specs.Prelude.{slice_index_or, None, Some, pos, unsigned_abs}
use Rattle.std.proofs.Common.{arith, refl, ap, sym, ◌∙◌}
use Rattle.std.proofs.lemmas.List.{take_more, map-append, append_assoc, take-append-drop}
use Rattle.ip_defs.proofs.OrderLaws.{is_zero, is_nonzero, zero_is, nonzero_is}
use Rattle.frac128.specs.Fractions.{Fraction}
use Rattle.frac128.specs.Rationals.{Rational, absolute}
use Rattle.frac128.specs.Values.{value_of}
use Rattle.dual_rays.specs.Certificates.{values}
use Rattle.dual_rays.specs.Internal.Quotients.{first_absolute, number_at}

-- ---- zeros first
first-skip : (ps qs : List Rational) → first_absolute ps ≡ None → first_absolute (ps ++ qs) ≡ first_absolute qs
first-skip [] qs e = refl
first-skip (p ∷ ps) qs e = by (unsigned_abs p.numerator == 0) e (first-skip ps qs)
  where
    by : (t : Bool) → cond t (first_absolute ps) (Some (absolute p)) ≡ None → (first_absolute ps ≡ None →
        first_absolute (ps ++ qs) ≡ first_absolute qs) →
        cond t (first_absolute (ps ++ qs)) (Some (absolute p)) ≡ first_absolute qs
    by true f rest = rest f
    by false f rest = absurd cc

split_at : (xs : List Fraction) (i : ℕ) (x : Fraction) → i < length xs → x ≡ slice_index_or xs i x → values xs ≡ values (take i xs)
    ++ value_of x ∷ values (drop (i + 1) xs)
split_at xs i x l is =
    let rest = drop (i + 1) xs in
    let whole : xs ≡ take i xs ++ x ∷ rest = sym (take-append-drop (i + 1) xs) ∙ ap (λ ys. ys ++ rest) (take_more xs i x l
    ∙ ap (λ y. take i xs ++ y ∷ []) (sym is)) ∙ append_assoc (take i xs) (x ∷ []) rest in
    ap values whole ∙ map-append value_of (take i xs) (x ∷ rest)

pub first-found : (xs : List Fraction) (i : ℕ) (x : Fraction) → i < length xs → x ≡ slice_index_or xs i x →
    first_absolute (values (take i xs)) ≡ None → (value_of x).numerator ≢ pos 0 → first_absolute (values xs) ≡ Some (absolute (value_of x))
first-found xs i x l is e n =
    ap first_absolute (split_at xs i x l is) ∙ first-skip (values (take i xs)) (value_of x ∷ values (drop (i + 1) xs)) e
    ∙ ap (λ t. cond t (first_absolute (values (drop (i + 1) xs))) (Some (absolute (value_of x)))) (is_nonzero (value_of x).numerator n)

pub first-next : (xs : List Fraction) (i : ℕ) (x : Fraction) → i < length xs → x ≡ slice_index_or xs i x →
    first_absolute (values (take i xs)) ≡ None → (value_of x).numerator ≡ pos 0 → first_absolute (values (take (i + 1) xs)) ≡ None
first-next xs i x l is e z =
    let here : values (take (i + 1) xs) ≡ values (take i xs) ++ value_of x ∷ [] =
    ap values (take_more xs i x l ∙ ap (λ y. take i xs ++ y ∷ []) (sym is)) ∙ map-append value_of (take i xs) (x ∷ []) in
    ap first_absolute here ∙ first-skip (values (take i xs)) (value_of x ∷ []) e
    ∙ ap (λ t. cond t None (Some (absolute (value_of x)))) (is_zero (value_of x).numerator z)

-- ---- what the answer says
pub record IsFirst (ps : List Rational) (s : Rational) : Type 0 where
  pub place : ℕ
  pub within : place < length ps
  pub nonzero : (number_at ps place).numerator ≢ pos 0
  pub absolute_value : s ≡ absolute (number_at ps place)

pub first-is : (ps : List Rational) (s : Rational) → first_absolute ps ≡ Some s → IsFirst ps s
first-is [] s e = absurd cc
first-is (p ∷ ps) s e = by (unsigned_abs p.numerator == 0) refl e (first-is ps s)
  where
    by : (t : Bool) → (unsigned_abs p.numerator == 0) ≡ t → cond t (first_absolute ps) (Some (absolute p)) ≡ Some s →
        (first_absolute ps ≡ Some s → IsFirst ps s) → IsFirst (p ∷ ps) s
    by true f g rest = let r = rest g in record {
      place = suc r.place;
      within = let w = r.within in omega arith;
      nonzero = r.nonzero;
      absolute_value = r.absolute_value;
    }
    by false f g rest = let is : absolute p ≡ s = cc in record {
      place = 0;
      within = omega arith;
      nonzero = nonzero_is p.numerator f;
      absolute_value = sym is;
    }

pub first-none : (ps : List Rational) (k : ℕ) → first_absolute ps ≡ None → k < length ps → (number_at ps k).numerator ≡ pos 0
first-none [] k e l = absurd (omega arith)
first-none (p ∷ ps) k e l = by (unsigned_abs p.numerator == 0) refl e (first-none ps)
  where
    cases : (k : ℕ) → k < length (p ∷ ps) → p.numerator ≡ pos 0 → first_absolute ps ≡ None →
        ((k : ℕ) → first_absolute ps ≡ None → k < length ps → (number_at ps k).numerator ≡ pos 0) →
        (number_at (p ∷ ps) k).numerator ≡ pos 0
    cases zero m z g rest = z
    cases (suc k) m z g rest = rest k g (omega arith)

    by : (t : Bool) → (unsigned_abs p.numerator == 0) ≡ t → cond t (first_absolute ps) (Some (absolute p)) ≡ None →
        ((k : ℕ) → first_absolute ps ≡ None → k < length ps → (number_at ps k).numerator ≡ pos 0) →
        (number_at (p ∷ ps) k).numerator ≡ pos 0
    by true f g rest = cases k l (zero_is p.numerator f) g rest
    by false f g rest = absurd cc
