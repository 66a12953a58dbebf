-- The piece of a parameter in an exact cost sweep.
use Rattle.std.specs.Prelude.{◌≡◌, ℕ, zero, suc, ◌+◌, ◌<◌, ◌==◌, Bool, true, false, List, [], ◌∷◌, length, ℤ, pos, ◌*ℤ◌, ◌≤ℤ◌, ◌<ℤ◌}
use Rattle.std.specs.Int.Signed.{lt_z}
use Rattle.std.proofs.Common.{arith, refl, sym, subst}
use Rattle.std.proofs.lemmas.Int.{ints}
use Rattle.std.proofs.lemmas.Bool.{eqb-true, eqb-false}
use Rattle.frac128.specs.Fractions.{Fraction}
use Rattle.ip_defs.specs.declared.programs.Parts.{Parts}
use Rattle.ip_defs.proofs.OrderLaws.{less_is, not_less}
use Rattle.sweep_proof.specs.CostLaws.{ExactCostSweepsHavePoints, IsPieceOf}
use Rattle.sweep_proof.specs.CostSweeps.{break_at, AreBreaks, AreLeastPoints, IsBetween, IsNumber}

-- a parameter that is not below the first break, and not above break n, lies in one of the pieces before break n
record LiesIn (bs : List Fraction) (n : ℕ) (p q : ℤ) : Type 0 where
  number : ℕ
  inside : number < n
  between : IsBetween (break_at bs number) (break_at bs (number + 1)) p q

abbrev IsFrom : Fraction → ℤ → ℤ → Type 0
IsFrom a p q = (a.num *ℤ q) ≤ℤ (p *ℤ a.den)

abbrev IsTo : Fraction → ℤ → ℤ → Type 0
IsTo b p q = (p *ℤ b.den) ≤ℤ (b.num *ℤ q)

find : (bs : List Fraction) (n : ℕ) (p q : ℤ) → 0 < n → IsFrom (break_at bs 0) p q → IsTo (break_at bs n) p q → LiesIn bs n p q
find bs zero p q some from to = absurd (omega arith)
find bs (suc i) p q some from to =
    let a = break_at bs i in
    by (lt_z (a.num *ℤ q) (p *ℤ a.den)) refl (i == 0) refl (λ l h. find bs i p q l from h)
  where
    next : suc i ≡ i + 1
    next = omega arith

    here : IsFrom (break_at bs i) p q → LiesIn bs (suc i) p q
    here h = record {
      number = i;
      inside = omega arith;
      between = record { from = h; to = subst (λ (k : ℕ). IsTo (break_at bs k) p q) next to };
    }

    by : (t : Bool) → lt_z ((break_at bs i).num *ℤ q) (p *ℤ (break_at bs i).den) ≡ t → (u : Bool) → (i == 0) ≡ u
        → (0 < i → IsTo (break_at bs i) p q → LiesIn bs i p q) → LiesIn bs (suc i) p q
    by true e u f rest = here (let lt = less_is ((break_at bs i).num *ℤ q) (p *ℤ (break_at bs i).den) e in omega (arith, ints))
    by false e true f rest = here (subst (λ (k : ℕ). IsFrom (break_at bs k) p q) (sym (eqb-true i 0 f)) from)
    by false e false f rest =
        let apart = eqb-false i 0 f in
        let found = rest (omega arith) (not_less ((break_at bs i).num *ℤ q) (p *ℤ (break_at bs i).den) e) in
        record { number = found.number; inside = let l = found.inside in omega arith; between = found.between }

times_one : (z : ℤ) → z *ℤ pos 1 ≡ z
times_one z = omega (arith, ints)

from_is : (a : Fraction) (from p q : ℤ) → IsNumber a from → (from *ℤ q) ≤ℤ p → IsFrom a p q
from_is a from p q is h = rw (is.num, is.den, times_one p) h

to_is : (b : Fraction) (to p q : ℤ) → IsNumber b to → p ≤ℤ (to *ℤ q) → IsTo b p q
to_is b to p q is h = rw (is.num, is.den, times_one p) h

piece_of : (m : Parts) (d : List ℤ) (from to : ℤ) (bs : List Fraction) (xs : List (List ℤ)) → 0 < length xs
    → AreBreaks from to (length xs) bs → AreLeastPoints m d bs xs → (p q : ℤ) → pos 0 <ℤ q → (from *ℤ q) ≤ℤ p → p ≤ℤ (to *ℤ q)
    → IsPieceOf m d bs xs p q
piece_of m d from to bs xs some breaks points p q h first last =
    let found = find bs (length xs) p q some (from_is (break_at bs 0) from p q breaks.first first)
    (to_is (break_at bs (length xs)) to p q breaks.last last) in
    record {
      number = found.number;
      inside = found.inside;
      between = found.between;
      least = points.least found.number found.inside p q h found.between;
    }

pub exact_cost_sweeps_have_points : ExactCostSweepsHavePoints
exact_cost_sweeps_have_points m d from to bs [] some exact p q h first last = absurd (omega arith)
exact_cost_sweeps_have_points m d from to bs (x ∷ xs) some exact p q h first last =
    piece_of m d from to bs (x ∷ xs) some exact.0 exact.1 p q h first last
