-- A point of the relaxation of a box, whose numbers are whole, is feasible, and costs the same.
use Rattle.std.specs.Prelude.{◌≡◌, ℕ, ◌<◌, List, [], length, Option, Some, None, IfSome, slice_get, ℤ, ◌≤ℤ◌, option_and_then}
use Rattle.std.proofs.Common.{arith, refl, ap, sym, ◌∙◌, subst}
use Rattle.std.proofs.lemmas.Int.{ints}
use Rattle.std.proofs.lemmas.List.{length-map}
use Rattle.std.proofs.lemmas.List.Elements.{All-from_get_or}
use Rattle.std.proofs.lemmas.Option.{slice_get-get_or}
use Rattle.ip_defs.specs.declared.programs.Parts.{Parts}
use Rattle.ip_defs.specs.declared.programs.Row.{Row}
use Rattle.ip_defs.specs.Program.{at, row_sum, low_at, high_at, IsFeasible, Meets}
use Rattle.frac128.specs.Rationals.{Rational, of, AtMost}
use Rattle.lp_duality.specs.Relaxations.{IsRelaxed}
use Rattle.lp_duality.proofs.PointLaws.{row_whole}
use Rattle.node_bounds.specs.Areas.{IsSearchArea}
use Rattle.node_bounds.proofs.WholeLaws.{from_at_most}

-- a row without sides
no_row : Row
no_row = record { name = []; decimals = 0; coefs = []; low = None; high = None }

module _ (m : Parts) (p : ℕ → Rational) (x : List ℤ) (size : length x ≡ length m.columns)
    (same : (j : ℕ) → j < length m.columns → p j ≡ of (at x j)) where
  module _ (b : List (ℤ × ℤ)) (relaxed : IsRelaxed m b p) where
    row_meets : (k : ℕ) (r : Row) → k < length m.rows → slice_get m.rows k ≡ Some r → Meets x r
    row_meets k r l e = record { low = low r.low refl; high = high r.high refl }
      where
        low : (o : Option ℤ) → r.low ≡ o → IfSome o (λ side. side ≤ℤ row_sum r.coefs x)
        low None is = tt
        low (Some side) is = from_at_most side (row_sum r.coefs x)
            (subst (AtMost (of side)) (row_whole m p x size same k r e) ((relaxed.rows k l).low side (ap (option_and_then (λ r. r.low)) e
            ∙ is)))

        high : (o : Option ℤ) → r.high ≡ o → IfSome o (λ side. row_sum r.coefs x ≤ℤ side)
        high None is = tt
        high (Some side) is = from_at_most (row_sum r.coefs x) side
            (subst (λ w. AtMost w (of side)) (row_whole m p x size same k r e) ((relaxed.rows k l).high side
            (ap (option_and_then (λ r. r.high)) e ∙ is)))

    -- it is feasible, where the box is part of the program's
    pub whole_feasible : IsSearchArea m b → IsFeasible m x
    whole_feasible within = record {
      within = record {
        size = size ∙ sym (length-map {B = ℤ × ℤ} m.columns (λ c. (c.lo, c.hi)));
        low = λ j l.
            let h : j < length m.columns = omega (arith, l, length-map {B = ℤ × ℤ} m.columns (λ c. (c.lo, c.hi))) in
            let part = within.part j (omega (arith, h, within.area.size)) in
            let from = from_at_most (low_at b j) (at x j) (subst (AtMost (of (low_at b j))) (same j h) (relaxed.low j h)) in
            omega (arith, ints);
        high = λ j l.
            let h : j < length m.columns = omega (arith, l, length-map {B = ℤ × ℤ} m.columns (λ c. (c.lo, c.hi))) in
            let part = within.part j (omega (arith, h, within.area.size)) in
            let to' = from_at_most (at x j) (high_at b j) (subst (λ w. AtMost w (of (high_at b j))) (same j h) (relaxed.high j h)) in
            omega (arith, ints);
      };
      rows = All-from_get_or (Meets x) m.rows no_row (λ k l. row_meets k _ l (slice_get-get_or m.rows k no_row l));
    }
