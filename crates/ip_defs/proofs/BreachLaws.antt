-- A point has no breach exactly where it is feasible.
use Rattle.std.specs.Prelude.{◌≡◌, ℕ, zero, suc, [], ◌∷◌, ◌<◌, ℤ, ◌≤ℤ◌, List, length, slice_get, Bool, true, false, Option, Some, None}
use Rattle.std.specs.Prelude.{IfSome, All, if◌then◌else◌}
use Rattle.std.specs.Int.Signed.{lt_z}
use Rattle.std.proofs.Common.{refl, arith}
use Rattle.std.proofs.lemmas.List.{length-map}
use Rattle.std.proofs.lemmas.List.Elements.{All-nil, All-cons, All-head, All-tail}
use Rattle.ip_defs.specs.declared.programs.Row.{Row}
use Rattle.ip_defs.specs.declared.programs.Column.{Column}
use Rattle.ip_defs.specs.declared.programs.Parts.{Parts}
use Rattle.ip_defs.specs.declared.programs.Breach.{Breach}
use Rattle.ip_defs.specs.declared.programs.Breach.TheVariants as Broken
use Rattle.ip_defs.specs.Lists.{first}
use Rattle.ip_defs.specs.Program.{IsFeasible, Meets, at, box_of, low_at, high_at, row_sum}
use Rattle.ip_defs.specs.Breaches.{column_breach, is_below_side, is_above_side, row_breach, first_breach, BreachesAreExact}
use Rattle.ip_defs.proofs.FirstLaws.{either_none, none_of_both, first-none, none_first}
use Rattle.ip_defs.proofs.BoolLaws.{neither_true}
use Rattle.ip_defs.proofs.OrderLaws.{less_false, not_less}

none_of : (t : Bool) (x : Breach) → (if t then Some x else None) ≡ None → t ≡ false
none_of true x e = absurd cc
none_of false x e = refl

low_side : (v : ℤ) (o : Option ℤ) → is_below_side v o ≡ false → IfSome o (λ side. side ≤ℤ v)
low_side v None e = tt
low_side v (Some s) e = not_less v s e

high_side : (v : ℤ) (o : Option ℤ) → is_above_side v o ≡ false → IfSome o (λ side. v ≤ℤ side)
high_side v None e = tt
high_side v (Some s) e = not_less s v e

low_back : (v : ℤ) (o : Option ℤ) → IfSome o (λ side. side ≤ℤ v) → is_below_side v o ≡ false
low_back v None h = refl
low_back v (Some s) h = less_false v s h

high_back : (v : ℤ) (o : Option ℤ) → IfSome o (λ side. v ≤ℤ side) → is_above_side v o ≡ false
high_back v None h = refl
high_back v (Some s) h = less_false s v h

row_meets : (x : List ℤ) (i : ℕ) (r : Row) → row_breach x i (Some r) ≡ None → Meets x r
row_meets x i r e =
    let v = row_sum r.coefs x in
    let both = neither_true (is_below_side v r.low) (is_above_side v r.high) (none_of _ (Broken.Row i) e) in
    record { low = low_side v r.low both.0; high = high_side v r.high both.1 }

row_back : (x : List ℤ) (i : ℕ) (r : Row) → Meets x r → row_breach x i (Some r) ≡ None
row_back x i r h = rw (low_back (row_sum r.coefs x) r.low h.low, high_back (row_sum r.coefs x) r.high h.high) refl

feasible_of : (m : Parts) (x : List ℤ) → length x ≡ length m.columns → first_breach m x ≡ None → IsFeasible m x
feasible_of m x size e =
    let both = either_none (first (column_breach (box_of m) x) (length m.columns))
    (first (λ i. row_breach x i (slice_get m.rows i)) (length m.rows)) e in
    let count : length (box_of m) ≡ length m.columns = length-map m.columns (λ (c : Column). (c.lo, c.hi)) in
    let sides : (j : ℕ) → j < length (box_of m) → (lt_z (at x j) (low_at (box_of m) j) ≡ false)
    × (lt_z (high_at (box_of m) j) (at x j) ≡ false) =
    λ j l. neither_true (lt_z (at x j) (low_at (box_of m) j)) (lt_z (high_at (box_of m) j) (at x j))
    (none_of _ (Broken.Column j) (first-none (column_breach (box_of m) x) (length m.columns) both.0 j (omega arith))) in
    record {
      within = record {
        size = omega arith;
        low = λ j l. not_less (at x j) (low_at (box_of m) j) (sides j l).0;
        high = λ j l. not_less (high_at (box_of m) j) (at x j) (sides j l).1;
      };
      rows = by m.rows (first-none (λ i. row_breach x i (slice_get m.rows i)) (length m.rows) both.1);
    }
  where
    by : (rows : List Row) → ((i : ℕ) → i < length rows → row_breach x i (slice_get rows i) ≡ None) → All (Meets x) rows
    by [] h = All-nil (Meets x)
    by (r ∷ rs) h = All-cons (Meets x) r rs (row_meets x 0 r (h 0 (omega arith)))
        (by rs (λ i l. shift i (slice_get rs i) (h (suc i) (omega arith))))
      where
        shift : (i : ℕ) (o : Option Row) → row_breach x (suc i) o ≡ None → row_breach x i o ≡ None
        shift i None e = refl
        shift i (Some r) e = row_back x i r (row_meets x (suc i) r e)

rows_back : (x : List ℤ) (rows : List Row) → All (Meets x) rows → (i k : ℕ) → row_breach x k (slice_get rows i) ≡ None
rows_back x [] all i k = refl
rows_back x (r ∷ rs) all zero k = row_back x k r (All-head (Meets x) r rs all)
rows_back x (r ∷ rs) all (suc i) k = rows_back x rs (All-tail (Meets x) r rs all) i k

none_from : (m : Parts) (x : List ℤ) → IsFeasible m x → first_breach m x ≡ None
none_from m x ok =
    let count : length (box_of m) ≡ length m.columns = length-map m.columns (λ (c : Column). (c.lo, c.hi)) in
    none_of_both (first (column_breach (box_of m) x) (length m.columns)) (first (λ i. row_breach x i (slice_get m.rows i)) (length m.rows))
    (none_first (column_breach (box_of m) x) (length m.columns)
    (λ j l. rw (
      less_false (at x j) (low_at (box_of m) j) (ok.within.low j (omega arith)),
      less_false (high_at (box_of m) j) (at x j) (ok.within.high j (omega arith)),
    ) refl))
    (none_first (λ i. row_breach x i (slice_get m.rows i)) (length m.rows) (λ i l. rows_back x m.rows ok.rows i i))

pub breaches_are_exact : BreachesAreExact
breaches_are_exact m x size = (feasible_of m x size, none_from m x)
