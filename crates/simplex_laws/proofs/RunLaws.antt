-- Runs of the simplex: each tableau is one of the node, a final one stays, and a run that is wide stays wide.
use Rattle.std.specs.Prelude.{◌≡◌, ℕ, zero, suc, ◌+◌, ◌<◌, ◌≤◌, true, false, List, length, Result, Ok, Err, ℤ}
use Rattle.std.proofs.Common.{arith, refl, ap, sym, ◌∙◌, subst, length-set, ◌⊎◌, inl, inr}
use Rattle.std.proofs.Math.Nat.{eq-or-lt_of_le}
use Rattle.frac128.specs.declared.fraction.Wide.{Wide}
use Rattle.frac128.specs.Fractions.{Fraction}
use Rattle.ip_defs.specs.declared.programs.Parts.{Parts}
use Rattle.tableau.specs.declared.positions.Rest.{Rest}
use Rattle.tableau.specs.Tables.{Table, position_at, IsTable}
use Rattle.tableau.specs.Numbers.{and_then}
use Rattle.tableau.specs.Pivots.{new_rows, after_pivot, other_side, after_flip}
use Rattle.tableau.specs.Nodes.{start_of}
use Rattle.tableau.proofs.StartLaws.{start-table, start-stands, start-points}
use Rattle.tableau.proofs.TableLaws.{with_rows, with_rows-table, pivot_stands, pivot_points, flip_stands, flip_points}
use Rattle.simplex_laws.specs.declared.next.Next.{Next}
use Rattle.simplex_laws.specs.declared.next.Next.TheVariants.{Pivot, Flip, FinalRow, FinalPoint}
use Rattle.simplex_laws.specs.Steps.{next, is_final}
use Rattle.simplex_laws.specs.Runs.{step, after, IsNotFinal, IsReached}
use Rattle.simplex_laws.specs.Laws.{CanPivot, CanFlip, CanStep, IsTableOf, RunsStand, FinalsStay, RunsHaveBegun}
use Rattle.simplex_laws.proofs.StepLaws.{steps_can_be_made}

-- ---- steps keep what a tableau is
module _ (m : Parts) (b : List (ℤ × ℤ)) (T : Table) (of_node : IsTableOf m b T) where
  after_pivot_table : (r v : ℕ) (leaving : Rest) (U : Table) → CanPivot T r v leaving → after_pivot T r v leaving ≡ Ok U → IsTable U
  after_pivot_table r v leaving U can e = by (new_rows (length T.variables) T.rows r v) refl e
    where
      by : (o : Result (List (List Fraction)) Wide) → new_rows (length T.variables) T.rows r v ≡ o →
          and_then o (λ rows. Ok (with_rows T r v leaving rows)) ≡ Ok U → IsTable U
      by (Ok new) f g =
          let is : with_rows T r v leaving new ≡ U = cc in
          subst IsTable is (with_rows-table T r v leaving of_node.table can.row can.variable can.pivot new f)
      by (Err w) f g = absurd cc

  pub pivot_keeps : (r v : ℕ) (leaving : Rest) (U : Table) → CanPivot T r v leaving → after_pivot T r v leaving ≡ Ok U → IsTableOf m b U
  pivot_keeps r v leaving U can e = record {
    table = after_pivot_table r v leaving U can e;
    stands = pivot_stands T r v leaving of_node.table can.row can.variable can.pivot (Ok tt) U e tt can.enters can.leaves m b
        of_node.stands;
    points = pivot_points T r v leaving of_node.table can.row can.variable can.pivot (Ok tt) U e tt m b of_node.stands of_node.points;
  }

  pub flip_keeps : (v : ℕ) → CanFlip T v → IsTableOf m b (after_flip T v)
  flip_keeps v can =
      let t = of_node.table in
      record {
        table = record {
          rows = t.rows;
          basics = t.basics;
          positions = length-set T.positions v (other_side (position_at T.positions v)) ∙ t.positions;
          within = t.within;
        };
        stands = flip_stands T v can.position can.low can.high can.variable t.positions m b of_node.stands;
        points = flip_points T v can.position can.low can.high m of_node.points;
      }

  step_keeps : (n : Next) (U : Table) → CanStep T n → step T n ≡ Ok U → IsTableOf m b U
  step_keeps (Pivot r v leaving) U can e = pivot_keeps r v leaving U can e
  step_keeps (Flip v) U can e = let is : after_flip T v ≡ U = cc in subst (IsTableOf m b) is (flip_keeps v can)
  step_keeps (FinalRow i up) U can e = let is : T ≡ U = cc in subst (IsTableOf m b) is of_node
  step_keeps FinalPoint U can e = let is : T ≡ U = cc in subst (IsTableOf m b) is of_node

  pub next_keeps : (U : Table) → step T (next T) ≡ Ok U → IsTableOf m b U
  next_keeps U e = step_keeps (next T) U (steps_can_be_made m b T of_node.table of_node.stands) e

-- ---- one more step
-- the tableau after a step
pub after_next : (m : Parts) (b : List (ℤ × ℤ)) (n : ℕ) (T : Table) → after m b n ≡ Ok T → after m b (suc n) ≡ step T (next T)
unfolding after
after_next m b n T e = ap (λ (o : Result Table Wide). and_then o (λ T. step T (next T))) e

pub after_one_more : (m : Parts) (b : List (ℤ × ℤ)) (n : ℕ) (T U : Table) (s : Next) → after m b n ≡ Ok T → next T ≡ s → step T s ≡ Ok U →
    after m b (n + 1) ≡ Ok U
after_one_more m b n T U s e f g = let q : n + 1 ≡ suc n = omega arith in ap (after m b) q ∙ after_next m b n T e ∙ ap (step T) f ∙ g

-- the simplex comes from a tableau that is not final to the one after a step
pub reached_one_more : (m : Parts) (b : List (ℤ × ℤ)) (n : ℕ) (T U : Table) (s : Next) → IsReached m b n T → next T ≡ s
    → is_final s ≡ false → step T s ≡ Ok U → IsReached m b (n + 1) U
reached_one_more m b n T U s here is unfinished made = record {
  after = after_one_more m b n T U s here.after is made;
  unfinished = λ k l. let within : k ≤ n = omega arith in by k (eq-or-lt_of_le within);
}
  where
    by : (k : ℕ) → (k ≡ n) ⊎ (k < n) → IsNotFinal m b k
    by k (inl q) = record { tableau = T; after = ap (after m b) q ∙ here.after; unfinished = ap is_final is ∙ unfinished }
    by k (inr q) = here.unfinished k q

-- where there is a tableau after a step, there was one before it
pub after_before : (m : Parts) (b : List (ℤ × ℤ)) (n : ℕ) (U : Table) → after m b (suc n) ≡ Ok U → (T : Table) × (after m b n ≡ Ok T)
    × (step T (next T) ≡ Ok U)
unfolding after
after_before m b n U e = by (after m b n) refl e
  where
    by : (o : Result Table Wide) → after m b n ≡ o → and_then o (λ T. step T (next T)) ≡ Ok U → (T : Table) × (after m b n ≡ Ok T)
        × (step T (next T) ≡ Ok U)
    by (Ok T) f g = (T, f, g)
    by (Err w) f g = absurd cc

-- what is wide stays so
pub after_wide : (m : Parts) (b : List (ℤ × ℤ)) (n : ℕ) → after m b n ≡ Err (record {}) → after m b (suc n) ≡ Err (record {})
unfolding after
after_wide m b n e = ap (λ (o : Result Table Wide). and_then o (λ T. step T (next T))) e

-- ---- the laws
pub runs_stand : RunsStand
unfolding after
runs_stand m b zero T limits size e =
    let is : start_of m b ≡ T = cc in
    subst (IsTableOf m b) is (record {
      table = start-table m b limits size;
      stands = start-stands m b limits size;
      points = start-points m b limits size;
    })
runs_stand m b (suc n) T limits size e = let r = after_before m b n T e in next_keeps m b r.0 (runs_stand m b n r.0 limits size r.1) T r.2

-- a final step changes nothing
final_step : (T : Table) (n : Next) → is_final n ≡ true → step T n ≡ Ok T
final_step T (Pivot r v leaving) e = absurd cc
final_step T (Flip v) e = absurd cc
final_step T (FinalRow i up) e = refl
final_step T FinalPoint e = refl

pub finals_stay : FinalsStay
finals_stay m b k zero T e f l = let q : k ≡ 0 = omega arith in ap (after m b) (sym q) ∙ e
finals_stay m b k (suc n) T e f l = by (eq-or-lt_of_le l) (finals_stay m b k n T e f)
  where
    by : (k ≡ suc n) ⊎ (k < suc n) → (k ≤ n → after m b n ≡ Ok T) → after m b (suc n) ≡ Ok T
    by (inl q) ih = ap (after m b) (sym q) ∙ e
    by (inr q) ih = after_next m b n T (ih (omega arith)) ∙ final_step T (next T) f

pub runs_have_begun : RunsHaveBegun
runs_have_begun m b k zero T l e = let q : k ≡ 0 = omega arith in (T, ap (after m b) q ∙ e)
runs_have_begun m b k (suc n) T l e = by (eq-or-lt_of_le l) (after_before m b n T e) (runs_have_begun m b k n)
  where
    by : (k ≡ suc n) ⊎ (k < suc n) → (U : Table) × (after m b n ≡ Ok U) × (step U (next U) ≡ Ok T) →
        ((U : Table) → k ≤ n → after m b n ≡ Ok U → (V : Table) × (after m b k ≡ Ok V)) → (U : Table) × (after m b k ≡ Ok U)
    by (inl q) r ih = (T, ap (after m b) q ∙ e)
    by (inr q) r ih = ih r.0 (omega arith) r.1

-- a run that is final before is not unfinished later
pub final_is_not_unfinished : (m : Parts) (b : List (ℤ × ℤ)) (k n : ℕ) (T : Table) → after m b k ≡ Ok T → is_final (next T) ≡ true → k ≤ n
    → IsNotFinal m b n → ⊥
final_is_not_unfinished m b k n T e f l u =
    let same : Ok T ≡ Ok u.tableau = sym (finals_stay m b k n T e f l) ∙ u.after in
    let is : T ≡ u.tableau = cc in
    let q : true ≡ false = sym f ∙ ap (λ T. is_final (next T)) is ∙ u.unfinished in
    absurd cc
