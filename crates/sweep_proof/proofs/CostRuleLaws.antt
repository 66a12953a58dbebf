-- The rules of cost sweeps: where none is broken, the sweep is exact.
use Rattle.std.specs.Prelude.{◌≡◌, ℕ, zero, suc, ◌+◌, ◌-◌, ◌<◌, ◌≤◌, ◌==◌, ◌&&◌, ◌||◌, Bool, true, false, cond, List, [], ◌∷◌, length}
use Rattle.std.specs.Prelude.{Option, Some, None, int_lt, ℤ, pos, ◌*ℤ◌, ◌≤ℤ◌, ◌<ℤ◌}
use Rattle.std.specs.Int.Signed.{lt_z}
use Rattle.std.specs.Ordering.{int_eq}
use Rattle.std.specs.Option.{option_map_or, option_or}
use Rattle.std.proofs.Common.{arith, refl, sym, subst}
use Rattle.std.proofs.lemmas.Int.{ints}
use Rattle.std.proofs.lemmas.Bool.{eqb-true, eqb-false}
use Rattle.std.proofs.lemmas.Bool.Decides.{Decides-int_eq}
use Rattle.frac128.specs.Fractions.{Fraction}
use Rattle.ip_defs.specs.Breaches.{first_breach}
use Rattle.ip_defs.specs.Lists.{Each, first}
use Rattle.ip_defs.specs.Program.{cost, IsEmpty, IsFeasible, IsLeast}
use Rattle.ip_defs.specs.declared.certificates.Bound.{Bound}
use Rattle.ip_defs.specs.declared.programs.Parts.{Parts}
use Rattle.ip_defs.proofs.BreachLaws.{breaches_are_exact}
use Rattle.ip_defs.proofs.FirstLaws.{either_none, first-none}
use Rattle.ip_defs.proofs.ListLaws.{unmapped}
use Rattle.ip_defs.proofs.OrderLaws.{less_is}
use Rattle.perturbation.specs.Lines.{columns_at, first_large_cost, program_at}
use Rattle.proof_tree.specs.Trees.{FitsColumns, PlainTree, plain, tree_bound}
use Rattle.proof_tree.specs.declared.claims.Claim.TheVariants.{Best, Empty}
use Rattle.proof_tree.specs.declared.trees.Tree.{Tree, Leaf}
use Rattle.proof_tree.proofs.VerdictLaws.{claims_are_true}
use Rattle.sweep_proof.proofs.CostLineLaws.{feasible_there, points_are_least_between, same_count}
use Rattle.sweep_proof.proofs.ListLaws.{each_index}
use Rattle.sweep_proof.proofs.RuleLaws.{IsFault, both_true, breach_fault, fall_fault, infinite_of, least_of, no_fault, or_fault, test_says}
use Rattle.sweep_proof.proofs.RuleLaws.{when_fault}
use Rattle.sweep_proof.specs.CostLaws.{CostRulesAreTrue}
use Rattle.sweep_proof.specs.CostRules.{break_fault, breach_at, claims_fault, cost_rules, counts_fit, cover_fault, empty_fault, ends_fit}
use Rattle.sweep_proof.specs.CostRules.{fault_there, is_below_break, is_number, kept_unless, meet_at, model_at, points_fault, reach_at}
use Rattle.sweep_proof.specs.CostRules.{rise_at, slope_at, unless_same}
use Rattle.sweep_proof.specs.CostSweeps.{break_at, point_at, total, tree_at, AreBreaks, AreLeastPoints, FitsBreak, FitsCostSweep, FitsPoint}
use Rattle.sweep_proof.specs.CostSweeps.{FitsTree, IsDirection, IsExactCostSweep, IsNumber}
use Rattle.sweep_proof.specs.RowRules.{reaches, short_at}
use Rattle.sweep_proof.specs.declared.cost_sweeps.CostSweep.{CostSweep}
use Rattle.sweep_proof.specs.declared.verdicts.SweepVerdict.{SweepVerdict}
use Rattle.sweep_proof.specs.declared.verdicts.SweepVerdict.TheVariants.{Proved, Cover, Breach, Fall, Meet, Short}

-- ---- no fault is the verdict Proved

unless_fault : (b : Bool) (o : Option SweepVerdict) → IsFault o → IsFault (cond b None o)
unless_fault true o h = λ e. absurd cc
unless_fault false o h = h

either_fault : (b : Bool) (o p : Option SweepVerdict) → IsFault o → IsFault p → IsFault (cond b o p)
either_fault true o p h g = h
either_fault false o p h g = g

first_fault : (f : ℕ → Option SweepVerdict) (n : ℕ) → ((i : ℕ) → IsFault (f i)) → IsFault (first f n)
first_fault f zero h = λ e. absurd cc
first_fault f (suc n) h = or_fault (first f n) (f n) (first_fault f n h) (h n)

cover_is_fault : (from to : ℤ) (s : CostSweep) → IsFault (cover_fault from to s)
cover_is_fault from to s = when_fault (counts_fit (length s.points) (length s.breaks) (length s.trees) && ends_fit from to s.breaks)
    (first (rise_at s.breaks) (length s.breaks - 1)) (Cover 0)
    (first_fault (rise_at s.breaks) (length s.breaks - 1)
    (λ k. when_fault (is_below_break (break_at s.breaks k) (break_at s.breaks (k + 1))) None (Cover k) (λ e. absurd cc) (λ e. absurd cc)))
    (λ e. absurd cc)

short_is_fault : (k : ℕ) (v : Bound) (w : Option ℤ) → IsFault (short_at k v w)
short_is_fault k v w = when_fault (reaches v w) None (Short k v w) (λ e. absurd cc) (λ e. absurd cc)

there_is_fault : (xs : List (List ℤ)) (t : PlainTree) (k : ℕ) (n : Parts) → IsFault (fault_there xs t k n)
there_is_fault xs t k n =
    let v = cost n (point_at xs (k - 1)) in
    let w = cost n (point_at xs k) in
    or_fault (meet_at n xs k) (reach_at n xs t k)
    (unless_fault (k == 0 || k == length xs) (unless_same (k - 1) v w)
    (when_fault (int_eq v w) None (Meet (k - 1) v w) (λ e. absurd cc) (λ e. absurd cc)))
    (short_is_fault (k - 1) (tree_bound n t) (Some v))

model_fault : (f : Parts → Option SweepVerdict) (o : Option Parts) (k : ℕ) → ((n : Parts) → IsFault (f n))
    → IsFault (option_map_or f o (Some (Cover k)))
model_fault f None k h = λ e. absurd cc
model_fault f (Some n) k h = h n

break_is_fault : (m : Parts) (d : List ℤ) (s : CostSweep) (k : ℕ) → IsFault (break_fault m d s k)
break_is_fault m d s k = model_fault (fault_there s.points (tree_at s.trees k) k)
    (model_at m d (break_at s.breaks k).num (break_at s.breaks k).den) (k - 1) (there_is_fault s.points (tree_at s.trees k) k)

points_is_fault : (m : Parts) (d : List ℤ) (s : CostSweep) → IsFault (points_fault m d s)
points_is_fault m d s = or_fault (first (breach_at m s.points) (length s.points))
    (option_or (first (slope_at d s.points) (length s.points - 1)) (first (break_fault m d s) (length s.breaks)))
    (first_fault (breach_at m s.points) (length s.points) (λ k. breach_fault k (first_breach m (point_at s.points k))))
    (or_fault (first (slope_at d s.points) (length s.points - 1)) (first (break_fault m d s) (length s.breaks))
    (first_fault (slope_at d s.points) (length s.points - 1)
    (λ k. fall_fault k (Some (total d (point_at s.points k))) (total d (point_at s.points (k + 1)))))
    (first_fault (break_fault m d s) (length s.breaks) (break_is_fault m d s)))

claims_is_fault : (m : Parts) (d : List ℤ) (from : ℤ) (s : CostSweep) → IsFault (claims_fault m d from s)
claims_is_fault m d from s = either_fault (length s.points == 0) (empty_fault m d from s) (points_fault m d s)
    (short_is_fault 0 (tree_bound (program_at m d from (pos 1)) (tree_at s.trees 0)) None) (points_is_fault m d s)

proved_says : (m : Parts) (d : List ℤ) (from to : ℤ) (s : CostSweep) → cost_rules m d from to s ≡ Proved
    → (cover_fault from to s ≡ None) × (claims_fault m d from s ≡ None)
proved_says m d from to s e = either_none (cover_fault from to s) (claims_fault m d from s)
    (no_fault (option_or (cover_fault from to s) (claims_fault m d from s))
    (or_fault (cover_fault from to s) (claims_fault m d from s) (cover_is_fault from to s) (claims_is_fault m d from s)) e)

-- ---- breaks

number_is : (b : Fraction) (z : ℤ) → is_number b z ≡ true → IsNumber b z
number_is b z e =
    let both = both_true (int_eq b.num z) (int_eq b.den (pos 1)) e in
    record { num = (Decides-int_eq b.num z).0 both.0; den = (Decides-int_eq b.den (pos 1)).0 both.1 }

below_is : (x y : ℤ) → int_lt x y ≡ true → x <ℤ y
below_is x y e = grind (arith, ints)

-- the parts of a cover that has no fault
record HasCover (from to : ℤ) (s : CostSweep) : Type 0 where
  counts : counts_fit (length s.points) (length s.breaks) (length s.trees) ≡ true
  ends : ends_fit from to s.breaks ≡ true
  rises : first (rise_at s.breaks) (length s.breaks - 1) ≡ None

cover_says : (from to : ℤ) (s : CostSweep) → cover_fault from to s ≡ None → HasCover from to s
cover_says from to s e =
    let counts = counts_fit (length s.points) (length s.breaks) (length s.trees) in
    let test = test_says (counts && ends_fit from to s.breaks) (first (rise_at s.breaks) (length s.breaks - 1)) (Cover 0) e in
    let both = both_true counts (ends_fit from to s.breaks) test.0 in
    record { counts = both.0; ends = both.1; rises = test.1 }

-- the counts without points and with points
pub record HasCounts (breaks trees pieces : ℕ) : Type 0 where
  pub breaks_are : breaks ≡ pieces + 1
  pub trees_are : trees ≡ pieces + 1

pub counts_say : (points breaks trees : ℕ) → counts_fit points breaks trees ≡ true
    → ((points == 0) ≡ true → (breaks ≡ 2) × (trees ≡ 1)) × ((points == 0) ≡ false → HasCounts breaks trees points)
counts_say points breaks trees e = by (points == 0) e
  where
    by : (b : Bool) → cond b (breaks == 2 && trees == 1) (breaks == points + 1 && trees == points + 1) ≡ true
        → (b ≡ true → (breaks ≡ 2) × (trees ≡ 1)) × (b ≡ false → HasCounts breaks trees points)
    by true e = (
      λ f. let both = both_true (breaks == 2) (trees == 1) e in (eqb-true breaks 2 both.0, eqb-true trees 1 both.1),
      λ f. absurd cc,
    )
    by false e = (
      λ f. absurd cc,
      λ f. let both = both_true (breaks == points + 1) (trees == points + 1) e in
          record { breaks_are = eqb-true breaks (points + 1) both.0; trees_are = eqb-true trees (points + 1) both.1 },
    )

are_breaks : (from to : ℤ) (pieces : ℕ) (s : CostSweep) → HasCover from to s → length s.breaks ≡ pieces + 1
    → AreBreaks from to pieces s.breaks
are_breaks from to pieces s cover count =
    let both = both_true (is_number (break_at s.breaks 0) from) (is_number (break_at s.breaks (length s.breaks - 1)) to) cover.ends in
    let last : length s.breaks - 1 ≡ pieces = omega arith in
    record {
      count = count;
      first = number_is (break_at s.breaks 0) from both.0;
      last = subst (λ (k : ℕ). IsNumber (break_at s.breaks k) to) last
          (number_is (break_at s.breaks (length s.breaks - 1)) to both.1);
      rising = λ k l.
          let a = break_at s.breaks k in
          let b = break_at s.breaks (k + 1) in
          let none = first-none (rise_at s.breaks) (length s.breaks - 1) cover.rises k (omega arith) in
          below_is (a.num *ℤ b.den) (b.num *ℤ a.den) (test_says (is_below_break a b) None (Cover k) none).0;
    }

-- ---- the models at the breaks

-- a point without a breach is feasible
feasible_at : (m : Parts) (xs : List (List ℤ)) (k : ℕ) → Each (FitsPoint m) xs → k < length xs → breach_at m xs k ≡ None
    → IsFeasible m (point_at xs k)
feasible_at m xs k fits l e =
    let x = point_at xs k in
    let own : FitsPoint m x = each_index (FitsPoint m) xs k [] fits l in
    (breaches_are_exact m x own.size).0 (unmapped (λ place. Breach k place) (first_breach m x) e)

-- what a break without a fault says: its piece's point is reached by the bound of its tree, and the point of the next piece costs the same
record HasBreak (n : Parts) (xs : List (List ℤ)) (t : PlainTree) (k : ℕ) : Type 0 where
  meets : meet_at n xs k ≡ None
  reached : reaches (tree_bound n t) (Some (cost n (point_at xs (k - 1)))) ≡ true

there_says : (n : Parts) (xs : List (List ℤ)) (t : PlainTree) (k : ℕ) → fault_there xs t k n ≡ None → HasBreak n xs t k
there_says n xs t k e =
    let both = either_none (meet_at n xs k) (reach_at n xs t k) e in
    let v = tree_bound n t in
    let w = Some (cost n (point_at xs (k - 1))) in
    record { meets = both.0; reached = (test_says (reaches v w) None (Short (k - 1) v w) both.1).0 }

break_says : (m : Parts) (d : List ℤ) (s : CostSweep) (k : ℕ) → break_fault m d s k ≡ None
    → HasBreak (program_at m d (break_at s.breaks k).num (break_at s.breaks k).den) s.points (tree_at s.trees k) k
break_says m d s k e =
    let b = break_at s.breaks k in
    by (first_large_cost (columns_at m.columns d b.num b.den)) e
  where
    by : (o : Option ℕ) → option_map_or (fault_there s.points (tree_at s.trees k) k)
        (kept_unless o (program_at m d (break_at s.breaks k).num (break_at s.breaks k).den)) (Some (Cover (k - 1))) ≡ None
        → HasBreak (program_at m d (break_at s.breaks k).num (break_at s.breaks k).den) s.points (tree_at s.trees k) k
    by None e = there_says (program_at m d (break_at s.breaks k).num (break_at s.breaks k).den) s.points (tree_at s.trees k) k e
    by (Some j) e = absurd cc

-- a feasible point that is reached by the bound of a tree at a parameter is optimal there
least_there : (m : Parts) (d : List ℤ) (p q : ℤ) (x : List ℤ) (t : PlainTree) → FitsColumns (length m.columns) t → IsFeasible m x
    → reaches (tree_bound (program_at m d p q) t) (Some (cost (program_at m d p q) x)) ≡ true → IsLeast (program_at m d p q) x
least_there m d p q x t fits ok e =
    let n = program_at m d p q in
    claims_are_true n t (Best x) (subst (λ (k : ℕ). FitsColumns k t) (sym (same_count m.columns d p q)) fits)
    (feasible_there m d p q x ok, least_of (tree_bound n t) (cost n x) e)

-- and so is each feasible point that costs the same
least_same : (n : Parts) (x y : List ℤ) → IsLeast n x → IsFeasible n y → cost n x ≡ cost n y → IsLeast n y
least_same n x y h ok e = record { feasible = ok; least = λ z k. subst (λ (v : ℤ). v ≤ℤ cost n z) e (h.least z k) }

meet_says : (n : Parts) (xs : List (List ℤ)) (k : ℕ) → meet_at n xs k ≡ None → 1 ≤ k → k < length xs
    → cost n (point_at xs (k - 1)) ≡ cost n (point_at xs k)
meet_says n xs k e some l = by (k == 0) refl (k == length xs) refl e
  where
    v : ℤ
    v = cost n (point_at xs (k - 1))

    w : ℤ
    w = cost n (point_at xs k)

    by : (a : Bool) → (k == 0) ≡ a → (b : Bool) → (k == length xs) ≡ b → cond (a || b) None (unless_same (k - 1) v w) ≡ None → v ≡ w
    by true f b g e = let is = eqb-true k 0 f in absurd (omega arith)
    by false f true g e = let is = eqb-true k (length xs) g in absurd (omega arith)
    by false f false g e = (Decides-int_eq v w).0 (test_says (int_eq v w) None (Meet (k - 1) v w) e).0

-- ---- pieces

-- what the proof of a sweep with points says where it has no fault
record HasPieces (m : Parts) (d : List ℤ) (s : CostSweep) : Type 0 where
  some : 1 ≤ length s.points
  breaks_are : length s.breaks ≡ length s.points + 1
  trees_are : length s.trees ≡ length s.points + 1
  feasible : (k : ℕ) → k < length s.points → IsFeasible m (point_at s.points k)
  breaks : (k : ℕ) → k < length s.breaks → break_fault m d s k ≡ None
  slopes : first (slope_at d s.points) (length s.points - 1) ≡ None

-- the program at a break
abbrev program_there : Parts → List ℤ → CostSweep → ℕ → Parts
program_there m d s k = program_at m d (break_at s.breaks k).num (break_at s.breaks k).den

-- the point of the piece of a break is optimal there
least_left : (m : Parts) (d : List ℤ) (s : CostSweep) (k : ℕ) → FitsCostSweep m s → HasPieces m d s → k ≤ length s.points
    → IsLeast (program_there m d s k) (point_at s.points (k - 1))
least_left m d s k fits has l =
    let b = break_at s.breaks k in
    let some = has.some in
    let few = has.breaks_are in
    let many = has.trees_are in
    let says = break_says m d s k (has.breaks k (omega arith)) in
    let tree : FitsTree m (tree_at s.trees k) = each_index (λ (t : Tree). FitsTree m (plain t)) s.trees k
    (Leaf (record { q = pos 0; y = [] })) fits.trees (omega arith) in
    least_there m d b.num b.den (point_at s.points (k - 1)) (tree_at s.trees k) tree.tree.columns (has.feasible (k - 1) (omega arith))
    says.reached

-- so is that of the piece to its right
least_right : (m : Parts) (d : List ℤ) (s : CostSweep) (k : ℕ) → FitsCostSweep m s → HasPieces m d s → k < length s.points
    → IsLeast (program_there m d s k) (point_at s.points k)
least_right m d s k fits has l = by (k == 0) refl (least_left m d s k fits has (omega arith))
  where
    by : (t : Bool) → (k == 0) ≡ t → IsLeast (program_there m d s k) (point_at s.points (k - 1))
        → IsLeast (program_there m d s k) (point_at s.points k)
    by true e h =
        let is = eqb-true k 0 e in
        let same : k - 1 ≡ k = omega arith in
        subst (λ (i : ℕ). IsLeast (program_there m d s k) (point_at s.points i)) same h
    by false e h =
        let apart = eqb-false k 0 e in
        let b = break_at s.breaks k in
        let few = has.breaks_are in
        let says = break_says m d s k (has.breaks k (omega arith)) in
        least_same (program_there m d s k) (point_at s.points (k - 1)) (point_at s.points k) h
        (feasible_there m d b.num b.den (point_at s.points k) (has.feasible k l))
        (meet_says (program_there m d s k) s.points k says.meets (omega arith) l)

are_least : (m : Parts) (d : List ℤ) (s : CostSweep) → FitsCostSweep m s → IsDirection m d → HasPieces m d s
    → AreLeastPoints m d s.breaks s.points
are_least m d s fits dir has = record {
  least = λ k l.
      let few = has.breaks_are in
      let a = break_at s.breaks k in
      let b = break_at s.breaks (k + 1) in
      let zero_break : Fraction = record { num = pos 0; den = pos 1 } in
      let left : FitsBreak a = each_index FitsBreak s.breaks k zero_break fits.breaks (omega arith) in
      let right : FitsBreak b = each_index FitsBreak s.breaks (k + 1) zero_break fits.breaks (omega arith) in
      let same : k + 1 - 1 ≡ k = omega arith in
      points_are_least_between m d a b (point_at s.points k) dir.size left.positive right.positive (least_right m d s k fits has l)
      (subst (λ (i : ℕ). IsLeast (program_there m d s (k + 1)) (point_at s.points i)) same
      (least_left m d s (k + 1) fits has (omega arith)));
  falling = λ k l.
      let v = total d (point_at s.points k) in
      let w = total d (point_at s.points (k + 1)) in
      let none = first-none (slope_at d s.points) (length s.points - 1) has.slopes k (omega arith) in
      less_is w v (test_says (lt_z w v) None (Fall k v w) none).0;
}

-- ---- the verdict

points_say : (m : Parts) (d : List ℤ) (s : CostSweep) → FitsCostSweep m s → 1 ≤ length s.points
    → HasCounts (length s.breaks) (length s.trees) (length s.points) → points_fault m d s ≡ None → HasPieces m d s
points_say m d s fits some counts e =
    let slopes = first (slope_at d s.points) (length s.points - 1) in
    let breaks = first (break_fault m d s) (length s.breaks) in
    let both = either_none (first (breach_at m s.points) (length s.points)) (option_or slopes breaks) e in
    let rest = either_none slopes breaks both.1 in
    record {
      some = some;
      breaks_are = counts.breaks_are;
      trees_are = counts.trees_are;
      feasible = λ k l. feasible_at m s.points k fits.points l (first-none (breach_at m s.points) (length s.points) both.0 k l);
      breaks = λ k l. first-none (break_fault m d s) (length s.breaks) rest.1 k l;
      slopes = rest.0;
    }

-- the one tree of a proof without points proves that no point is feasible
empty_says : (m : Parts) (d : List ℤ) (from : ℤ) (s : CostSweep) → FitsCostSweep m s → length s.trees ≡ 1
    → empty_fault m d from s ≡ None → IsEmpty m
empty_says m d from s fits one e = λ x ok.
    let n = program_at m d from (pos 1) in
    let t = tree_at s.trees 0 in
    let v = tree_bound n t in
    let own : FitsTree m t = each_index (λ (t : Tree). FitsTree m (plain t)) s.trees 0 (Leaf (record { q = pos 0; y = [] }))
    fits.trees (omega arith) in
    claims_are_true n t Empty (subst (λ (k : ℕ). FitsColumns k t) (sym (same_count m.columns d from (pos 1))) own.tree.columns)
    (infinite_of v (test_says (reaches v None) None (Short 0 v None) e).0) x (feasible_there m d from (pos 1) x ok)

exact_of : (m : Parts) (d : List ℤ) (from to : ℤ) (bs : List Fraction) (xs : List (List ℤ))
    → (length xs ≡ 0 → AreBreaks from to 1 bs × IsEmpty m)
    → (1 ≤ length xs → AreBreaks from to (length xs) bs × AreLeastPoints m d bs xs) → IsExactCostSweep m d from to bs xs
exact_of m d from to bs [] empty some = empty refl
exact_of m d from to bs (x ∷ xs) empty some = some (omega arith)

pub cost_rules_are_true : CostRulesAreTrue
cost_rules_are_true m d from to s fits dir e =
    let says = proved_says m d from to s e in
    let cover = cover_says from to s says.0 in
    let counts = counts_say (length s.points) (length s.breaks) (length s.trees) cover.counts in
    exact_of m d from to s.breaks s.points
    (λ none. by (length s.points == 0) refl says.1 cover counts none)
    (λ some. later (length s.points == 0) refl says.1 cover counts some)
  where
    by : (b : Bool) → (length s.points == 0) ≡ b → cond b (empty_fault m d from s) (points_fault m d s) ≡ None → HasCover from to s
        → (((length s.points == 0) ≡ true → (length s.breaks ≡ 2) × (length s.trees ≡ 1))
        × ((length s.points == 0) ≡ false → HasCounts (length s.breaks) (length s.trees) (length s.points)))
        → length s.points ≡ 0 → AreBreaks from to 1 s.breaks × IsEmpty m
    by true f none cover counts size =
        let two = counts.0 f in
        (are_breaks from to 1 s cover two.0, empty_says m d from s fits two.1 none)
    by false f none cover counts size = absurd (eqb-false (length s.points) 0 f size)

    later : (b : Bool) → (length s.points == 0) ≡ b → cond b (empty_fault m d from s) (points_fault m d s) ≡ None → HasCover from to s
        → (((length s.points == 0) ≡ true → (length s.breaks ≡ 2) × (length s.trees ≡ 1))
        × ((length s.points == 0) ≡ false → HasCounts (length s.breaks) (length s.trees) (length s.points)))
        → 1 ≤ length s.points → AreBreaks from to (length s.points) s.breaks × AreLeastPoints m d s.breaks s.points
    later true f none cover counts some = let is = eqb-true (length s.points) 0 f in absurd (omega arith)
    later false f none cover counts some =
        let all = counts.1 f in (
          are_breaks from to (length s.points) s cover all.breaks_are,
          are_least m d s fits dir (points_say m d s fits some all none),
        )
