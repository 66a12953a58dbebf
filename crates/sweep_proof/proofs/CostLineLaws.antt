-- The models along a direction of the costs: what a point costs is a line in the parameter, so one that is optimal at two parameters is
-- optimal between.
use Rattle.std.specs.Prelude.{◌≡◌, ℕ, zero, suc, Bool, true, false, List, [], ◌∷◌, length, map, Option, Some, None}
use Rattle.std.specs.Prelude.{ℤ, pos, negsuc, ◌+ℤ◌, ◌-ℤ◌, ◌*ℤ◌, ◌≤ℤ◌, ◌<ℤ◌}
use Rattle.std.specs.Int.Signed.{lt_z}
use Rattle.std.proofs.Common.{arith, refl, ap, sym, ◌∙◌, subst}
use Rattle.std.proofs.lemmas.Int.{ints}
use Rattle.ring_laws.proofs.Normal.{◌⊕◌, ◌⊖◌, ◌⊗◌}
use Rattle.ring_laws.proofs.Named.{ring5, ring6, ring8}
use Rattle.ring_laws.proofs.Rings.{whole}
use Rattle.ip_defs.specs.Lists.{Each}
use Rattle.ip_defs.specs.Program.{at, costs_of, IsFeasible, IsIn}
use Rattle.ip_defs.specs.declared.programs.Column.{Column}
use Rattle.ip_defs.specs.declared.programs.Parts.{Parts}
use Rattle.ip_defs.proofs.ListLaws.{each_weaker}
use Rattle.ip_defs.proofs.SumLaws.{sum_same, sum_add, sum_scale}
use Rattle.leaf_cert.specs.declared.workspaces.Scratch.{Scratch}
use Rattle.perturbation.specs.Lines.{columns_at, first_large_cost, program_at}
use Rattle.proof_tree.specs.Scratches.{FitsWalk}
use Rattle.proof_tree.specs.Trees.{FitsColumns, FitsRows, PlainTree}
use Rattle.sweep_proof.specs.CostLaws.{CostsAreLines, PointsAreLeastBetween}
use Rattle.sweep_proof.specs.CostRules.{kept_unless, model_at}
use Rattle.sweep_proof.specs.CostSweeps.{total, FitsPoint, FitsTree}

-- ---- what stays

pub same_count : (cs : List Column) (d : List ℤ) (p q : ℤ) → length (columns_at cs d p q) ≡ length cs
same_count [] d p q = refl
same_count (c ∷ cs) [] p q = ap suc (same_count cs [] p q)
same_count (c ∷ cs) (z ∷ d) p q = ap suc (same_count cs d p q)

-- the boxes of all parameters are the same, and so are their feasible points
abbrev sides : List Column → List (ℤ × ℤ)
sides cs = map (λ c. (c.lo, c.hi)) cs

sides_at : (cs : List Column) (d : List ℤ) (p q : ℤ) → sides (columns_at cs d p q) ≡ sides cs
sides_at [] d p q = refl
sides_at (c ∷ cs) [] p q = ap (λ (r : List (ℤ × ℤ)). (c.lo, c.hi) ∷ r) (sides_at cs [] p q)
sides_at (c ∷ cs) (z ∷ d) p q = ap (λ (r : List (ℤ × ℤ)). (c.lo, c.hi) ∷ r) (sides_at cs d p q)

pub feasible_there : (m : Parts) (d : List ℤ) (p q : ℤ) (x : List ℤ) → IsFeasible m x → IsFeasible (program_at m d p q) x
feasible_there m d p q x ok = record {
  within = subst (λ (b : List (ℤ × ℤ)). IsIn b x) (sym (sides_at m.columns d p q)) ok.within;
  rows = ok.rows;
}

pub feasible_back : (m : Parts) (d : List ℤ) (p q : ℤ) (x : List ℤ) → IsFeasible (program_at m d p q) x → IsFeasible m x
feasible_back m d p q x ok = record {
  within = subst (λ (b : List (ℤ × ℤ)). IsIn b x) (sides_at m.columns d p q) ok.within;
  rows = ok.rows;
}

-- so points, trees and scratches that fit the program fit the model that is there at a parameter, and a scratch back
pub model_is : (o : Option ℕ) (n k : Parts) → kept_unless o k ≡ Some n → n ≡ k
model_is None n k e = cc
model_is (Some j) n k e = absurd cc

pub columns_there : (m : Parts) (d : List ℤ) (p q : ℤ) (n : Parts) → Some n ≡ model_at m d p q → length n.columns ≡ length m.columns
columns_there m d p q n e =
    let is = model_is (first_large_cost (columns_at m.columns d p q)) n (program_at m d p q) (sym e) in
    ap (λ (k : Parts). length k.columns) is ∙ same_count m.columns d p q

pub rows_there : (m : Parts) (d : List ℤ) (p q : ℤ) (n : Parts) → Some n ≡ model_at m d p q → length n.rows ≡ length m.rows
rows_there m d p q n e =
    ap (λ (k : Parts). length k.rows) (model_is (first_large_cost (columns_at m.columns d p q)) n (program_at m d p q) (sym e))

pub points_there : (m : Parts) (d : List ℤ) (p q : ℤ) (n : Parts) (xs : List (List ℤ)) → Some n ≡ model_at m d p q
    → Each (FitsPoint m) xs → Each (FitsPoint n) xs
points_there m d p q n xs e = each_weaker (FitsPoint m) (FitsPoint n) xs
    (λ x fits. record { size = fits.size ∙ sym (columns_there m d p q n e); small = fits.small })

pub tree_there : (m : Parts) (d : List ℤ) (p q : ℤ) (n : Parts) (t : PlainTree) → Some n ≡ model_at m d p q → FitsTree m t → FitsTree n t
tree_there m d p q n t e fits = record {
  limits = fits.limits;
  tree = record {
    columns = subst (λ (k : ℕ). FitsColumns k t) (sym (columns_there m d p q n e)) fits.tree.columns;
    rows = subst (λ (k : ℕ). FitsRows k t) (sym (rows_there m d p q n e)) fits.tree.rows;
  };
}

pub walk_there : (m : Parts) (d : List ℤ) (p q : ℤ) (n : Parts) (s : Scratch) → Some n ≡ model_at m d p q → FitsWalk (length m.columns) s
    → FitsWalk (length n.columns) s
walk_there m d p q n s e fits = subst (λ (k : ℕ). FitsWalk k s) (sym (columns_there m d p q n e)) fits

pub walk_from : (m : Parts) (d : List ℤ) (p q : ℤ) (n : Parts) (s : Scratch) → Some n ≡ model_at m d p q → FitsWalk (length n.columns) s
    → FitsWalk (length m.columns) s
walk_from m d p q n s e fits = subst (λ (k : ℕ). FitsWalk k s) (columns_there m d p q n e) fits

-- ---- costs

cost_at : (cs : List Column) (d : List ℤ) (p q : ℤ) (j : ℕ) → length d ≡ length cs
    → at (map (λ (c : Column). c.cost) (columns_at cs d p q)) j ≡ q *ℤ at (map (λ (c : Column). c.cost) cs) j +ℤ p *ℤ at d j
cost_at [] [] p q j e = omega (arith, ints)
cost_at [] (z ∷ d) p q j e = absurd (omega arith)
cost_at (c ∷ cs) [] p q j e = absurd (omega arith)
cost_at (c ∷ cs) (z ∷ d) p q zero e = refl
cost_at (c ∷ cs) (z ∷ d) p q (suc j) e = cost_at cs d p q j (omega arith)

pub costs_are_lines : CostsAreLines
costs_are_lines m d p q x e =
    let n = length x in
    let F : ℕ → ℤ = λ j. at (costs_of m) j *ℤ at x j in
    let G : ℕ → ℤ = λ j. at d j *ℤ at x j in
    let each : (j : ℕ) → at (costs_of (program_at m d p q)) j *ℤ at x j ≡ q *ℤ F j +ℤ p *ℤ G j = λ j.
    ap (λ z. z *ℤ at x j) (cost_at m.columns d p q j e)
    ∙ ring5 whole (λ q c p d x. (q ⊗ c ⊕ p ⊗ d) ⊗ x) (λ q c p d x. q ⊗ (c ⊗ x) ⊕ p ⊗ (d ⊗ x)) refl
    q (at (costs_of m) j) p (at d j) (at x j) in
    let same = sum_same (λ j. at (costs_of (program_at m d p q)) j *ℤ at x j) (λ j. q *ℤ F j +ℤ p *ℤ G j) n (λ j l. each j) in
    let apart = sum_add (λ j. q *ℤ F j) (λ j. p *ℤ G j) n in
    let one = sum_scale q F n in
    let two = sum_scale p G n in
    omega (arith, ints)

-- ---- signs of products

not_negative : (a b : ℤ) → pos 0 ≤ℤ a → pos 0 ≤ℤ b → pos 0 ≤ℤ (a *ℤ b)
not_negative (pos a) (pos b) h g = omega (arith, ints)
not_negative (pos a) (negsuc b) h g = absurd (omega (arith, ints))
not_negative (negsuc a) b h g = absurd (omega (arith, ints))

positive : (a b : ℤ) → pos 0 <ℤ a → pos 0 <ℤ b → pos 0 <ℤ (a *ℤ b)
positive (pos (suc a)) (pos (suc b)) h g = omega (arith, ints)
positive (pos (suc a)) (pos zero) h g = absurd (omega (arith, ints))
positive (pos (suc a)) (negsuc b) h g = absurd (omega (arith, ints))
positive (pos zero) b h g = absurd (omega (arith, ints))
positive (negsuc a) b h g = absurd (omega (arith, ints))

factor_sign : (k w : ℤ) → pos 0 <ℤ k → pos 0 ≤ℤ (k *ℤ w) → pos 0 ≤ℤ w
factor_sign k (pos n) h g = omega (arith, ints)
factor_sign (pos (suc k)) (negsuc n) h g = absurd (omega (arith, ints))
factor_sign (pos zero) (negsuc n) h g = absurd (omega (arith, ints))
factor_sign (negsuc k) (negsuc n) h g = absurd (omega (arith, ints))

factor_positive : (k w : ℤ) → pos 0 <ℤ k → pos 0 <ℤ (k *ℤ w) → pos 0 <ℤ w
factor_positive k (pos (suc n)) h g = omega (arith, ints)
factor_positive k (pos zero) h g = absurd (omega (arith, ints))
factor_positive (pos (suc k)) (negsuc n) h g = absurd (omega (arith, ints))
factor_positive (pos zero) (negsuc n) h g = absurd (omega (arith, ints))
factor_positive (negsuc k) (negsuc n) h g = absurd (omega (arith, ints))

-- ---- between two parameters

-- a line in the parameter that is not negative at two of them is not negative between
line_between : (p1 q1 p q p2 q2 u v : ℤ) → pos 0 <ℤ q1 → pos 0 <ℤ q → pos 0 <ℤ q2 → (p1 *ℤ q) ≤ℤ (p *ℤ q1) → (p *ℤ q2) ≤ℤ (p2 *ℤ q)
    → pos 0 ≤ℤ (q1 *ℤ u +ℤ p1 *ℤ v) → pos 0 ≤ℤ (q2 *ℤ u +ℤ p2 *ℤ v) → pos 0 ≤ℤ (q *ℤ u +ℤ p *ℤ v)
line_between p1 q1 p q p2 q2 u v h1 h h2 l r first last = by (lt_z (pos 0) (p *ℤ q1 -ℤ p1 *ℤ q)) refl
  where
    by : (t : Bool) → lt_z (pos 0) (p *ℤ q1 -ℤ p1 *ℤ q) ≡ t → pos 0 ≤ℤ (q *ℤ u +ℤ p *ℤ v)
    by true e =
        let a : ℤ = p2 *ℤ q -ℤ p *ℤ q2 in
        let b : ℤ = p *ℤ q1 -ℤ p1 *ℤ q in
        let d : ℤ = p2 *ℤ q1 -ℤ p1 *ℤ q2 in
        let s = not_negative a q1 (omega (arith, ints)) (omega (arith, ints)) in
        let t = positive b q2 (omega (arith, ints)) h2 in
        let is = ring6 whole (λ p1 q1 p q p2 q2. q ⊗ (p2 ⊗ q1 ⊖ p1 ⊗ q2))
        (λ p1 q1 p q p2 q2. (p2 ⊗ q ⊖ p ⊗ q2) ⊗ q1 ⊕ (p ⊗ q1 ⊖ p1 ⊗ q) ⊗ q2) refl p1 q1 p q p2 q2 in
        let some = factor_positive q d h (omega (arith, ints)) in
        let x = not_negative a (q1 *ℤ u +ℤ p1 *ℤ v) (omega (arith, ints)) first in
        let y = not_negative b (q2 *ℤ u +ℤ p2 *ℤ v) (omega (arith, ints)) last in
        let sum = ring8 whole (λ p1 q1 p q p2 q2 u v. (p2 ⊗ q1 ⊖ p1 ⊗ q2) ⊗ (q ⊗ u ⊕ p ⊗ v))
        (λ p1 q1 p q p2 q2 u v. (p2 ⊗ q ⊖ p ⊗ q2) ⊗ (q1 ⊗ u ⊕ p1 ⊗ v) ⊕ (p ⊗ q1 ⊖ p1 ⊗ q) ⊗ (q2 ⊗ u ⊕ p2 ⊗ v)) refl
        p1 q1 p q p2 q2 u v in
        factor_sign d (q *ℤ u +ℤ p *ℤ v) some (omega (arith, ints))
    by false e =
        let x = not_negative q (q1 *ℤ u +ℤ p1 *ℤ v) (omega (arith, ints)) first in
        let same : p *ℤ q1 ≡ p1 *ℤ q = omega (arith, ints) in
        let is = ring6 whole (λ p1 q1 p q u v. q1 ⊗ (q ⊗ u ⊕ p ⊗ v)) (λ p1 q1 p q u v. q ⊗ (q1 ⊗ u) ⊕ (p ⊗ q1) ⊗ v) refl p1 q1 p q u v in
        let back = ring6 whole (λ p1 q1 p q u v. q ⊗ (q1 ⊗ u ⊕ p1 ⊗ v)) (λ p1 q1 p q u v. q ⊗ (q1 ⊗ u) ⊕ (p1 ⊗ q) ⊗ v) refl
        p1 q1 p q u v in
        let turn = ap (λ z. z *ℤ v) same in
        factor_sign q1 (q *ℤ u +ℤ p *ℤ v) h1 (omega (arith, ints))

-- the difference of what two points cost, from the differences of their costs and their slopes
apart : (q p c d c' d' : ℤ) → q *ℤ (c' -ℤ c) +ℤ p *ℤ (d' -ℤ d) ≡ (q *ℤ c' +ℤ p *ℤ d') -ℤ (q *ℤ c +ℤ p *ℤ d)
apart q p c d c' d' = ring6 whole (λ q p c d x y. q ⊗ (x ⊖ c) ⊕ p ⊗ (y ⊖ d)) (λ q p c d x y. (q ⊗ x ⊕ p ⊗ y) ⊖ (q ⊗ c ⊕ p ⊗ d)) refl
    q p c d c' d'

pub points_are_least_between : PointsAreLeastBetween
points_are_least_between m ds l r x size h1 h2 first last = λ p q h between. record {
  feasible = feasible_there m ds p q x (feasible_back m ds l.num l.den x first.feasible);
  least = λ y ok.
      let here = feasible_back m ds p q y ok in
      let C = total (costs_of m) in
      let D = total ds in
      let u : ℤ = C y -ℤ C x in
      let v : ℤ = D y -ℤ D x in
      let a = first.least y (feasible_there m ds l.num l.den y here) in
      let b = last.least y (feasible_there m ds r.num r.den y here) in
      let ax = costs_are_lines m ds l.num l.den x size in
      let ay = costs_are_lines m ds l.num l.den y size in
      let bx = costs_are_lines m ds r.num r.den x size in
      let by' = costs_are_lines m ds r.num r.den y size in
      let cx = costs_are_lines m ds p q x size in
      let cy = costs_are_lines m ds p q y size in
      let a' = apart l.den l.num (C x) (D x) (C y) (D y) in
      let b' = apart r.den r.num (C x) (D x) (C y) (D y) in
      let c' = apart q p (C x) (D x) (C y) (D y) in
      let i : pos 0 ≤ℤ (l.den *ℤ u +ℤ l.num *ℤ v) = omega (arith, ints) in
      let j : pos 0 ≤ℤ (r.den *ℤ u +ℤ r.num *ℤ v) = omega (arith, ints) in
      let k = line_between l.num l.den p q r.num r.den u v h1 h h2 between.from between.to i j in
      omega (arith, ints);
}
