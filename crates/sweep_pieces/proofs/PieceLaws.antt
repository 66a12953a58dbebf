-- The pieces of runs: none breaks a rule of row sweeps.
use Rattle.std.specs.Prelude.{◌≡◌, ℕ, zero, suc, ◌+◌, ◌<◌, ◌≤◌, ◌==◌, ◌&&◌, Bool, true, false, cond, List, [], ◌∷◌, length}
use Rattle.std.specs.Prelude.{Option, Some, None, option_map, slice_get, ℤ}
use Rattle.std.proofs.Common.{arith, refl, ap, sym, ◌∙◌, subst}
use Rattle.std.proofs.lemmas.Bool.{eqb-true, eqb-false}
use Rattle.branching.specs.Outcomes.{Pairwise}
use Rattle.ip_defs.specs.Breaches.{first_breach}
use Rattle.ip_defs.specs.Lists.{Each}
use Rattle.ip_defs.specs.Program.{IsFeasible, cost}
use Rattle.ip_defs.specs.declared.certificates.Bound.{Bound}
use Rattle.ip_defs.specs.declared.certificates.Bound.TheVariants.{At, Infinite}
use Rattle.ip_defs.specs.declared.programs.Breach.{Breach as Broken}
use Rattle.ip_defs.specs.declared.programs.Parts.{Parts}
use Rattle.ip_defs.proofs.BreachLaws.{breaches_are_exact}
use Rattle.ip_defs.proofs.FirstLaws.{none_of_both}
use Rattle.ip_defs.proofs.ListLaws.{each_get}
use Rattle.ip_defs.proofs.OrderLaws.{less_false, less_true, lt_true}
use Rattle.ip_model.specs.declared.places.Place.{Place}
use Rattle.perturbation.specs.Lines.{row_at}
use Rattle.proof_tree.specs.Trees.{PlainTree, is_at_most, plain, tree_bound}
use Rattle.proof_tree.specs.Verdicts.{AreProvedBy, HasLength, IsAtLeast}
use Rattle.proof_tree.specs.declared.claims.Claim.{Claim}
use Rattle.proof_tree.specs.declared.claims.Claim.TheVariants.{Best, Empty}
use Rattle.sweep_pieces.specs.Pieces.{IsPieceOf, claim_in, tree_in}
use Rattle.sweep_pieces.specs.Runs.{AreRuns, IsRun, IsSolve, MayFollow, next_after, step_at, step_in, step_of, value_at, value_in}
use Rattle.sweep_pieces.specs.declared.runs.Run.{Run}
use Rattle.sweep_proof.proofs.DirectionLaws.{alike_step, step_cost}
use Rattle.sweep_proof.specs.RowRules.{claim_fault, claimed_cost, covers, fall_at, first_fault, first_gap, may_end, piece_fault}
use Rattle.sweep_proof.specs.RowRules.{proved_unless, reaches, row_rules, short_at}
use Rattle.sweep_proof.specs.RowSweeps.{IsWidening}
use Rattle.sweep_proof.specs.declared.row_sweeps.RowPiece.{RowPiece}
use Rattle.sweep_proof.specs.declared.verdicts.SweepVerdict.TheVariants.{Proved, Cover, Breach, Fall, Short}
use Rattle.sweep_solves.specs.declared.made_solves.Made.{Made}

-- ---- the solves of a piece

-- what a solve at a step gives to a piece that begins there: its claim fits, and its point is feasible there
abbrev pub IsFeasibleClaim : Parts → Claim → Type 0
IsFeasibleClaim n (Best x) = IsFeasible n x
IsFeasibleClaim n Empty = Unit {0}

pub record IsBegun (m : Parts) (d : List (Place × ℤ)) (p : RowPiece) : Type 0 where
  pub point : HasLength (length m.columns) p.claim
  pub feasible : IsFeasibleClaim (row_at m d p.from) p.claim

-- a bound reaches a value, and is infinite where there is none
abbrev pub Reaches : Bound → Option ℤ → Type 0
Reaches v None = v ≡ Infinite
Reaches v (Some w) = IsAtLeast v w

feasible_claim : (n : Parts) (claim : Claim) (v : Bound) → AreProvedBy n claim v → IsFeasibleClaim n claim
feasible_claim n (Best x) v h = h.0
feasible_claim n Empty v h = tt

reached : (m : Parts) (d : List (Place × ℤ)) (t : ℕ) (claim : Claim) (v : Bound) → IsWidening d → AreProvedBy (row_at m d t) claim v
    → Reaches v (claimed_cost m claim)
reached m d t (Best x) v out h = subst (IsAtLeast v) (step_cost m d t x out) h.1
reached m d t Empty v out h = h

-- the solve of a number
pub record HasSolve (m : Parts) (d : List (Place × ℤ)) (ms : List Made) (k : ℕ) : Type 0 where
  pub made : Made
  pub is : slice_get ms k ≡ Some made
  pub right : IsSolve m d made

never_none : (ms : List Made) (k : ℕ) → k < length ms → slice_get ms k ≡ None → ⊥
never_none [] k l e = absurd (omega arith)
never_none (s ∷ ms) zero l e = cc
never_none (s ∷ ms) (suc k) l e = never_none ms k (omega arith) e

pub solve_of : (m : Parts) (d : List (Place × ℤ)) (ms : List Made) (k : ℕ) → Each (IsSolve m d) ms → k < length ms → HasSolve m d ms k
solve_of m d ms k all l = by (slice_get ms k) refl
  where
    by : (o : Option Made) → slice_get ms k ≡ o → HasSolve m d ms k
    by None e = absurd (never_none ms k l e)
    by (Some s) e = record { made = s; is = e; right = each_get (IsSolve m d) ms k s all e }

pub some_is : {A : Type 0} (x y : A) → Some x ≡ Some y → x ≡ y
some_is x y e = cc

-- the first solve of a run begins its piece
pub begun : (m : Parts) (d : List (Place × ℤ)) (ms : List Made) (r : Run) (p : RowPiece) → Each (IsSolve m d) ms → IsRun m ms r
    → IsPieceOf ms r p → IsBegun m d p
begun m d ms r p all run h =
    let s = solve_of m d ms r.first all run.start in
    let claim : s.made.proof.claim ≡ p.claim = some_is s.made.proof.claim p.claim (ap claim_in (sym s.is) ∙ h.claim) in
    let from : step_of s.made ≡ p.from = ap step_in (sym s.is) ∙ sym h.from in
    record {
      point = subst (HasLength (length m.columns)) claim s.right.point;
      feasible = subst (λ (c : Claim). IsFeasibleClaim (row_at m d p.from) c) claim
          (subst (λ (t : ℕ). IsFeasibleClaim (row_at m d t) s.made.proof.claim) from
          (feasible_claim (row_at m d (step_of s.made)) s.made.proof.claim
          (tree_bound (row_at m d (step_of s.made)) (plain s.made.proof.tree)) s.right.proved));
    }

-- the value of a piece is that of its run
pub piece_value : (m : Parts) (ms : List Made) (r : Run) (p : RowPiece) → IsPieceOf ms r p → claimed_cost m p.claim ≡ value_at m ms r.first
piece_value m ms r p h = by (slice_get ms r.first) h.claim
  where
    by : (o : Option Made) → claim_in o ≡ Some p.claim → claimed_cost m p.claim ≡ value_in m o
    by None e = absurd cc
    by (Some s) e = ap (claimed_cost m) (sym (some_is s.proof.claim p.claim e))

-- the last solve of a run proves it at its last step
pub piece_reached : (m : Parts) (d : List (Place × ℤ)) (ms : List Made) (r : Run) (p : RowPiece) → IsWidening d → Each (IsSolve m d) ms
    → IsRun m ms r → IsPieceOf ms r p → Reaches (tree_bound (row_at m d p.to) (plain p.tree)) (claimed_cost m p.claim)
piece_reached m d ms r p out all run h =
    let s = solve_of m d ms r.last all run.end in
    let tree : plain s.made.proof.tree ≡ plain p.tree = some_is (plain s.made.proof.tree) (plain p.tree) (ap tree_in (sym s.is) ∙ h.tree) in
    let to : step_of s.made ≡ p.to = ap step_in (sym s.is) ∙ sym h.to in
    let value : claimed_cost m s.made.proof.claim ≡ claimed_cost m p.claim =
    ap (value_in m) (sym s.is) ∙ sym run.same ∙ sym (piece_value m ms r p h) in
    let own = reached m d (step_of s.made) s.made.proof.claim (tree_bound (row_at m d (step_of s.made)) (plain s.made.proof.tree)) out
    s.right.proved in
    subst (Reaches (tree_bound (row_at m d p.to) (plain p.tree))) value
    (subst (λ (t : PlainTree). Reaches (tree_bound (row_at m d p.to) t) (claimed_cost m s.made.proof.claim)) tree
    (subst (λ (t : ℕ). Reaches (tree_bound (row_at m d t) (plain s.made.proof.tree)) (claimed_cost m s.made.proof.claim)) to own))

-- ---- no fault

-- the value before, where there is a run before
abbrev pub value_before : Option (Option ℤ) → Option ℤ
value_before None = None
value_before (Some v) = v

-- only the first piece has none before
abbrev pub IsNumbered : ℕ → Option (Option ℤ) → Type 0
IsNumbered k None = k ≡ 0
IsNumbered k (Some v) = Unit {0}

same_true : (a b : ℕ) → a ≡ b → (a == b) ≡ true
same_true a b e = by (a == b) refl
  where
    by : (t : Bool) → (a == b) ≡ t → t ≡ true
    by true f = refl
    by false f = absurd (eqb-false a b f e)

no_fall : (k : ℕ) (before : Option (Option ℤ)) (w : ℤ) → MayFollow before (Some w) → fall_at k (value_before before) w ≡ None
no_fall k None w h = refl
no_fall k (Some None) w h = refl
no_fall k (Some (Some v)) w h = ap (λ (t : Bool). cond t None (Some (Fall k v w))) (less_true w v h)

no_claim_fault : (m : Parts) (d : List (Place × ℤ)) (k : ℕ) (before : Option (Option ℤ)) (p : RowPiece) (claim : Claim)
    → HasLength (length m.columns) claim → IsFeasibleClaim (row_at m d p.from) claim → MayFollow before (claimed_cost m claim)
    → IsNumbered k before → claim_fault m d k (value_before before) p claim ≡ None
no_claim_fault m d k None p Empty size feasible falls first =
    ap (λ (t : Bool). cond t None (Some (Cover k))) (same_true k 0 first)
no_claim_fault m d k (Some v) p Empty size feasible falls first = absurd falls
no_claim_fault m d k before p (Best x) size feasible falls first =
    let n = row_at m d p.from in
    let none = (breaches_are_exact n x (size ∙ sym (alike_step m d p.from).columns)).1 feasible in
    none_of_both (option_map (λ place. Breach k place) (first_breach n x)) (fall_at k (value_before before) (cost m x))
    (ap (λ (o : Option Broken). option_map (λ place. Breach k place) o) none) (no_fall k before (cost m x) falls)

reaches_true : (v : Bound) (w : Option ℤ) → Reaches v w → reaches v w ≡ true
reaches_true (At v) (Some w) h = ap (λ (t : Bool). cond t false true) (less_false v w h)
reaches_true Infinite (Some w) h = refl
reaches_true (At v) None h = absurd cc
reaches_true Infinite None h = refl

no_piece_fault : (m : Parts) (d : List (Place × ℤ)) (k : ℕ) (before : Option (Option ℤ)) (p : RowPiece) → IsBegun m d p
    → Reaches (tree_bound (row_at m d p.to) (plain p.tree)) (claimed_cost m p.claim) → MayFollow before (claimed_cost m p.claim)
    → IsNumbered k before → piece_fault m d k (value_before before) p ≡ None
no_piece_fault m d k before p begins reach falls first =
    let v = tree_bound (row_at m d p.to) (plain p.tree) in
    let w = claimed_cost m p.claim in
    none_of_both (claim_fault m d k (value_before before) p p.claim) (short_at k v w)
    (no_claim_fault m d k before p p.claim begins.point begins.feasible falls first)
    (ap (λ (t : Bool). cond t None (Some (Short k v w))) (reaches_true v w reach))

pub no_fault : (m : Parts) (d : List (Place × ℤ)) (ms : List Made) (next k : ℕ) (before : Option (Option ℤ)) (rs : List Run)
    (ps : List RowPiece) → IsWidening d → Each (IsSolve m d) ms → AreRuns m ms next before rs → Pairwise (IsPieceOf ms) rs ps
    → IsNumbered k before → first_fault m d k (value_before before) ps ≡ None
no_fault m d ms next k before [] [] out all runs pairs first = refl
no_fault m d ms next k before [] (p ∷ ps) out all runs pairs first = absurd pairs
no_fault m d ms next k before (r ∷ rs) [] out all runs pairs first = absurd pairs
no_fault m d ms next k before (r ∷ rs) (p ∷ ps) out all runs pairs first =
    let value = piece_value m ms r p pairs.0 in
    none_of_both (piece_fault m d k (value_before before) p) (first_fault m d (k + 1) (claimed_cost m p.claim) ps)
    (no_piece_fault m d k before p (begun m d ms r p all runs.0.run pairs.0) (piece_reached m d ms r p out all runs.0.run pairs.0)
    (subst (MayFollow before) (sym value) runs.0.falls) first)
    (subst (λ (v : Option ℤ). first_fault m d (k + 1) v ps ≡ None) (sym value)
    (no_fault m d ms (step_at ms r.last + 1) (k + 1) (Some (value_at m ms r.first)) rs ps out all runs.1 pairs.1 tt))

-- ---- no gap

covers_true : (steps next : ℕ) (is_last : Bool) (p : RowPiece) → p.from ≡ next → p.from ≤ p.to → (is_last ≡ true → p.to ≡ steps)
    → covers steps next is_last p ≡ true
covers_true steps next is_last p from to last =
    both (p.from == next && is_at_most p.from p.to) (may_end steps is_last p.to)
    (both (p.from == next) (is_at_most p.from p.to) (same_true p.from next from) (lt_true p.from (suc p.to) (omega arith)))
    (ends is_last last)
  where
    both : (a b : Bool) → a ≡ true → b ≡ true → (a && b) ≡ true
    both true b e f = f
    both false b e f = absurd cc

    ends : (t : Bool) → (t ≡ true → p.to ≡ steps) → may_end steps t p.to ≡ true
    ends true h = same_true p.to steps (h refl)
    ends false h = refl

-- where no further piece is, no further run is
pub no_more : (ms : List Made) (next : ℕ) (rs : List Run) (ps : List RowPiece) → Pairwise (IsPieceOf ms) rs ps → length ps ≡ 0
    → next_after ms next rs ≡ next
no_more ms next [] ps pairs e = refl
no_more ms next (r ∷ rs) [] pairs e = absurd pairs
no_more ms next (r ∷ rs) (p ∷ ps) pairs e = absurd (omega arith)

pub no_gap : (m : Parts) (ms : List Made) (steps next k : ℕ) (before : Option (Option ℤ)) (rs : List Run) (ps : List RowPiece)
    → AreRuns m ms next before rs → next_after ms next rs ≡ steps + 1 → Pairwise (IsPieceOf ms) rs ps → first_gap steps next k ps ≡ None
no_gap m ms steps next k before [] [] runs ends pairs = refl
no_gap m ms steps next k before [] (p ∷ ps) runs ends pairs = absurd pairs
no_gap m ms steps next k before (r ∷ rs) [] runs ends pairs = absurd pairs
no_gap m ms steps next k before (r ∷ rs) (p ∷ ps) runs ends pairs =
    let piece = pairs.0 in
    let to = piece.to in
    let from = piece.from in
    let own = runs.0.from in
    let order = runs.0.run.order in
    let last : (length ps == 0) ≡ true → p.to ≡ steps = λ e.
    let none = no_more ms (step_at ms r.last + 1) rs ps pairs.1 (eqb-true (length ps) 0 e) in omega arith in
    let covered = covers_true steps next (length ps == 0) p (from ∙ own) (omega arith) last in
    let rest = no_gap m ms steps (step_at ms r.last + 1) (k + 1) (Some (value_at m ms r.first)) rs ps runs.1 ends pairs.1 in
    ap (λ (t : Bool). cond t (first_gap steps (p.to + 1) (k + 1) ps) (Some (Cover k))) covered
    ∙ subst (λ (n : ℕ). first_gap steps (n + 1) (k + 1) ps ≡ None) (sym to) rest

-- ---- the verdict

pub pieces_proved : (m : Parts) (d : List (Place × ℤ)) (ms : List Made) (steps : ℕ) (rs : List Run) (ps : List RowPiece) → IsWidening d
    → Each (IsSolve m d) ms → AreRuns m ms 0 None rs → next_after ms 0 rs ≡ steps + 1 → Pairwise (IsPieceOf ms) rs ps
    → row_rules m d steps ps ≡ Proved
pieces_proved m d ms steps rs ps out all runs ends pairs =
    ap proved_unless (none_of_both (first_gap steps 0 0 ps) (first_fault m d 0 None ps) (no_gap m ms steps 0 0 None rs ps runs ends pairs)
    (no_fault m d ms 0 0 None rs ps out all runs pairs refl))
