-- The rules of row sweeps: where none is broken, the sweep is exact.
use Rattle.std.specs.Prelude.{◌≡◌, ℕ, suc, ◌+◌, ◌≤◌, ◌==◌, ◌&&◌, Bool, true, false, cond, List, [], ◌∷◌, length, map, Option}
use Rattle.std.specs.Prelude.{Some, None, option_map, ℤ, pos, ◌+ℤ◌, ◌≤ℤ◌}
use Rattle.std.specs.Int.Signed.{lt_z}
use Rattle.std.specs.Option.{option_or}
use Rattle.std.proofs.Common.{arith, refl, ap, sym, ◌∙◌, subst}
use Rattle.std.proofs.lemmas.Int.{ints}
use Rattle.std.proofs.lemmas.Bool.{eqb-true, ltb-false}
use Rattle.ip_defs.specs.Breaches.{first_breach}
use Rattle.ip_defs.specs.Lists.{Each}
use Rattle.ip_defs.specs.Program.{cost, IsFeasible, IsValue}
use Rattle.ip_defs.specs.declared.certificates.Bound.{Bound}
use Rattle.ip_defs.specs.declared.certificates.Bound.TheVariants.{At, Infinite}
use Rattle.ip_defs.specs.declared.programs.Breach.{Breach as Broken}
use Rattle.ip_defs.specs.declared.programs.Parts.{Parts}
use Rattle.ip_defs.proofs.BreachLaws.{breaches_are_exact}
use Rattle.ip_defs.proofs.FirstLaws.{either_none}
use Rattle.ip_defs.proofs.ListLaws.{unmapped}
use Rattle.ip_defs.proofs.OrderLaws.{less_is, lt_is, not_less}
use Rattle.ip_model.specs.declared.places.Place.{Place}
use Rattle.perturbation.specs.Lines.{row_at}
use Rattle.proof_tree.specs.Trees.{FitsColumns, is_at_most, plain, tree_bound}
use Rattle.proof_tree.specs.Verdicts.{AreProvedBy, HasLength, IsAtLeast, IsTrueClaim, is_at_least}
use Rattle.proof_tree.specs.declared.claims.Claim.{Claim}
use Rattle.proof_tree.specs.declared.claims.Claim.TheVariants.{Best, Empty}
use Rattle.proof_tree.proofs.VerdictLaws.{claims_are_true}
use Rattle.range_laws.proofs.WideningLaws.{widening_keeps_points, widening_lowers_bounds}
use Rattle.sweep_proof.proofs.DirectionLaws.{alike_step, later_steps_are_wider, step_cost}
use Rattle.sweep_proof.specs.Internal.Lines.{EndsWithin}
use Rattle.sweep_proof.specs.Laws.{ExactSweepsHaveValues, IsPieceAt, RowRulesAreTrue}
use Rattle.sweep_proof.specs.RowRules.{claim_fault, claimed_cost, covers, fall_at, first_fault, first_gap, may_end, piece_fault}
use Rattle.sweep_proof.specs.RowRules.{proved_unless, reaches, row_rules, short_at}
use Rattle.sweep_proof.specs.RowSweeps.{CoverSteps, FallFrom, FitsPiece, IsBelow, IsTruePiece, IsWidening}
use Rattle.sweep_proof.specs.declared.row_sweeps.RowPiece.{RowPiece}
use Rattle.sweep_proof.specs.declared.verdicts.SweepVerdict.{SweepVerdict}
use Rattle.sweep_proof.specs.declared.verdicts.SweepVerdict.TheVariants.{Proved, Cover, Breach, Fall, Short}

-- ---- no fault is the verdict Proved

-- an option is not that verdict
abbrev pub IsFault : Option SweepVerdict → Type 0
IsFault o = o ≡ Some Proved → ⊥

pub when_fault : (b : Bool) (o : Option SweepVerdict) (v : SweepVerdict) → IsFault o → IsFault (Some v) → IsFault (cond b o (Some v))
when_fault true o v h g = h
when_fault false o v h g = g

pub or_fault : (o p : Option SweepVerdict) → IsFault o → IsFault p → IsFault (option_or o p)
or_fault None p h g = g
or_fault (Some v) p h g = h

gap_fault : (steps next k : ℕ) (ps : List RowPiece) → IsFault (first_gap steps next k ps)
gap_fault steps next k [] = λ e. absurd cc
gap_fault steps next k (p ∷ ps) = when_fault (covers steps next (length ps == 0) p)
    (first_gap steps (p.to + 1) (k + 1) ps) (Cover k) (gap_fault steps (p.to + 1) (k + 1) ps) (λ e. absurd cc)

pub fall_fault : (k : ℕ) (before : Option ℤ) (w : ℤ) → IsFault (fall_at k before w)
fall_fault k None w = λ e. absurd cc
fall_fault k (Some v) w = when_fault (lt_z w v) None (Fall k v w) (λ e. absurd cc) (λ e. absurd cc)

pub breach_fault : (k : ℕ) (o : Option Broken) → IsFault (option_map (λ place. Breach k place) o)
breach_fault k None = λ e. absurd cc
breach_fault k (Some place) = λ e. absurd cc

claim_is_fault : (m : Parts) (d : List (Place × ℤ)) (k : ℕ) (before : Option ℤ) (p : RowPiece) (claim : Claim)
    → IsFault (claim_fault m d k before p claim)
claim_is_fault m d k before p Empty = when_fault (k == 0) None (Cover k) (λ e. absurd cc) (λ e. absurd cc)
claim_is_fault m d k before p (Best x) = or_fault (option_map (λ place. Breach k place) (first_breach (row_at m d p.from) x))
    (fall_at k before (cost m x)) (breach_fault k (first_breach (row_at m d p.from) x)) (fall_fault k before (cost m x))

piece_is_fault : (m : Parts) (d : List (Place × ℤ)) (k : ℕ) (before : Option ℤ) (p : RowPiece) → IsFault (piece_fault m d k before p)
piece_is_fault m d k before p =
    let v = tree_bound (row_at m d p.to) (plain p.tree) in
    let w = claimed_cost m p.claim in
    or_fault (claim_fault m d k before p p.claim) (short_at k v w) (claim_is_fault m d k before p p.claim)
    (when_fault (reaches v w) None (Short k v w) (λ e. absurd cc) (λ e. absurd cc))

first_is_fault : (m : Parts) (d : List (Place × ℤ)) (k : ℕ) (before : Option ℤ) (ps : List RowPiece) → IsFault (first_fault m d k before ps)
first_is_fault m d k before [] = λ e. absurd cc
first_is_fault m d k before (p ∷ ps) = or_fault (piece_fault m d k before p) (first_fault m d (k + 1) (claimed_cost m p.claim) ps)
    (piece_is_fault m d k before p) (first_is_fault m d (k + 1) (claimed_cost m p.claim) ps)

-- so where the verdict is Proved there is none
pub no_fault : (o : Option SweepVerdict) → IsFault o → proved_unless o ≡ Proved → o ≡ None
no_fault None h e = refl
no_fault (Some v) h e = absurd (h (ap Some e))

proved_says : (m : Parts) (d : List (Place × ℤ)) (steps : ℕ) (ps : List RowPiece) → row_rules m d steps ps ≡ Proved
    → (first_gap steps 0 0 ps ≡ None) × (first_fault m d 0 None ps ≡ None)
proved_says m d steps ps e = either_none (first_gap steps 0 0 ps) (first_fault m d 0 None ps)
    (no_fault (option_or (first_gap steps 0 0 ps) (first_fault m d 0 None ps))
    (or_fault (first_gap steps 0 0 ps) (first_fault m d 0 None ps) (gap_fault steps 0 0 ps) (first_is_fault m d 0 None ps)) e)

-- ---- steps

-- what a test that answers nothing says
pub test_says : {A : Type 0} (b : Bool) (o : Option A) (x : A) → cond b o (Some x) ≡ None → (b ≡ true) × (o ≡ None)
test_says true o x e = (refl, e)
test_says false o x e = absurd cc

pub both_true : (a b : Bool) → (a && b) ≡ true → (a ≡ true) × (b ≡ true)
both_true true b e = (refl, e)
both_true false b e = absurd cc

pub record IsInTurn (steps next k : ℕ) (p : RowPiece) (ps : List RowPiece) : Type 0 where
  pub from : p.from ≡ next
  pub to : p.from ≤ p.to
  pub ends : may_end steps (length ps == 0) p.to ≡ true
  pub rest : first_gap steps (p.to + 1) (k + 1) ps ≡ None

no_gap : (steps next k : ℕ) (p : RowPiece) (ps : List RowPiece) → first_gap steps next k (p ∷ ps) ≡ None → IsInTurn steps next k p ps
no_gap steps next k p ps e =
    let test = test_says (covers steps next (length ps == 0) p) (first_gap steps (p.to + 1) (k + 1) ps) (Cover k) e in
    let outer = both_true (p.from == next && is_at_most p.from p.to) (may_end steps (length ps == 0) p.to) test.0 in
    let inner = both_true (p.from == next) (is_at_most p.from p.to) outer.0 in
    record {
      from = eqb-true p.from next inner.0;
      to = let lt = lt_is p.from (suc p.to) inner.1 in omega arith;
      ends = outer.1;
      rest = test.1;
    }

steps_covered : (steps next k : ℕ) (p : RowPiece) (ps : List RowPiece) → first_gap steps next k (p ∷ ps) ≡ None
    → CoverSteps next steps (p ∷ ps)
steps_covered steps next k p [] e =
    let turn = no_gap steps next k p [] e in
    (turn.from, turn.to, ap (λ n. n + 1) (eqb-true p.to steps turn.ends))
steps_covered steps next k p (q ∷ ps) e =
    let turn = no_gap steps next k p (q ∷ ps) e in
    (turn.from, turn.to, steps_covered steps (p.to + 1) (k + 1) q ps turn.rest)

-- pieces that cover steps lie among them
covered_end : (steps next : ℕ) (ps : List RowPiece) → CoverSteps next steps ps → next ≤ steps + 1
covered_end steps next [] h = omega arith
covered_end steps next (p ∷ ps) h =
    let from = h.0 in
    let le = h.1 in
    let rest = covered_end steps (p.to + 1) ps h.2 in
    omega arith

pub covered_within : (steps next : ℕ) (ps : List RowPiece) → CoverSteps next steps ps → Each (EndsWithin steps) ps
covered_within steps next [] h = tt
covered_within steps next (p ∷ ps) h =
    let le = h.1 in
    let rest = covered_end steps (p.to + 1) ps h.2 in
    ((omega arith, omega arith), covered_within steps (p.to + 1) ps h.2)

pub ends_within : (steps : ℕ) (ps : List RowPiece) → first_gap steps 0 0 ps ≡ None → Each (EndsWithin steps) ps
ends_within steps [] e = tt
ends_within steps (p ∷ ps) e = covered_within steps 0 (p ∷ ps) (steps_covered steps 0 0 p ps e)

-- ---- claims

-- a piece without a fault: its claim is proved, by its point at its first step and by its tree at its last one, and only the first piece
-- may claim emptiness
abbrev pub IsPieceProved : Parts → List (Place × ℤ) → RowPiece → Claim → Type 0
IsPieceProved m d p (Best x) = IsFeasible (row_at m d p.from) x × IsAtLeast (tree_bound (row_at m d p.to) (plain p.tree)) (cost m x)
IsPieceProved m d p Empty = tree_bound (row_at m d p.to) (plain p.tree) ≡ Infinite

pub least_of : (v : Bound) (w : ℤ) → is_at_least v w ≡ true → IsAtLeast v w
least_of Infinite w e = tt
least_of (At v) w e = by (lt_z v w) refl e
  where
    by : (t : Bool) → lt_z v w ≡ t → cond t false true ≡ true → w ≤ℤ v
    by true f e = absurd cc
    by false f e = not_less v w f

pub infinite_of : (v : Bound) → reaches v None ≡ true → v ≡ Infinite
infinite_of (At v) e = absurd cc
infinite_of Infinite e = refl

-- the parts of a fault that is none
pub record HasNoFault (m : Parts) (d : List (Place × ℤ)) (k : ℕ) (before : Option ℤ) (p : RowPiece) : Type 0 where
  pub claim : claim_fault m d k before p p.claim ≡ None
  pub bound : reaches (tree_bound (row_at m d p.to) (plain p.tree)) (claimed_cost m p.claim) ≡ true

piece_says : (m : Parts) (d : List (Place × ℤ)) (k : ℕ) (before : Option ℤ) (p : RowPiece) → piece_fault m d k before p ≡ None
    → HasNoFault m d k before p
piece_says m d k before p e =
    let v = tree_bound (row_at m d p.to) (plain p.tree) in
    let w = claimed_cost m p.claim in
    let both = either_none (claim_fault m d k before p p.claim) (short_at k v w) e in
    record { claim = both.0; bound = by (reaches v w) (Short k v w) both.1 }
  where
    by : (b : Bool) (x : SweepVerdict) → cond b None (Some x) ≡ None → b ≡ true
    by true x e = refl
    by false x e = absurd cc

-- the claim of such a piece is proved
proved_claim : (m : Parts) (d : List (Place × ℤ)) (k : ℕ) (before : Option ℤ) (p : RowPiece) (claim : Claim)
    → HasLength (length m.columns) claim → claim_fault m d k before p claim ≡ None
    → reaches (tree_bound (row_at m d p.to) (plain p.tree)) (claimed_cost m claim) ≡ true → IsPieceProved m d p claim
proved_claim m d k before p Empty size e f = infinite_of (tree_bound (row_at m d p.to) (plain p.tree)) f
proved_claim m d k before p (Best x) size e f =
    let n = row_at m d p.from in
    let both = either_none (option_map (λ place. Breach k place) (first_breach n x)) (fall_at k before (cost m x)) e in
    let none = unmapped (λ place. Breach k place) (first_breach n x) both.0 in (
      (breaches_are_exact n x (size ∙ sym (alike_step m d p.from).columns)).0 none,
      least_of (tree_bound (row_at m d p.to) (plain p.tree)) (cost m x) f,
    )

pub all_proved : (m : Parts) (d : List (Place × ℤ)) (k : ℕ) (before : Option ℤ) (ps : List RowPiece) → Each (FitsPiece m) ps
    → first_fault m d k before ps ≡ None → Each (λ p. IsPieceProved m d p p.claim) ps
all_proved m d k before [] fits e = tt
all_proved m d k before (p ∷ ps) fits e =
    let both = either_none (piece_fault m d k before p) (first_fault m d (k + 1) (claimed_cost m p.claim) ps) e in
    let own = piece_says m d k before p both.0 in (
      proved_claim m d k before p p.claim fits.0.point own.claim own.bound,
      all_proved m d (k + 1) (claimed_cost m p.claim) ps fits.1 both.1,
    )

-- ---- values that fall

below_before : (m : Parts) (d : List (Place × ℤ)) (k : ℕ) (before : Option ℤ) (p : RowPiece) (claim : Claim) → (k == 0) ≡ false
    → claim_fault m d k before p claim ≡ None → IsBelow (claimed_cost m claim) before
below_before m d k before p Empty later e = absurd (never (k == 0) later e)
  where
    never : (b : Bool) → b ≡ false → cond b None (Some (Cover k)) ≡ None → ⊥
    never true f e = cc
    never false f e = cc
below_before m d k None p (Best x) later e = tt
below_before m d k (Some v) p (Best x) later e =
    let both = either_none (option_map (λ place. Breach k place) (first_breach (row_at m d p.from) x)) (fall_at k (Some v) (cost m x)) e in
    by (lt_z (cost m x) v) refl both.1
  where
    by : (b : Bool) → lt_z (cost m x) v ≡ b → cond b None (Some (Fall k v (cost m x))) ≡ None → IsBelow (Some (cost m x)) (Some v)
    by true f e = less_is (cost m x) v f
    by false f e = absurd cc

not_first : (k : ℕ) → (k + 1 == 0) ≡ false
not_first k = by (k + 1 == 0) refl
  where
    by : (b : Bool) → (k + 1 == 0) ≡ b → b ≡ false
    by false e = refl
    by true e = let is = eqb-true (k + 1) 0 e in absurd (omega arith)

falling_from : (m : Parts) (d : List (Place × ℤ)) (k : ℕ) (before : Option ℤ) (ps : List RowPiece) → (k == 0) ≡ false
    → first_fault m d k before ps ≡ None → FallFrom before (map (λ p. claimed_cost m p.claim) ps)
falling_from m d k before [] later e = tt
falling_from m d k before (p ∷ ps) later e =
    let both = either_none (piece_fault m d k before p) (first_fault m d (k + 1) (claimed_cost m p.claim) ps) e in
    let own = piece_says m d k before p both.0 in (
      below_before m d k before p p.claim later own.claim,
      falling_from m d (k + 1) (claimed_cost m p.claim) ps (not_first k) both.1,
    )

-- ---- each step

-- a bound that reaches every number is infinite
below_all : (v : Bound) → ((w : ℤ) → IsAtLeast v w) → v ≡ Infinite
below_all Infinite h = refl
below_all (At v) h = let more = h (v +ℤ pos 1) in absurd (omega (arith, ints))

infinite_reaches : (v : Bound) (w : ℤ) → v ≡ Infinite → IsAtLeast v w
infinite_reaches (At v) w e = absurd cc
infinite_reaches Infinite w e = tt

proved_at : (m : Parts) (d : List (Place × ℤ)) (p : RowPiece) (claim : Claim) (t : ℕ) → IsWidening d → p.from ≤ t → t ≤ p.to
    → IsPieceProved m d p claim → AreProvedBy (row_at m d t) claim (tree_bound (row_at m d t) (plain p.tree))
proved_at m d p (Best x) t out from to h = (
  widening_keeps_points (row_at m d p.from) (row_at m d t) x (later_steps_are_wider m d p.from t out from) h.0,
  subst (IsAtLeast (tree_bound (row_at m d t) (plain p.tree))) (sym (step_cost m d t x out))
      (widening_lowers_bounds (row_at m d t) (row_at m d p.to) (plain p.tree) (cost m x) (later_steps_are_wider m d t p.to out to) h.1),
)
proved_at m d p Empty t out from to h = below_all (tree_bound (row_at m d t) (plain p.tree)) (λ w.
    widening_lowers_bounds (row_at m d t) (row_at m d p.to) (plain p.tree) w (later_steps_are_wider m d t p.to out to)
    (infinite_reaches (tree_bound (row_at m d p.to) (plain p.tree)) w h))

piece_true : (m : Parts) (d : List (Place × ℤ)) (p : RowPiece) → IsWidening d → FitsPiece m p → IsPieceProved m d p p.claim
    → IsTruePiece m d p
piece_true m d p out fits h = λ t from to. claims_are_true (row_at m d t) (plain p.tree) p.claim
    (subst (λ (n : ℕ). FitsColumns n (plain p.tree)) (sym (alike_step m d t).columns) fits.tree.columns)
    (proved_at m d p p.claim t out from to h)

pieces_true : (m : Parts) (d : List (Place × ℤ)) (ps : List RowPiece) → IsWidening d → Each (FitsPiece m) ps
    → Each (λ p. IsPieceProved m d p p.claim) ps → Each (IsTruePiece m d) ps
pieces_true m d [] out fits h = tt
pieces_true m d (p ∷ ps) out fits h = (piece_true m d p out fits.0 h.0, pieces_true m d ps out fits.1 h.1)

pub row_rules_are_true : RowRulesAreTrue
row_rules_are_true m d steps [] out fits e = let some = fits.some in absurd (omega arith)
row_rules_are_true m d steps (p ∷ ps) out fits e =
    let says = proved_says m d steps (p ∷ ps) e in
    let rest = either_none (piece_fault m d 0 None p) (first_fault m d 1 (claimed_cost m p.claim) ps) says.1 in
    record {
      cover = steps_covered steps 0 0 p ps says.0;
      claims = pieces_true m d (p ∷ ps) out fits.each (all_proved m d 0 None (p ∷ ps) fits.each says.1);
      falling = falling_from m d 1 (claimed_cost m p.claim) ps refl rest.1;
    }

-- ---- values

value_of : (m : Parts) (d : List (Place × ℤ)) (t : ℕ) (claim : Claim) → IsWidening d → IsTrueClaim (row_at m d t) claim
    → IsValue (row_at m d t) (claimed_cost m claim)
value_of m d t (Best x) out h = (x, h, step_cost m d t x out)
value_of m d t Empty out h = h

-- the piece of a step among pieces that cover it
piece_from : (m : Parts) (d : List (Place × ℤ)) (steps next : ℕ) (ps : List RowPiece) (t : ℕ) → IsWidening d → CoverSteps next steps ps
    → Each (IsTruePiece m d) ps → next ≤ t → t ≤ steps → IsPieceAt m d ps t
piece_from m d steps next [] t out cover claims from to = let e : next ≡ steps + 1 = cover in absurd (omega arith)
piece_from m d steps next (p ∷ ps) t out cover claims from to = by (is_at_most t p.to) refl
    (λ past. piece_from m d steps (p.to + 1) ps t out cover.2 claims.1 past to)
  where
    by : (b : Bool) → is_at_most t p.to ≡ b → (p.to + 1 ≤ t → IsPieceAt m d ps t) → IsPieceAt m d (p ∷ ps) t
    by true e later =
        let lt = lt_is t (suc p.to) e in
        let first = cover.0 in
        record {
          number = 0;
          piece = p;
          is = refl;
          from = omega arith;
          to = omega arith;
          value = value_of m d t p.claim out (claims.0 t (omega arith) (omega arith));
        }
    by false e later =
        let found = later (let over = ltb-false t (suc p.to) e in omega arith) in
        record {
          number = suc found.number;
          piece = found.piece;
          is = found.is;
          from = found.from;
          to = found.to;
          value = found.value;
        }

pub exact_sweeps_have_values : ExactSweepsHaveValues
exact_sweeps_have_values m d steps ps out exact t le = piece_from m d steps 0 ps t out exact.cover exact.claims (omega arith) le
