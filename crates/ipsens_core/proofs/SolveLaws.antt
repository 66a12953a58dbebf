-- The status of an outcome, and the limits of the proof that it is saved as.
use Rattle.std.specs.Prelude.{◌≡◌, ℕ, zero, suc, ◌≤◌, ◌<◌, ◌^◌, List, [], ◌∷◌, length, Option, Some, None, IfSome, ℤ, ◌≤ℤ◌}
use Rattle.std.specs.Int.RustNames.{unsigned_abs}
use Rattle.std.proofs.Common.{refl, arith, subst, sym, ◌∙◌}
use Rattle.std.proofs.lemmas.Int.{ints}
use Rattle.std.proofs.lemmas.List.{length-map}
use Rattle.ip_defs.specs.declared.programs.Column.{Column}
use Rattle.ip_defs.specs.declared.certificates.Bound.{Bound}
use Rattle.ip_defs.specs.declared.programs.Parts.{Parts}
use Rattle.ip_defs.specs.Limits.{IsWithinLimits}
use Rattle.ip_defs.specs.Lists.{Each}
use Rattle.ip_defs.specs.Program.{IsFeasible, at, box_of}
use Rattle.ip_defs.proofs.BoxLaws.{box_within}
use Rattle.proof_tree.specs.Trees.{plain, tree_bound}
use Rattle.proof_tree.specs.Verdicts.{AreProvedBy}
use Rattle.proof_tree.specs.declared.claims.Claim.{Claim}
use Rattle.proof_tree.specs.declared.claims.Claim.TheVariants as Claims
use Rattle.proof_tree.specs.declared.claims.Proof.{Proof}
use Rattle.proof_tree.proofs.WithinLaws.{limits_are_exact}
use Rattle.tree_format.specs.Spellings.{IsClaimWithin}
use Rattle.branching.specs.BestFirst.{IsBestFirst}
use Rattle.branching.specs.declared.budgets.Limits.{Limits}
use Rattle.branching.specs.declared.outcomes.Outcome.{Outcome}
use Rattle.branching.specs.declared.outcomes.Outcome.TheVariants.{Best, Empty, Budget}
use Rattle.node_bounds.specs.declared.reasons.Why.{Why}
use Rattle.branching.specs.Outcomes.{ClaimsLeast, IsFinished, IsRightOutcome, IsTrueOutcome}
use Rattle.branching.specs.Sizes.{AreAmple, IsAnswer}
use Rattle.sens_report.specs.AnswerTexts.{ArePointsWhole, IsWhole, claimed, outcome_lines}
use Rattle.ipsens_core.specs.Answers.{Answer}
use Rattle.ipsens_core.specs.Solve.{HasOutcome, IsProofSpelled, IsSpelled, outcome_status, saved_outcome}
use Rattle.ipsens_core.specs.declared.statuses.Status.{Status}
use Rattle.ipsens_core.specs.Internal.Made.{IsWritten}

-- an outcome is answered, or stopped at its budget
pub outcome_written : (o : Outcome) → IsWritten (outcome_status o)
outcome_written (Best p whys) = tt
outcome_written (Empty p whys) = tt
outcome_written (Budget what grown best) = tt

-- ---- the limits of tree files

small_all : (most : ℕ) (x : List ℤ) → ((j : ℕ) → j < length x → unsigned_abs (at x j) ≤ most) → Each (λ z. unsigned_abs z ≤ most) x
small_all most [] h = tt
small_all most (z ∷ x) h = (h zero (omega arith), small_all most x (λ j l. h (suc j) (omega arith)))

between_small : (most : ℕ) (low high z : ℤ) → unsigned_abs low ≤ most → unsigned_abs high ≤ most → low ≤ℤ z → z ≤ℤ high → unsigned_abs z
    ≤ most
between_small most low high z l h above below = omega (arith, ints)

-- a claim that is proved is within the limits: a feasible point lies in the box of its model
claim_within : (m : Parts) (c : Claim) (bound : Bound) → IsWithinLimits m → AreProvedBy m c bound → IsClaimWithin c
claim_within m Claims.Empty bound limits proved = tt
claim_within m (Claims.Best x) bound limits proved =
    let area = box_within m limits in
    let inside = proved.0.within in
    let size : length x ≤ 4096 = let columns = limits.column_count in let box = area.size in let same = inside.size in omega arith in (
      size,
      small_all (2 ^ 24) x (λ j l.
          let box = area.size in
          let same = inside.size in
          let column : j < length m.columns = omega arith in
          let place : j < length (box_of m) = omega arith in
          between_small (2 ^ 24) _ _ (at x j) (area.low j column) (area.high j column) (inside.low j place) (inside.high j place)),
    )

proof_spelled : (m : Parts) (l : Limits) (p : Proof) (whys : List Why) → IsWithinLimits m → IsFinished m l p whys → IsProofSpelled p
proof_spelled m l p whys limits done = record {
  claim = claim_within m p.claim (tree_bound m (plain p.tree)) limits done.proved;
  tree = (limits_are_exact (plain p.tree)).0 done.limits;
  spelled = refl;
}

-- the proof of a right outcome can be saved
pub outcome_spelled : (m : Parts) (l : Limits) (o : Outcome) → IsWithinLimits m → IsRightOutcome m l o → IsSpelled o
outcome_spelled m l (Best p whys) limits right = proof_spelled m l p whys limits right.1
outcome_spelled m l (Empty p whys) limits right = proof_spelled m l p whys limits right.1
outcome_spelled m l (Budget what grown best) limits right = tt

-- a true outcome prints points with a value for each column
whole : (m : Parts) (x : List ℤ) → IsFeasible m x → length x ≡ length m.columns
whole m x feasible = feasible.within.size ∙ length-map m.columns (λ (c : Column). (c.lo, c.hi))

claim_whole : (m : Parts) (c : Claim) → ClaimsLeast m c → IsWhole m (claimed c)
claim_whole m (Claims.Best x) least = λ y is.
    let same : x ≡ y = cc in subst (λ z. length z ≡ length m.columns) same (whole m x least.feasible)
claim_whole m Claims.Empty least = absurd least

best_whole : (m : Parts) (best : Option (List ℤ)) → IfSome best (IsFeasible m) → IsWhole m best
best_whole m None feasible = λ y is. absurd (cc is)
best_whole m (Some x) feasible = λ y is.
    let same : x ≡ y = cc in subst (λ z. length z ≡ length m.columns) same (whole m x feasible)

pub points_whole : (m : Parts) (o : Outcome) → IsTrueOutcome m o → ArePointsWhole m o
points_whole m (Best p whys) true = claim_whole m p.claim true
points_whole m (Empty p whys) true = tt
points_whole m (Budget what grown best) true = best_whole m best true

-- limits with another number of nodes
abbrev pub limits_by : ℕ → Limits → Limits
limits_by n asked = record { nodes = n; depth = asked.depth; pivots = asked.pivots }

-- the answer with the status, the text and the file of an outcome is owed to its model
pub has_outcome : (m : Parts) (l : Limits) (tree : Option (List ℕ)) (o : Outcome) (status : Status) (text : List ℕ)
    (saved : Option (List ℕ × List ℕ))
    → IsWithinLimits m → IsRightOutcome m l o → IsTrueOutcome m o → (AreAmple m l → IsAnswer o) → IsBestFirst m o
    → status ≡ outcome_status o
    → text ≡ outcome_lines m o → saved ≡ saved_outcome tree o
    → HasOutcome m l tree (record { status = status; text = text; saved = saved })
has_outcome m l tree o status text saved limits right holds ends first a b c = record {
  outcome = o;
  right = right;
  holds = holds;
  ends = ends;
  first = first;
  spelled = outcome_spelled m l o limits right;
  answer = rw (a, b, c) refl;
}

-- such an answer is written
pub has_written : (m : Parts) (l : Limits) (tree : Option (List ℕ)) (a : Answer) → HasOutcome m l tree a → IsWritten a.status
has_written m l tree a has =
    subst (λ (b : Answer). IsWritten b.status) (sym has.answer) (outcome_written has.outcome)
