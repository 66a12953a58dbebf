-- Values of claims that are true at the steps of a direction outwards: they never rise.
use Rattle.std.specs.Prelude.{◌≡◌, ◌≢◌, ℕ, ◌≤◌, List, Option, Some, None, ℤ, ◌≤ℤ◌, ◌<ℤ◌, ◌⊎◌, Bool, true, false}
use Rattle.std.specs.Int.Signed.{lt_z}
use Rattle.ip_defs.proofs.OrderLaws.{less_is, not_less}
use Rattle.std.proofs.Common.{arith, refl, ap, sym, subst, inl, inr}
use Rattle.std.proofs.lemmas.Int.{ints}
use Rattle.ip_defs.specs.declared.programs.Parts.{Parts}
use Rattle.ip_model.specs.declared.places.Place.{Place}
use Rattle.perturbation.specs.Lines.{row_at}
use Rattle.proof_tree.specs.Trees.{FitsColumns, plain}
use Rattle.proof_tree.specs.Verdicts.{IsTrueClaim}
use Rattle.proof_tree.specs.declared.claims.Claim.{Claim}
use Rattle.proof_tree.specs.declared.claims.Claim.TheVariants.{Best, Empty}
use Rattle.proof_tree.proofs.VerdictLaws.{claims_are_true}
use Rattle.range_laws.proofs.WideningLaws.{widening_keeps_points}
use Rattle.sweep_pieces.specs.Runs.{IsSolve, step_of}
use Rattle.sweep_proof.proofs.DirectionLaws.{alike_step, later_steps_are_wider, step_cost}
use Rattle.sweep_proof.specs.RowRules.{claimed_cost}
use Rattle.sweep_proof.specs.RowSweeps.{IsBelow, IsWidening}
use Rattle.sweep_solves.specs.declared.made_solves.Made.{Made}

-- a value is at most another; that of an infeasible program is above every number
abbrev pub IsAtMostValue : Option ℤ → Option ℤ → Type 0
IsAtMostValue v None = Unit {0}
IsAtMostValue None (Some w) = ⊥
IsAtMostValue (Some v) (Some w) = v ≤ℤ w

pub same_values : (v w : Option ℤ) → IsAtMostValue v w → IsAtMostValue w v → v ≡ w
same_values None None a b = refl
same_values None (Some w) a b = absurd a
same_values (Some v) None a b = absurd b
same_values (Some v) (Some w) a b = ap Some (omega (arith, ints))

-- of different values it is below
pub below_of : (v w : Option ℤ) → IsAtMostValue v w → w ≢ v → IsBelow v w
below_of None None le differ = absurd (differ refl)
below_of None (Some w) le differ = absurd le
below_of (Some v) None le differ = tt
below_of (Some v) (Some w) le differ = by (lt_z v w) refl
  where
    by : (t : Bool) → lt_z v w ≡ t → v <ℤ w
    by true e = less_is v w e
    by false e = let up = not_less v w e in absurd (differ (ap Some (omega (arith, ints))))

-- values are the same, or they are not
pub same_or_not : (v w : Option ℤ) → (v ≡ w) ⊎ (v ≢ w)
same_or_not None None = inl refl
same_or_not None (Some w) = inr (λ e. absurd cc)
same_or_not (Some v) None = inr (λ e. absurd cc)
same_or_not (Some v) (Some w) = by (lt_z v w) (lt_z w v) refl refl
  where
    by : (s t : Bool) → lt_z v w ≡ s → lt_z w v ≡ t → (Some v ≡ Some w) ⊎ (Some v ≢ Some w)
    by true t e f = inr (λ same. let is : v ≡ w = cc in let less = less_is v w e in absurd (omega (arith, ints)))
    by false true e f = inr (λ same. let is : v ≡ w = cc in let less = less_is w v f in absurd (omega (arith, ints)))
    by false false e f = inl (let up = not_less v w e in let down = not_less w v f in ap Some (omega (arith, ints)))

-- a later step has no greater value
pub claims_fall : (m : Parts) (d : List (Place × ℤ)) (s t : ℕ) (b c : Claim) → IsWidening d → s ≤ t → IsTrueClaim (row_at m d s) b
    → IsTrueClaim (row_at m d t) c → IsAtMostValue (claimed_cost m c) (claimed_cost m b)
claims_fall m d s t Empty c out le first second = tt
claims_fall m d s t (Best x) Empty out le first second =
    absurd (second x (widening_keeps_points (row_at m d s) (row_at m d t) x (later_steps_are_wider m d s t out le) first.feasible))
claims_fall m d s t (Best x) (Best y) out le first second =
    let kept = widening_keeps_points (row_at m d s) (row_at m d t) x (later_steps_are_wider m d s t out le) first.feasible in
    let least = second.least x kept in
    let own = step_cost m d t y out in
    let other = step_cost m d t x out in
    omega (arith, ints)

-- the claim of a solve is true
pub solve_is_true : (m : Parts) (d : List (Place × ℤ)) (s : Made) → IsSolve m d s → IsTrueClaim (row_at m d (step_of s)) s.proof.claim
solve_is_true m d s h = claims_are_true (row_at m d (step_of s)) (plain s.proof.tree) s.proof.claim
    (subst (λ (n : ℕ). FitsColumns n (plain s.proof.tree)) (sym (alike_step m d (step_of s)).columns) h.fits.columns) h.proved
