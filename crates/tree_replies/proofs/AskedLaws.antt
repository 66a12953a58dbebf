-- What a range is asked for: its place is the one that the datum names, and its point is the claimed one.
use Rattle.std.specs.Prelude.{◌≡◌, ℕ, length, ℤ, Option, Some, None, Result, Ok, Err}
use Rattle.std.proofs.Common.{ap, subst}
use Rattle.ip_defs.specs.declared.programs.Parts.{Parts}
use Rattle.ip_model.specs.Places.{Exists}
use Rattle.ip_model.specs.declared.places.Place.{Place}
use Rattle.mps_defs.specs.Numbers.{exact_units}
use Rattle.mps_defs.specs.declared.reading.Number.TheVariants.{Dec, Large}
use Rattle.perturbation.proofs.EditLaws.{located_exists}
use Rattle.perturbation.specs.Edits.{located}
use Rattle.perturbation.specs.declared.edits.Datum.{Datum}
use Rattle.perturbation.specs.declared.edits.PlaceError.{PlaceError}
use Rattle.perturbation.specs.declared.edits.PlaceError.TheVariants as Lacks
use Rattle.proof_tree.specs.Verdicts.{HasLength}
use Rattle.proof_tree.specs.declared.claims.Claim.{Claim}
use Rattle.proof_tree.specs.declared.claims.Claim.TheVariants as Claims
use Rattle.question_text.specs.declared.questions.AimText.{AimText}
use Rattle.question_text.specs.declared.questions.AimText.TheVariants.{Best, Keep}
use Rattle.range_finder.specs.Aims.{HasCoordinates}
use Rattle.range_laws.specs.Ranges.{PlainAim, keep, stay_best}
use Rattle.tree_replies.specs.Refusals.{aim_at, aim_of, asked_at, asked_of, kept}
use Rattle.tree_replies.specs.declared.refusals.Refusal.{Refusal}

-- the place and the aim are those that were found
aim_found : (at place : Place) (r : Result PlainAim Refusal) (wanted : PlainAim) → aim_at at r ≡ Ok (place, wanted)
    → (at ≡ place) × (r ≡ Ok wanted)
aim_found at place (Err why) wanted e = absurd (cc e)
aim_found at place (Ok aim) wanted e =
    let pair : (at, aim) ≡ (place, wanted) = cc e in
    (ap (λ (p : Place × PlainAim). p.0) pair, ap (λ (p : Place × PlainAim). Ok p.1) pair)

both_found : (r : Result Place PlaceError) (aim : Result PlainAim Refusal) (place : Place) (wanted : PlainAim)
    → asked_at r aim ≡ Ok (place, wanted) → (r ≡ Ok place) × (aim ≡ Ok wanted)
both_found (Err Lacks.UnknownName) aim place wanted e = absurd (cc e)
both_found (Err Lacks.NoSide) aim place wanted e = absurd (cc e)
both_found (Ok at) aim place wanted e = let found = aim_found at place aim wanted e in (ap Ok found.0, found.1)

-- so the place exists
pub asked_exists : (m : Parts) (c : Claim) (datum : Datum) (aim : AimText) (place : Place) (wanted : PlainAim)
    → asked_of m c datum aim ≡ Ok (place, wanted) → Exists m place
asked_exists m c datum aim place wanted e =
    located_exists m datum place (both_found (located m datum) (aim_of m.cost_decimals c aim) place wanted e).0

-- and a point that is to stay optimal has the coordinates of the claimed one
kept_point : (n : ℕ) (o : Option ℤ) (wanted : PlainAim) → kept o ≡ Ok wanted → HasCoordinates n wanted
kept_point n None wanted e = absurd (cc e)
kept_point n (Some w) wanted e = let same : keep w ≡ wanted = cc e in subst (HasCoordinates n) same tt

aim_point : (n decimals : ℕ) (c : Claim) (aim : AimText) (wanted : PlainAim) → HasLength n c → aim_of decimals c aim ≡ Ok wanted
    → HasCoordinates n wanted
aim_point n decimals (Claims.Best x) Best wanted long e = let same : stay_best x ≡ wanted = cc e in subst (HasCoordinates n) same long
aim_point n decimals Claims.Empty Best wanted long e = absurd (cc e)
aim_point n decimals c (Keep (Large negative)) wanted long e = absurd (cc e)
aim_point n decimals c (Keep (Dec units written)) wanted long e = kept_point n (exact_units (Dec units written) decimals) wanted e

pub asked_point : (m : Parts) (c : Claim) (datum : Datum) (aim : AimText) (place : Place) (wanted : PlainAim)
    → HasLength (length m.columns) c → asked_of m c datum aim ≡ Ok (place, wanted) → HasCoordinates (length m.columns) wanted
asked_point m c datum aim place wanted long e =
    aim_point (length m.columns) m.cost_decimals c aim wanted long
    (both_found (located m datum) (aim_of m.cost_decimals c aim) place wanted e).1
