-- Questions about changed models that are refused: the first of them, and why. Of a range: what it asks for, or why it is refused.
use Rattle.std.specs.Prelude.{◌≡◌, ℕ, List, ℤ, Option, Some, None, option_map, Result, Ok, Err}
use Rattle.ip_defs.specs.declared.programs.Parts.{Parts}
use Rattle.ip_model.specs.declared.places.Place.{Place}
use Rattle.mps_defs.specs.Numbers.{exact_units}
use Rattle.mps_defs.specs.declared.reading.Number.{Number}
use Rattle.mps_defs.specs.declared.reading.Number.TheVariants.{Dec, Large}
use Rattle.perturbation.specs.Edits.{edited_by, located}
use Rattle.perturbation.specs.declared.edits.Datum.{Datum}
use Rattle.perturbation.specs.declared.edits.EditError.{EditError}
use Rattle.perturbation.specs.declared.edits.EditError.TheVariants as Refused
use Rattle.perturbation.specs.declared.edits.PlaceError.{PlaceError}
use Rattle.perturbation.specs.declared.edits.PlaceError.TheVariants as Lacks
use Rattle.proof_tree.specs.Trees.{first_from}
use Rattle.proof_tree.specs.declared.claims.Claim.{Claim}
use Rattle.proof_tree.specs.declared.claims.Claim.TheVariants as Claims
use Rattle.question_text.specs.declared.questions.AimText.{AimText}
use Rattle.question_text.specs.declared.questions.AimText.TheVariants.{Best, Keep}
use Rattle.question_text.specs.declared.questions.Question.{Question}
use Rattle.question_text.specs.declared.questions.Question.TheVariants.{Ask, Range}
use Rattle.range_laws.specs.Ranges.{PlainAim, keep, stay_best}
use Rattle.tree_replies.specs.declared.refusals.QuestionError.{QuestionError}
use Rattle.tree_replies.specs.declared.refusals.QuestionError.TheVariants as Ends
use Rattle.tree_replies.specs.declared.refusals.Refusal.{Refusal}
use Rattle.tree_replies.specs.declared.refusals.Refusal.TheVariants as Why

-- ---- what a range question asks for

-- the number to keep, where it is whole in the units of the costs. The datum and the number of a range count as edit 0
abbrev pub kept : Option ℤ → Result PlainAim Refusal
kept None = Err (Why.Edit (Refused.OffGrid 0))
kept (Some w) = Ok (keep w)

abbrev pub kept_number : ℕ → Number → Result PlainAim Refusal
kept_number decimals (Large negative) = Err (Why.Edit (Refused.Limit 0))
kept_number decimals (Dec units written) = kept (exact_units (Dec units written) decimals)

-- the point that a proof claims to be optimal, which is to stay so
abbrev pub claimed_best : Claim → Result PlainAim Refusal
claimed_best (Claims.Best x) = Ok (stay_best x)
claimed_best Claims.Empty = Err Why.NoBest

-- the aim of a range that is asked of a proof, where the costs have these decimals
abbrev pub aim_of : ℕ → Claim → AimText → Result PlainAim Refusal
aim_of decimals c Best = claimed_best c
aim_of decimals c (Keep number) = kept_number decimals number

-- an aim at a place, unless it is refused
abbrev pub aim_at : Place → Result PlainAim Refusal → Result (Place × PlainAim) Refusal
aim_at place (Err why) = Err why
aim_at place (Ok aim) = Ok (place, aim)

abbrev pub asked_at : Result Place PlaceError → Result PlainAim Refusal → Result (Place × PlainAim) Refusal
asked_at (Err Lacks.UnknownName) aim = Err (Why.Edit (Refused.UnknownName 0))
asked_at (Err Lacks.NoSide) aim = Err (Why.Edit (Refused.NoSide 0))
asked_at (Ok place) aim = aim_at place aim

-- the place and the aim of a range that is asked of a proof, or why it is refused: first that the datum has no place, then the aim
abbrev pub asked_of : Parts → Claim → Datum → AimText → Result (Place × PlainAim) Refusal
asked_of m c datum aim = asked_at (located m datum) (aim_of m.cost_decimals c aim)

-- ---- refusals

-- the refusal of edits that have no edited model
abbrev pub edit_refusal : Result Parts EditError → Option Refusal
edit_refusal (Ok n) = None
edit_refusal (Err e) = Some (Why.Edit e)

-- the refusal of a range
abbrev pub range_refusal : Result (Place × PlainAim) Refusal → Option Refusal
range_refusal (Ok asked) = None
range_refusal (Err why) = Some why

-- why a question about a model is refused, if it is
abbrev pub refusal_of : Parts → Claim → Question → Option Refusal
refusal_of m c (Ask es) = edit_refusal (edited_by m es)
refusal_of m c (Range datum aim) = range_refusal (asked_of m c datum aim)

-- the refusal of question k
abbrev pub refusal_at : Parts → Claim → ℕ → Question → Option (ℕ × Refusal)
refusal_at m c k q = option_map (λ why. (k, why)) (refusal_of m c q)

-- the first question of a list that is refused, by its number from 1, and why
abbrev pub first_refusal : Parts → Claim → List Question → Option (ℕ × Refusal)
first_refusal m c qs = first_from (refusal_at m c) 1 qs

-- an error is the first refusal, unless memory ran out
abbrev pub IsErrorOf : Option (ℕ × Refusal) → QuestionError → Type 0
IsErrorOf refusal (Ends.Refused k why) = refusal ≡ Some (k, why)
IsErrorOf refusal Ends.Memory = Unit {0}
