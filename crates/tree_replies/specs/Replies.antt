-- Questions about changed models: the reply that is owed to each by a proof.
use Rattle.std.specs.Prelude.{◌≡◌, List, [], ◌∷◌, ℤ, ◌≤ℤ◌, Option, IfSome, Ok}
use Rattle.ip_defs.specs.Certificates.{IsAtMost}
use Rattle.ip_defs.specs.Program.{IsFeasible, cost}
use Rattle.ip_defs.specs.declared.programs.Parts.{Parts}
use Rattle.ip_model.specs.declared.places.Place.{Place}
use Rattle.ip_model.specs.Places.{raised}
use Rattle.perturbation.specs.Edits.{decimals_at, edited_by}
use Rattle.perturbation.specs.declared.edits.Datum.{Datum}
use Rattle.perturbation.specs.declared.edits.Edit.{Edit}
use Rattle.proof_tree.specs.Trees.{PlainTree, tree_bound}
use Rattle.proof_tree.specs.declared.claims.Claim.{Claim}
use Rattle.question_text.specs.declared.questions.AimText.{AimText}
use Rattle.question_text.specs.declared.questions.Question.{Question}
use Rattle.question_text.specs.declared.questions.Question.TheVariants.{Ask, Range}
use Rattle.range_laws.specs.Laws.{Holds}
use Rattle.range_laws.specs.Ranges.{PlainAim, IsRange}
use Rattle.sens_report.specs.declared.replies.Reply.{Reply}
use Rattle.sens_report.specs.declared.replies.Reply.TheVariants as Replied
use Rattle.tree_replies.specs.Refusals.{asked_of}

-- a reply to the question after the bound of a model with edits: it is the bound of the tree for that model, box and all, and each feasible
-- point of that model costs at least as much
pub record IsBoundReply (m : Parts) (t : PlainTree) (es : List Edit) (r : Reply) : Type 0 where
  pub model : Parts
  pub edited : edited_by m es ≡ Ok model
  pub bound : r ≡ Replied.Bound (tree_bound model t) model.cost_decimals
  pub holds : (x : List ℤ) → IsFeasible model x → IsAtMost (tree_bound model t) (cost model x)

-- an aim holds after each change of the number at a place from the first end of a run to the last
abbrev pub HoldsWithin : Parts → Place → PlainAim → ℤ × ℤ → Type 0
HoldsWithin m place aim run = (e : ℤ) → run.0 ≤ℤ e → e ≤ℤ run.1 → Holds aim (raised m place e)

-- a reply to the question after the range of a datum, in the units of the datum: it is the longest run of good changes around 0 for the
-- tree, and the aim holds after each of them: the claimed point is optimal, or each feasible point costs at least the number to keep
pub record IsRangeReply (m : Parts) (c : Claim) (t : PlainTree) (datum : Datum) (aim : AimText) (r : Reply) : Type 0 where
  pub place : Place
  pub wanted : PlainAim
  pub asked : asked_of m c datum aim ≡ Ok (place, wanted)
  pub run : Option (ℤ × ℤ)
  pub reply : r ≡ Replied.Range run (decimals_at m place)
  pub range : IsRange m t place wanted run
  pub holds : IfSome run (HoldsWithin m place wanted)

-- a reply to a question
abbrev pub IsReply : Parts → Claim → PlainTree → Question → Reply → Type 0
IsReply m c t (Ask es) r = IsBoundReply m t es r
IsReply m c t (Range datum aim) r = IsRangeReply m c t datum aim r

-- a reply to each question, in order
abbrev pub AreReplies : Parts → Claim → PlainTree → List Question → List Reply → Type 0
AreReplies m c t [] [] = Unit {0}
AreReplies m c t [] (r ∷ rs) = ⊥
AreReplies m c t (q ∷ qs) [] = ⊥
AreReplies m c t (q ∷ qs) (r ∷ rs) = IsReply m c t q r × AreReplies m c t qs rs
