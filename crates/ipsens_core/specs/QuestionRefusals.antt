-- The printed texts of the refusal of a questions file, and of a question.
use Rattle.std.specs.Prelude.{ℕ, List, [], ◌++◌, codes, decimal}
use Rattle.mps_defs.specs.CanonicalText.{newline}
use Rattle.ipsens_core.specs.ModelRefusals.{on_line}
use Rattle.ipsens_core.specs.Refusals.{refused}
use Rattle.perturbation.specs.declared.edits.EditError.{EditError}
use Rattle.perturbation.specs.declared.edits.EditError.TheVariants.{UnknownName, OffGrid, Limit, NoSide, Memory}
use Rattle.question_text.specs.declared.errors.TextError.{TextError}
use Rattle.question_text.specs.declared.errors.TextError.TheVariants as faults
use Rattle.tree_replies.specs.declared.refusals.Refusal.{Refusal}
use Rattle.tree_replies.specs.declared.refusals.Refusal.TheVariants.{Edit, NoBest}

-- ---- the file

-- the first fault of the text
abbrev pub text_fault : TextError → List ℕ
text_fault (faults.Word n) = codes "Q1" ++ on_line n
text_fault (faults.Number n) = codes "Q2" ++ on_line n
text_fault (faults.Unended n) = codes "Q3" ++ on_line n
text_fault (faults.Direction n) = codes "Q4" ++ on_line n
text_fault (faults.Interval n) = codes "Q5" ++ on_line n
text_fault faults.Memory = []

abbrev pub refused_questions : List ℕ → List ℕ
refused_questions why = refused (codes "questions") why

-- ---- a question

abbrev pub on_edit : ℕ → List ℕ
on_edit k = codes " edit " ++ decimal k

-- the refusal of an edit
abbrev pub edit_text : EditError → List ℕ
edit_text (UnknownName k) = codes "P1" ++ on_edit k
edit_text (OffGrid k) = codes "P2" ++ on_edit k
edit_text (Limit k) = codes "P3" ++ on_edit k
edit_text (NoSide k) = codes "P4" ++ on_edit k
edit_text Memory = []

abbrev pub why_text : Refusal → List ℕ
why_text (Edit e) = edit_text e
why_text NoBest = codes "A1"

-- the refusal of question k
abbrev pub refused_question : ℕ → Refusal → List ℕ
refused_question k why = codes "refused question " ++ decimal k ++ codes " " ++ why_text why ++ newline
