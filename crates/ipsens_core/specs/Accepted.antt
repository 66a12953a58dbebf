-- Files that `ask` answers: a model, a proof of it that is proved, and questions of which none is refused.
use Rattle.std.specs.Prelude.{◌≡◌, ◌⊎◌, ◌≤◌, ℕ, List, length, Option, None, Some, Ok}
use Rattle.ip_defs.specs.declared.programs.Parts.{Parts}
use Rattle.ips_io.specs.Files.{Files, file_of}
use Rattle.mps_defs.specs.Faults.{mps_fault, model_of}
use Rattle.mps_defs.specs.declared.reading.How.{How}
use Rattle.proof_tree.specs.Trees.{PlainTree, tree_bound}
use Rattle.proof_tree.specs.Verdicts.{AreProvedBy}
use Rattle.proof_tree.specs.declared.claims.Claim.{Claim}
use Rattle.question_text.specs.QuestionFiles.{questions_of}
use Rattle.question_text.specs.declared.questions.Question.{Question}
use Rattle.tree_checker.specs.Streams.{first_misfit}
use Rattle.tree_format.specs.Spellings.{Spells}
use Rattle.tree_replies.specs.Refusals.{first_refusal}
use Rattle.ips_words.specs.declared.requests.Request.{Request}
use Rattle.ips_words.specs.declared.requests.Request.TheVariants.{Solve, Check, Ask, Sweep, Recheck, Show, Trial}
use Rattle.ipsens_core.specs.Models.{longest_model, reading}
use Rattle.ipsens_core.specs.Questions.{longest_questions}
use Rattle.ipsens_core.specs.Trees.{longest_tree}
use Rattle.ipsens_core.specs.declared.statuses.Status.{Status}
use Rattle.ipsens_core.specs.declared.statuses.Status.TheVariants.{Answered, ReadFault, WriteFault, Memory}

-- a table has a file of a name with these bytes, within its length
pub record HasFile (table : Files) (name : List ℕ) (longest : ℕ) (bytes : List ℕ) : Type 0 where
  pub file : file_of table name ≡ Some bytes
  pub short : length bytes ≤ longest

-- bytes spell a proof that fits a model and is proved there
pub record SpellProved (m : Parts) (bytes : List ℕ) (c : Claim) (t : PlainTree) : Type 0 where
  pub spelled : Spells bytes c t
  pub fits : first_misfit m c t ≡ None
  pub proved : AreProvedBy m c (tree_bound m t)

-- a text writes questions about a model, and none is refused by a claim
pub record WritesAccepted (m : Parts) (c : Claim) (bytes : List ℕ) : Type 0 where
  pub questions : List Question
  pub written : questions_of bytes ≡ Ok questions
  pub accepted : first_refusal m c questions ≡ None

-- a table has a model, a proof and questions of these names that are answered
pub record AreAccepted (table : Files) (how : How) (model tree questions : List ℕ) : Type 0 where
  pub model_bytes : List ℕ
  pub model_file : HasFile table model longest_model model_bytes
  pub sound : mps_fault model_bytes how ≡ None
  pub tree_bytes : List ℕ
  pub tree_file : HasFile table tree longest_tree tree_bytes
  pub claim : Claim
  pub plain_tree : PlainTree
  pub proof : SpellProved (model_of model_bytes how) tree_bytes claim plain_tree
  pub question_bytes : List ℕ
  pub question_file : HasFile table questions longest_questions question_bytes
  pub asked : WritesAccepted (model_of model_bytes how) claim question_bytes

-- the files are known, and a request asks for answers to such
abbrev pub AsksAccepted : Option Files → Request → Type 0
AsksAccepted None q = ⊥
AsksAccepted (Some table) (Ask model tree questions digits box_side) = AreAccepted table (reading digits box_side) model tree questions
AsksAccepted (Some table) (Solve model tree nodes depth pivots digits box_side) = ⊥
AsksAccepted (Some table) (Check model tree digits box_side) = ⊥
AsksAccepted (Some table) (Sweep model sweep proof nodes depth pivots digits box_side) = ⊥
AsksAccepted (Some table) (Recheck model sweep proof digits box_side) = ⊥
AsksAccepted (Some table) (Show model digits box_side) = ⊥
AsksAccepted (Some table) (Trial number) = ⊥

-- the status of an answer, unless reading or writing failed or memory ran out
abbrev pub IsAnsweredUnless : Status → Type 0
IsAnsweredUnless status = (status ≡ Answered) ⊎ ((status ≡ ReadFault) ⊎ ((status ≡ WriteFault) ⊎ (status ≡ Memory)))
