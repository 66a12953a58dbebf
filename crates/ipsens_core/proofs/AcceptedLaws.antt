-- A proof that is proved, and questions of which none is refused, are answered.
use Rattle.std.specs.Prelude.{◌≡◌, ◌≢◌, ℕ, List, [], ◌∷◌, length, nat_lt, false, Option, Some, None, codes}
use Rattle.std.specs.Bool.{MatchBool}
use Rattle.std.specs.Option.{MatchOption}
use Rattle.std.proofs.Common.{refl, ap, sym, ◌∙◌, subst, inl, inr}
use Rattle.ip_defs.specs.declared.programs.Parts.{Parts}
use Rattle.ips_io.specs.Files.{Files, file_of}
use Rattle.mps_defs.specs.Faults.{mps_fault, model_of}
use Rattle.mps_defs.specs.declared.reading.How.{How}
use Rattle.proof_tree.specs.Trees.{PlainTree, tree_bound}
use Rattle.proof_tree.specs.Verdicts.{judged}
use Rattle.proof_tree.specs.declared.claims.Claim.{Claim}
use Rattle.proof_tree.specs.declared.verdicts.Verdict.{Verdict}
use Rattle.proof_tree.specs.declared.verdicts.Verdict.TheVariants.{Proved, NotFeasible, Short}
use Rattle.question_text.specs.QuestionFiles.{questions_of}
use Rattle.tree_checker.specs.Streams.{first_misfit}
use Rattle.tree_format.proofs.DecodingLaws.{spelled_once}
use Rattle.tree_format.proofs.SpellingLaws.{spellings_are_read}
use Rattle.tree_format.specs.Grammar.{first_fault}
use Rattle.tree_replies.specs.Refusals.{first_refusal}
use Rattle.ips_words.specs.declared.requests.Request.{Request}
use Rattle.ips_words.specs.declared.requests.Request.TheVariants.{Solve, Check, Ask, Sweep, Recheck, Show, Trial}
use Rattle.ipsens_core.specs.Accepted.{AreAccepted, AsksAccepted, HasFile, IsAnsweredUnless, SpellProved, WritesAccepted}
use Rattle.ipsens_core.specs.Answers.{Answer, ReadsFile, ReadsNoMore, says}
use Rattle.ipsens_core.specs.Ask.{AnswersAsk, AnswersQuestions, AsksVerdict, HasReplies}
use Rattle.ipsens_core.specs.Check.{verdict_status}
use Rattle.ipsens_core.specs.ModelRefusals.{refusal_text}
use Rattle.ipsens_core.specs.Models.{ReadsModel, longest_model, reading, refuses_model}
use Rattle.ipsens_core.specs.QuestionRefusals.{refused_question}
use Rattle.ipsens_core.specs.Questions.{OwedToText, ReadsQuestions, longest_questions, refuses_questions}
use Rattle.ipsens_core.specs.Reads.{AreOf, Reads}
use Rattle.ipsens_core.specs.Runs.{AnswersRequest, IsAnswered, IsOwed, Outside, RunMeets}
use Rattle.ipsens_core.specs.TreeRefusals.{fault_text, misfit_text}
use Rattle.ipsens_core.specs.Trees.{ReadsProof, longest_tree, refuses_tree}
use Rattle.ipsens_core.specs.declared.statuses.Status.{Status}
use Rattle.ipsens_core.specs.declared.statuses.Status.TheVariants.{Answered, NotProved, Usage, Refused, Budget, Wide, ReadFault}
use Rattle.ipsens_core.specs.declared.statuses.Status.TheVariants.{WriteFault, Memory}
use Rattle.ipsens_core.proofs.CheckLaws.{judged_is}
use Rattle.ipsens_core.proofs.FileLaws.{is_within}

-- ---- one file

-- the next file that is read is the one of its name in the table, and the rest is owed to its bytes
pub record HasRead (table : Files) (after : Option Files) (Rest : Reads → Answer → Type 0) (a : Answer) : Type 0 where
  pub more : Reads
  pub agrees : AreOf table after more
  pub rest : Rest more a

file_read : (table : Files) (after : Option Files) (name bytes : List ℕ) (longest : ℕ) (too_long : Answer)
    (Rest : List ℕ → Reads → Answer → Type 0) (rs : Reads) (a : Answer) → HasFile table name longest bytes → AreOf table after rs
    → ReadsFile name longest too_long Rest rs a → HasRead table after (Rest bytes) a
file_read table after name bytes longest too_long Rest [] a has of is = absurd is
file_read table after name bytes longest too_long Rest (r ∷ rs) a has of is =
    let found : file_of table r.0 ≡ Some bytes = ap (file_of table) is.0 ∙ has.file in
    let read = subst (λ o. MatchOption o (after ≡ None) (λ b. (b ≡ r.1) × AreOf table after rs)) found of in
    let short : nat_lt longest (length r.1) ≡ false =
    subst (λ bs. nat_lt longest (length bs) ≡ false) read.0 (is_within longest (length bytes) has.short) in
    let rest = subst (λ t. MatchBool t ((rs ≡ []) × (a ≡ too_long)) (Rest r.1 rs a)) short is.1 in
    record { more = rs; agrees = read.1; rest = subst (λ bs. Rest bs rs a) (sym read.0) rest }

-- what is owed where an option is none
at_none : {A : Type 0} (o : Option A) (P : Type 0) (Q : A → Type 0) → o ≡ None → MatchOption o P Q → P
at_none o P Q e h = subst (λ x. MatchOption x P Q) e h

-- ---- the questions, the proof, the model

questions_answered : (m : Parts) (c : Claim) (t : PlainTree) (bytes : List ℕ) (a : Answer) → WritesAccepted m c bytes
    → OwedToText (AnswersQuestions m c t) (questions_of bytes) a → a.status ≡ Answered
questions_answered m c t bytes a asked is =
    let owed = subst (λ r. OwedToText (AnswersQuestions m c t) r a) asked.written is in
    let replied = at_none (first_refusal m c asked.questions) (HasReplies m c t asked.questions a)
    (λ r. a ≡ says Refused (refused_question r.0 r.1)) asked.accepted owed in
    ap (λ (b : Answer). b.status) replied.answer

-- a proof that is proved lets the questions be read
questions_asked : (questions : List ℕ) (m : Parts) (c : Claim) (t : PlainTree) (v : Verdict) (rs : Reads) (a : Answer)
    → verdict_status v ≡ Answered → AsksVerdict questions m c t v rs a → ReadsQuestions questions (AnswersQuestions m c t) rs a
questions_asked questions m c t (Proved w) rs a e is = is.1
questions_asked questions m c t (NotFeasible breach) rs a e is = absurd cc
questions_asked questions m c t (Short bound w) rs a e is = absurd cc

-- what is owed to a claim and a tree that bytes spell
abbrev AsksProof : List ℕ → Parts → Reads → Answer → Claim → PlainTree → Type 0
AsksProof questions m rs a c t = AsksVerdict questions m c t (judged m c (tree_bound m t)) rs a

abbrev AsksFitting : List ℕ → Parts → Reads → Answer → Claim → PlainTree → Type 0
AsksFitting questions m rs a c t =
    MatchOption (first_misfit m c t) (AsksProof questions m rs a c t) (λ s. ReadsNoMore (λ b. b ≡ refuses_tree (misfit_text s)) rs a)

proof_answered : (table : Files) (after : Option Files) (m : Parts) (c : Claim) (t : PlainTree) (tree_bytes questions bytes : List ℕ)
    (rs : Reads) (a : Answer) → SpellProved m tree_bytes c t → HasFile table questions longest_questions bytes
    → WritesAccepted m c bytes → AreOf table after rs
    → ReadsProof tree_bytes m (λ d u. AsksVerdict questions m d u (judged m d (tree_bound m u))) rs a → a.status ≡ Answered
proof_answered table after m c t tree_bytes questions bytes rs a proof file asked of is =
    let same = spelled_once tree_bytes is.0 c is.1 t is.2 proof.spelled in
    let of_claim = subst (λ d. AsksFitting questions m rs a d is.1) same.0 is.3 in
    let fitting = subst (λ u. AsksFitting questions m rs a c u) same.1 of_claim in
    let judged_so = at_none (first_misfit m c t) (AsksProof questions m rs a c t)
    (λ s. ReadsNoMore (λ b. b ≡ refuses_tree (misfit_text s)) rs a) proof.fits fitting in
    let right = (judged_is m c t proof.fits).proved.1 proof.proved in
    let to_read = questions_asked questions m c t (judged m c (tree_bound m t)) rs a right judged_so in
    let read = file_read table after questions bytes longest_questions (refuses_questions (codes "too long"))
    (λ bs. ReadsNoMore (OwedToText (AnswersQuestions m c t) (questions_of bs))) rs a file of to_read in
    questions_answered m c t bytes a asked read.rest.1

tree_answered : (table : Files) (after : Option Files) (m : Parts) (c : Claim) (t : PlainTree)
    (tree tree_bytes questions bytes : List ℕ) (rs : Reads) (a : Answer) → HasFile table tree longest_tree tree_bytes
    → SpellProved m tree_bytes c t → HasFile table questions longest_questions bytes → WritesAccepted m c bytes → AreOf table after rs
    → AnswersAsk tree questions m rs a → a.status ≡ Answered
tree_answered table after m c t tree tree_bytes questions bytes rs a tree_file proof file asked of is =
    let Rest = λ (d : Claim) (u : PlainTree). AsksVerdict questions m d u (judged m d (tree_bound m u)) in
    let read = file_read table after tree tree_bytes longest_tree (refuses_tree (codes "too long"))
    (λ bs more b. MatchOption (first_fault bs) (ReadsProof bs m Rest more b)
    (λ e. ReadsNoMore (λ d. d ≡ refuses_tree (fault_text e)) more b)) rs a tree_file of is in
    let sound = (spellings_are_read tree_bytes c t proof.spelled).0 in
    let spelled = at_none (first_fault tree_bytes) (ReadsProof tree_bytes m Rest read.more a)
    (λ e. ReadsNoMore (λ d. d ≡ refuses_tree (fault_text e)) read.more a) sound read.rest in
    proof_answered table after m c t tree_bytes questions bytes read.more a proof file asked read.agrees spelled

model_answered : (table : Files) (after : Option Files) (how : How) (model tree questions : List ℕ) (rs : Reads) (a : Answer)
    → AreAccepted table how model tree questions → AreOf table after rs → ReadsModel model how (AnswersAsk tree questions) rs a
    → a.status ≡ Answered
model_answered table after how model tree questions rs a files of is =
    let bytes = files.model_bytes in
    let m = model_of bytes how in
    let read = file_read table after model bytes longest_model (refuses_model (codes "too long"))
    (λ bs more b. MatchOption (mps_fault bs how) (AnswersAsk tree questions (model_of bs how) more b)
    (λ e. ReadsNoMore (λ d. d ≡ refuses_model (refusal_text e)) more b)) rs a files.model_file of is in
    let owed = at_none (mps_fault bytes how) (AnswersAsk tree questions m read.more a)
    (λ e. ReadsNoMore (λ d. d ≡ refuses_model (refusal_text e)) read.more a) files.sound read.rest in
    tree_answered table after m files.claim files.plain_tree tree files.tree_bytes questions files.question_bytes read.more a
    files.tree_file files.proof files.question_file files.asked read.agrees owed

-- ---- the request

owed_answered : (q : Request) (before after : Option Files) (a : Answer) → AsksAccepted before q → IsOwed (AnswersRequest q) before after a
    → a.status ≡ Answered
owed_answered q None after a files owed = absurd files
owed_answered (Ask model tree questions digits box_side) (Some table) after a files owed =
    model_answered table after (reading digits box_side) model tree questions owed.reads a files owed.agrees owed.run
owed_answered (Solve model tree nodes depth pivots digits box_side) (Some table) after a files owed = absurd files
owed_answered (Check model tree digits box_side) (Some table) after a files owed = absurd files
owed_answered (Sweep model sweep proof nodes depth pivots digits box_side) (Some table) after a files owed = absurd files
owed_answered (Recheck model sweep proof digits box_side) (Some table) after a files owed = absurd files
owed_answered (Show model digits box_side) (Some table) after a files owed = absurd files
owed_answered (Trial number) (Some table) after a files owed = absurd files

no_other : (q : Request) (o : Outside) (status : Status) → status ≢ Answered → AsksAccepted o.files q
    → IsAnswered (AnswersRequest q) o status → ⊥
no_other q o status not files is = not (sym is.status_is ∙ owed_answered q o.files is.read is.answer files is.owed)

pub accepted_answered : (q : Request) (o : Outside) (status : Status) → RunMeets (AnswersRequest q) o status → status ≢ Usage
    → AsksAccepted o.files q → IsAnsweredUnless status
accepted_answered q o Answered meets not files = inl refl
accepted_answered q o ReadFault meets not files = inr (inl refl)
accepted_answered q o WriteFault meets not files = inr (inr (inl refl))
accepted_answered q o Memory meets not files = inr (inr (inr refl))
accepted_answered q o Usage meets not files = absurd (not refl)
accepted_answered q o NotProved meets not files = absurd (no_other q o NotProved (λ e. cc e) files meets)
accepted_answered q o Refused meets not files = absurd (no_other q o Refused (λ e. cc e) files meets)
accepted_answered q o Budget meets not files = absurd (no_other q o Budget (λ e. cc e) files meets)
accepted_answered q o Wide meets not files = absurd (no_other q o Wide (λ e. cc e) files meets)
