-- What is owed to a tree file whose proof is held, and to a questions file.
use Rattle.std.specs.Prelude.{◌≡◌, ◌≢◌, ℕ, ◌≤◌, List, [], ◌∷◌, length, Option, Some, None, Result, Ok, Err, codes, ℤ}
use Rattle.std.proofs.Common.{refl, ap, sym, ◌∙◌, subst}
use Rattle.std.proofs.lemmas.List.{length-map}
use Rattle.ip_defs.specs.Program.{box_of}
use Rattle.ip_defs.specs.declared.programs.Column.{Column}
use Rattle.ip_defs.specs.declared.programs.Parts.{Parts}
use Rattle.ips_io.specs.Files.{Files, Keeps}
use Rattle.ips_io.specs.Shelves.{BecomesUnknown, IsTooLong}
use Rattle.ips_io.specs.declared.reading.ReadError.{ReadError}
use Rattle.ips_io.specs.declared.reading.ReadError.TheVariants as Reading
use Rattle.leaf_cert.specs.Scratches.{FitsScratch}
use Rattle.leaf_cert.specs.declared.workspaces.Scratch.{Scratch}
use Rattle.proof_tree.specs.Scratches.{FitsWalk}
use Rattle.proof_tree.specs.Trees.{PlainTree, plain, tree_bound}
use Rattle.proof_tree.specs.Verdicts.{IsProvedVerdict, IsTrueClaim, judged}
use Rattle.proof_tree.specs.declared.claims.Claim.{Claim}
use Rattle.proof_tree.specs.declared.claims.Proof.{Proof}
use Rattle.proof_tree.specs.declared.verdicts.Verdict.{Verdict}
use Rattle.proof_tree.specs.declared.verdicts.Verdict.TheVariants.{Proved, NotFeasible, Short}
use Rattle.question_text.specs.QuestionFiles.{questions_of}
use Rattle.question_text.specs.Lines.{Answers}
use Rattle.question_text.specs.declared.errors.TextError.{TextError}
use Rattle.question_text.specs.declared.errors.TextError.TheVariants as TextFaults
use Rattle.question_text.specs.declared.questions.Question.{Question}
use Rattle.sens_report.specs.ReplyTexts.{reply_lines}
use Rattle.sens_report.specs.VerdictTexts.{verdict_line}
use Rattle.sens_report.specs.declared.replies.Reply.{Reply}
use Rattle.tree_checker.specs.Streams.{first_misfit}
use Rattle.tree_checker.specs.declared.streams.StreamError.{StreamError}
use Rattle.tree_checker.specs.declared.streams.StreamError.TheVariants as Errors
use Rattle.tree_format.proofs.SpellingLaws.{spellings_are_read}
use Rattle.tree_format.specs.Grammar.{IsErrorOf}
use Rattle.tree_format.specs.declared.errors.TreeError.{TreeError}
use Rattle.tree_format.specs.declared.errors.TreeError.TheVariants as Faults
use Rattle.tree_replies.specs.Refusals.{first_refusal}
use Rattle.tree_replies.specs.Replies.{AreReplies}
use Rattle.tree_replies.specs.declared.refusals.Refusal.{Refusal}
use Rattle.ipsens_core.specs.Answers.{Answer, says}
use Rattle.ipsens_core.specs.Ask.{AnswersQuestions, AsksVerdict}
use Rattle.ipsens_core.specs.Check.{IsJudged, verdict_answer}
use Rattle.ipsens_core.specs.Internal.Made.{IsPrepared, IsWritten, answer_of}
use Rattle.ipsens_core.specs.Internal.ProofFiles.{IsDecoded, IsProofFile, IsProofRead}
use Rattle.ipsens_core.specs.Internal.QuestionFiles.{IsMadeFor}
use Rattle.ipsens_core.specs.Internal.TreeFiles.{IsTreeTooLong, refuses_proof}
use Rattle.ipsens_core.specs.QuestionRefusals.{refused_question}
use Rattle.ipsens_core.specs.Questions.{OwedToText, ReadsQuestions, longest_questions, refuses_questions}
use Rattle.ipsens_core.specs.Reads.{Reads, Agrees}
use Rattle.ipsens_core.specs.Runs.{IsOwed}
use Rattle.ipsens_core.specs.Trees.{ReadsTree, longest_tree, refuses_tree}
use Rattle.ipsens_core.specs.declared.answers.Made.{Made}
use Rattle.ipsens_core.specs.declared.answers.Stop.{Stop}
use Rattle.ipsens_core.specs.declared.statuses.Status.{Status}
use Rattle.ipsens_core.specs.declared.statuses.Status.TheVariants.{Answered, NotProved, Refused}
use Rattle.ipsens_core.proofs.CheckLaws.{judged_is}
use Rattle.ipsens_core.proofs.FeedLaws.{tree_too_long}
use Rattle.ipsens_core.specs.Internal.Files.{IsFileTooLong}
use Rattle.ipsens_core.proofs.ReadLaws.{agrees_more, none_read}
use Rattle.ipsens_core.proofs.FileLaws.{is_above, is_within}
use Rattle.ipsens_core.proofs.RunLaws.{made_prepared, prepared_then}

-- ---- the tree file

-- a refusal of bytes that is not want of memory is their first fault
pub fault_named : (first : Option TreeError) (e : TreeError) → e ≢ Faults.Memory → IsErrorOf first e → first ≡ Some e
fault_named first (Faults.Magic p) not is = is
fault_named first (Faults.Cut p) not is = is
fault_named first (Faults.LongNumber p) not is = is
fault_named first (Faults.Order p) not is = is
fault_named first (Faults.Zero p) not is = is
fault_named first (Faults.Width p) not is = is
fault_named first (Faults.TooDeep p) not is = is
fault_named first (Faults.TooMany p) not is = is
fault_named first (Faults.Tail p) not is = is
fault_named first (Faults.Tag p) not is = is
fault_named first Faults.Memory not is = absurd (not refl)

-- the file was read, and its bytes spell a proof or have a fault
pub proof_read : (m : Parts) (name bytes : List ℕ) (before after : Option Files) (result : Result (Result Proof StreamError) ReadError)
    → Agrees before after ((name, bytes) ∷ []) → length bytes ≤ longest_tree → IsDecoded m bytes result
    → IsProofFile m before after name result
proof_read m name bytes before after (Ok r) agrees short is = record { bytes = bytes; agrees = agrees; short = short; proof = is }
proof_read m name bytes before after (Err Reading.TooLong) agrees short is = absurd is
proof_read m name bytes before after (Err Reading.Fault) agrees short is = tt
proof_read m name bytes before after (Err Reading.Memory) agrees short is = tt

-- reading ended without bytes
pub proof_unread : (m : Parts) (before after : Option Files) (name : List ℕ) (error : ReadError) → Keeps before after
    → BecomesUnknown before after name → (error ≡ Reading.TooLong → IsTooLong after name longest_tree)
    → IsProofFile m before after name (Err error)
proof_unread m before after name Reading.TooLong keeps unknown long = tree_too_long before after name keeps unknown (long refl)
proof_unread m before after name Reading.Fault keeps unknown long = tt
proof_unread m before after name Reading.Memory keeps unknown long = tt

-- what is owed to the proof and to the files after it is owed to the tree file and those
pub proof_owed : (m : Parts) (name : List ℕ) (Rest : Claim → PlainTree → Reads → Answer → Type 0) (before mid after : Option Files)
    (p : Proof) (a : Answer)
    → IsProofRead m before mid name (Ok p) → IsOwed (Rest p.claim (plain p.tree)) mid after a
    → IsOwed (ReadsTree name m Rest) before after a
proof_owed m name Rest before mid after p a read owed =
    let short = is_within longest_tree (length read.bytes) read.short in
    let sound = (spellings_are_read read.bytes p.claim (plain p.tree) read.proof.spelled).0 in
    record {
      reads = (name, read.bytes) ∷ owed.reads;
      agrees = agrees_more before mid after (name, read.bytes) owed.reads read.agrees owed.agrees;
      run = (refl, rw short (rw sound (p.claim, plain p.tree, read.proof.spelled, rw read.proof.fits owed.run)));
    }

-- the refusal of a tree file without a proof that fits is owed to it
pub no_proof_owed : (m : Parts) (name : List ℕ) (Rest : Claim → PlainTree → Reads → Answer → Type 0) (before after : Option Files)
    (error : StreamError) → IsProofRead m before after name (Err error) → IsOwed (ReadsTree name m Rest) before after (refuses_proof error)
no_proof_owed m name Rest before after (Errors.Tree e) read =
    let short = is_within longest_tree (length read.bytes) read.short in
    record { reads = (name, read.bytes) ∷ []; agrees = read.agrees; run = (refl, rw short (rw read.proof (refl, refl))) }
no_proof_owed m name Rest before after (Errors.Shape s) read =
    let short = is_within longest_tree (length read.bytes) read.short in
    let p = read.proof in
    let sound = (spellings_are_read read.bytes p.claim p.tree p.spelled).0 in
    record {
      reads = (name, read.bytes) ∷ [];
      agrees = read.agrees;
      run = (refl, rw short (rw sound (p.claim, p.tree, p.spelled, rw p.misfit (refl, refl))));
    }

-- so is that of one that is too long
pub long_proof_owed : (m : Parts) (name : List ℕ) (Rest : Claim → PlainTree → Reads → Answer → Type 0) (before after : Option Files)
    → IsTreeTooLong before after name → IsOwed (ReadsTree name m Rest) before after (refuses_tree (codes "too long"))
long_proof_owed m name Rest before after long =
    record {
      reads = (name, long.bytes) ∷ [];
      agrees = long.agrees;
      run = (refl, rw (is_above longest_tree (length long.bytes) long.long) (refl, refl));
    }

-- what is prepared for the proof and for the files after it is prepared for the tree file and those
pub proof_prepared : (m : Parts) (name : List ℕ) (Rest : Claim → PlainTree → Reads → Answer → Type 0) (before mid after : Option Files)
    (f f' f'' s s' s'' : ℕ) (p : Proof) (result : Result Made Stop)
    → IsProofRead m before mid name (Ok p) → Keeps before mid → f' ≡ f → s' ≡ s
    → IsPrepared (Rest p.claim (plain p.tree)) mid after f' f'' s' s'' result
    → IsPrepared (ReadsTree name m Rest) before after f f'' s s'' result
proof_prepared m name Rest before mid after f f' f'' s s' s'' p result read keeps same saves ready =
    prepared_then (Rest p.claim (plain p.tree)) (ReadsTree name m Rest) before mid after f f' f'' s s' s'' result
    (λ a owed. proof_owed m name Rest before mid after p a read owed) keeps same saves ready

pub no_proof_written : (error : StreamError) → IsWritten (refuses_proof error).status
no_proof_written (Errors.Tree e) = tt
no_proof_written (Errors.Shape s) = tt

-- ---- the verdict

-- a new scratch fits the walk through a tree
pub new_scratch : (m : Parts) (s : Scratch) → s.area ≡ box_of m → FitsScratch m s → FitsWalk (length m.columns) s
new_scratch m s area fits = record { area = ap length area ∙ length-map m.columns (λ (c : Column). (c.lo, c.hi)); taken = fits }

-- a proof that is proved lets the questions be asked
pub proved_prepared : (questions : List ℕ) (m : Parts) (c : Claim) (t : PlainTree) (v : Verdict) (w : Option ℤ)
    (before after : Option Files) (f f' s s' : ℕ) (result : Result Made Stop) → v ≡ judged m c (tree_bound m t)
    → v ≡ Proved w → (IsProvedVerdict v → IsTrueClaim m c)
    → IsPrepared (ReadsQuestions questions (AnswersQuestions m c t)) before after f f' s s' result
    → IsPrepared (AsksVerdict questions m c t (judged m c (tree_bound m t))) before after f f' s s' result
proved_prepared questions m c t v w before after f f' s s' result verdict is holds ready =
    let says_proved : judged m c (tree_bound m t) ≡ Proved w = sym verdict ∙ is in
    let true_claim = holds (subst IsProvedVerdict (sym is) tt) in
    prepared_then (ReadsQuestions questions (AnswersQuestions m c t)) (AsksVerdict questions m c t (judged m c (tree_bound m t))) before
    before after f f f' s s s' result
    (λ a owed. record { reads = owed.reads; agrees = owed.agrees; run = rw says_proved (true_claim, owed.run) }) (λ table known. known)
    refl refl
    ready

-- the verdict on another proof is what is owed
pub not_proved_owed : (questions : List ℕ) (m : Parts) (c : Claim) (t : PlainTree) (v : Verdict) (table : Option Files) (a : Answer)
    → first_misfit m c t ≡ None → v ≡ judged m c (tree_bound m t) → ((w : Option ℤ) → v ≡ Proved w → ⊥)
    → a ≡ says NotProved (verdict_line m v) → IsOwed (AsksVerdict questions m c t v) table table a
not_proved_owed questions m c t v table a fits verdict not is =
    by v (subst (λ u. IsJudged m c t (verdict_answer m u)) (sym verdict) (judged_is m c t fits)) not is
  where
    by : (v : Verdict) → IsJudged m c t (verdict_answer m v) → ((w : Option ℤ) → v ≡ Proved w → ⊥) → a ≡ says NotProved (verdict_line m v)
        → IsOwed (AsksVerdict questions m c t v) table table a
    by (Proved w) owed not is = absurd (not w refl)
    by (NotFeasible breach) owed not is =
        record { reads = []; agrees = none_read table; run = (refl, subst (IsJudged m c t) (sym is) owed) }
    by (Short bound w) owed not is =
        record { reads = []; agrees = none_read table; run = (refl, subst (IsJudged m c t) (sym is) owed) }

pub not_proved_prepared : (questions : List ℕ) (m : Parts) (c : Claim) (t : PlainTree) (v : Verdict) (table : Option Files) (f s : ℕ)
    (made : Made) → first_misfit m c t ≡ None → v ≡ judged m c (tree_bound m t) → ((w : Option ℤ) → v ≡ Proved w → ⊥)
    → answer_of made ≡ says NotProved (verdict_line m v)
    → IsPrepared (AsksVerdict questions m c t (judged m c (tree_bound m t))) table table f f s s (Ok made)
not_proved_prepared questions m c t v table f s made fits verdict not is =
    let written = subst (λ (a : Answer). IsWritten a.status) (sym is) tt in
    let owed = not_proved_owed questions m c t v table (answer_of made) fits verdict not is in
    subst (λ u. IsPrepared (AsksVerdict questions m c t u) table table f f s s (Ok made)) verdict
    (made_prepared (AsksVerdict questions m c t v) table table f f s s made written owed (λ t known. known) refl refl)

-- ---- the questions file

-- a refusal of a text that is not want of memory is its first fault
pub text_fault_named : (due : Result (List Question) TextError) (e : TextError) → e ≢ TextFaults.Memory → Answers due (Err e) → due ≡ Err e
text_fault_named due (TextFaults.Word n) not is = is
text_fault_named due (TextFaults.Number n) not is = is
text_fault_named due (TextFaults.Unended n) not is = is
text_fault_named due (TextFaults.Direction n) not is = is
text_fault_named due (TextFaults.Interval n) not is = is
text_fault_named due TextFaults.Memory not is = absurd (not refl)

-- an answer that says a text is owed and written
pub made_for : (Owed : Answer → Type 0) (made : Made) (status : Status) (text : List ℕ) → IsWritten status → Owed (says status text)
    → answer_of made ≡ says status text → IsMadeFor Owed made
made_for Owed made status text written owed is = record {
  written = subst (λ (a : Answer). IsWritten a.status) (sym is) written;
  owed = subst Owed (sym is) owed;
}

-- replies to all questions, and the refusal of the first that is refused
pub replies_owed : (m : Parts) (c : Claim) (t : PlainTree) (qs : List Question) (rs : List Reply) → AreReplies m c t qs rs
    → first_refusal m c qs ≡ None → AnswersQuestions m c t qs (says Answered (reply_lines rs))
replies_owed m c t qs rs are none = rw none (record { replies = rs; are = are; answer = refl })

pub refusal_owed : (m : Parts) (c : Claim) (t : PlainTree) (qs : List Question) (k : ℕ) (why : Refusal)
    → first_refusal m c qs ≡ Some (k, why) → AnswersQuestions m c t qs (says Refused (refused_question k why))
refusal_owed m c t qs k why is = rw is refl

-- an answer to the text of a questions file is owed to the file
pub questions_owed : (name bytes : List ℕ) (Owed : List Question → Answer → Type 0) (before after : Option Files) (a : Answer)
    → Agrees before after ((name, bytes) ∷ []) → length bytes ≤ longest_questions → OwedToText Owed (questions_of bytes) a
    → IsOwed (ReadsQuestions name Owed) before after a
questions_owed name bytes Owed before after a agrees short owed = record {
  reads = (name, bytes) ∷ [];
  agrees = agrees;
  run = (refl, rw (is_within longest_questions (length bytes) short) (refl, owed));
}

-- so is the refusal of one that is too long
pub long_questions_owed : (name : List ℕ) (Owed : List Question → Answer → Type 0) (before after : Option Files)
    → IsFileTooLong before after name longest_questions
    → IsOwed (ReadsQuestions name Owed) before after (refuses_questions (codes "too long"))
long_questions_owed name Owed before after long = record {
  reads = (name, long.bytes) ∷ [];
  agrees = long.agrees;
  run = (refl, rw (is_above longest_questions (length long.bytes) long.long) (refl, refl));
}
