use Rattle.std.specs.Prelude.{◌≡◌, ◌∷◌, [], length, vec_len, Err}
use Rattle.std.proofs.Common.{ap, sym, ◌∙◌, subst}
use Rattle.ips_io.specs.declared.reading.ReadError.TheVariants as Reading
use Rattle.proof_tree.specs.Trees.{plain}
use Rattle.question_text.specs.QuestionFiles.{questions_of}
use Rattle.ipsens_core.specs.Answers.{Answer}
use Rattle.ipsens_core.specs.Ask.{AnswersQuestions}
use Rattle.ipsens_core.specs.Internal.Made.{IsWritten, answer_of}
use Rattle.ipsens_core.specs.Questions.{OwedToText, ReadsQuestions, longest_questions}
use Rattle.ipsens_core.specs.Reads.{Agrees}
use Rattle.ipsens_core.specs.Runs.{IsOwed}
use Rattle.ipsens_core.proofs.AskLaws.{long_questions_owed, questions_owed}
use Rattle.ipsens_core.specs.Internal.Files.{IsFileTooLong}
use Rattle.ipsens_core.proofs.ReadLaws.{long_read, one_read}
use Rattle.ipsens_core.proofs.RunLaws.{made_prepared}
use Rattle.ipsens_core.proofs.question_files.answered.Goals as goal

pub returns-in_ok-answer_to_text-in-Ok-clause-prepared : goal.returns-in_ok-answer_to_text-in-Ok-clause-prepared
returns-in_ok-answer_to_text-in-Ok-clause-prepared g c =
    let Owed = AnswersQuestions c.args.model.now c.args.proof.now.claim (plain c.args.proof.now.tree) in
    let files = g.S.Shelf.files c.args.shelf.now in
    let files_after = g.S.Shelf.files c.read_all.new.shelf in
    let made = c.in_ok-answer_to_text-in-Ok.field-0 in
    let bytes = c.in-Ok.text.items in
    let size : length bytes ≡ vec_len c.in-Ok.text = ap length (sym c.as_slice.ensures.value) ∙ c.as_slice.ensures.len in
    let agrees = one_read files files_after c.as_str.result.now bytes c.read_all.ensures.files c.read_all.ensures.unknown
    c.in-Ok.ensures.whole in
    let named = subst (λ nm. Agrees files files_after ((nm, bytes) ∷ [])) c.as_str.ensures agrees in
    let text = subst (λ bs. OwedToText Owed (questions_of bs) (answer_of made)) c.as_slice.ensures.value
    c.in_ok-answer_to_text-in-Ok.ensures.owed in
    let owed = questions_owed c.args.name.now bytes Owed files files_after (answer_of made) named (rw size c.in-Ok.ensures.length) text in
    made_prepared _ files files_after _ _ _ _ made c.in_ok-answer_to_text-in-Ok.ensures.written owed c.read_all.ensures.files
    (c.in-Ok.ensures.no_fault (λ e. cc e)) c.in-Ok.ensures.saves

pub returns-in_ok-too_long-in-Err-TooLong-clause-prepared : goal.returns-in_ok-too_long-in-Err-TooLong-clause-prepared
returns-in_ok-too_long-in-Err-TooLong-clause-prepared g c =
    let Owed = AnswersQuestions c.args.model.now c.args.proof.now.claim (plain c.args.proof.now.tree) in
    let files = g.S.Shelf.files c.args.shelf.now in
    let files_after = g.S.Shelf.files c.read_all.new.shelf in
    let made = c.in_ok-too_long-in-Err-TooLong.field-0 in
    let is = c.in_ok-too_long-in-Err-TooLong.ensures in
    let long = long_read files files_after c.as_str.result.now longest_questions c.read_all.ensures.files c.read_all.ensures.unknown
    (c.in-Err-TooLong.ensures.too_long (ap Err c.in-Err-TooLong.field-0-is)) in
    let named = subst (λ nm. IsFileTooLong files files_after nm longest_questions) c.as_str.ensures long in
    let owed = subst (IsOwed (ReadsQuestions c.args.name.now Owed) files files_after) (sym is)
    (long_questions_owed c.args.name.now Owed files files_after named) in
    let written = subst (λ (a : Answer). IsWritten a.status) (sym is) tt in
    made_prepared _ files files_after _ _ _ _ made written owed c.read_all.ensures.files
    (c.in-Err-TooLong.ensures.no_fault (λ e.
    let same : c.in-Err-TooLong.field-0 ≡ Reading.Fault = cc e in
    let both : Reading.TooLong ≡ Reading.Fault = sym c.in-Err-TooLong.field-0-is ∙ same in
    cc both))
    c.in-Err-TooLong.ensures.saves
