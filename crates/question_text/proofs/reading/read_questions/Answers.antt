use Rattle.std.proofs.Common.{subst}
use Rattle.question_text.specs.Lines.{Answers, due, lines_of}
use Rattle.question_text.specs.QuestionFiles.{question_faults, questions_in}
use Rattle.question_text.proofs.AnswerLaws.{no_utf8, utf8_answer}
use Rattle.question_text.proofs.reading.read_questions.Goals as goal

pub returns-in-Ok-clause-questions : goal.returns-in-Ok-clause-questions
returns-in-Ok-clause-questions c =
    let text = c.args.text.now in
    let given = c.in-Ok.ensures.cases in
    utf8_answer text (due (question_faults text) (questions_in (lines_of text))) c.questions_of.result given.1
    (subst (λ t. Answers (due (question_faults t) (questions_in (lines_of t))) c.questions_of.result) given.0
    c.questions_of.ensures.questions)

pub returns-in-Err-clause-questions : goal.returns-in-Err-clause-questions
returns-in-Err-clause-questions c =
    let text = c.args.text.now in
    no_utf8 text (due (question_faults text) (questions_in (lines_of text))) c.in-Err.ensures.cases.0
