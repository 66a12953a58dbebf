use Rattle.std.proofs.Common.{subst}
use Rattle.question_text.specs.Lines.{Answers, line_after, lines_of}
use Rattle.question_text.specs.SweepFiles.{sweep_in}
use Rattle.question_text.proofs.AnswerLaws.{no_utf8, utf8_answer}
use Rattle.question_text.proofs.DistinctLaws.{answer_distinct}
use Rattle.question_text.proofs.FollowLaws.{answer_followable}
use Rattle.question_text.proofs.sweep_reading.read_sweep.Goals as goal

pub returns-in-Ok-clause-sweep : goal.returns-in-Ok-clause-sweep
returns-in-Ok-clause-sweep c =
    let text = c.args.text.now in
    let r = c.sweep_of.result in
    utf8_answer text (sweep_in (line_after text) (lines_of text)) r c.in-Ok.ensures.cases.1
    (subst (λ t. Answers (sweep_in (line_after t) (lines_of t)) r) c.in-Ok.ensures.cases.0 c.sweep_of.ensures)

pub returns-in-Err-clause-sweep : goal.returns-in-Err-clause-sweep
returns-in-Err-clause-sweep c =
    no_utf8 c.args.text.now (sweep_in (line_after c.args.text.now) (lines_of c.args.text.now)) c.in-Err.ensures.cases.0

pub returns-in-Ok-clause-followable : goal.returns-in-Ok-clause-followable
returns-in-Ok-clause-followable c = answer_followable c.args.text.now c.sweep_of.result (returns-in-Ok-clause-sweep c)

pub returns-in-Ok-clause-distinct : goal.returns-in-Ok-clause-distinct
returns-in-Ok-clause-distinct c = answer_distinct c.args.text.now c.sweep_of.result (returns-in-Ok-clause-sweep c)
