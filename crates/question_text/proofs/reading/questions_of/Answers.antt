use Rattle.std.specs.Prelude.{[], map, Err, Ok, refl}
use Rattle.std.proofs.Common.{ap, sym, subst, ◌∙◌}
use Rattle.std.proofs.lemmas.List.{at_drop_all}
use Rattle.question_text.specs.Lines.{Answers, line_after}
use Rattle.question_text.specs.Internal.Asking.{IsReady, due_after}
use Rattle.question_text.proofs.LineLaws.{next_taken, next_refused, read_line, same_line}
use Rattle.question_text.proofs.OpenLaws.{no_question, ready_at, ready_first, ready_next, ready_now, text_due}
use Rattle.question_text.proofs.reading.questions_of.Goals as goal

pub loop-line-init : goal.loop-line-init
loop-line-init c = (
  subst (λ d. IsReady d (map read_line c.as_slice-line-items.result.now)) (sym c.new-draft.ensures)
      (subst (IsReady no_question) (sym (ap (map read_line) c.as_slice-line-items.ensures.value ∙ c.in_ok-lines.ensures.read))
      (ready_first c.args.text.now)),
  λ after. refl,
)

pub take_words-requires : goal.take_words-requires
take_words-requires c =
    let now = ready_at c.loop-line.draft c.as_slice-line-items.result.now c.loop-line.line-index c.line-item.result _ c.loop-line-test.true
    c.line-item.is c.loop-line.invariant.0 in
    record { kept = ready_now c.loop-line.draft (read_line c.line-item.result) _ now }

pub returns-in-Err-clause-questions : goal.returns-in-Err-clause-questions
returns-in-Err-clause-questions c =
    let items = c.as_slice-line-items.result.now in
    let text = c.args.text.now in
    let after = line_after text in
    let old = c.loop-line.draft in
    let new = c.take_words.new.draft in
    subst (λ w. Answers w (Err c.in-Err.error))
    (c.loop-line.invariant.1 after
    ∙ ap (λ d. due_after after d (map read_line items)) c.new-draft.ensures
    ∙ ap (due_after after no_question) (ap (map read_line) c.as_slice-line-items.ensures.value ∙ c.in_ok-lines.ensures.read)
    ∙ text_due text)
    (next_refused (due_after after) read_line old new items c.loop-line.line-index _ c.in-Err.error c.loop-line-test.true
    (same_line (due_after after) old old new c.as_slice.result.now c.line-item.result _ (Err c.in-Err.error) refl c.as_slice.ensures.value
    c.line-item.is (c.in-Err.ensures.taken after)))

pub loop-line-preserved : goal.loop-line-preserved
loop-line-preserved c =
    let items = c.as_slice-line-items.result.now in
    let i = c.loop-line.line-index in
    let old = c.loop-line.draft in
    let new = c.take_words.new.draft in (
      ready_next old new (read_line c.line-item.result) _
          (ready_at old items i c.line-item.result _ c.loop-line-test.true c.line-item.is c.loop-line.invariant.0) c.in-Ok.ensures.kept,
      λ after. sym (next_taken (due_after after) read_line old new items i _ c.loop-line-test.true
          (same_line (due_after after) old old new c.as_slice.result.now c.line-item.result _ (Ok tt) refl c.as_slice.ensures.value
          c.line-item.is (c.in-Ok.ensures.taken after)))
          ∙ c.loop-line.invariant.1 after,
    )

pub finished-requires : goal.finished-requires
finished-requires c = c.loop-line.invariant.0.1.questions

pub returns-clause-questions : goal.returns-clause-questions
returns-clause-questions c =
    let items = c.as_slice-line-items.result.now in
    let text = c.args.text.now in
    let after = line_after text in
    let old = c.loop-line.draft in
    subst (λ w. Answers w c.finished.result)
    (sym (at_drop_all (λ xs. due_after after old (map read_line xs)) items c.loop-line.line-index c.loop-line-test.false)
    ∙ c.loop-line.invariant.1 after
    ∙ ap (λ d. due_after after d (map read_line items)) c.new-draft.ensures
    ∙ ap (due_after after no_question) (ap (map read_line) c.as_slice-line-items.ensures.value ∙ c.in_ok-lines.ensures.read)
    ∙ text_due text)
    (subst (λ k. Answers (due_after k old []) c.finished.result) c.in_ok-lines.ensures.after c.finished.ensures.questions)
