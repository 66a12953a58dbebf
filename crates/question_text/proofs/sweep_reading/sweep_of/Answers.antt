use Rattle.std.specs.Prelude.{[], map, Some, Err, Ok}
use Rattle.std.proofs.Common.{ap, sym, subst, ◌∙◌}
use Rattle.std.proofs.lemmas.List.{at_drop_all}
use Rattle.question_text.specs.Lines.{Answers, line_after}
use Rattle.question_text.specs.SweepFiles.{sweep_in}
use Rattle.question_text.specs.Internal.Sweeping.{due_after}
use Rattle.question_text.proofs.LineLaws.{next_taken, next_refused, read_line, same_line}
use Rattle.question_text.proofs.sweep_reading.sweep_of.Goals as goal

pub returns-in-Err : goal.returns-in-Err
returns-in-Err c =
    let after = line_after c.args.text.now in
    let old = c.loop-line.begun in
    let refused = next_refused (due_after after) read_line old old c.as_slice-line-items.result.now c.loop-line.line-index _ c.in-Err.error
    c.loop-line-test.true (same_line (due_after after) old c.take.result old c.as_slice.result.now c.line-item.result _ (Err c.in-Err.error)
    c.take.ensures.value c.as_slice.ensures.value c.line-item.is (c.in-Err.ensures.begun after)) in
    subst (λ ls. Answers (sweep_in after ls) (Err c.in-Err.error))
    (ap (map read_line) c.as_slice-line-items.ensures.value ∙ c.in_ok-lines.ensures.read)
    (subst (λ w. Answers w (Err c.in-Err.error)) (c.loop-line.invariant.1 after) refused)

pub loop-line-preserved : goal.loop-line-preserved
loop-line-preserved c = (
  c.in-Ok.ensures.moved,
  λ after. sym (next_taken (due_after after) read_line c.loop-line.begun (Some c.in-Ok.next) c.as_slice-line-items.result.now
      c.loop-line.line-index _ c.loop-line-test.true (same_line (due_after after) c.loop-line.begun c.take.result (Some c.in-Ok.next)
      c.as_slice.result.now c.line-item.result _ (Ok tt) c.take.ensures.value c.as_slice.ensures.value c.line-item.is
      (c.in-Ok.ensures.begun after)))
      ∙ c.loop-line.invariant.1 after,
)

pub returns : goal.returns
returns c =
    let items = c.as_slice-line-items.result.now in
    let after = line_after c.args.text.now in
    subst (λ ls. Answers (sweep_in after ls) c.finished.result)
    (ap (map read_line) c.as_slice-line-items.ensures.value ∙ c.in_ok-lines.ensures.read)
    (subst (λ w. Answers w c.finished.result)
    (sym (at_drop_all (λ xs. due_after after c.loop-line.begun (map read_line xs)) items c.loop-line.line-index c.loop-line-test.false)
    ∙ c.loop-line.invariant.1 after)
    (subst (λ k. Answers (due_after k c.loop-line.begun []) c.finished.result) c.in_ok-lines.ensures.after c.finished.ensures))
