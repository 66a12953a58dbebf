use Rattle.std.specs.Prelude.{map}
use Rattle.std.proofs.Common.{ap, sym, ◌∙◌}
use Rattle.question_text.specs.Lines.{line_of}
use Rattle.question_text.specs.Internal.Asking.{due_after}
use Rattle.question_text.proofs.TakingLaws.{edit_taken, inside}
use Rattle.question_text.proofs.asking.take_inside.Goals as goal

pub returns-clause-taken : goal.returns-clause-taken
returns-clause-taken c after left =
    let l = line_of c.args.line (map (λ w. w.now) c.args.words.now) in
    let qs = c.args.draft.now.questions in
    let n = c.args.pending.line in
    let pushed = c.in_ok-push_edit.ensures.edit in
    edit_taken after qs n c.args.pending.edits l left pushed.0 (sym c.is_word.ensures ∙ c.if-is_word.false) pushed.1
    ∙ ap (λ es. due_after after (inside qs n es) left) (sym pushed.2)
