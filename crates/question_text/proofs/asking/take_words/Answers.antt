use Rattle.std.specs.Prelude.{◌∷◌, [], map}
use Rattle.std.proofs.Common.{sym, subst, ◌∙◌}
use Rattle.question_text.specs.Lines.{line_of}
use Rattle.question_text.specs.Internal.Asking.{due_after}
use Rattle.question_text.specs.Internal.Taking.{IsTaken}
use Rattle.question_text.proofs.asking.take_words.Goals as goal

pub returns-in-Some-clause-taken : goal.returns-in-Some-clause-taken
returns-in-Some-clause-taken c after =
    let l = line_of c.args.line (map (λ w. w.now) c.args.words.now) in
    let qs = c.args.draft.now.questions in
    subst (λ o. IsTaken (due_after after) (record { questions = qs; pending = o }) c.take_inside.new.draft (l ∷ []) c.take_inside.result)
    (sym c.in-Some.is ∙ c.take.ensures.value) (c.take_inside.ensures.taken after)

pub returns-in-None-clause-taken : goal.returns-in-None-clause-taken
returns-in-None-clause-taken c after =
    let l = line_of c.args.line (map (λ w. w.now) c.args.words.now) in
    let qs = c.args.draft.now.questions in
    subst (λ o. IsTaken (due_after after) (record { questions = qs; pending = o }) c.take_outside.new.draft (l ∷ []) c.take_outside.result)
    (c.take.ensures.after ∙ sym c.in-None.is ∙ c.take.ensures.value) (c.take_outside.ensures.taken after)
