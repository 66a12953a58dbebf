use Rattle.std.specs.Prelude.{◌∷◌, [], map}
use Rattle.std.proofs.Common.{sym, subst}
use Rattle.question_text.specs.Lines.{line_of}
use Rattle.question_text.specs.Internal.Sweeping.{due_after}
use Rattle.question_text.specs.Internal.Taking.{IsNext}
use Rattle.question_text.proofs.sweeping.next_of.Goals as goal

pub returns-in-Some-clause-begun : goal.returns-in-Some-clause-begun
returns-in-Some-clause-begun c after =
    let l = line_of c.args.line (map (λ w. w.now) c.args.words.now) in
    subst (λ o. IsNext (due_after after) o (l ∷ []) c.continued.result) (sym c.in-Some.is) (c.continued.ensures.begun after)

pub returns-in-None-clause-begun : goal.returns-in-None-clause-begun
returns-in-None-clause-begun c after =
    let l = line_of c.args.line (map (λ w. w.now) c.args.words.now) in
    subst (λ o. IsNext (due_after after) o (l ∷ []) c.begun_by.result) (sym c.in-None.is) (c.begun_by.ensures.begun after)
