use Rattle.std.specs.Prelude.{◌∷◌, [], false, map}
use Rattle.std.proofs.Common.{ap, sym, ◌∙◌}
use Rattle.question_text.specs.Lines.{line_of}
use Rattle.question_text.specs.SweepFiles.{direction_faults, with_directions}
use Rattle.question_text.proofs.AnswerLaws.{no_fault}
use Rattle.question_text.proofs.SweepLaws.{direction_taken, due_by}
use Rattle.question_text.proofs.sweeping.continued.Goals as goal

pub returns-in-Ok-clause-begun : goal.returns-in-Ok-clause-begun
returns-in-Ok-clause-begun c after left =
    let l = line_of c.args.line (map (λ w. w.now) c.args.words.now) in
    let s = c.args.begun.sweep in
    let n = c.args.begun.line in
    let none = no_fault (direction_faults s l) (with_directions s (l ∷ [])) c.in-Ok.sweep c.in-Ok.ensures.sweep in
    ap (λ t. due_by s t n (l ∷ left)) c.if-is_ended.false
    ∙ direction_taken s n l left (sym c.is_word.ensures ∙ c.if-is_word.false) none.0
    ∙ ap (λ k. due_by k false n left) none.1
