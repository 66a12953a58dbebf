use Rattle.std.specs.Prelude.{◌≡◌, ℕ, map, drop}
use Rattle.question_text.specs.Lines.{line_of}
use Rattle.question_text.specs.Internal.Asking.{IsReady, due_after}
use Rattle.question_text.proofs.reading.questions_of.Given as goal

abbrev pub invariant-loop-line : goal.invariant-loop-line
invariant-loop-line l =
    (ready : IsReady l.draft (map (λ p. line_of p.0 (map (λ w. w.now) p.1.items)) (drop l.line-index l.line-items)))
    × ((after : ℕ) → due_after after l.draft (map (λ p. line_of p.0 (map (λ w. w.now) p.1.items)) (drop l.line-index l.line-items))
    ≡ due_after after l.initial.draft (map (λ p. line_of p.0 (map (λ w. w.now) p.1.items)) l.line-items))
