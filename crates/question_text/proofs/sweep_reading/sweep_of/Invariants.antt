use Rattle.std.specs.Prelude.{◌≡◌, ℕ, map, drop, None}
use Rattle.question_text.specs.Lines.{line_of}
use Rattle.question_text.specs.Internal.Sweeping.{HasMoved, due_after}
use Rattle.question_text.proofs.sweep_reading.sweep_of.Given as goal

abbrev pub invariant-loop-line : goal.invariant-loop-line
invariant-loop-line l =
    (moved : HasMoved l.begun)
    × ((after : ℕ) → due_after after l.begun (map (λ p. line_of p.0 (map (λ w. w.now) p.1.items)) (drop l.line-index l.line-items))
    ≡ due_after after None (map (λ p. line_of p.0 (map (λ w. w.now) p.1.items)) l.line-items))
