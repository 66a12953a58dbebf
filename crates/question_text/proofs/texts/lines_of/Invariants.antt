use Rattle.std.specs.Prelude.{◌≡◌, ◌+◌, ◌++◌, map, drop}
use Rattle.question_text.specs.Lines.{line_of, lines_from}
use Rattle.question_text.proofs.texts.lines_of.Given as goal

abbrev pub invariant-loop-piece : goal.invariant-loop-piece
invariant-loop-piece l =
    (number : l.number ≡ l.piece-index)
    × (map (λ p. line_of p.0 (map (λ w. w.now) p.1.items)) l.read.items
    ++ lines_from (l.number + 1) (map (λ x. x.now) (drop l.piece-index l.piece-items))
    ≡ lines_from 1 (map (λ x. x.now) l.piece-items))
