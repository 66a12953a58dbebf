-- The lines that are read, with those of the pieces that are left, stay the lines of the text.
use Rattle.std.specs.Prelude.{◌+◌, ◌++◌, length, map}
use Rattle.std.proofs.Common.{ap, sym, ◌∙◌, arith}
use Rattle.std.proofs.lemmas.List.{append-nil, at_drop_all}
use Rattle.text_lines.proofs.CountLaws.{few_pieces}
use Rattle.question_text.specs.Lines.{line_of, lines_from}
use Rattle.question_text.proofs.LineLaws.{line_read}
use Rattle.question_text.proofs.texts.lines_of.Goals as goal

pub overflow_add-number : goal.overflow_add-number
overflow_add-number c =
    let few = few_pieces (λ x. x.now) c.in_ok-pieces.pieces.items c.args.text.now c.in_ok-pieces.ensures in
    let same = ap length c.as_slice-piece-items.ensures.value in
    omega (arith, c.requires, few, same, c.loop-piece.invariant.0, c.loop-piece-test.true)

pub loop-piece-preserved : goal.loop-piece-preserved
loop-piece-preserved c = (
  ap (λ k. k + 1) c.loop-piece.invariant.0,
  line_read (λ x. x.now) (map (λ p. line_of p.0 (map (λ w. w.now) p.1.items)) c.loop-piece.read.items) _ (c.loop-piece.number + 1)
      c.as_slice-piece-items.result.now c.loop-piece.piece-index _ c.loop-piece-test.true c.in_ok-push_line.ensures
      ∙ c.loop-piece.invariant.1,
)

pub line_after-requires-clause-few : goal.line_after-requires-clause-few
line_after-requires-clause-few c =
    let few = few_pieces (λ x. x.now) c.in_ok-pieces.pieces.items c.args.text.now c.in_ok-pieces.ensures in
    omega (arith, c.requires, few, c.len.ensures)

pub returns-clause-read : goal.returns-clause-read
returns-clause-read c =
    let items = c.as_slice-piece-items.result.now in
    let read = map (λ p. line_of p.0 (map (λ w. w.now) p.1.items)) c.loop-piece.read.items in
    sym (append-nil read)
    ∙ sym (at_drop_all (λ xs. read ++ lines_from (c.loop-piece.number + 1) (map (λ x. x.now) xs)) items c.loop-piece.piece-index
    c.loop-piece-test.false)
    ∙ c.loop-piece.invariant.1
    ∙ ap (λ ps. lines_from 1 (map (λ x. x.now) ps)) c.as_slice-piece-items.ensures.value
    ∙ ap (lines_from 1) c.in_ok-pieces.ensures
