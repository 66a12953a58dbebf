-- Each line is taken after those before it; the draft is that of the lines up to the ENDATA line.
use Rattle.std.specs.Prelude.{◌≡◌, false, map, take}
use Rattle.std.specs.List.{list_any, slice_split}
use Rattle.std.proofs.Common.{◌∙◌, ap, sym, subst, arith}
use Rattle.std.proofs.lemmas.List.{length-map, take_all}
use Rattle.mps_defs.specs.Records.{is_line_end, is_end_line}
use Rattle.mps_defs.specs.Faults.{all_line_faults}
use Rattle.mps_reader.specs.Internal.Progress.{Stands, IsFirstFault}
use Rattle.mps_reader.specs.Internal.Reading.{lines_by}
use Rattle.text_lines.proofs.CountLaws.{few_pieces}
use Rattle.mps_reader.proofs.TextLaws.{all_read, next_ended, next_goes_on, next_refused, next_taken, read_from, said_by}
use Rattle.mps_reader.proofs.reader.draft_of.Goals as goal

pub overflow_add-number : goal.overflow_add-number
overflow_add-number c =
    let few = few_pieces (λ x. x.now) c.as_slice-line-items.result.now c.args.text.now
    (ap (map (λ x. x.now)) c.as_slice-line-items.ensures.value ∙ c.in_ok-lines.ensures) in
    omega (arith, c.requires, few, c.loop-line.invariant.0, c.loop-line-test.true)

pub returns-then-ended : goal.returns-then-ended
returns-then-ended c =
    let lines = ap (map (λ x. x.now)) c.as_slice-line-items.ensures.value ∙ c.in_ok-lines.ensures in
    let next = next_taken (λ x. x.now) c.as_slice-line-items.result.now c.loop-line.line-index _ _ _ _ _ c.loop-line-test.true
    c.loop-line.invariant c.take_line.ensures in
    subst (λ ys. Stands (said_by ys) c.take_line.new.draft) lines
    (next_ended _ c.loop-line.line-index _ _ _ _ _ next c.in-Ok.is c.if-ended.true)

pub returns-in-Err : goal.returns-in-Err
returns-in-Err c =
    let lines = ap (map (λ x. x.now)) c.as_slice-line-items.ensures.value ∙ c.in_ok-lines.ensures in
    let next = next_taken (λ x. x.now) c.as_slice-line-items.result.now c.loop-line.line-index _ _ _ _ _ c.loop-line-test.true
    c.loop-line.invariant c.take_line.ensures in
    subst (λ ys. IsFirstFault (all_line_faults (said_by ys)) c.in-Err.error) lines
    (next_refused _ c.loop-line.line-index _ _ _ _ _ next c.in-Err.is)

pub loop-line-preserved : goal.loop-line-preserved
loop-line-preserved c =
    next_goes_on _ c.loop-line.line-index _ _ _ _ _
    (next_taken (λ x. x.now) c.as_slice-line-items.result.now c.loop-line.line-index _ _ _ _ _ c.loop-line-test.true c.loop-line.invariant
    c.take_line.ensures) c.in-Ok.is c.if-ended.false

pub returns : goal.returns
returns c =
    let items = c.as_slice-line-items.result.now in
    let i = c.loop-line.line-index in
    let xs = map (λ x. x.now) items in
    let lines : xs ≡ slice_split is_line_end c.args.text.now =
    ap (map (λ x. x.now)) c.as_slice-line-items.ensures.value ∙ c.in_ok-lines.ensures in
    let inv = c.loop-line.invariant in
    let all : take i xs ≡ xs = take_all i xs (omega (arith, length-map items (λ x. x.now), c.loop-line-test.false)) in
    let going = subst (λ ys. list_any is_end_line (read_from 1 ys) ≡ false) all inv.1 in
    subst (λ ls. Stands ls c.loop-line.draft) (ap (λ ys. lines_by (read_from 1 ys)) all ∙ all_read xs going ∙ ap said_by lines) inv.2
