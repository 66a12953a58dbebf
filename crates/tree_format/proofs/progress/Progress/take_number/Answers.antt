use Rattle.std.proofs.Common.{◌∙◌, sym, ◌+◌}
use Rattle.tree_format.specs.Internal.Remaining.{trees_at}
use Rattle.tree_format.proofs.FieldLaws.{number_ended}
use Rattle.tree_format.proofs.progress.Progress.take_number.Goals as goal

pub returns-in-Ok-clause-left : goal.returns-in-Ok-clause-left
returns-in-Ok-clause-left c = λ bytes.
    let s = c.args.self.now in
    let trees = trees_at s.pending s.nodes in
    let ended = number_ended s.field c.args.greatest s.read s.low s.start c.args.byte c.in-Ends.value trees bytes c.requires.field
    (sym c.next_digit.ensures ∙ c.in-Ends.is) in
    let on = rw c.in-Ok.is at c.after.ensures.after trees (s.start + (s.read + 1)) bytes in
    rw c.from.ensures (on ∙ sym ended)

pub returns-in-Err-clause-left : goal.returns-in-Err-clause-left
returns-in-Err-clause-left c = λ bytes.
    let s = c.args.self.now in
    let trees = trees_at s.pending s.nodes in
    rw c.in-Err.is at c.after.ensures.after trees (s.start + (s.read + 1)) bytes ∙ sym (number_ended s.field c.args.greatest s.read s.low
    s.start c.args.byte c.in-Ends.value trees bytes c.requires.field (sym c.next_digit.ensures ∙ c.in-Ends.is))
