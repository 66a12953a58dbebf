use Rattle.std.proofs.Common.{◌∙◌, sym}
use Rattle.tree_format.proofs.FieldLaws.{field_cut, field_whole}
use Rattle.tree_format.proofs.progress.Progress.ending.Goals as goal

pub returns-then-is_whole-clause-left : goal.returns-then-is_whole-clause-left
returns-then-is_whole-clause-left c =
    let s = c.args.self.now in
    let whole = field_whole s.field s.read s.low s.start s.nodes s.pending (sym c.is_whole.ensures ∙ c.if-is_whole.true) in
    rw c.in_default.is whole

pub returns-else-is_whole-clause-left : goal.returns-else-is_whole-clause-left
returns-else-is_whole-clause-left c =
    let s = c.args.self.now in
    let sound = rw c.in_default.is at c.requires.sound in
    let cut = field_cut s.field s.read s.low s.start s.nodes s.pending sound.bare sound.field (sym c.is_whole.ensures
    ∙ c.if-is_whole.false) in
    rw (c.in_default.is, c.place_after.ensures) cut
