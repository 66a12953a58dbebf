use Rattle.std.proofs.Common.{◌+◌, ℕ, sym, subst}
use Rattle.std.specs.Prelude.{Option}
use Rattle.frac128.specs.Values.{value_of}
use Rattle.node_bounds.proofs.WholeLaws.{IsBrokenAt, broken_before, broken_here, number_read, whole_more}
use Rattle.node_bounds.proofs.relaxations.fractional_column.Goals as goal
use Rattle.node_bounds.proofs.relaxations.fractional_column.Goals.{then-not-is_whole+then-is_none}
use Rattle.node_bounds.proofs.relaxations.fractional_column.Goals.{then-not-is_whole+else-is_none+else-distance-least, else-not-is_whole}

pub loop-j-preserved : goal.loop-j-preserved
loop-j-preserved c =
    let xs = c.args.point.now in
    let i = c.loop-j.j in
    let x = c.index-point-j.result in
    let l = c.loop-j-test.true in
    let read = number_read xs i x l c.index-point-j.is in
    elim c.if-not-is_whole.branch [
      | then-not-is_whole+then-is_none w ↦ subst (λ (k : Option ℕ). IsBrokenAt xs (i + 1) k) (sym w.nearest-is)
          (broken_here xs i (value_of x) l read w.if-not-is_whole.ensures)
      | then-not-is_whole+else-is_none+else-distance-least w ↦ subst (λ (k : Option ℕ). IsBrokenAt xs (i + 1) k) (sym w.nearest-is)
          (broken_before xs i c.loop-j.nearest c.loop-j.invariant w.if-is_none.ensures)
      | else-not-is_whole w ↦ subst (λ (k : Option ℕ). IsBrokenAt xs (i + 1) k) (sym w.nearest-is)
          (whole_more xs i (value_of x) c.loop-j.nearest c.loop-j.invariant read w.if-not-is_whole.ensures)
    ]
