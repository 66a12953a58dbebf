use Rattle.std.proofs.Common.{arith, ap, sym, ◌∙◌, ◌≡◌, length, Some, subst, ℕ}
use Rattle.std.specs.Prelude.{slice_get}
use Rattle.ip_defs.specs.Limits.{IsRowShaped}
use Rattle.ip_defs.specs.Breaches.{row_breach}
use Rattle.ip_model.proofs.PlaceLaws.{read_at, row_breach_read}
use Rattle.ip_model.proofs.StepLaws.{none_more, first_here}
use Rattle.ip_model.proofs.breaches.first_row.Goals as goal

pub breach_of_row-requires-clause-shape : goal.breach_of_row-requires-clause-shape
breach_of_row-requires-clause-shape c =
    let m = c.args.parts.now in
    let found : slice_get m.rows c.loop-i.i ≡ Some c.row-item.result =
    read_at m.rows c.as_slice-row-items.result.now c.loop-i.i c.row-item.result c.as_slice-row-items.ensures c.loop-i-test.true
    c.row-item.is in
    subst (λ (n : ℕ). IsRowShaped n c.row-item.result) (sym c.requires.size) (c.requires.limits.shape.rows c.loop-i.i c.row-item.result
    found)

pub breach_of_row-requires-clause-limits : goal.breach_of_row-requires-clause-limits
breach_of_row-requires-clause-limits c =
    let m = c.args.parts.now in
    c.requires.limits.rows c.loop-i.i c.row-item.result (read_at m.rows c.as_slice-row-items.result.now c.loop-i.i c.row-item.result
    c.as_slice-row-items.ensures c.loop-i-test.true c.row-item.is)

pub returns-in-Some : goal.returns-in-Some
returns-in-Some c =
    let m = c.args.parts.now in
    let x = c.args.point.now in
    let here = row_breach_read m x c.as_slice-row-items.result.now c.loop-i.i c.row-item.result _ c.as_slice-row-items.ensures
    c.loop-i-test.true c.row-item.is c.in-Some.ensures in
    let same = ap length c.as_slice-row-items.ensures in
    let inside = c.loop-i-test.true in
    sym (first_here (λ k. row_breach x k (slice_get m.rows k)) (length m.rows) c.loop-i.i c.in-Some.breach c.loop-i.invariant here
    (omega arith))

pub loop-i-preserved : goal.loop-i-preserved
loop-i-preserved c =
    none_more (λ k. row_breach c.args.point.now k (slice_get c.args.parts.now.rows k)) c.loop-i.i c.loop-i.invariant
    (row_breach_read c.args.parts.now c.args.point.now c.as_slice-row-items.result.now c.loop-i.i c.row-item.result _
    c.as_slice-row-items.ensures c.loop-i-test.true c.row-item.is (sym c.in_default.is ∙ c.breach_of_row.ensures))
