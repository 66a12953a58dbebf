use Rattle.std.proofs.Common.{sym, arith, ◌≤◌, length}
use Rattle.std.proofs.lemmas.Bool.{ltb-false}
use Rattle.mps_reader.proofs.CountLaws.{is_at}
use Rattle.mps_reader.proofs.TakingLaws.{passed_on, is_faulty}
use Rattle.mps_reader.proofs.TableLaws.{not_read, not_counted, counted_entry, counts_as, row_at, row_there}
use Rattle.mps_defs.specs.Records.{entry_of}
use Rattle.mps_reader.proofs.entries.take_entry.Goals as goal

pub returns-in_err-place : goal.returns-in_err-place
returns-in_err-place c =
    let a = c.from_residual.ensures in
    let error = c.in_err-place.field-0.0 in
    let is = passed_on c.from_residual.result error _ a.0 a.1 (λ x g. g) in
    λ ls es name have owns.
    let e = entry_of c.args.line name c.args.row.now c.args.text.now in
    is_faulty _ _ c.from_residual.result error is (not_read ls c.args.owner es c.args.rows.now e error have.rows c.in_err-place.ensures)

pub returns-then-keeps : goal.returns-then-keeps
returns-then-keeps c ls es name have owns =
    let place = c.in_ok-place.place in
    let there = row_at c.args.rows.now.rows.items place c.in-Some.row.now c.in-Some.ensures.item.0 c.in-Some.ensures.value in
    counted_entry ls c.args.owner es c.args.rows.now place c.in-Some.row.now c.write.new.self
    (entry_of c.args.line name c.args.row.now c.args.text.now) c.in_ok-place.number c.write.result have owns c.in_ok-place.ensures.0 there
    c.in_ok-place.ensures.1 (counts_as c.args.owner _ (is_at c.args.rows.now.objective place) c.is_free.result c.is_at-is_objective.result _
    c.is_free.ensures c.is_at-is_objective.ensures c.if-keeps.ensures) c.write.ensures

pub returns-else-keeps : goal.returns-else-keeps
returns-else-keeps c ls es name have owns =
    not_counted ls c.args.owner es c.args.rows.now c.in_ok-place.place c.in-Some.row.now
    (entry_of c.args.line name c.args.row.now c.args.text.now) c.in_ok-place.number have owns c.in_ok-place.ensures.0
    (row_at c.args.rows.now.rows.items c.in_ok-place.place c.in-Some.row.now c.in-Some.ensures.item.0 c.in-Some.ensures.value)
    c.in_ok-place.ensures.1
    (counts_as c.args.owner _ (is_at c.args.rows.now.objective c.in_ok-place.place) c.is_free.result c.is_at-is_objective.result _
    c.is_free.ensures c.is_at-is_objective.ensures c.if-keeps.ensures)

pub returns-in-None : goal.returns-in-None
returns-in-None c =
    let table = c.args.rows.now in
    let place = c.in_ok-place.place in
    let past : length table.rows.items ≤ place = omega (arith, ltb-false place (length table.rows.items) (sym c.in-None.ensures.item.0)) in
    λ ls es name have owns. absurd (row_there ls table c.args.row.now place have.rows c.in_ok-place.ensures.0 past)
