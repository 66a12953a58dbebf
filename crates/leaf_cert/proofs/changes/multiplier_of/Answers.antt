use Rattle.std.proofs.Common.{rules, sym, ◌∙◌, get_or, pos}
use Rattle.std.specs.Int.{w64}
use mir.Val.{SFits}
use Rattle.std.proofs.lemmas.Int.{to_z-of_z}
use Rattle.std.proofs.lemmas.Option.{slice_get-get_or}
use Rattle.leaf_cert.proofs.RaisedNumbers.{coefficient_there}
use Rattle.leaf_cert.proofs.changes.multiplier_of.Goals as goal

pub returns-then-i-row-clause-value : goal.returns-then-i-row-clause-value
returns-then-i-row-clause-value c n o =
    let y = c.args.y.now in
    let entry = get_or y c.loop-i.i-index (0, pos 0) in
    let fits : SFits w64 entry.1 = search rules in
    to_z-of_z w64 entry.1 fits ∙ sym (coefficient_there n c.args.row c.loop-i.i-index y entry o
    (slice_get-get_or y c.loop-i.i-index (0, pos 0) c.loop-i-test.true) c.if-i-row.true)
