use Rattle.std.proofs.Common.{◌∙◌, ◌≡◌, sym, ap, arith, to_z, of_z}
use Rattle.std.proofs.lemmas.Int.{ints}
use Rattle.std.specs.Int.{w128}
use Rattle.frac128.specs.Fractions.{Fraction}
use Rattle.frac128.specs.Values.{value_of}
use Rattle.tableau.specs.Tables.{entry}
use Rattle.simplex_laws.proofs.StepLaws.{numerator}
use Rattle.simplex_exact.proofs.ScanLaws.{met}
use Rattle.simplex_exact.proofs.blocking.block.Goals as goal

pub block_at-requires-clause-pivot : goal.block_at-requires-clause-pivot
block_at-requires-clause-pivot c =
    let T = c.args.tableau.now in
    let x : Fraction = entry T.rows c.in-Some.row c.args.var in
    let read : (value_of x).numerator ≡ c.num.result = ap (λ (y : Fraction). (value_of y).numerator) (sym c.entry.ensures)
    ∙ sym c.num.ensures.numerator in
    let back : to_z w128 (of_z w128 c.num.result) ≡ c.num.result = omega (arith, ints) in
    numerator x (met c.args.up (value_of x) c.in-Some-side_met.side
    (sym (c.side_met.ensures (value_of x) (read ∙ sym back)) ∙ c.in-Some-side_met.is))
