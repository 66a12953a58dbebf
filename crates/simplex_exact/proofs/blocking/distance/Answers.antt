use Rattle.std.proofs.Common.{◌∙◌, ◌≡◌, ◌≢◌, sym, ap, arith, Some, None, to_z, of_z}
use Rattle.std.proofs.lemmas.Int.{ints}
use Rattle.std.specs.Int.{w64}
use Rattle.frac128.specs.Fractions.{Fraction, difference_of, quotient_of, whole}
use Rattle.tableau.specs.Tables.{basic_at, variable_at}
use Rattle.tableau.specs.Numbers.{side_at, and_then}
use Rattle.simplex_laws.specs.Wides.{wide_ratio}
use Rattle.simplex_exact.proofs.ScanLaws.{ratio_wide}
use Rattle.simplex_exact.proofs.blocking.distance.Goals as goal

pub returns-in-Err-clause-wide : goal.returns-in-Err-clause-wide
returns-in-Err-clause-wide c =
    let T = c.args.tableau.now in
    let there = c.args.there in
    let named = c.requires.side in
    let has : side_at (variable_at T.variables (basic_at T.basics c.args.row)) c.args.side ≢ None =
    λ e. let no : None ≡ Some there = sym e ∙ named in absurd cc in
    let back : to_z w64 (of_z w64 there) ≡ there = omega (arith, ints) in
    wide_ratio c.args.row c.args.var c.args.side c.requires.row.row_inside c.requires.row.inside c.requires.row.free c.requires.pivot has
    (ratio_wide T c.args.value c.args.row c.args.var c.args.side there c.ratio.result c.in-Err.field-0 c.requires.row.value_is named
    (c.ratio.ensures.exact ∙ ap (λ z. and_then (difference_of c.args.value (whole z)) (λ gap. quotient_of gap c.entry.result)) back
    ∙ ap (λ (x : Fraction). and_then (difference_of c.args.value (whole there)) (λ gap. quotient_of gap x)) c.entry.ensures) c.in-Err.is)
