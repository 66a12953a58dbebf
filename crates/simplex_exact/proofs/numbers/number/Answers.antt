use Rattle.std.proofs.Common.{◌∙◌, sym}
use Rattle.tableau.proofs.ListLaws.{is_wide}
use Rattle.simplex_laws.specs.Wides.{wide_value}
use Rattle.simplex_laws.proofs.StepLaws.{basic_row}
use Rattle.simplex_exact.proofs.ScanLaws.{wide_answer}
use Rattle.simplex_exact.proofs.numbers.number.Goals as goal

pub returns-in-Some-clause-wide : goal.returns-in-Some-clause-wide
returns-in-Some-clause-wide c =
    let row = basic_row c.args.tableau.now c.requires.table c.args.var c.in-Some.row (sym c.requires.own_row ∙ c.in-Some.is) in
    wide_answer c.value.result (λ w e. wide_value c.in-Some.row row.0 (sym c.value.ensures.exact ∙ is_wide c.value.result w e))
