use Rattle.std.proofs.Common.{◌<◌, ◌∙◌, sym, ap, subst, ℕ, List, [], length}
use Rattle.std.proofs.lemmas.List.{get_or_default}
use Rattle.frac128.specs.Fractions.{Fraction}
use Rattle.frac128.specs.Rationals.{Rational, of, mul, neg}
use Rattle.frac128.specs.Values.{value_of}
use Rattle.frac128.proofs.Rationals.{rationals}
use Rattle.ring_laws.proofs.Sums.{sum}
use Rattle.tableau.specs.declared.positions.Rest.{Rest}
use Rattle.tableau.specs.declared.variables.Variable.{Variable}
use Rattle.tableau.specs.Tables.{Table, table_of, at, line, position_at, variable_at}
use Rattle.tableau.specs.Numbers.{nonbasic_value, side_or_zero}
use Rattle.tableau.specs.Meanings.{value_number}
use Rattle.tableau.proofs.NumberLaws.{number_is}
use Rattle.tableau.proofs.tables.Tableau.value.Goals as goal

abbrev loss_of : List Fraction → List Rest → List Variable → ℕ → Rational
loss_of numbers positions variables n = neg (sum rationals (λ v. mul (value_of (at numbers v))
    (of (side_or_zero (nonbasic_value (variable_at variables v) (position_at positions v))))) n)

pub returns-clause-number : goal.returns-clause-number
returns-clause-number c =
    let inside = c.self.inside in
    let r = c.args.row in
    let T = table_of inside.rows.items inside.basics.items inside.positions.items inside.variables.items in
    let row : r < length inside.rows.items = subst (λ (t : Table). r < length t.rows) (sym c.self.view_is) c.requires in
    let numbers = c.as_slice.result.now in
    let positions = c.as_slice-2.result.now in
    let variables = c.as_slice-3.result.now in
    let line_is = c.as_slice.ensures ∙ c.index-line.ensures ∙ get_or_default inside.rows.items r c.index-line.result.now [] row in
    let size = ap (λ (xs : List Fraction). length xs) line_is ∙ c.self.invariant.0.rows.size r row in
    number_is c.row_value.result (loss_of numbers positions variables (length numbers)) (value_number c.args.self.now r)
    (ap (loss_of numbers positions variables) size
    ∙ ap (λ (z : List Fraction). loss_of z positions variables (length inside.variables.items)) line_is
    ∙ ap (λ (z : List Rest). loss_of (line inside.rows.items r) z variables (length inside.variables.items)) c.as_slice-2.ensures.value
    ∙ ap (λ (z : List Variable). loss_of (line inside.rows.items r) inside.positions.items z (length inside.variables.items))
    c.as_slice-3.ensures.value
    ∙ ap (λ (t : Table). value_number t r) c.self.view_is)
    c.row_value.ensures.number
