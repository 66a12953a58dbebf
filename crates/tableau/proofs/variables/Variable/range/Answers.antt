use Rattle.std.proofs.Common.{rules, arith, ◌≡◌, ◌∙◌, ◌-ℤ◌, ap, pos, ℤ, Some}
use Rattle.std.proofs.lemmas.Int.{ints}
use Rattle.frac128.specs.Rationals.{of, rational}
use Rattle.frac128.specs.Values.{value_of}
use Rattle.frac128.proofs.FractionLaws.{lowest-value}
use Rattle.frac128.proofs.SignLaws.{whole-value}
use Rattle.tableau.proofs.variables.Variable.range.Goals as goal

pub returns-in-Some-Some : goal.returns-in-Some-Some
returns-in-Some-Some c =
    let gap : ℤ = c.in-Some-Some.high -ℤ c.in-Some-Some.low in
    let is : value_of c.frac.result ≡ of gap =
    ap value_of c.frac.ensures.value ∙ lowest-value _ (pos 1) (omega (arith, ints)) ∙ ap (λ z. rational z (pos 1)) (omega (arith, ints))
    ∙ whole-value gap in
    ap Some is ∙ search rules
