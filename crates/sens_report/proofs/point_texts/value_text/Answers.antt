use Rattle.std.proofs.Common.{◌≡◌, ◌∙◌, ap, ◌++◌, to_z, of_z, arith}
use Rattle.std.specs.Prelude.{codes}
use Rattle.std.specs.Fmt.{signed_decimal}
use Rattle.std.specs.Int.{w64}
use Rattle.std.proofs.lemmas.Int.{ints}
use Rattle.sens_report.proofs.LineLaws.{value_text_is}
use Rattle.sens_report.proofs.point_texts.value_text.Goals as goal

pub returns : goal.returns
returns c =
    let back : to_z w64 (of_z w64 c.args.value) ≡ c.args.value = omega (arith, ints) in
    let number = c.as_str.ensures.value ∙ c.in_ok-number.ensures ∙ ap (λ z. signed_decimal z ++ codes "\n") back in
    c.in_ok-push_str.ensures.bytes ∙ ap (λ bs. bs ++ c.as_str.result.now) c.in_ok-line.ensures
    ∙ ap (λ bs. (codes "value " ++ c.args.name.now ++ codes " ") ++ bs) number
    ∙ value_text_is c.args.name.now (signed_decimal c.args.value)
