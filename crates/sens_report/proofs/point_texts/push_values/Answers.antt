use Rattle.std.proofs.Common.{◌≡◌, ◌<◌, ◌≤◌, ◌∙◌, ap, arith, refl, rules, length}
use Rattle.std.specs.Prelude.{◌++◌, zip, string_bytes, slice_get, Some, codes}
use Rattle.std.specs.Fmt.{signed_decimal}
use Rattle.std.specs.Int.{w64}
use mir.Val.{SFits}
use Rattle.std.proofs.lemmas.Int.{to_z-of_z}
use Rattle.std.proofs.lemmas.Option.{slice_get_read}
use Rattle.ip_defs.specs.Program.{at}
use Rattle.sens_report.specs.AnswerTexts.{value_line}
use Rattle.sens_report.proofs.LineLaws.{all_valued, lines_added, lines_complete, valued}
use Rattle.sens_report.proofs.point_texts.push_values.Goals as goal

pub loop-j-preserved : goal.loop-j-preserved
loop-j-preserved c =
    let cs = c.args.columns.now in
    let xs = c.args.point.now in
    let j = c.loop-j.j in
    let inside : j < length xs = omega arith in
    let column = c.index-columns-j.result in
    let found : slice_get cs j ≡ Some column = slice_get_read cs (length cs) j column refl c.loop-j-test.true c.index-columns-j.is in
    let fits : SFits w64 (at xs j) = search rules in
    let back = to_z-of_z w64 (at xs j) fits in
    let line : string_bytes c.in_ok-line.line ≡ value_line (column, at xs j) = c.in_ok-line.ensures
    ∙ ap (λ z. codes "value " ++ c.as_str.result.now ++ codes " " ++ signed_decimal z ++ codes "\n") back
    ∙ ap (λ n. codes "value " ++ n ++ codes " " ++ signed_decimal (at xs j) ++ codes "\n") c.as_str.ensures in
    let added = c.in_ok-push_str.ensures.bytes ∙ ap (λ bs. string_bytes c.loop-j.text ++ bs) (c.as_str-in-loop-j.ensures.value ∙ line) in
    lines_added value_line (string_bytes c.args.text.now) (zip cs xs) j (column, at xs j) (valued cs xs j column found inside)
    c.loop-j.invariant added

pub returns : goal.returns
returns c =
    let all = all_valued c.args.columns.now c.args.point.now in
    let past = c.loop-j-test.false in
    let end : length (zip c.args.columns.now c.args.point.now) ≤ c.loop-j.j = omega arith in
    lines_complete value_line (string_bytes c.args.text.now) (zip c.args.columns.now c.args.point.now) c.loop-j.j end c.loop-j.invariant
