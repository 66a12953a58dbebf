use Rattle.std.proofs.Common.{◌∙◌, ◌++◌, ap, codes}
use Rattle.sens_report.proofs.sweep_verdict_texts.numbers_text.Goals as goal

pub returns : goal.returns
returns c =
    let one = c.in_ok-push_str.ensures.bytes ∙ ap (λ bs. bs ++ c.args.left.now) c.in_ok-text.ensures.ok in
    let two = c.in_ok-push_str-2.ensures.bytes ∙ ap (λ bs. bs ++ codes " ") one in
    c.in_ok-push_str-3.ensures.bytes ∙ ap (λ bs. bs ++ c.args.right.now) two
