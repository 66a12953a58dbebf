use Rattle.std.proofs.Common.{◌∙◌, ◌++◌, ap, codes, decimal}
use Rattle.sens_report.proofs.sweep_texts.steps_text.Goals as goal

pub returns : goal.returns
returns c =
    let from = c.in_ok-text.ensures.ok in
    let to = c.as_str.ensures.value ∙ c.in_ok-to.ensures.ok in
    let both = c.in_ok-push_str.ensures.bytes ∙ ap (λ bs. bs ++ c.as_str.result.now) from
    ∙ ap (λ bs. (codes "piece " ++ decimal c.args.from ++ codes " ") ++ bs) to in
    c.in_ok-push_str-2.ensures.bytes ∙ ap (λ bs. bs ++ codes " ") both
