use Rattle.std.proofs.Common.{◌∙◌, ap}
use Rattle.std.proofs.lemmas.Result.{IfOk-weaker}
use Rattle.clap.specs.Words.{Rule, app_of, with_rule}
use Rattle.ips_words.proofs.parser.with_operand.Goals as goal

pub returns : goal.returns
returns c =
    let rule = ap (λ (r : Rule). with_rule (app_of c.args.parser) r) c.new.ensures.rule in
    IfOk-weaker c.arg.result _ _ (λ r h. h.shape c.new.ensures.optional.1 ∙ rule) c.arg.ensures
