use Rattle.std.proofs.Common.{◌∙◌, ap, codes}
use Rattle.std.proofs.lemmas.Result.{IfOk-weaker}
use Rattle.clap.specs.Words.{App}
use Rattle.ips_words.specs.Internal.Parsers.{with_operand, with_option}
use Rattle.ips_words.proofs.parser.words_parser.Goals as goal

pub returns : goal.returns
returns c =
    let p0 = c.new-parser.ensures.app in
    let p1 = c.in_ok-parser.ensures ∙ ap (λ (a : App). with_operand a (codes "first")) p0 in
    let p2 = c.in_ok-parser-2.ensures ∙ ap (λ (a : App). with_operand a (codes "second")) p1 in
    let p3 = c.in_ok-parser-3.ensures ∙ ap (λ (a : App). with_operand a (codes "third")) p2 in
    let p4 = c.in_ok-parser-4.ensures ∙ ap (λ (a : App). with_option a (codes "--tree") (codes "tree")) p3 in
    let p5 = c.in_ok-parser-5.ensures ∙ ap (λ (a : App). with_option a (codes "--proof") (codes "proof")) p4 in
    let p6 = c.in_ok-parser-6.ensures ∙ ap (λ (a : App). with_option a (codes "--nodes") (codes "nodes")) p5 in
    let p7 = c.in_ok-parser-7.ensures ∙ ap (λ (a : App). with_option a (codes "--depth") (codes "depth")) p6 in
    let p8 = c.in_ok-parser-8.ensures ∙ ap (λ (a : App). with_option a (codes "--pivots") (codes "pivots")) p7 in
    let p9 = c.in_ok-parser-9.ensures ∙ ap (λ (a : App). with_option a (codes "--digits") (codes "digits")) p8 in
    let last = ap (λ (a : App). with_option a (codes "--box") (codes "box")) p9 in
    IfOk-weaker c.with_option-7.result _ _ (λ r h. h ∙ last) c.with_option-7.ensures
