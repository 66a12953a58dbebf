use Rattle.std.proofs.Common.{ap, sym, ◌++◌, ◌∙◌}
use Rattle.ipsens_core.specs.ModelRefusals.{on_line}
use Rattle.ipsens_core.proofs.RefusalLaws.{same_line}
use Rattle.ipsens_core.proofs.question_refusals.text_fault_line.Goals as goal

pub returns-in-Some : goal.returns-in-Some
returns-in-Some c =
    let numbered = c.in-Some.ensures ∙ ap (λ n. c.in-Some.word.now ++ on_line n) (sym c.from.ensures) in
    same_line _ _ _ c.refused_at.result numbered c.refused_at.ensures
