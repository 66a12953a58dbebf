use Rattle.std.proofs.Common.{ap, sym, ◌++◌, ◌∙◌, codes}
use Rattle.ipsens_core.specs.QuestionRefusals.{on_edit}
use Rattle.ipsens_core.proofs.RefusalLaws.{same_line}
use Rattle.ipsens_core.proofs.question_refusals.direction_line.Goals as goal

pub returns-in-Some : goal.returns-in-Some
returns-in-Some c =
    let numbered = c.in-Some.ensures ∙ ap (λ n. c.in-Some.word.now ++ on_edit n) (sym c.from.ensures) in
    same_line (codes "sweep") _ _ c.refused_at.result numbered c.refused_at.ensures
