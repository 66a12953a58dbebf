use Rattle.std.proofs.Common.{subst, sym}
use Rattle.ipsens_core.specs.Answers.{Answer}
use Rattle.ipsens_core.specs.Check.{AnswersCheck}
use Rattle.ipsens_core.specs.Internal.Made.{IsWritten}
use Rattle.ipsens_core.specs.Runs.{IsOwed}
use Rattle.ipsens_core.proofs.CheckLaws.{tree_owed, tree_written}
use Rattle.ipsens_core.proofs.RunLaws.{made_prepared}
use Rattle.ipsens_core.proofs.check.checked.Goals as goal

pub returns-in_ok-answer_to-in-Ok-clause-prepared : goal.returns-in_ok-answer_to-in-Ok-clause-prepared
returns-in_ok-answer_to-in-Ok-clause-prepared g c =
    let m = c.args.model.now in
    let tree = c.args.tree.now in
    let files = g.S.Shelf.files c.args.shelf.now in
    let files_after = g.S.Shelf.files c.judge_file.new.shelf in
    let is = c.in_ok-answer_to-in-Ok.ensures in
    let owed = subst (IsOwed (AnswersCheck tree m) files files_after) (sym is)
    (tree_owed m tree files files_after c.in-Ok.judged c.in-Ok.ensures.file) in
    let written = subst (λ (a : Answer). IsWritten a.status) (sym is) (tree_written m c.in-Ok.judged) in
    made_prepared _ _ _ _ _ _ _ c.in_ok-answer_to-in-Ok.field-0 written owed c.in-Ok.ensures.keeps (c.in-Ok.ensures.no_fault (λ e. cc e))
    c.in-Ok.ensures.saves
