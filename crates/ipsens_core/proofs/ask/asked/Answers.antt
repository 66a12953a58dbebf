use Rattle.std.proofs.Common.{subst, sym}
use Rattle.proof_tree.specs.Trees.{tree_bound}
use Rattle.proof_tree.specs.Verdicts.{judged}
use Rattle.ipsens_core.specs.Answers.{Answer}
use Rattle.ipsens_core.specs.Ask.{AnswersAsk, AsksVerdict}
use Rattle.ipsens_core.specs.Internal.Made.{IsWritten}
use Rattle.ipsens_core.specs.Internal.ProofFiles.{IsProofRead}
use Rattle.ipsens_core.specs.Runs.{IsOwed}
use Rattle.ipsens_core.proofs.AskLaws.{no_proof_owed, no_proof_written, proof_prepared}
use Rattle.ipsens_core.proofs.ReadLaws.{began_more, began_one}
use Rattle.ipsens_core.proofs.RunLaws.{made_prepared}
use Rattle.ipsens_core.proofs.ask.asked.Goals as goal

pub returns-in-Ok-Ok-clause-prepared : goal.returns-in-Ok-Ok-clause-prepared
returns-in-Ok-Ok-clause-prepared g c =
    let m = c.args.model.now in
    let tree = c.args.tree.now in
    let questions = c.args.questions.now in
    let files = g.S.Shelf.files c.args.shelf.now in
    let files_after = g.S.Shelf.files c.read_proof.new.shelf in
    let read = subst (IsProofRead m files files_after tree) c.in-Ok-Ok.field-0-is c.in-Ok-Ok.ensures.file in
    proof_prepared m tree (λ q t. AsksVerdict questions m q t (judged m q (tree_bound m t))) _ _ _ _ _ _ _ _ _ c.in-Ok-Ok.proof _ read
    c.in-Ok-Ok.ensures.keeps (c.in-Ok-Ok.ensures.no_fault (λ e. cc e)) c.in-Ok-Ok.ensures.saves c.asked_of_proof.ensures.prepared

pub returns-in-Ok-Ok-clause-names : goal.returns-in-Ok-Ok-clause-names
returns-in-Ok-Ok-clause-names g c = began_more _ _ _ _ _ c.in-Ok-Ok.ensures.names c.asked_of_proof.ensures.names

pub returns-in_ok-refused-in-Ok-Err-clause-prepared : goal.returns-in_ok-refused-in-Ok-Err-clause-prepared
returns-in_ok-refused-in-Ok-Err-clause-prepared g c =
    let m = c.args.model.now in
    let tree = c.args.tree.now in
    let questions = c.args.questions.now in
    let files = g.S.Shelf.files c.args.shelf.now in
    let files_after = g.S.Shelf.files c.read_proof.new.shelf in
    let is = c.in_ok-refused-in-Ok-Err.ensures in
    let read = subst (IsProofRead m files files_after tree) c.in-Ok-Err.field-0-is c.in-Ok-Err.ensures.file in
    let owed = subst (IsOwed (AnswersAsk tree questions m) files files_after) (sym is)
    (no_proof_owed m tree (λ q t. AsksVerdict questions m q t (judged m q (tree_bound m t))) files files_after c.in-Ok-Err.error read) in
    let written = subst (λ (a : Answer). IsWritten a.status) (sym is) (no_proof_written c.in-Ok-Err.error) in
    made_prepared _ _ _ _ _ _ _ c.in_ok-refused-in-Ok-Err.field-0 written owed c.in-Ok-Err.ensures.keeps
    (c.in-Ok-Err.ensures.no_fault (λ e. cc e)) c.in-Ok-Err.ensures.saves

pub returns-in_err-refused-in-Ok-Err-clause-names : goal.returns-in_err-refused-in-Ok-Err-clause-names
returns-in_err-refused-in-Ok-Err-clause-names g c = began_one _ _ _ _ c.in-Ok-Err.ensures.names

pub returns-in_ok-refused-in-Ok-Err-clause-names : goal.returns-in_ok-refused-in-Ok-Err-clause-names
returns-in_ok-refused-in-Ok-Err-clause-names g c = began_one _ _ _ _ c.in-Ok-Err.ensures.names

pub returns-in_err-too_long-in-Err-TooLong-clause-names : goal.returns-in_err-too_long-in-Err-TooLong-clause-names
returns-in_err-too_long-in-Err-TooLong-clause-names g c = began_one _ _ _ _ c.in-Err-TooLong.ensures.names

pub returns-in_ok-too_long-in-Err-TooLong-clause-names : goal.returns-in_ok-too_long-in-Err-TooLong-clause-names
returns-in_ok-too_long-in-Err-TooLong-clause-names g c = began_one _ _ _ _ c.in-Err-TooLong.ensures.names
