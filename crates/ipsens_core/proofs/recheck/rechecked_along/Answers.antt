use Rattle.std.proofs.Common.{ap, Err}
use Rattle.sweep_proof.proofs.RuleLaws.{row_rules_are_true}
use Rattle.ipsens_core.specs.Recheck.{IsRechecked}
use Rattle.ipsens_core.specs.SweepProofFiles.{ReadsRows}
use Rattle.ipsens_core.proofs.SweepProofLaws.{rows_prepared, rows_refusal}
use Rattle.ipsens_core.proofs.WithoutLaws.{without_prepared}
use Rattle.ipsens_core.proofs.recheck.rechecked_along.Goals as goal

pub returns-in_ok-judged-in-Ok-clause-prepared : goal.returns-in_ok-judged-in-Ok-clause-prepared
returns-in_ok-judged-in-Ok-clause-prepared g c =
    let m = c.args.model.now in
    let course = c.args.course.now in
    let sweep = c.in-Ok.sweep in
    let read = c.in-Ok.ensures.file in
    rows_prepared m course.dir course.steps c.args.proof.now _ _ _ _ _ _ sweep c.in_ok-judged-in-Ok.field-0 read
    (row_rules_are_true m course.dir course.steps sweep.pieces c.requires.direction.widening read.rows.fits) c.in_ok-judged-in-Ok.ensures
    c.in-Ok.ensures.keeps (c.in-Ok.ensures.no_fault (λ e. cc e)) c.in-Ok.ensures.saves

pub returns-in-Err-clause-prepared : goal.returns-in-Err-clause-prepared
returns-in-Err-clause-prepared g c =
    let m = c.args.model.now in
    let course = c.args.course.now in
    let proof = c.args.proof.now in
    let Owed = IsRechecked m course.dir course.steps in
    let owed = rows_refusal m proof Owed _ _ c.in-Err.unread c.in-Err.ensures.file in
    without_prepared (ReadsRows proof m Owed) _ _ _ _ _ _ c.in-Err.unread c.without.result owed c.without.ensures c.in-Err.ensures.keeps
    (λ e. c.in-Err.ensures.fault (ap Err e)) (λ not. c.in-Err.ensures.no_fault (λ e. not (cc e))) c.in-Err.ensures.saves
