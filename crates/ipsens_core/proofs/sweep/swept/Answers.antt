use Rattle.std.proofs.Common.{ap, Err}
use Rattle.ipsens_core.specs.Answers.{ReadsNoMore}
use Rattle.ipsens_core.specs.Solve.{limits_for}
use Rattle.ipsens_core.specs.Sweep.{AnswersSweep, IsSwept}
use Rattle.ipsens_core.proofs.ReadLaws.{began_one}
use Rattle.ipsens_core.proofs.RunLaws.{made_at_once}
use Rattle.ipsens_core.proofs.SweepFileLaws.{course_prepared, sweep_refusal}
use Rattle.ipsens_core.proofs.WithoutLaws.{without_prepared}
use Rattle.ipsens_core.proofs.sweep.swept.Goals as goal

pub returns-in_ok-swept_along-in-Ok-clause-prepared : goal.returns-in_ok-swept_along-in-Ok-clause-prepared
returns-in_ok-swept_along-in-Ok-clause-prepared g c =
    let m = c.args.model.now in
    let asked = c.args.asked in
    let proof = c.args.proof.now in
    let course = c.in-Ok.course in
    let l = limits_for m asked.nodes asked.depth asked.pivots in
    let made = c.in_ok-swept_along-in-Ok.field-0 in
    let is = c.in_ok-swept_along-in-Ok.ensures in
    course_prepared m c.args.sweep.now (λ d steps. ReadsNoMore (IsSwept m d steps l proof)) _ _ _ _ _ _ _ _ _ course _
    c.in-Ok.ensures.file c.in-Ok.ensures.keeps (c.in-Ok.ensures.no_fault (λ e. cc e)) c.in-Ok.ensures.saves
    (made_at_once (IsSwept m course.dir course.steps l proof) _ _ _ made is.written is.owed)

pub returns-in_ok-swept_along-in-Ok-clause-names : goal.returns-in_ok-swept_along-in-Ok-clause-names
returns-in_ok-swept_along-in-Ok-clause-names g c = began_one _ _ _ _ c.in-Ok.ensures.names

pub returns-in_err-swept_along-in-Ok-clause-names : goal.returns-in_err-swept_along-in-Ok-clause-names
returns-in_err-swept_along-in-Ok-clause-names g c = began_one _ _ _ _ c.in-Ok.ensures.names

pub returns-in-Err-clause-prepared : goal.returns-in-Err-clause-prepared
returns-in-Err-clause-prepared g c =
    let m = c.args.model.now in
    let asked = c.args.asked in
    let sweep = c.args.sweep.now in
    let l = limits_for m asked.nodes asked.depth asked.pivots in
    let owed = sweep_refusal m sweep (λ d steps. ReadsNoMore (IsSwept m d steps l c.args.proof.now)) _ _ c.in-Err.unread
    c.in-Err.ensures.file in
    without_prepared (AnswersSweep sweep c.args.proof.now asked.nodes asked.depth asked.pivots m) _ _ _ _ _ _ c.in-Err.unread
    c.without.result owed c.without.ensures c.in-Err.ensures.keeps
    (λ e. c.in-Err.ensures.fault (ap Err e)) (λ not. c.in-Err.ensures.no_fault (λ e. not (cc e))) c.in-Err.ensures.saves

pub returns-in-Err-clause-names : goal.returns-in-Err-clause-names
returns-in-Err-clause-names g c = began_one _ _ _ _ c.in-Err.ensures.names
