use Rattle.ipsens_core.specs.Recheck.{IsRechecked}
use Rattle.ipsens_core.specs.SweepProofFiles.{ReadsRows}
use Rattle.ipsens_core.proofs.ReadLaws.{began_more, began_one}
use Rattle.ipsens_core.proofs.SweepFileLaws.{course_prepared}
use Rattle.ipsens_core.proofs.recheck.rechecked.Goals as goal

pub returns-in-Ok-clause-prepared : goal.returns-in-Ok-clause-prepared
returns-in-Ok-clause-prepared g c =
    let m = c.args.model.now in
    course_prepared m c.args.sweep.now (λ d steps. ReadsRows c.args.proof.now m (IsRechecked m d steps)) _ _ _ _ _ _ _ _ _ c.in-Ok.course _
    c.in-Ok.ensures.file c.in-Ok.ensures.keeps (c.in-Ok.ensures.no_fault (λ e. cc e)) c.in-Ok.ensures.saves
    c.rechecked_along.ensures.prepared

pub returns-in-Ok-clause-names : goal.returns-in-Ok-clause-names
returns-in-Ok-clause-names g c = began_more _ _ _ _ _ c.in-Ok.ensures.names c.rechecked_along.ensures.names

pub returns-in-Err-clause-names : goal.returns-in-Err-clause-names
returns-in-Err-clause-names g c = began_one _ _ _ _ c.in-Err.ensures.names
