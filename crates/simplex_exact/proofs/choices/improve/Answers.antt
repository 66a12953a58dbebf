use Rattle.simplex_exact.proofs.ScanLaws.{enters}
use Rattle.simplex_exact.proofs.choices.improve.Goals as goal

pub advance-requires-clause-variable : goal.advance-requires-clause-variable
advance-requires-clause-variable c =
    let up = c.in-Ok-Some.up in
    (enters c.args.tableau.now c.in-Ok-Some.var up c.in-Ok-Some.field-0 c.in-Ok-Some.ensures.first c.in-Ok-Some.field-0-is).0

pub advance-requires-clause-free : goal.advance-requires-clause-free
advance-requires-clause-free c =
    let up = c.in-Ok-Some.up in
    (enters c.args.tableau.now c.in-Ok-Some.var up c.in-Ok-Some.field-0 c.in-Ok-Some.ensures.first c.in-Ok-Some.field-0-is).1

pub returns-in-Err-clause-wide : goal.returns-in-Err-clause-wide
returns-in-Err-clause-wide c = c.in-Err.ensures.wide
