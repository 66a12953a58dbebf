use Rattle.simplex_exact.proofs.choices.advance.Goals as goal

pub returns-in-Err-clause-wide : goal.returns-in-Err-clause-wide
returns-in-Err-clause-wide c = c.in-Err.ensures.wide
