use Rattle.ip_defs.proofs.BreachLaws.{breaches_are_exact}
use Rattle.ip_defs.proofs.programs.breaches_are_exact.Goals as goal

pub returns : goal.returns
returns c = breaches_are_exact
