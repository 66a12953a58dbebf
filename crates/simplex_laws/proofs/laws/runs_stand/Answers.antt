use Rattle.simplex_laws.proofs.RunLaws.{runs_stand}
use Rattle.simplex_laws.proofs.laws.runs_stand.Goals as goal

pub returns : goal.returns
returns c = runs_stand
