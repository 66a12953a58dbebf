use Rattle.simplex_laws.proofs.RunLaws.{runs_have_begun}
use Rattle.simplex_laws.proofs.laws.runs_have_begun.Goals as goal

pub returns : goal.returns
returns c = runs_have_begun
