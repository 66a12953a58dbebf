use Rattle.sweep_pieces.proofs.RunLaws.{runs_go_on}
use Rattle.sweep_pieces.proofs.laws.runs_go_on.Goals as goal

pub returns : goal.returns
returns c = runs_go_on
