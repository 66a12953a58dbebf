use Rattle.sweep_pieces.proofs.RunLaws.{runs_are_kept}
use Rattle.sweep_pieces.proofs.laws.runs_are_kept.Goals as goal

pub returns : goal.returns
returns c = runs_are_kept
