use Rattle.sweep_pieces.proofs.RunLaws.{finished_solves_are_solves}
use Rattle.sweep_pieces.proofs.laws.finished_solves_are_solves.Goals as goal

pub returns : goal.returns
returns c = finished_solves_are_solves
