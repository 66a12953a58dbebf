use Rattle.sweep_proof.proofs.DirectionLaws.{later_steps_are_wider}
use Rattle.sweep_proof.proofs.laws.later_steps_are_wider.Goals as goal

pub returns : goal.returns
returns c = later_steps_are_wider
