use Rattle.tree_format.proofs.ClaimStepLaws.{CoordinatesRead}
use Rattle.tree_format.proofs.claim_steps.read_coordinates.Given as goal

abbrev pub invariant-loop : goal.invariant-loop
invariant-loop l = CoordinatesRead l.bytes l.fn.at l.at l.counter l.count l.point
