use Rattle.perturbation.proofs.ApplyLaws.{AreMade}
use Rattle.perturbation.proofs.applying.apply.Given as goal

abbrev pub invariant-loop-edit : goal.invariant-loop-edit
invariant-loop-edit l = AreMade l.model l.edits l.edit-index l.number l.parts
