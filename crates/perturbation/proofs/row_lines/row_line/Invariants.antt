use Rattle.perturbation.proofs.SideLaws.{AreStepped}
use Rattle.perturbation.proofs.row_lines.row_line.Given as goal

abbrev pub invariant-loop-place : goal.invariant-loop-place
invariant-loop-place l = AreStepped l.model l.dir l.t l.place-index l.parts
