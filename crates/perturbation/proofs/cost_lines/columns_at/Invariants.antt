use Rattle.perturbation.proofs.LineLaws.{AreMoved}
use Rattle.perturbation.proofs.cost_lines.columns_at.Given as goal

abbrev pub invariant-loop-j : goal.invariant-loop-j
invariant-loop-j l = AreMoved l.columns l.dir l.p l.q l.j l.moved
