use Rattle.simplex_laws.specs.Finals.{point_of}
use Rattle.tableau.specs.Tables.{Table}
use Rattle.simplex_exact.specs.Answers.{AreNumbers}
use Rattle.simplex_exact.specs.Internal.Numbers.{AreNumbersBelow}
use Rattle.simplex_exact.proofs.finals.point.Given as goal

abbrev pub invariant-loop-j : goal.invariant-loop-j
invariant-loop-j l = (T : Table) → AreNumbersBelow T l.values l.columns → AreNumbers l.j (point_of T) l.point.items
