use Rattle.std.proofs.Common.{◌≡◌, ◌++◌, map, take, drop}
use Rattle.ip_model.proofs.areas.set_sides.Given as goal

abbrev pub invariant-loop-j : goal.invariant-loop-j
invariant-loop-j l = l.area ≡ map (λ c. (c.lo, c.hi)) (take l.j l.columns) ++ drop l.j l.initial.area
