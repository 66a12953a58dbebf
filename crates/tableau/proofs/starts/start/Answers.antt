use Rattle.std.proofs.Common.{rules, ◌≡◌, sym, subst, Result, Ok, Err, IfOk}
use Rattle.ip_defs.specs.declared.memory.Memory.{Memory}
use Rattle.tableau.specs.Tables.{Table}
use Rattle.tableau.specs.Nodes.{start_of, StandsFor, HasItsPoints}
use Rattle.tableau.proofs.StartLaws.{start-stands, start-points}
use Rattle.tableau.proofs.starts.start.Goals as goal

-- what holds of the defined answer
of_answer : (o : Result Table Memory) (T : Table) (P : Table → Type 0) → IfOk o (λ t. t ≡ T) → P T → IfOk o P
of_answer (Ok t) T P is h = subst P (sym is) h
of_answer (Err e) T P is h = tt

pub returns-clause-stands : goal.returns-clause-stands
returns-clause-stands c =
    let m = c.args.model.now in
    let b = c.args.area.now in
    of_answer c.start_at.result (start_of m b) (StandsFor m b) (search rules) (start-stands m b c.parts.ensures.limits c.requires)

pub returns-clause-points : goal.returns-clause-points
returns-clause-points c =
    let m = c.args.model.now in
    let b = c.args.area.now in
    of_answer c.start_at.result (start_of m b) (HasItsPoints m) (search rules) (start-points m b c.parts.ensures.limits c.requires)
