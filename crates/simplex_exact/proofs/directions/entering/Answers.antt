use Rattle.std.proofs.Common.{◌∙◌, ◌≡◌, sym, ap, length, arith, ◌<◌, ℕ, Bool, Some, option_map}
use Rattle.ip_model.proofs.StepLaws.{first_here}
use Rattle.simplex_exact.proofs.ScanLaws.{lowering}
use Rattle.simplex_exact.proofs.directions.entering.Goals as goal

pub returns-in-Ok-Some-clause-first : goal.returns-in-Ok-Some-clause-first
returns-in-Ok-Some-clause-first c =
    let T = c.args.tableau.now in
    let v = c.loop-var.var in
    let advance : Bool → ℕ × Bool = λ up. (v, up) in
    let inside : v < length T.variables = omega arith in
    let found : lowering T v ≡ Some (advance c.in-Ok-Some.up) = ap (option_map advance) (sym c.in-Ok-Some.ensures.direction
    ∙ c.in-Ok-Some.field-0-is) in
    sym (first_here (lowering T) (length T.variables) v (advance c.in-Ok-Some.up) c.loop-var.invariant found inside)

pub returns-in-Err-clause-wide : goal.returns-in-Err-clause-wide
returns-in-Err-clause-wide c = c.in-Err.ensures.wide
