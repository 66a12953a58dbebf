use Rattle.std.proofs.Common.{◌∙◌, sym, ap, subst, ◌≡◌, ℕ, Bool, IfOk}
use Rattle.simplex_laws.specs.declared.next.Next.{Next}
use Rattle.simplex_laws.specs.Steps.{next, by_infeasible}
use Rattle.simplex_laws.proofs.StepLaws.{first_infeasible_is}
use Rattle.simplex_exact.proofs.choices.choose.Goals as goal

pub restore-requires-clause-row : goal.restore-requires-clause-row
restore-requires-clause-row c =
    let x : ℕ × Bool = (c.in-Ok-Some.row, c.in-Ok-Some.up) in
    (first_infeasible_is c.args.tableau.now c.requires.table x (sym c.in-Ok-Some.ensures.infeasible ∙ c.in-Ok-Some.field-0-is)).0

pub returns-in-Ok-Some-clause-next : goal.returns-in-Ok-Some-clause-next
unfolding next
returns-in-Ok-Some-clause-next c = c.restore.ensures.next ∙ ap (by_infeasible c.args.tableau.now) (sym c.in-Ok-Some.field-0-is
    ∙ c.in-Ok-Some.ensures.infeasible)

pub returns-in-Ok-None-clause-next : goal.returns-in-Ok-None-clause-next
unfolding next
returns-in-Ok-None-clause-next c =
    let T = c.args.tableau.now in
    subst (λ (z : Next). IfOk c.improve.result (λ n. n ≡ z)) (ap (by_infeasible T) (sym c.in-Ok-None.field-0-is
    ∙ c.in-Ok-None.ensures.infeasible))
    c.improve.ensures.next

pub returns-in-Err-clause-wide : goal.returns-in-Err-clause-wide
returns-in-Err-clause-wide c = c.in-Err.ensures.wide
