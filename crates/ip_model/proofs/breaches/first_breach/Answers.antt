use Rattle.std.proofs.Common.{ap, sym, ◌∙◌, ◌≡◌, refl, List, ℤ, None, Some, Option, IsNone}
use Rattle.ip_defs.specs.Breaches.{first_breach}
use Rattle.ip_defs.specs.declared.programs.Parts.{Parts}
use Rattle.ip_defs.proofs.BreachLaws.{breaches_are_exact}
use Rattle.ip_model.proofs.breaches.first_breach.Goals as goal

none_is : {A : Type 0} (o : Option A) → IsNone o → o ≡ None
none_is None h = refl
none_is (Some x) h = absurd cc

is_none_of : {A : Type 0} (o : Option A) → o ≡ None → IsNone o
is_none_of None h = refl
is_none_of (Some x) h = absurd cc

pub returns-clause-feasible : goal.returns-clause-feasible
returns-clause-feasible c =
    let m = c.args.model.now in
    let x = c.args.point.now in
    let is : c.breach_at.result ≡ first_breach m x = c.breach_at.ensures
    ∙ ap (λ (n : Parts). first_breach n c.as_slice.result.now) c.parts.ensures.parts
    ∙ ap (λ (y : List ℤ). first_breach m y) c.as_slice.ensures in
    let law = breaches_are_exact m x c.requires in
    (λ h. law.0 (sym is ∙ none_is c.breach_at.result h), λ h. is_none_of c.breach_at.result (is ∙ law.1 h))
