use Rattle.std.proofs.Common.{◌≡◌, subst}
use Rattle.std.specs.Prelude.{IfOk, List, ℕ, string_bytes}
use Rattle.ipsens_core.proofs.RefusalLaws.{no_lower_is, no_upper_is}
use Rattle.ipsens_core.proofs.model_refusals.no_bound_line.Goals as goal

pub returns-in-Lower : goal.returns-in-Lower
returns-in-Lower c = rw c.in-Lower.is (subst (λ (bs : List ℕ). IfOk c.no_lower_line.result (λ s. string_bytes s ≡ bs))
    (no_lower_is c.args.column.now) c.no_lower_line.ensures)

pub returns-in-Upper : goal.returns-in-Upper
returns-in-Upper c = rw c.in-Upper.is (subst (λ (bs : List ℕ). IfOk c.no_upper_line.result (λ s. string_bytes s ≡ bs))
    (no_upper_is c.args.column.now) c.no_upper_line.ensures)
