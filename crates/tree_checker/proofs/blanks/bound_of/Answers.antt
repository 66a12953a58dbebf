use Rattle.std.proofs.Common.{rules, ◌≡◌, ◌∙◌, ap, to_z, of_z, Some}
use Rattle.std.specs.Int.{w64}
use Rattle.ip_defs.specs.declared.programs.Parts.{Parts}
use Rattle.tree_checker.proofs.LeafLaws.{bound_if, bound_unless}
use Rattle.tree_checker.proofs.blanks.bound_of.Goals as goal

pub returns-then-cert_ok-clause-bound : goal.returns-then-cert_ok-clause-bound
returns-then-cert_ok-clause-bound c =
    let back : to_z w64 (of_z w64 c.args.q) ≡ c.args.q = search rules in
    let rows = c.as_slice.ensures ∙ ap (λ (m : Parts). m.rows) c.parts.ensures.parts in
    bound_if c.args.model.now c.args.area.now (record { q = c.args.q; y = c.args.y.now }) c.cert_ok.result (Some c.leaf_bound.result)
    (rw (back, c.overwrite.ensures, rows) at c.cert_ok.ensures) c.if-cert_ok.true
    (ap Some (rw (back, c.overwrite.ensures) at c.leaf_bound.ensures.bound))

pub returns-else-cert_ok-clause-bound : goal.returns-else-cert_ok-clause-bound
returns-else-cert_ok-clause-bound c =
    let back : to_z w64 (of_z w64 c.args.q) ≡ c.args.q = search rules in
    let rows = c.as_slice.ensures ∙ ap (λ (m : Parts). m.rows) c.parts.ensures.parts in
    bound_unless c.args.model.now c.args.area.now (record { q = c.args.q; y = c.args.y.now }) c.cert_ok.result
    (rw (back, c.overwrite.ensures, rows) at c.cert_ok.ensures) c.if-cert_ok.false
