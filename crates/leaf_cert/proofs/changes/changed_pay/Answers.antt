use Rattle.std.proofs.Common.{arith, ◌≡◌, ◌∙◌, ◌+ℤ◌, to_z, of_z, ap, sym, length, None, Some}
use Rattle.std.specs.Prelude.{option_map}
use Rattle.std.specs.Int.{w128}
use Rattle.std.proofs.lemmas.Int.{ints}
use Rattle.ip_defs.specs.Certificates.{pay}
use Rattle.leaf_cert.specs.Internal.Changes.{more_paid}
use Rattle.leaf_cert.proofs.ChangedSums.{change_small, pay_changed}
use Rattle.leaf_cert.proofs.changes.changed_pay.Goals as goal

pub more_paid-requires-clause-by : goal.more_paid-requires-clause-by
more_paid-requires-clause-by c = change_small c.args.parts.now c.args.change c.requires.limits c.requires.change

pub returns-in-Some-clause-paid : goal.returns-in-Some-clause-paid
returns-in-Some-clause-paid c =
    let m = c.args.parts.now in
    let y = c.args.y.now in
    let has : pay m.rows y ≡ Some c.in-Some.paid = sym c.paid.ensures.paid ∙ c.in-Some.is in
    let paid = c.in-Some.ensures.small in
    let small = c.more_paid.ensures.small in
    let more = c.more_paid.ensures.value (length m.rows) c.requires.ordered in
    let back : to_z w128 (of_z w128 c.total_of.result) ≡ c.in-Some.paid +ℤ more_paid c.args.change y = omega (arith, ints) in
    ap Some back ∙ sym (pay_changed (length m.rows) m c.args.change y c.requires.ordered
    ∙ ap (option_map (λ v. v +ℤ more_paid c.args.change y)) has)

pub returns-in-None-clause-paid : goal.returns-in-None-clause-paid
returns-in-None-clause-paid c =
    let m = c.args.parts.now in
    let y = c.args.y.now in
    let has : pay m.rows y ≡ None = sym c.paid.ensures.paid ∙ c.in-None.is in
    sym (pay_changed (length m.rows) m c.args.change y c.requires.ordered ∙ ap (option_map (λ v. v +ℤ more_paid c.args.change y)) has)
