use Rattle.std.proofs.Common.{rules, ◌≡◌, ◌∙◌, ap, sym, subst, to_z, of_z}
use Rattle.std.specs.Prelude.{ℤ}
use Rattle.std.specs.Int.{w64, w128}
use Rattle.ip_defs.specs.declared.certificates.Bound.{Bound}
use Rattle.ip_defs.specs.declared.certificates.Bound.TheVariants.{At}
use Rattle.ip_defs.specs.Certificates.{leaf_bound}
use Rattle.node_bounds.specs.Certificates.{plain_cert}
use Rattle.node_bounds.specs.Cuts.{Closes}
use Rattle.node_bounds.specs.Nodes.{greater}
use Rattle.node_bounds.proofs.LeafLaws.{greater_closes}
use Rattle.node_bounds.proofs.nodes.split_or_close.Goals as goal
use Rattle.node_bounds.proofs.nodes.split_or_close.Goals.{In-Some, In-Fractional}

-- the sum of the box is the bound that is below
sum_is : (c : In-Some) → leaf_bound c.args.task.now.model.now c.args.task.now.area.now plain_cert ≡ At c.in-Some.sum
sum_is c =
    sym (c.leaf_bound.ensures.bound ∙ ap (leaf_bound c.args.task.now.model.now c.args.task.now.area.now) c.plain_cert-plain.ensures)
    ∙ c.in-Some.ensures.some.0

pub returns-in-Some-below-clause-node : goal.returns-in-Some-below-clause-node
returns-in-Some-below-clause-node c = λ pivots split.
    let m = c.args.task.now.model.now in
    let b = c.args.task.now.area.now in
    let at_back : to_z w64 (of_z w64 c.args.at) ≡ c.args.at = search rules in
    let back : to_z w128 (of_z w128 c.in-Some-below.bound) ≡ c.in-Some-below.bound = search rules in
    let sum_back : to_z w128 (of_z w128 c.in-Some.sum) ≡ c.in-Some.sum = search rules in
    let sum = sum_is (goal.at.returns-in-Some-below-clause-node c).In-Some in
    let own = c.leaf_bound-in-Fractional.result in
    let both : c.greater-bound.result ≡ greater (leaf_bound m b plain_cert) (leaf_bound m b c.in-Fractional.cert) = c.greater-bound.ensures
    ∙ ap (λ (z : ℤ). greater (At z) own) sum_back ∙ ap (λ (u : Bound). greater u own) (sym sum)
    ∙ ap (λ (u : Bound). greater (leaf_bound m b plain_cert) u) c.leaf_bound-in-Fractional.ensures.bound in
    rw (at_back, back) (record {
      split = rw c.in-Fractional.is at split;
      bound = sym c.in-Some-below.ensures.some.0 ∙ both;
      below = c.in-Some-below.ensures.some.1;
    })

pub returns-in-Fractional-clause-node : goal.returns-in-Fractional-clause-node
returns-in-Fractional-clause-node c = λ pivots split.
    let sum_back : to_z w128 (of_z w128 c.in-Some.sum) ≡ c.in-Some.sum = search rules in
    let own = c.leaf_bound-in-Fractional.result in
    let both : c.greater-bound.result ≡ greater (At c.in-Some.sum) own =
    c.greater-bound.ensures ∙ ap (λ (z : ℤ). greater (At z) own) sum_back in
    let closes = subst (Closes c.args.task.now.cut_at) both c.in-None-below.ensures.none in
    record {
      cert = rw c.in-Fractional.is at c.requires.cert;
      closed = subst (Closes c.args.task.now.cut_at) c.leaf_bound-in-Fractional.ensures.bound
          (greater_closes c.args.task.now.cut_at c.in-Some.sum c.leaf_bound-in-Fractional.result c.in-Some.ensures.some.1 closes);
    }

pub returns-in-Stopped-clause-node : goal.returns-in-Stopped-clause-node
returns-in-Stopped-clause-node c = λ pivots split.
    let at_back : to_z w64 (of_z w64 c.args.at) ≡ c.args.at = search rules in
    let back : to_z w128 (of_z w128 c.in-Some.sum) ≡ c.in-Some.sum = search rules in
    let sum = sum_is (goal.at.returns-in-Stopped-clause-node c).In-Some in
    rw (at_back, back) (record { split = rw c.in-Stopped.is at split; bound = sym sum; below = c.in-Some.ensures.some.1 })

pub returns-clause-node : goal.returns-clause-node
returns-clause-node c = λ pivots split.
    let at_back : to_z w64 (of_z w64 c.args.at) ≡ c.args.at = search rules in
    let back : to_z w128 (of_z w128 c.in-Some.sum) ≡ c.in-Some.sum = search rules in
    let sum = sum_is (goal.at.returns-clause-node c).In-Some in
    rw (at_back, back) (record { split = rw c.in-Wide.is at split; bound = sym sum; below = c.in-Some.ensures.some.1 })
