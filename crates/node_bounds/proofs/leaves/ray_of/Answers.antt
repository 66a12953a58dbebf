use Rattle.std.proofs.Common.{◌∙◌, ap, sym, arith}
use Rattle.std.specs.Prelude.{length, pos, negsuc}
use Rattle.std.proofs.lemmas.Int.{ints}
use Rattle.ip_defs.specs.Certificates.{leaf_bound}
use Rattle.node_bounds.specs.Areas.{lowest}
use Rattle.node_bounds.proofs.RowLaws.{other_ray, ray_cert, broken_within}
use Rattle.node_bounds.proofs.leaves.ray_of.Goals as goal

pub returns-in-Infinite-clause-ray : goal.returns-in-Infinite-clause-ray
returns-in-Infinite-clause-ray c =
    let within = broken_within c.args.model.now (lowest c.args.area.now) c.args.row c.requires.broken in
    rw c.in_ok-ray.ensures (ray_cert (length c.args.model.now.rows) c.args.row (pos 1) within (λ e. omega (arith, ints))
    (omega (arith, ints)))

pub returns-in-At-clause-ray : goal.returns-in-At-clause-ray
returns-in-At-clause-ray c =
    let within = broken_within c.args.model.now (lowest c.args.area.now) c.args.row c.requires.broken in
    rw (c.set.ensures, c.in_ok-ray.ensures) (ray_cert (length c.args.model.now.rows) c.args.row (negsuc 0) within
    (λ e. omega (arith, ints)) (omega (arith, ints)))

pub returns-in-At-clause-infinite : goal.returns-in-At-clause-infinite
returns-in-At-clause-infinite c =
    let m = c.args.model.now in
    let b = c.args.area.now in
    let low_is = ap (leaf_bound m b) (sym c.in_ok-ray.ensures) ∙ sym c.in-At.ensures.bound in
    rw (c.set.ensures, c.in_ok-ray.ensures)
    (other_ray m b c.args.row c.in-At.field-0 c.requires.single c.requires.open c.requires.broken low_is)
