use Rattle.ip_defs.proofs.BoxLaws.{box_within}
use Rattle.ipsens_bench.proofs.certificates.bound_after.Goals as goal

pub leaf_bound-bound-requires-clause-area : goal.leaf_bound-bound-requires-clause-area
leaf_bound-bound-requires-clause-area c =
    rw (c.in_ok-area.ensures.sides) (box_within _ c.in_ok-area.ensures.limits)
