-- What is said of a node, where the search cuts at the cost of the best point so far.
use Rattle.std.specs.Prelude.{List, Some, None, ℤ}
use Rattle.std.proofs.Common.{arith, sym, subst}
use Rattle.std.proofs.lemmas.Int.{ints}
use Rattle.ip_defs.specs.declared.certificates.Bound.{Bound}
use Rattle.ip_defs.specs.declared.certificates.Cert.{Cert}
use Rattle.ip_defs.specs.declared.programs.Parts.{Parts}
use Rattle.proof_tree.specs.Verdicts.{IsAtLeast}
use Rattle.node_bounds.specs.Cuts.{Closes}
use Rattle.node_bounds.specs.Nodes.{IsWholeEnd, IsEnd as EndsAt}
use Rattle.branching.specs.Outcomes.{IsClosedBy}
use Rattle.branching.specs.Internal.Search.{Found, Improves, IsEnd, IsSound, cost_of, point_of}

-- what closes at the cost of the best point is closed by the point
pub closed_by : (m : Parts) (found : Found) (v : Bound) → IsSound m found → Closes (cost_of found) v → IsClosedBy m (point_of found) v
closed_by m None v sound h = h
closed_by m (Some p) v sound h = subst (λ (w : ℤ). IsAtLeast v w) (sym sound.1) h

pub end_is : (m : Parts) (b : List (ℤ × ℤ)) (found : Found) (c : Cert) → IsSound m found → EndsAt m b (cost_of found) c → IsEnd m b found c
end_is m b found c sound h = record { cert = h.cert; closed = closed_by m found _ sound h.closed }

-- a whole point below that cost is better, and closes its box once it is kept
module _ (m : Parts) (b : List (ℤ × ℤ)) (x : List ℤ) (w : ℤ) (c : Cert) where
  pub whole_sound : (found : Found) → IsWholeEnd m b (cost_of found) x w c → IsSound m (Some (x, w))
  whole_sound found h = (h.feasible, h.price)

  pub whole_end : (found : Found) → IsWholeEnd m b (cost_of found) x w c → IsEnd m b (Some (x, w)) c
  whole_end found h = end_is m b (Some (x, w)) c (whole_sound found h) h.ends

  pub whole_improves : (found : Found) → IsWholeEnd m b (cost_of found) x w c → Improves found (Some (x, w))
  whole_improves None h = tt
  whole_improves (Some p) h = let less = h.better in omega (arith, ints)
