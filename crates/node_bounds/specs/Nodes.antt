-- What is said of a node, and when it is right: a box is closed by a certificate, or a whole point is a least one of it, or it is split.
use Rattle.std.specs.Prelude.{◌≡◌, ℕ, ◌^◌, ◌<◌, ◌≤◌, List, length, Option, Some, ℤ}
use Rattle.std.specs.Int.{int_max}
use Rattle.std.specs.Int.RustNames.{unsigned_abs}
use Rattle.ip_defs.specs.declared.certificates.Bound.{Bound}
use Rattle.ip_defs.specs.declared.certificates.Bound.TheVariants.{At, Infinite}
use Rattle.ip_defs.specs.declared.certificates.Cert.{Cert}
use Rattle.ip_defs.specs.declared.programs.Parts.{Parts}
use Rattle.ip_defs.specs.Certificates.{leaf_bound}
use Rattle.ip_defs.specs.Limits.{IsCert}
use Rattle.ip_defs.specs.Program.{cost, IsFeasible}
use Rattle.proof_tree.specs.LabelledTrees.{split_at}
use Rattle.node_bounds.specs.declared.nodes.Branch.{Branch}
use Rattle.node_bounds.specs.declared.nodes.Node.{Node}
use Rattle.node_bounds.specs.declared.nodes.Node.TheVariants as Nodes
use Rattle.node_bounds.specs.declared.reasons.Why.{Why}
use Rattle.node_bounds.specs.declared.reasons.Why.TheVariants.{Fractional, Stopped, Wide}
use Rattle.node_bounds.specs.Certificates.{plain_cert}
use Rattle.node_bounds.specs.Cuts.{Closes, IsBelow}
use Rattle.node_bounds.specs.Reasons.{IsReasoned}
use Rattle.node_bounds.specs.Stops.{stops}

-- a certificate for the rows of a program closes a box, where a search cuts at a cost
pub record IsEnd (m : Parts) (b : List (ℤ × ℤ)) (cut_at : Option ℤ) (c : Cert) : Type 0 where
  pub cert : IsCert (length m.rows) c
  pub closed : Closes cut_at (leaf_bound m b c)

-- a feasible point, below the cost at which a search cuts, and a certificate that closes its box where the search cuts at the point's cost
pub record IsWholeEnd (m : Parts) (b : List (ℤ × ℤ)) (cut_at : Option ℤ) (x : List ℤ) (w : ℤ) (c : Cert) : Type 0 where
  pub feasible : IsFeasible m x
  pub price : cost m x ≡ w
  pub better : IsBelow (At w) cut_at
  pub ends : IsEnd m b (Some w) c

-- a split of a box at a column and a number, for a reason
pub record IsSplit (m : Parts) (pivots : ℕ) (b : List (ℤ × ℤ)) (col : ℕ) (cut : ℤ) (why : Why) : Type 0 where
  pub reasoned : IsReasoned m pivots (split_at b col cut) why
  pub column : col < length m.columns
  pub cut_small : unsigned_abs cut ≤ 2 ^ 24

-- the certificate of a reason, where it has one, is one for a number of rows
abbrev pub HasCert : ℕ → Why → Type 0
HasCert rows (Fractional x c) = IsCert rows c
HasCert rows Stopped = Unit {0}
HasCert rows Wide = Unit {0}

-- the greater of two bounds
abbrev pub greater : Bound → Bound → Bound
greater (At u) (At v) = At (int_max u v)
greater Infinite v = Infinite
greater (At u) Infinite = Infinite

-- the bound of a box that is split for a reason: the sum of the box, and that of the reason's certificate where it is greater
abbrev pub own_bound : Parts → List (ℤ × ℤ) → Why → Bound
own_bound m b (Fractional x c) = greater (leaf_bound m b plain_cert) (leaf_bound m b c)
own_bound m b Stopped = leaf_bound m b plain_cert
own_bound m b Wide = leaf_bound m b plain_cert

-- a split of a box, with its bound, which is below the cost at which a search cuts
pub record IsBranch (m : Parts) (pivots : ℕ) (b : List (ℤ × ℤ)) (cut_at : Option ℤ) (s : Branch) : Type 0 where
  pub split : IsSplit m pivots b s.col s.at s.why
  pub bound : At s.bound ≡ own_bound m b s.why
  pub below : IsBelow (At s.bound) cut_at

-- what is said of a box is right, where linear programs may take a number of steps and a search cuts at a cost
abbrev pub IsNodeOf : Parts → ℕ → List (ℤ × ℤ) → Option ℤ → Node → Type 0
IsNodeOf m pivots b cut_at (Nodes.Closed c) = IsEnd m b cut_at c
IsNodeOf m pivots b cut_at (Nodes.Whole x w c) = IsWholeEnd m b cut_at x w c
IsNodeOf m pivots b cut_at (Nodes.Split s) = IsBranch m pivots b cut_at s

-- how often the linear program of a node was stopped
abbrev pub stops_of : Node → ℕ
stops_of (Nodes.Closed c) = 0
stops_of (Nodes.Whole x w c) = 0
stops_of (Nodes.Split s) = stops s.why

-- a node that is split is split for this reason
abbrev pub KeepsReason : Why → Node → Type 0
KeepsReason why (Nodes.Closed c) = Unit {0}
KeepsReason why (Nodes.Whole x w c) = Unit {0}
KeepsReason why (Nodes.Split s) = s.why ≡ why
