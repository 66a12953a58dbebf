-- Claims, proofs, and the verdict on a proof.
use Rattle.std.specs.Prelude.{◌≡◌, ℕ, if◌then◌else◌, ◌==◌, not, List, length, ℤ, ◌≤ℤ◌, Bool, true, false, Option, Some, None}
use Rattle.std.specs.Int.Signed.{lt_z}
use Rattle.ip_defs.specs.declared.certificates.Bound.{Bound}
use Rattle.ip_defs.specs.declared.certificates.Bound.TheVariants.{At, Infinite}
use Rattle.ip_defs.specs.declared.programs.Parts.{Parts}
use Rattle.ip_defs.specs.Program.{IsFeasible, IsLeast, cost}
use Rattle.ip_defs.specs.Breaches.{first_breach}
use Rattle.ip_defs.specs.declared.programs.Breach.{Breach}
use Rattle.std.specs.Option.{option_or}
use Rattle.proof_tree.specs.Trees.{plain, FitsColumns, tree_bound, tree_misfit}
use Rattle.proof_tree.specs.declared.claims.Claim.{Claim}
use Rattle.proof_tree.specs.declared.claims.Claim.TheVariants.{Best, Empty}
use Rattle.proof_tree.specs.declared.claims.Proof.{Proof}
use Rattle.proof_tree.specs.declared.faults.Shape.{Shape}
use Rattle.proof_tree.specs.declared.faults.ShapeWhat.TheVariants.{PointLength}
use Rattle.proof_tree.specs.declared.verdicts.Verdict.{Verdict}
use Rattle.proof_tree.specs.declared.verdicts.Verdict.TheVariants.{Proved, NotFeasible, Short}

-- the misfit of a point of another length, where the test holds
abbrev pub length_misfit : Bool → Option Shape
length_misfit true = Some (record { node = 0; what = PointLength })
length_misfit false = None

-- the misfit of a claimed point of another length
abbrev pub claim_misfit : ℕ → Claim → Option Shape
claim_misfit columns Empty = None
claim_misfit columns (Best x) = length_misfit (not (length x == columns))

-- the first misfit of a proof: of the point, with node 0, then of the nodes in preorder
abbrev pub proof_misfit : Parts → Proof → Option Shape
proof_misfit m p = option_or (claim_misfit (length m.columns) p.claim) (tree_misfit (length m.columns) (length m.rows) (plain p.tree))

-- a bound is at least a number
abbrev pub IsAtLeast : Bound → ℤ → Type 0
IsAtLeast (At v) w = w ≤ℤ v
IsAtLeast Infinite w = Unit {0}

-- a bound proves a claim
abbrev pub AreProvedBy : Parts → Claim → Bound → Type 0
AreProvedBy m (Best x) bound = IsFeasible m x × IsAtLeast bound (cost m x)
AreProvedBy m Empty bound = bound ≡ Infinite

-- the tree of a proof proves its claim
abbrev pub IsProved : Parts → Proof → Type 0
IsProved m p = AreProvedBy m p.claim (tree_bound m (plain p.tree))

-- whether a bound is at least a number
abbrev pub is_at_least : Bound → ℤ → Bool
is_at_least (At v) w = if lt_z v w then false else true
is_at_least Infinite w = true

-- the verdict on a claimed point, by its first breach, the bound and its cost
abbrev pub on_point : Option Breach → Bound → ℤ → Verdict
on_point (Some breach) bound w = NotFeasible breach
on_point None bound w = if is_at_least bound w then Proved (Some w) else Short bound (Some w)

-- the verdict on the claim that the program is infeasible
abbrev pub on_empty : Bound → Verdict
on_empty (At v) = Short (At v) None
on_empty Infinite = Proved None

-- the verdict on a claim, given the bound of its tree
abbrev pub judged : Parts → Claim → Bound → Verdict
judged m (Best x) bound = on_point (first_breach m x) bound (cost m x)
judged m Empty bound = on_empty bound

-- the verdict on a proof
abbrev pub verdict_of : Parts → Proof → Verdict
verdict_of m p = judged m p.claim (tree_bound m (plain p.tree))

-- a verdict says that the claim is proved
abbrev pub IsProvedVerdict : Verdict → Type 0
IsProvedVerdict (Proved c) = Unit {0}
IsProvedVerdict (NotFeasible breach) = ⊥
IsProvedVerdict (Short bound c) = ⊥

-- a claim is true of a program: the point is optimal, or no point is feasible
abbrev pub IsTrueClaim : Parts → Claim → Type 0
IsTrueClaim m (Best x) = IsLeast m x
IsTrueClaim m Empty = (x : List ℤ) → IsFeasible m x → ⊥

-- the claim of a proved proof is true, whatever made the proof
abbrev pub ProofsAreTrue : Type 0
ProofsAreTrue = (m : Parts) (p : Proof) → FitsColumns (length m.columns) (plain p.tree) → IsProved m p → IsTrueClaim m p.claim

-- a claimed point has one coordinate for each column
abbrev pub HasLength : ℕ → Claim → Type 0
HasLength n (Best x) = length x ≡ n
HasLength n Empty = Unit {0}

-- the verdict says proved exactly where the proof is proved
abbrev pub VerdictsAreExact : Type 0
VerdictsAreExact = (m : Parts) (p : Proof) → HasLength (length m.columns) p.claim →
    (IsProvedVerdict (verdict_of m p) → IsProved m p) × (IsProved m p → IsProvedVerdict (verdict_of m p))
