-- The rules by which the proof of a row sweep is judged, in their order. Pieces are numbered from 0.
use Rattle.std.specs.Prelude.{ℕ, ◌+◌, ◌==◌, ◌&&◌, if◌then◌else◌, Bool, true, false, List, [], ◌∷◌, length, Option, Some, None}
use Rattle.std.specs.Prelude.{option_map, ℤ}
use Rattle.std.specs.Int.Signed.{lt_z}
use Rattle.std.specs.Option.{option_or}
use Rattle.ip_defs.specs.Breaches.{first_breach}
use Rattle.ip_defs.specs.Program.{cost}
use Rattle.ip_defs.specs.declared.certificates.Bound.{Bound}
use Rattle.ip_defs.specs.declared.certificates.Bound.TheVariants.{At, Infinite}
use Rattle.ip_defs.specs.declared.programs.Parts.{Parts}
use Rattle.ip_model.specs.declared.places.Place.{Place}
use Rattle.perturbation.specs.Lines.{row_at}
use Rattle.proof_tree.specs.Trees.{plain, is_at_most, tree_bound}
use Rattle.proof_tree.specs.Verdicts.{is_at_least}
use Rattle.proof_tree.specs.declared.claims.Claim.{Claim}
use Rattle.proof_tree.specs.declared.claims.Claim.TheVariants.{Best, Empty}
use Rattle.sweep_proof.specs.declared.row_sweeps.RowPiece.{RowPiece}
use Rattle.sweep_proof.specs.declared.verdicts.SweepVerdict.{SweepVerdict}
use Rattle.sweep_proof.specs.declared.verdicts.SweepVerdict.TheVariants.{Proved, Cover, Breach, Fall, Short}

-- ---- steps

-- a piece may end at a step: the last one at the last step of the sweep alone, each other one anywhere
abbrev pub may_end : ℕ → Bool → ℕ → Bool
may_end steps true to = to == steps
may_end steps false to = true

-- a piece covers its steps in turn: it begins at the step that is next, not after its own end, and may end where it does
abbrev pub covers : ℕ → ℕ → Bool → RowPiece → Bool
covers steps next is_last p = p.from == next && is_at_most p.from p.to && may_end steps is_last p.to

-- the first piece that does not, numbered from k on
abbrev pub first_gap : ℕ → ℕ → ℕ → List RowPiece → Option SweepVerdict
first_gap steps next k [] = None
first_gap steps next k (p ∷ ps) = if covers steps next (length ps == 0) p then first_gap steps (p.to + 1) (k + 1) ps else Some (Cover k)

-- ---- claims

-- the cost that is claimed, none where emptiness is
abbrev pub claimed_cost : Parts → Claim → Option ℤ
claimed_cost m (Best x) = Some (cost m x)
claimed_cost m Empty = None

-- the cost of a piece is below the one before it, where there is one
abbrev pub fall_at : ℕ → Option ℤ → ℤ → Option SweepVerdict
fall_at k None w = None
fall_at k (Some v) w = if lt_z w v then None else Some (Fall k v w)

-- the claim of piece k at its first step, after a piece of this claimed cost: only the first piece may claim emptiness; a point is to be
-- feasible and to cost less than the one before it
abbrev pub claim_fault : Parts → List (Place × ℤ) → ℕ → Option ℤ → RowPiece → Claim → Option SweepVerdict
claim_fault m d k before p Empty = if k == 0 then None else Some (Cover k)
claim_fault m d k before p (Best x) =
    option_or (option_map (λ place. Breach k place) (first_breach (row_at m d p.from) x)) (fall_at k before (cost m x))

-- a bound reaches a claimed cost; only an infinite one proves emptiness
abbrev pub reaches : Bound → Option ℤ → Bool
reaches v (Some w) = is_at_least v w
reaches (At v) None = false
reaches Infinite None = true

-- the bound of a tree at the last step of piece k reaches the claim
abbrev pub short_at : ℕ → Bound → Option ℤ → Option SweepVerdict
short_at k v claim = if reaches v claim then None else Some (Short k v claim)

-- what is wrong with piece k, after a piece of this claimed cost
abbrev pub piece_fault : Parts → List (Place × ℤ) → ℕ → Option ℤ → RowPiece → Option SweepVerdict
piece_fault m d k before p = option_or (claim_fault m d k before p p.claim)
    (short_at k (tree_bound (row_at m d p.to) (plain p.tree)) (claimed_cost m p.claim))

-- the first piece with a fault, numbered from k on
abbrev pub first_fault : Parts → List (Place × ℤ) → ℕ → Option ℤ → List RowPiece → Option SweepVerdict
first_fault m d k before [] = None
first_fault m d k before (p ∷ ps) =
    option_or (piece_fault m d k before p) (first_fault m d (k + 1) (claimed_cost m p.claim) ps)

-- ---- the verdict

abbrev pub proved_unless : Option SweepVerdict → SweepVerdict
proved_unless None = Proved
proved_unless (Some v) = v

-- the steps of all pieces are tried first, then each piece in order
abbrev pub row_rules : Parts → List (Place × ℤ) → ℕ → List RowPiece → SweepVerdict
row_rules m d steps ps = proved_unless (option_or (first_gap steps 0 0 ps) (first_fault m d 0 None ps))
