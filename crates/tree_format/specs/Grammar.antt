-- Reading a tree file, from the first byte on: its parts, and its first fault with its place.
use Rattle.std.specs.Prelude.{◌≡◌, ℕ, zero, suc, ◌+◌, ◌^◌, ◌==◌, Bool, true, false, if◌then◌else◌, nat_lt, List, [], ◌∷◌, ◌++◌, ◌&&◌}
use Rattle.std.specs.Prelude.{Result, Ok, Err, pos, Option, Some, None}
use Rattle.tree_format.specs.Readings.{Reading, complete, stopped, part_then}
use Rattle.tree_format.specs.Numbers.{number_at as number_within, signed}
use Rattle.tree_format.specs.Spellings.{longest, opening}
use Rattle.tree_format.specs.declared.errors.TreeError.{TreeError}
use Rattle.tree_format.specs.declared.errors.TreeError.TheVariants as faults
use Rattle.tree_format.specs.declared.tokens.Token.{Token}
use Rattle.tree_format.specs.declared.tokens.Token.TheVariants.{Nothing, Claimed, Coordinate, SplitAt, LeafQ, Parts, Part}

-- Each reads what stands at a place at the front of bytes. What follows it is read by its last argument, from the place after it.

-- a number up to a greatest one
abbrev pub number_at : ℕ → ℕ → List ℕ → (ℕ → ℕ → List ℕ → Reading Token) → Reading Token
number_at greatest place bytes next = number_within longest greatest place bytes next

-- the bytes with which each file opens
abbrev pub opening_at : List ℕ → ℕ → List ℕ → (ℕ → List ℕ → Reading Token) → Reading Token
opening_at [] place bytes next = next place bytes
opening_at (wanted ∷ more) place [] next = stopped (faults.Cut place)
opening_at (wanted ∷ more) place (b ∷ bytes) next =
    elim (b == wanted) [ true ↦ opening_at more (place + 1) bytes next | false ↦ stopped (faults.Magic place) ]

-- coordinates, of which some number is still to come; a signed number is at most 2 ^ 24 in absolute value where its number is at most
-- 2 ^ 25
abbrev pub coordinates_at : ℕ → ℕ → List ℕ → (ℕ → List ℕ → Reading Token) → Reading Token
coordinates_at zero place bytes next = next place bytes
coordinates_at (suc n) place bytes next =
    number_at (2 ^ 25) place bytes (λ v p rest. part_then (Coordinate (signed v)) (coordinates_at n p rest next))

abbrev pub point_at : ℕ → List ℕ → (ℕ → List ℕ → Reading Token) → Reading Token
point_at place bytes next = number_at 4096 place bytes (λ n p rest. coordinates_at n p rest next)

-- the kinds of claims by their bytes
pub data ClaimKind : Type 0 where
  of_point : ClaimKind
  of_emptiness : ClaimKind
  of_neither : ClaimKind

abbrev pub claim_kind : ℕ → ClaimKind
claim_kind b = if b == 66 then of_point else if b == 69 then of_emptiness else of_neither

abbrev pub claim_at : ℕ → List ℕ → (ℕ → List ℕ → Reading Token) → Reading Token
claim_at place [] next = stopped (faults.Cut place)
claim_at place (b ∷ bytes) next =
    elim (claim_kind b) [
      | of_point ↦ part_then Claimed (point_at (place + 1) bytes next)
      | of_emptiness ↦ part_then Claimed (next (place + 1) bytes)
      | of_neither ↦ stopped (faults.Tag place)
    ]

-- a multiplier of a row, which is not 0
abbrev pub multiplier_at : ℕ → ℕ → List ℕ → (ℕ → List ℕ → Reading Token) → Reading Token
multiplier_at row place bytes next =
    number_at (2 ^ 37) place bytes (λ v p rest. elim (v == 0) [
      | true ↦ stopped (faults.Zero place)
      | false ↦ part_then (Part row
          (signed v)) (next p rest)
    ])

-- multipliers with their rows, of which some number is still to come, where the next row is at least some row
abbrev pub multipliers_at : ℕ → ℕ → ℕ → List ℕ → (ℕ → List ℕ → Reading Token) → Reading Token
multipliers_at zero least place bytes next = next place bytes
multipliers_at (suc n) least place bytes next =
    number_at 1023 place bytes (λ row p rest.
    elim (nat_lt row least) [
      | true ↦ stopped (faults.Order place)
      | false ↦ multiplier_at row p rest (λ p rest. multipliers_at n (row + 1) p rest next)
    ])

abbrev pub cert_at : ℕ → List ℕ → (ℕ → List ℕ → Reading Token) → Reading Token
cert_at place bytes next =
    number_at (2 ^ 36) place bytes (λ q p rest. part_then (LeafQ (pos q))
    (number_at 1024 p rest (λ n p rest. part_then (Parts n) (multipliers_at n 0 p rest next))))

-- the column and the number of a split
abbrev pub split_at : ℕ → List ℕ → (ℕ → List ℕ → Reading Token) → Reading Token
split_at place bytes next =
    number_at 4095 place bytes (λ col p rest. number_at (2 ^ 25) p rest (λ v p rest. part_then (SplitAt col (signed v)) (next p rest)))

-- the kinds of nodes by their bytes
pub data NodeKind : Type 0 where
  leaf_kind : NodeKind
  split_kind : NodeKind
  no_kind : NodeKind

abbrev pub node_kind : ℕ → NodeKind
node_kind b = if b == 76 then leaf_kind else if b == 83 then split_kind else no_kind

-- what the byte of a node leads to, where few nodes stand before it: to a leaf, to a split, or to a fault
abbrev pub node_at : Bool → NodeKind → ℕ → Reading Token → Reading Token → Reading Token
node_at few kind place leaf split =
    elim few [
      | false ↦ stopped (faults.TooMany place)
      | true ↦ elim kind [ leaf_kind ↦ leaf | split_kind ↦ split | no_kind ↦ stopped (faults.Tag place) ]
    ]

-- a tree of at most some levels, where some nodes stand before it; what follows is given how many nodes stand before it
abbrev pub tree_at : ℕ → ℕ → ℕ → List ℕ → (ℕ → ℕ → List ℕ → Reading Token) → Reading Token
tree_at zero nodes place [] next = stopped (faults.Cut place)
tree_at zero nodes place (b ∷ bytes) next =
    if nat_lt nodes 1000000 then stopped (faults.TooDeep place) else stopped (faults.TooMany place)
tree_at (suc k) nodes place [] next = stopped (faults.Cut place)
tree_at (suc k) nodes place (b ∷ bytes) next =
    node_at (nat_lt nodes 1000000) (node_kind b) place (cert_at (place + 1) bytes (next (nodes + 1)))
    (split_at (place + 1) bytes (λ p rest. tree_at k (nodes + 1) p rest (λ n p rest. tree_at k n p rest next)))

-- nothing stands after the tree
abbrev pub end_at : ℕ → List ℕ → Reading Token
end_at place [] = complete
end_at place (b ∷ bytes) = stopped (faults.Tail place)

-- a whole file: the opening, the claim, a tree of at most 801 levels, so that no node is deeper than 800, and the end
abbrev pub reading : List ℕ → Reading Token
reading bytes =
    opening_at opening 0 bytes (λ p rest. claim_at p rest (λ p rest. tree_at 801 0 p rest (λ n p rest. end_at p rest)))

-- the first fault of a tree file, or none
abbrev pub first_fault : List ℕ → Option TreeError
first_fault bytes = (reading bytes).fault

-- a fault, unless it is that the bytes end
abbrev pub unless_cut : Option TreeError → Option TreeError
unless_cut (Some (faults.Cut place)) = None
unless_cut other = other

-- the first fault of bytes that may go on, or none
abbrev pub fault_so_far : List ℕ → Option TreeError
fault_so_far bytes = unless_cut (first_fault bytes)

-- the parts of bytes that may go on
abbrev pub parts_so_far : List ℕ → List Token
parts_so_far bytes = (reading bytes).parts

-- bytes begin with others
abbrev pub begins_with : List ℕ → List ℕ → Bool
begins_with [] bytes = true
begins_with (wanted ∷ more) [] = false
begins_with (wanted ∷ more) (b ∷ bytes) = (b == wanted) && begins_with more bytes

-- the byte of the claim was read and is that of a point
abbrev pub claims_point : List ℕ → Bool
claims_point bytes = begins_with (opening ++ 66 ∷ []) bytes

-- the part that a token is, or none where it is nothing
abbrev pub shown : Token → List Token
shown Nothing = []
shown Claimed = Claimed ∷ []
shown (Coordinate z) = Coordinate z ∷ []
shown (SplitAt col at) = SplitAt col at ∷ []
shown (LeafQ q) = LeafQ q ∷ []
shown (Parts n) = Parts n ∷ []
shown (Part row m) = Part row m ∷ []

-- what one byte after others answers: its part where the bytes so far have no fault, else their fault
abbrev pub IsAnswer : List ℕ → ℕ → Result Token TreeError → Type 0
IsAnswer bytes b (Ok token) = (fault_so_far (bytes ++ b ∷ []) ≡ None) × (parts_so_far (bytes ++ b ∷ [])
    ≡ parts_so_far bytes ++ shown token)
IsAnswer bytes b (Err e) = fault_so_far (bytes ++ b ∷ []) ≡ Some e

-- an error is that memory ran out, or a fault
abbrev pub IsErrorOf : Option TreeError → TreeError → Type 0
IsErrorOf fault faults.Memory = Unit {0}
IsErrorOf fault e = fault ≡ Some e

-- an error is that memory ran out, or the first fault of bytes
abbrev pub IsRefusal : List ℕ → TreeError → Type 0
IsRefusal bytes e = IsErrorOf (first_fault bytes) e
