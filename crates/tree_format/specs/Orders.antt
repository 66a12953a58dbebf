-- The order of the parts of a tree file, also where a fault ends them.
use Rattle.std.specs.Prelude.{ℕ, zero, suc, List, [], ◌∷◌, Option, Some, None}
use Rattle.tree_format.specs.Readings.{Reading}
use Rattle.tree_format.specs.Grammar.{parts_so_far, first_fault}
use Rattle.tree_format.specs.declared.errors.TreeError.{TreeError}
use Rattle.tree_format.specs.declared.tokens.Token.{Token}
use Rattle.tree_format.specs.declared.tokens.Token.TheVariants.{Nothing, Claimed, Coordinate, SplitAt, LeafQ, Parts, Part}

-- what may come next
pub data Expected : Type 0 where
  -- the claim
  a_claim : Expected
  -- a coordinate of the claimed point, or the first node of the tree
  a_coordinate : Expected
  -- the first node of the next of some trees
  trees : ℕ → Expected
  -- how many multipliers a leaf has, before some trees
  a_count : ℕ → Expected
  -- a multiplier with some after it, before some trees
  a_multiplier : ℕ → ℕ → Expected

-- some multipliers, before some trees
abbrev pub multipliers : ℕ → ℕ → Expected
multipliers zero k = trees k
multipliers (suc n) k = a_multiplier n k

-- after the first part of a node, where some trees come after it
abbrev pub after_node : ℕ → Token → Option Expected
after_node k (LeafQ q) = Some (a_count k)
after_node k (SplitAt col at) = Some (trees (suc (suc k)))
after_node k Nothing = None
after_node k Claimed = None
after_node k (Coordinate z) = None
after_node k (Parts n) = None
after_node k (Part row m) = None

abbrev pub after_coordinate : Token → Option Expected
after_coordinate (Coordinate z) = Some a_coordinate
after_coordinate Nothing = None
after_coordinate Claimed = None
after_coordinate (SplitAt col at) = after_node 0 (SplitAt col at)
after_coordinate (LeafQ q) = after_node 0 (LeafQ q)
after_coordinate (Parts n) = None
after_coordinate (Part row m) = None

abbrev pub after_claim : Token → Option Expected
after_claim Claimed = Some a_coordinate
after_claim other = None

abbrev pub after_count : ℕ → Token → Option Expected
after_count k (Parts n) = Some (multipliers n k)
after_count k other = None

abbrev pub after_multiplier : ℕ → ℕ → Token → Option Expected
after_multiplier n k (Part row m) = Some (multipliers n k)
after_multiplier n k other = None

-- what may come after a part, or none where the part may not come
abbrev pub after_part : Expected → Token → Option Expected
after_part a_claim token = after_claim token
after_part a_coordinate token = after_coordinate token
after_part (trees zero) token = None
after_part (trees (suc k)) token = after_node k token
after_part (a_count k) token = after_count k token
after_part (a_multiplier n k) token = after_multiplier n k token

-- the parts may end: by a fault, or where no tree is to come
abbrev pub MayEnd : Option TreeError → Expected → Type 0
MayEnd (Some e) expected = Unit {0}
MayEnd None (trees zero) = Unit {0}
MayEnd None other = ⊥

-- each part may come where it does
abbrev pub AreInOrder : Option Expected → List Token → Option TreeError → Type 0
AreInOrder None parts fault = ⊥
AreInOrder (Some expected) [] fault = MayEnd fault expected
AreInOrder (Some expected) (part ∷ more) fault = AreInOrder (after_part expected part) more fault

-- the parts of a reading are in order
abbrev pub IsInOrder : Expected → Reading Token → Type 0
IsInOrder expected r = AreInOrder (Some expected) r.parts r.fault

-- the parts of all bytes are in order
abbrev pub PartsAreInOrder : Type 0
PartsAreInOrder = (bytes : List ℕ) → AreInOrder (Some a_claim) (parts_so_far bytes) (first_fault bytes)
