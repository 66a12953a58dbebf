-- The definitions at work: numbers, whole files, and files with a fault, computed.
use Rattle.std.specs.Prelude.{◌≡◌, ℕ, ◌^◌, ◌-◌, List, [], ◌∷◌, ◌++◌, pos, negsuc, Some, None}
use Rattle.std.proofs.Common.{refl}
use Rattle.tree_format.specs.Numbers.{number_bytes}
use Rattle.tree_format.specs.Spellings.{number, signed_number, spelling}
use Rattle.tree_format.specs.Grammar.{first_fault, parts_so_far}
use Rattle.proof_tree.specs.LabelledTrees.{leaf, split}
use Rattle.proof_tree.specs.declared.claims.Claim.TheVariants.{Best, Empty}
use Rattle.tree_format.specs.declared.errors.TreeError.TheVariants as faults
use Rattle.tree_format.specs.declared.tokens.Token.TheVariants.{Claimed, Coordinate, LeafQ, Parts, Part}

three_hundred : number 300 ≡ 172 ∷ 2 ∷ []
unfolding number_bytes
three_hundred = refl

greatest : signed_number (pos (2 ^ 36)) ≡ 128 ∷ 128 ∷ 128 ∷ 128 ∷ 128 ∷ 4 ∷ []
unfolding number_bytes
greatest = refl

least : signed_number (negsuc (2 ^ 36 - 1)) ≡ 255 ∷ 255 ∷ 255 ∷ 255 ∷ 255 ∷ 3 ∷ []
unfolding number_bytes
least = refl

-- a point of three coordinates, and one leaf with a multiplier for each of two rows
one_leaf : List ℕ
one_leaf = 73 ∷ 80 ∷ 83 ∷ 84 ∷ 1 ∷ 66 ∷ 3 ∷ 4 ∷ 0 ∷ 2 ∷ 76 ∷ 1 ∷ 2 ∷ 0 ∷ 1 ∷ 2 ∷ 1 ∷ []

one_leaf_is : spelling (Best (pos 2 ∷ pos 0 ∷ pos 1 ∷ [])) (leaf (record { q = pos 1; y = (0, negsuc 0) ∷ (2, negsuc 0) ∷ [] }))
    ≡ one_leaf
unfolding number_bytes one_leaf
one_leaf_is = refl

one_leaf_has : parts_so_far one_leaf ≡ Claimed ∷ Coordinate (pos 2) ∷ Coordinate (pos 0) ∷ Coordinate (pos 1) ∷ LeafQ (pos 1) ∷ Parts 2
    ∷ Part 0 (negsuc 0) ∷ Part 2 (negsuc 0) ∷ []
unfolding one_leaf
one_leaf_has = refl

one_leaf_fine : first_fault one_leaf ≡ None
unfolding one_leaf
one_leaf_fine = refl

-- two splits over three rays
three_rays : List ℕ
three_rays = 73 ∷ 80 ∷ 83 ∷ 84 ∷ 1 ∷ 69 ∷ 83 ∷ 0 ∷ 0 ∷ 76 ∷ 0 ∷ 1 ∷ 0 ∷ 2 ∷ 83 ∷ 1 ∷ 0 ∷ 76 ∷ 0 ∷ 1 ∷ 0 ∷ 1 ∷ 76 ∷ 0 ∷ 1 ∷ 0 ∷ 2 ∷ []

three_rays_fine : first_fault three_rays ≡ None
unfolding three_rays
three_rays_fine = refl

three_rays_are : spelling Empty (split 0 (pos 0) tt (leaf (record { q = pos 0; y = (0, pos 1) ∷ [] }))
    (split 1 (pos 0) tt (leaf (record { q = pos 0; y = (0, negsuc 0) ∷ [] })) (leaf (record { q = pos 0; y = (0, pos 1) ∷ [] }))))
    ≡ three_rays
unfolding number_bytes three_rays
three_rays_are = refl

-- faults: nothing at all, a wrong first byte, a cut after the claim, a byte after the end, a wrong byte of a node
nothing : first_fault [] ≡ Some (faults.Cut 0)
nothing = refl

other_file : first_fault (0 ∷ []) ≡ Some (faults.Magic 0)
other_file = refl

cut_file : first_fault (73 ∷ 80 ∷ 83 ∷ 84 ∷ 1 ∷ 69 ∷ []) ≡ Some (faults.Cut 6)
cut_file = refl

longer_file : first_fault (one_leaf ++ 0 ∷ []) ≡ Some (faults.Tail 17)
unfolding one_leaf
longer_file = refl

other_node : first_fault (73 ∷ 80 ∷ 83 ∷ 84 ∷ 1 ∷ 69 ∷ 0 ∷ []) ≡ Some (faults.Tag 6)
other_node = refl

-- a number longer than its shortest spelling, one that is too large, one of seven bytes, rows that do not rise, a multiplier of 0
long_number : first_fault (73 ∷ 80 ∷ 83 ∷ 84 ∷ 1 ∷ 69 ∷ 76 ∷ 129 ∷ 0 ∷ []) ≡ Some (faults.LongNumber 7)
long_number = refl

large_number : first_fault (73 ∷ 80 ∷ 83 ∷ 84 ∷ 1 ∷ 69 ∷ 76 ∷ 129 ∷ 128 ∷ 128 ∷ 128 ∷ 128 ∷ 2 ∷ []) ≡ Some (faults.Width 7)
large_number = refl

wide_number : first_fault (73 ∷ 80 ∷ 83 ∷ 84 ∷ 1 ∷ 69 ∷ 76 ∷ 128 ∷ 128 ∷ 128 ∷ 128 ∷ 128 ∷ 128 ∷ []) ≡ Some (faults.Width 7)
wide_number = refl

same_row : first_fault (73 ∷ 80 ∷ 83 ∷ 84 ∷ 1 ∷ 69 ∷ 76 ∷ 1 ∷ 2 ∷ 3 ∷ 2 ∷ 3 ∷ []) ≡ Some (faults.Order 11)
same_row = refl

zero_multiplier : first_fault (73 ∷ 80 ∷ 83 ∷ 84 ∷ 1 ∷ 69 ∷ 76 ∷ 1 ∷ 1 ∷ 3 ∷ 0 ∷ []) ≡ Some (faults.Zero 10)
zero_multiplier = refl
