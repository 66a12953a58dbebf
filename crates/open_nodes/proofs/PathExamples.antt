-- Nodes worked out: the root is split at column 0, its left half at column 1. Their depths and boxes, by paths and by the tree.
use Rattle.std.specs.Prelude.{◌≡◌, ℤ, pos, List, [], ◌∷◌}
use Rattle.std.proofs.Common.{refl}
use Rattle.proof_tree.specs.LabelledTrees.{leaf, leaf_node, place, places_from, split}
use Rattle.open_nodes.specs.OpenTrees.{OpenPlace, PlainOpen, pending}
use Rattle.open_nodes.specs.declared.nodes.Cut.TheVariants.{Above, Below}
use Rattle.open_nodes.specs.declared.nodes.State.TheVariants.{Split, Taken}
use Rattle.node_bounds.specs.declared.reasons.Why.TheVariants.{Stopped}
use Rattle.open_nodes.specs.Nodes.{place_over}

-- two columns, from 0 to 5 and from 0 to 4
whole_box : List (ℤ × ℤ)
whole_box = (pos 0, pos 5) ∷ (pos 0, pos 4) ∷ []

grown : PlainOpen
grown = split 0 (pos 3) Stopped (split 1 (pos 2) Stopped (leaf pending) (leaf pending)) (leaf pending)

worked : List OpenPlace
worked =
    place_over whole_box (record { path = []; state = Split 0 (pos 3) Stopped 1 2 })
    ∷ place_over whole_box (record { path = Below 0 (pos 3) ∷ []; state = Split 1 (pos 2) Stopped 3 4 })
    ∷ place_over whole_box (record { path = Below 1 (pos 2) ∷ Below 0 (pos 3) ∷ []; state = Taken })
    ∷ place_over whole_box (record { path = Above 1 (pos 2) ∷ Below 0 (pos 3) ∷ []; state = Taken })
    ∷ place_over whole_box (record { path = Above 0 (pos 3) ∷ []; state = Taken })
    ∷ []

-- the places of the paths are those of the tree
worked_places : places_from 0 whole_box grown ≡ worked
unfolding grown worked whole_box
worked_places = refl

-- the box of the fourth node
worked_box : place_over whole_box (record { path = Above 1 (pos 2) ∷ Below 0 (pos 3) ∷ []; state = Taken })
    ≡ place 2 ((pos 0, pos 3) ∷ (pos 3, pos 4) ∷ []) (leaf_node pending)
unfolding whole_box
worked_box = refl
