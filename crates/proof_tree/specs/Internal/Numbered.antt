-- The result of a pass over numbered elements.
use Rattle.std.specs.Prelude.{ℕ, ◌+◌, List, length, Option, None, Some, Result, Ok, Err}
use Rattle.proof_tree.specs.LabelledTrees.{LabelledTree, leaf, split, LabelledNode, leaf_node, split_node}
use Rattle.proof_tree.specs.Trees.{first_from}

-- the root of a tree
abbrev pub top : {L S : Type 0} → LabelledTree L S → LabelledNode L S
top (leaf x) = leaf_node x
top (split col cut y left right) = split_node col cut y

-- an answer as an error, and the next number where there is none
abbrev pub next_or : {E : Type 0} → ℕ → Option E → Result ℕ E
next_or n None = Ok n
next_or n (Some e) = Err e

-- the result of a pass over elements numbered from k on: the first answer, or else the number after them
abbrev pub passed_over : {A B : Type 0} → (ℕ → A → Option B) → ℕ → List A → Result ℕ B
passed_over f k xs = next_or (k + length xs) (first_from f k xs)
