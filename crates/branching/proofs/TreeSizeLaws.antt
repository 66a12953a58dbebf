-- A tree of proper splits has at most twice as many nodes as its box has points, and is at most as deep as its box is wide.
use Rattle.std.specs.Prelude.{◌≤◌, ℤ, List, length}
use Rattle.std.proofs.Common.{arith}
use Rattle.std.proofs.lemmas.List.{length-append}
use Rattle.ip_defs.specs.declared.programs.Parts.{Parts}
use Rattle.ip_defs.specs.Boxes.{IsOpen, below, above, width}
use Rattle.ip_defs.specs.Program.{box_of}
use Rattle.ip_model.specs.Sizes.{width_sum}
use Rattle.proof_tree.proofs.LabelledTreeLaws.{leaves_counted}
use Rattle.proof_tree.specs.LabelledTrees.{leaf, split, node_count, depth, leaves, splits_over}
use Rattle.proof_tree.specs.Trees.{PlainTree}
use Rattle.branching.specs.Sizes.{point_count, most_nodes, TreesAreSmall}
use Rattle.node_bounds.specs.Splits.{IsProper}
use Rattle.branching.proofs.BoxSizeLaws.{proper_open, points_split, has_point, below_narrower, above_narrower, width_of}
use Rattle.ip_defs.proofs.ListLaws.{each_left, each_right}
use Rattle.ip_defs.specs.Lists.{Each}

leaves_small : (b : List (ℤ × ℤ)) (t : PlainTree) → IsOpen b → Each IsProper (splits_over b t) → length (leaves t b) ≤ point_count b
leaves_small b (leaf c) has h = has_point b has
leaves_small b (split col cut y left right) has h =
    let xs = splits_over (below b col cut) left in
    let ys = splits_over (above b col cut) right in
    let sum = points_split b col cut h.0 in
    let first = leaves_small (below b col cut) left h.0.left (each_left IsProper xs ys h.1) in
    let second = leaves_small (above b col cut) right h.0.right (each_right IsProper xs ys h.1) in
    let both = length-append (leaves left (below b col cut)) (leaves right (above b col cut)) in
    omega arith

depth_small : (b : List (ℤ × ℤ)) (t : PlainTree) → Each IsProper (splits_over b t) → depth t ≤ width b
depth_small b (leaf c) h = omega arith
depth_small b (split col cut y left right) h =
    let xs = splits_over (below b col cut) left in
    let ys = splits_over (above b col cut) right in
    let first = depth_small (below b col cut) left (each_left IsProper xs ys h.1) in
    let second = depth_small (above b col cut) right (each_right IsProper xs ys h.1) in
    let p = below_narrower b col cut h.0 in
    let q = above_narrower b col cut h.0 in
    omega arith

small_over : (m : Parts) (t : PlainTree) → IsOpen (box_of m) → Each IsProper (splits_over (box_of m) t)
    → (node_count t ≤ most_nodes (box_of m)) × (depth t ≤ width_sum m)
small_over m t has h =
    let n = leaves_counted (box_of m) t in
    let most = leaves_small (box_of m) t has h in
    let deep = depth_small (box_of m) t h in
    let is = width_of m has in
    (omega arith, omega arith)

pub trees_are_small : TreesAreSmall
trees_are_small m (leaf c) h = (omega arith, omega arith)
trees_are_small m (split col cut y left right) h = small_over m (split col cut y left right) (proper_open (box_of m) col cut h.0) h
