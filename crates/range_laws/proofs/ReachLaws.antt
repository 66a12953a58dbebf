-- The bound of a tree reaches what the bounds of all its leaves reach.
use Rattle.std.specs.Prelude.{ℕ, ◌+◌, ◌<◌, List, ℤ}
use Rattle.std.proofs.Common.{arith, sym, subst}
use Rattle.std.proofs.lemmas.Int.{ints, clamps}
use Rattle.ip_defs.specs.Boxes.{below, above}
use Rattle.ip_defs.specs.Certificates.{leaf_bound}
use Rattle.ip_defs.specs.declared.programs.Parts.{Parts}
use Rattle.ip_defs.specs.declared.certificates.Bound.{Bound}
use Rattle.ip_defs.specs.declared.certificates.Bound.TheVariants.{At, Infinite}
use Rattle.ip_defs.specs.declared.certificates.Cert.{Cert}
use Rattle.proof_tree.specs.LabelledTrees.{leaf, split}
use Rattle.proof_tree.specs.Trees.{PlainTree, bound_min, bound_over}
use Rattle.proof_tree.proofs.TreeLaws.{bound_split, bound_min-infinite}
use Rattle.proof_tree.specs.Verdicts.{IsAtLeast}
use Rattle.range_laws.proofs.ConcaveLaws.{Linear}
use Rattle.range_laws.proofs.LeafLaws.{Between, Fixed, leaf_between}

pub least_both : (u v : Bound) (w : ℤ) → IsAtLeast u w → IsAtLeast v w → IsAtLeast (bound_min u v) w
least_both (At a) (At b) w h g = omega (arith, ints, clamps)
least_both (At a) Infinite w h g = h
least_both Infinite v w h g = g

pub least_left : (u v : Bound) (w : ℤ) → IsAtLeast (bound_min u v) w → IsAtLeast u w
least_left (At a) (At b) w h = omega (arith, ints, clamps)
least_left (At a) Infinite w h = h
least_left Infinite v w h = tt

pub least_right : (u v : Bound) (w : ℤ) → IsAtLeast (bound_min u v) w → IsAtLeast v w
least_right (At a) (At b) w h = omega (arith, ints, clamps)
least_right (At a) Infinite w h = tt
least_right Infinite v w h = h

-- the bound of a tree over a box, and those of its leaf or of its halves
pub leaf_out : (m : Parts) (b : List (ℤ × ℤ)) (c : Cert) (w : ℤ) → IsAtLeast (bound_over m (leaf c) b) w → IsAtLeast (leaf_bound m b c) w
leaf_out m b c w h = subst (λ (v : Bound). IsAtLeast v w) (bound_min-infinite (leaf_bound m b c)) h

pub leaf_in : (m : Parts) (b : List (ℤ × ℤ)) (c : Cert) (w : ℤ) → IsAtLeast (leaf_bound m b c) w → IsAtLeast (bound_over m (leaf c) b) w
leaf_in m b c w h = subst (λ (v : Bound). IsAtLeast v w) (sym (bound_min-infinite (leaf_bound m b c))) h

pub split_left : (m : Parts) (b : List (ℤ × ℤ)) (col : ℕ) (cut : ℤ) (left right : PlainTree) (w : ℤ)
    → IsAtLeast (bound_over m (split col cut tt left right) b) w → IsAtLeast (bound_over m left (below b col cut)) w
split_left m b col cut left right w h = least_left (bound_over m left (below b col cut)) (bound_over m right (above b col cut)) w
    (subst (λ (v : Bound). IsAtLeast v w) (bound_split m b col cut left right) h)

pub split_right : (m : Parts) (b : List (ℤ × ℤ)) (col : ℕ) (cut : ℤ) (left right : PlainTree) (w : ℤ)
    → IsAtLeast (bound_over m (split col cut tt left right) b) w → IsAtLeast (bound_over m right (above b col cut)) w
split_right m b col cut left right w h = least_right (bound_over m left (below b col cut)) (bound_over m right (above b col cut)) w
    (subst (λ (v : Bound). IsAtLeast v w) (bound_split m b col cut left right) h)

pub split_in : (m : Parts) (b : List (ℤ × ℤ)) (col : ℕ) (cut : ℤ) (left right : PlainTree) (w : ℤ)
    → IsAtLeast (bound_over m left (below b col cut)) w → IsAtLeast (bound_over m right (above b col cut)) w
    → IsAtLeast (bound_over m (split col cut tt left right) b) w
split_in m b col cut left right w h g = subst (λ (v : Bound). IsAtLeast v w) (sym (bound_split m b col cut left right))
    (least_both (bound_over m left (below b col cut)) (bound_over m right (above b col cut)) w h g)

-- a tree at three changes of a cost or of a coefficient, over the same box
pub tree_between : (p r : ℕ) (m n o : Parts) → 0 < p + r → Between p r m n o → (u v w : ℤ) → Linear p r u v w → Fixed m n o u v w
    → (t : PlainTree) (b : List (ℤ × ℤ)) → IsAtLeast (bound_over m t b) u → IsAtLeast (bound_over o t b) w → IsAtLeast (bound_over n t b) v
tree_between p r m n o some bet u v w lev fixed (leaf c) b h g = leaf_in n b c v
    (leaf_between p r m n o some bet b c u v w lev fixed (leaf_out m b c u h) (leaf_out o b c w g))
tree_between p r m n o some bet u v w lev fixed (split col cut y left right) b h g =
    split_in n b col cut left right v
    (tree_between p r m n o some bet u v w lev fixed left (below b col cut) (split_left m b col cut left right u h)
    (split_left o b col cut left right w g))
    (tree_between p r m n o some bet u v w lev fixed right (above b col cut) (split_right m b col cut left right u h)
    (split_right o b col cut left right w g))
