-- Every feasible point costs at least the bound of a tree.
use Rattle.std.specs.Prelude.{◌≡◌, ℕ, ℤ, pos, ◌+ℤ◌, List, [], ◌∷◌, ◌++◌, length, map, Bool, true, false}
use Rattle.std.specs.Int.{int_min, int_max}
use Rattle.std.specs.Int.Signed.{lt_z}
use Rattle.std.proofs.Common.{refl, arith, ap, sym, ◌∙◌, subst, length-set}
use Rattle.std.proofs.lemmas.List.{map-append, length-map}
use Rattle.std.proofs.lemmas.Int.{ints, clamps}
use Rattle.ip_defs.specs.declared.certificates.Bound.{Bound}
use Rattle.ip_defs.specs.declared.certificates.Bound.TheVariants.{At, Infinite}
use Rattle.ip_defs.specs.declared.certificates.Cert.{Cert}
use Rattle.ip_defs.specs.declared.programs.Column.{Column}
use Rattle.ip_defs.specs.declared.programs.Parts.{Parts}
use Rattle.ip_defs.specs.Program.{low_at, high_at, at, box_of, IsFeasible, IsIn, cost}
use Rattle.ip_defs.specs.Boxes.{below, above}
use Rattle.ip_defs.specs.Certificates.{leaf_bound, IsAtMost}
use Rattle.ip_defs.proofs.DualityLaws.{weak_duality}
use Rattle.proof_tree.specs.LabelledTrees.{leaf, split, leaves}
use Rattle.proof_tree.specs.Trees.{PlainTree, bound_min, least, bound_over, FitsColumns, TreesBound}
use Rattle.ip_defs.proofs.BoxLaws.{in_below, in_above}

min_assoc : (a b c : ℤ) → int_min (int_min a b) c ≡ int_min a (int_min b c)
min_assoc a b c = omega (arith, ints, clamps)

pub bound_min_assoc : (a b c : Bound) → bound_min (bound_min a b) c ≡ bound_min a (bound_min b c)
bound_min_assoc (At a) (At b) (At c) = ap At (min_assoc a b c)
bound_min_assoc (At a) (At b) Infinite = refl
bound_min_assoc (At a) Infinite c = refl
bound_min_assoc Infinite b c = refl

pub least-append : (xs ys : List Bound) → least (xs ++ ys) ≡ bound_min (least xs) (least ys)
least-append [] ys = refl
least-append (x ∷ xs) ys = ap (bound_min x) (least-append xs ys) ∙ sym (bound_min_assoc x (least xs) (least ys))

-- the bound of a split is the lesser bound of its halves
pub bound_split : (m : Parts) (b : List (ℤ × ℤ)) (col : ℕ) (cut : ℤ) (left right : PlainTree)
    → bound_over m (split col cut tt left right) b ≡ bound_min (bound_over m left (below b col cut)) (bound_over m right (above b col cut))
bound_split m b col cut left right =
    let f : List (ℤ × ℤ) × Cert → Bound = λ l. leaf_bound m l.0 l.1 in
    ap least (map-append f (leaves left (below b col cut)) (leaves right (above b col cut)))
    ∙ least-append (map f (leaves left (below b col cut))) (map f (leaves right (above b col cut)))

-- the bound of one leaf alone
pub bound_min-infinite : (v : Bound) → bound_min v Infinite ≡ v
bound_min-infinite (At v) = refl
bound_min-infinite Infinite = refl

-- a lesser bound is at most what either is at most
pub at_most_left : (u v : Bound) (w : ℤ) → IsAtMost u w → IsAtMost (bound_min u v) w
at_most_left (At a) (At b) w h = omega (arith, ints, clamps)
at_most_left (At a) Infinite w h = h
at_most_left Infinite v w h = absurd h

pub at_most_right : (u v : Bound) (w : ℤ) → IsAtMost v w → IsAtMost (bound_min u v) w
at_most_right (At a) (At b) w h = omega (arith, ints, clamps)
at_most_right (At a) Infinite w h = absurd h
at_most_right Infinite v w h = h

-- over any box: each feasible point of the box costs at least the bound over the box
pub holds : (m : Parts) (t : PlainTree) (b : List (ℤ × ℤ)) (x : List ℤ) → length b ≡ length m.columns → FitsColumns (length m.columns) t
    → IsFeasible m x → IsIn b x → IsAtMost (bound_over m t b) (cost m x)
holds m (leaf c) b x size fits ok inside =
    subst (λ (v : Bound). IsAtMost v (cost m x)) (sym (bound_min-infinite (leaf_bound m b c))) (weak_duality m b c x size ok inside)
holds m (split col cut y left right) b x size fits ok inside =
    subst (λ (v : Bound). IsAtMost v (cost m x)) (sym (bound_split m b col cut left right))
    (by (holds m left (below b col cut) x (omega (arith, length-set b col (low_at b col, int_min (high_at b col) cut))) fits.1 ok)
    (holds m right (above b col cut) x (omega (arith, length-set b col (int_max (low_at b col) (cut +ℤ pos 1), high_at b col))) fits.2 ok)
    (lt_z cut (at x col)) refl)
  where
    by : (IsIn (below b col cut) x → IsAtMost (bound_over m left (below b col cut)) (cost m x))
        → (IsIn (above b col cut) x → IsAtMost (bound_over m right (above b col cut)) (cost m x)) → (g : Bool) → lt_z cut (at x col) ≡ g
        → IsAtMost (bound_min (bound_over m left (below b col cut)) (bound_over m right (above b col cut))) (cost m x)
    by first second true e = at_most_right (bound_over m left (below b col cut)) (bound_over m right (above b col cut)) (cost m x)
        (second (in_above b col cut x (omega (arith, fits.0)) inside (omega (arith, ints))))
    by first second false e = at_most_left (bound_over m left (below b col cut)) (bound_over m right (above b col cut)) (cost m x)
        (first (in_below b col cut x (omega (arith, fits.0)) inside (omega (arith, ints))))

pub trees_bound : TreesBound
trees_bound m t x fits ok = holds m t (box_of m) x (length-map m.columns (λ (c : Column). (c.lo, c.hi))) fits ok ok.within
