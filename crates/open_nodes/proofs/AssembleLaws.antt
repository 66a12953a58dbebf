-- The tree of a whole open tree.
use Rattle.std.specs.Prelude.{◌≡◌, ℕ, zero, suc, ◌+◌, List, [], ◌∷◌, length, Option, None, Some}
use Rattle.std.proofs.Common.{refl, arith, inl, inr, subst, sym, ap, ◌∙◌}
use Rattle.ip_defs.specs.Lists.{Each}
use Rattle.proof_tree.specs.LabelledTrees.{places_from}
use Rattle.slab.specs.Slab.{Slab, get, slab_len}
use Rattle.open_nodes.specs.OpenTrees.{PlainOpen, SomeOf}
use Rattle.open_nodes.specs.declared.frontiers.Frontier.{Frontier}
use Rattle.open_nodes.specs.declared.nodes.Cut.{Cut}
use Rattle.open_nodes.specs.declared.nodes.Edge.{Edge}
use Rattle.open_nodes.specs.declared.nodes.Node.{Node}
use Rattle.open_nodes.specs.Nodes.{Entry, box_along, node_of, place_over}
use Rattle.open_nodes.specs.Frontiers.{entry_at, sum_over, IsFrontier, IsPlaceIn, IsTreeOf}
use Rattle.open_nodes.specs.Internal.Forests.{ArePaths, HasLeft, IsRooted, TakesTree, depth_of, entry_of, path_up, weigh, with_path}
use Rattle.open_nodes.proofs.FrontierLaws.{parent_of, path_step}
use Rattle.open_nodes.proofs.RenewLaws.{entry_is}
use Rattle.open_nodes.proofs.SplitLaws.{sum_same}
use Rattle.open_nodes.proofs.TakeLaws.{each_map, not_gone, ones_are}

-- a node is gone where its parent is
gone_step : (s s' : Slab Node) (top : ℕ) (t : PlainOpen) → IsRooted s top → TakesTree s s' top t → (k : ℕ) (n : Node) → get s k ≡ Some n
    → ((e : Edge) (p : Node) → get s e.parent ≡ Some p → n.depth ≡ p.depth + 1 → get s' e.parent ≡ None) → get s' k ≡ None
gone_step s s' top t r h k n has above = elim (h.shrinks k) [
  | inr none ↦ none
  | inl same ↦ by n.edge refl (same ∙ has)
]
  where
    by : (o : Option Edge) → n.edge ≡ o → get s' k ≡ Some n → get s' k ≡ None
    by None edge kept = ap (get s') (r.alone k n has edge) ∙ h.gone
    by (Some e) edge kept =
        let p = parent_of s top k n e r has edge in
        absurd (not_gone s' e.parent p.0 (h.parents k n p.0 e kept edge p.1) (above e p.0 p.1 p.2))

-- each node is gone
node_gone : (s s' : Slab Node) (top : ℕ) (t : PlainOpen) → IsRooted s top → TakesTree s s' top t → (d k : ℕ) (n : Node) → get s k ≡ Some n
    → n.depth ≡ d → get s' k ≡ None
node_gone s s' top t r h zero k n has deep =
    gone_step s s' top t r h k n has (λ e p there deeper. absurd (omega (arith, deeper, deep)))
node_gone s s' top t r h (suc d) k n has deep =
    gone_step s s' top t r h k n has (λ e p there deeper. node_gone s s' top t r h d e.parent p there (omega (arith, deeper, deep)))

all_gone : (s s' : Slab Node) (top : ℕ) (t : PlainOpen) → IsRooted s top → TakesTree s s' top t → (k : ℕ) → get s' k ≡ None
all_gone s s' top t r h k = by (get s k) refl
  where
    by : (o : Option Node) → get s k ≡ o → get s' k ≡ None
    by (Some n) e = node_gone s s' top t r h n.depth k n e refl
    by None e = elim (h.shrinks k) [
      | inl same ↦ same ∙ e
      | inr none ↦ none
    ]

-- the path of each key
abbrev path_of : Slab Node → ℕ → List Cut
path_of s k = path_up s (depth_of (get s k)) k

path_is : (s : Slab Node) (k : ℕ) (n : Node) → get s k ≡ Some n → path_of s k ≡ path_up s n.depth k
path_is s k n has = ap (λ o. path_up s (depth_of o) k) has

are_paths : (s : Slab Node) (top : ℕ) → IsRooted s top → ArePaths s (path_of s)
are_paths s top r = λ k c n cut has child.
    let m = r.forest.down k c n cut has child in
    path_is s c m.0 m.1 ∙ path_step s c m.0 n (record { parent = k; cut = cut }) m.1 m.2.edge m.2.deeper
    ∙ ap (λ (xs : List Cut). cut ∷ xs) (sym (path_is s k n has))

-- the node behind what a caller sees
entry_has : (f : Frontier) (k : ℕ) (e : Entry) → entry_at f k ≡ Some e
    → (n : Node) × (get f.nodes k ≡ Some n) × (with_path (path_up f.nodes n.depth k) n ≡ e)
unfolding entry_at
entry_has f k e is = by (get f.nodes k) refl
  where
    by : (o : Option Node) → get f.nodes k ≡ o → (n : Node) × (get f.nodes k ≡ Some n) × (with_path (path_up f.nodes n.depth k) n ≡ e)
    by None g = absurd (let both : None ≡ Some e = sym (ap (entry_of f.nodes k) g) ∙ is in cc)
    by (Some n) g =
        let both : Some (with_path (path_up f.nodes n.depth k) n) ≡ Some e = sym (entry_is f.nodes k n g) ∙ is in
        (n, g, cc)

-- each node is in a slot, once
pub nodes_counted : (f : Frontier) → sum_over (λ st. 1) f ≡ slab_len f.nodes
unfolding sum_over
nodes_counted f = ones_are f.nodes.slots

pub tree_of_all : (f : Frontier) (s' : Slab Node) (t : PlainOpen) → IsFrontier f → TakesTree f.nodes s' f.root t → IsTreeOf f t
unfolding entry_at sum_over
tree_of_all f s' t open_tree h =
    let s = f.nodes in
    let r = open_tree.rooted in
    let path = path_of s in
    let ok = are_paths s f.root r in
    let top_is : path f.root ≡ [] = path_is s f.root r.root.0 r.root.1 ∙ ap (λ d. path_up s d f.root) r.root.3 in
    record {
      made = λ b.
          let placed = subst (λ (cs : List Cut). Each (HasLeft s s' path b) (places_from (length cs) (box_along cs b) t)) top_is
          (h.made path b ok) in
          each_map (HasLeft s s' path b) (IsPlaceIn f b)
          (λ p x. (
            x.0,
            with_path (path_up s x.1.depth x.0) x.1,
            entry_is s x.0 x.1 x.2,
            x.4 ∙ ap (λ (cs : List Cut). place_over b (with_path cs x.1)) (path_is s x.0 x.1 x.2),
          ))
          (places_from 0 b t) placed;
      all = λ b k e is.
          let n = entry_has f k e is in
          let placed = subst
          (λ (cs : List Cut). SomeOf (λ p. p ≡ place_over b (with_path (path k) n.0)) (places_from (length cs) (box_along cs b) t)) top_is
          (h.all path b ok k n.0 n.1 (all_gone s s' f.root t r h k)) in
          subst (λ (x : Entry). SomeOf (λ p. p ≡ place_over b x) (places_from 0 b t))
          (ap (λ (cs : List Cut). with_path cs n.0) (path_is s k n.0 n.1) ∙ n.2) placed;
      sums = λ b g.
          let total = h.sums 0 b g in
          let nothing = sum_same (weigh (λ st. g (node_of st))) refl [] s'.slots (all_gone s s' f.root t r h) in
          omega (arith, total, nothing);
    }
