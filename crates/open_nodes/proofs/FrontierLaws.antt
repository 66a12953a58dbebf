-- What holds of an open tree after each of its calls.
use Rattle.std.specs.Prelude.{◌≡◌, ℕ, zero, suc, ◌+◌, ℤ, [], ◌∷◌, length, Option, None, Some, option_map}
use Rattle.std.specs.BinaryHeap.{heap_items, IsUpperBound}
use Rattle.std.proofs.Common.{refl, arith, subst, sym, ap, ◌∙◌, add-one}
use Rattle.slab.specs.Slab.{Slab, get}
use Rattle.open_nodes.specs.declared.frontiers.Frontier.{Frontier}
use Rattle.open_nodes.specs.declared.nodes.Edge.{Edge}
use Rattle.open_nodes.specs.declared.nodes.Node.{Node}
use Rattle.open_nodes.specs.declared.nodes.State.{State}
use Rattle.open_nodes.specs.declared.nodes.State.TheVariants.{Taken}
use Rattle.open_nodes.specs.declared.nodes.State.TheVariants as States
use Rattle.open_nodes.specs.Nodes.{Entry, bound_of}
use Rattle.open_nodes.specs.Frontiers.{entry_at, sum_over, HasState, IsFrontier, IsLeast, NoneWaits, SameNodes, WaitsAt}
use Rattle.open_nodes.specs.Internal.Forests.{IsFinished, IsRooted, along, edge_of, entry, entry_of, path_up, sum_among}
use Rattle.open_nodes.specs.Internal.Orders.{Rank, rank_cmp, waits_by}
use Rattle.open_nodes.proofs.ForestLaws.{IsChildless, renewed_rooted}
use Rattle.open_nodes.proofs.OrderLaws.{no_rank, rank_least, renewed_ordered}
use Rattle.open_nodes.proofs.RenewLaws.{entry_is, Renews}

-- a state that was taken has no children and does not wait
pub taken_childless : (st : State) → st ≡ Taken → IsChildless st
taken_childless st is = subst IsChildless (sym is) (λ cut k h. h)

-- nor has one that is done with, which does not wait either
finished_childless : (st : State) → IsFinished st → IsChildless st
finished_childless (States.Waiting bound solved) last = absurd last
finished_childless States.Taken last = absurd last
finished_childless (States.Closed cert) last = λ cut k h. h
finished_childless (States.Stuck why) last = λ cut k h. h
finished_childless (States.Split col z why left right) last = absurd last

finished_quiet : (st : State) → IsFinished st → waits_by st ≡ 0
finished_quiet (States.Waiting bound solved) last = absurd last
finished_quiet States.Taken last = refl
finished_quiet (States.Closed cert) last = refl
finished_quiet (States.Stuck why) last = refl
finished_quiet (States.Split col z why left right) last = refl

-- the node that was taken is done with
pub frontier_finished : (f : Frontier) (s : Slab Node) (key : ℕ) (n : Node) (st : State) → Renews f.nodes s key n st → n.state ≡ Taken
    → IsFinished st → IsFrontier f → IsFrontier (record { nodes = s; order = f.order; root = f.root })
frontier_finished f s key n st r taken last open_tree = record {
  rooted = renewed_rooted f.nodes s f.root key n st r (taken_childless n.state taken) (finished_childless st last) open_tree.rooted;
  ordered = renewed_ordered f.nodes s key n st (heap_items f.order) r (ap waits_by taken) (finished_quiet st last) open_tree.ordered;
}

-- ---- nodes of keys

pub has_state : (f : Frontier) (k : ℕ) (n : Node) → get f.nodes k ≡ Some n → HasState f k n.state
unfolding entry_at
has_state f k n has = ap (option_map (λ (e : Entry). e.state)) (entry_is f.nodes k n has)

pub waits_there : (f : Frontier) (k : ℕ) (bound : ℤ) → WaitsAt f k bound
    → (n : Node) × (get f.nodes k ≡ Some n) × (bound_of n.state ≡ Some bound)
unfolding entry_at
waits_there f k bound w = by (get f.nodes k) refl
  where
    by : (o : Option Node) → get f.nodes k ≡ o → (n : Node) × (get f.nodes k ≡ Some n) × (bound_of n.state ≡ Some bound)
    by None e = absurd (let both : None ≡ Some w.0 = sym (ap (entry_of f.nodes k) e) ∙ w.1 in cc)
    by (Some n) e =
        let both : Some (record { path = path_up f.nodes n.depth k; state = n.state }) ≡ Some w.0 = sym (entry_is f.nodes k n e) ∙ w.1 in
        let same : record { path = path_up f.nodes n.depth k; state = n.state } ≡ w.0 = cc in
        (n, e, ap (λ (x : Entry). bound_of x.state) same ∙ w.2)

pub waits_at : (f : Frontier) (k : ℕ) (n : Node) (bound : ℤ) → get f.nodes k ≡ Some n → bound_of n.state ≡ Some bound → WaitsAt f k bound
unfolding entry_at
waits_at f k n bound has is = (record { path = path_up f.nodes n.depth k; state = n.state }, entry_is f.nodes k n has, is)

-- a node that waits has no children
pub waiting_childless : (st : State) (b : ℤ) → bound_of st ≡ Some b → IsChildless st
waiting_childless (States.Waiting bound solved) b e = λ cut k h. h
waiting_childless States.Taken b e = absurd cc
waiting_childless (States.Closed cert) b e = absurd cc
waiting_childless (States.Stuck why) b e = absurd cc
waiting_childless (States.Split col z why left right) b e = absurd cc

-- no ranks, no node waits
pub none_waits : (f : Frontier) → IsFrontier f → length (heap_items f.order) ≡ 0 → NoneWaits f
none_waits f open_tree none = λ k bound w.
    let n = waits_there f k bound w in
    no_rank f.nodes (heap_items f.order) open_tree.ordered none k n.0 bound n.1 n.2

-- the greatest rank has the least bound
pub least_bound : (f : Frontier) (r : Rank) → IsFrontier f → IsUpperBound rank_cmp r (heap_items f.order) → IsLeast f r.0.0
least_bound f r open_tree most = λ k other w.
    let n = waits_there f k other w in
    rank_least f.nodes (heap_items f.order) r open_tree.ordered most k n.0 other n.1 n.2

-- the same nodes
pub same_nodes : (f f' : Frontier) → f'.nodes ≡ f.nodes → SameNodes f f'
unfolding entry_at sum_over
same_nodes f f' is = record { nodes = λ k. ap (λ s. entry s k) is; sums = λ g. ap (sum_among g) is }

-- ---- depths and paths

-- the parent of a node is there, and is less deep by one
pub parent_of : (s : Slab Node) (top k : ℕ) (n : Node) (e : Edge) → IsRooted s top → get s k ≡ Some n → n.edge ≡ Some e
    → (p : Node) × (get s e.parent ≡ Some p) × (n.depth ≡ p.depth + 1)
parent_of s top k n e r has edge =
    let above = r.parents k n e has edge in
    let child = r.forest.up k n above.0 e has edge above.1 in
    let down = r.forest.down e.parent k above.0 e.cut above.1 child in
    let both : Some n ≡ Some down.0 = sym has ∙ down.1 in
    let same : n ≡ down.0 = cc in
    (above.0, above.1, ap (λ (x : Node). x.depth) same ∙ down.2.deeper)

-- a node that is not at the root has the path of its parent after its own cut
pub path_step : (s : Slab Node) (k : ℕ) (n p : Node) (e : Edge) → get s k ≡ Some n → n.edge ≡ Some e → n.depth ≡ p.depth + 1
    → path_up s n.depth k ≡ e.cut ∷ path_up s p.depth e.parent
path_step s k n p e has edge deeper =
    ap (λ d. path_up s d k) (deeper ∙ add-one p.depth)
    ∙ ap (λ o. along o (path_up s p.depth)) (ap edge_of has ∙ edge)

pub path_top : (s : Slab Node) (k d : ℕ) (n : Node) → get s k ≡ Some n → n.edge ≡ None → path_up s d k ≡ []
path_top s k zero n has none = refl
path_top s k (suc d) n has none = ap (λ o. along o (path_up s d)) (ap edge_of has ∙ none)

-- the path of a node is as long as the node is deep
pub path_length : (s : Slab Node) (top d k : ℕ) (n : Node) → IsRooted s top → get s k ≡ Some n → n.depth ≡ d → length (path_up s d k) ≡ d
path_length s top zero k n r has deep = refl
path_length s top (suc d) k n r has deep =
    by n.edge refl (λ e p there less. path_length s top d e.parent p r there less)
  where
    by : (o : Option Edge) → n.edge ≡ o
        → ((e : Edge) (p : Node) → get s e.parent ≡ Some p → p.depth ≡ d → length (path_up s d e.parent) ≡ d)
        → length (path_up s (suc d) k) ≡ suc d
    by None e above =
        let at_top = r.alone k n has e in
        let both : Some n ≡ Some r.root.0 = sym has ∙ ap (get s) at_top ∙ r.root.1 in
        let same : n ≡ r.root.0 = cc in
        let none = ap (λ (x : Node). x.depth) same ∙ r.root.3 in
        absurd (omega (arith, none, deep))
    by (Some e) is above =
        let p = parent_of s top k n e r has is in
        ap (λ o. length (along o (path_up s d))) (ap edge_of has ∙ is)
        ∙ ap suc (above e p.0 p.1 (omega (arith, p.2, deep)))

pub depth_there : (f : Frontier) (k : ℕ) (n : Node) (e : Entry) → IsFrontier f → get f.nodes k ≡ Some n → entry_at f k ≡ Some e
    → length e.path ≡ n.depth
unfolding entry_at
depth_there f k n e open_tree has is =
    let both : Some (record { path = path_up f.nodes n.depth k; state = n.state }) ≡ Some e = sym (entry_is f.nodes k n has) ∙ is in
    let same : record { path = path_up f.nodes n.depth k; state = n.state } ≡ e = cc in
    ap (λ (x : Entry). length x.path) (sym same) ∙ path_length f.nodes f.root n.depth k n open_tree.rooted has refl

-- the path of a caller's node
pub path_there : (f : Frontier) (k : ℕ) (n : Node) (e : Entry) → get f.nodes k ≡ Some n → entry_at f k ≡ Some e
    → e.path ≡ path_up f.nodes n.depth k
unfolding entry_at
path_there f k n e has is =
    let both : Some (record { path = path_up f.nodes n.depth k; state = n.state }) ≡ Some e = sym (entry_is f.nodes k n has) ∙ is in
    let same : record { path = path_up f.nodes n.depth k; state = n.state } ≡ e = cc in
    ap (λ (x : Entry). x.path) (sym same)

pub entry_none : (f : Frontier) (k : ℕ) (e : Entry) → get f.nodes k ≡ None → entry_at f k ≡ Some e → ⊥
unfolding entry_at
entry_none f k e none is = let both : None ≡ Some e = sym (ap (entry_of f.nodes k) none) ∙ is in absurd cc

-- the node as a caller sees it
pub entry_node : (f : Frontier) (k : ℕ) (n : Node) → get f.nodes k ≡ Some n
    → (e : Entry) × (entry_at f k ≡ Some e) × (e.path ≡ path_up f.nodes n.depth k)
unfolding entry_at
entry_node f k n has = (record { path = path_up f.nodes n.depth k; state = n.state }, entry_is f.nodes k n has, refl)
