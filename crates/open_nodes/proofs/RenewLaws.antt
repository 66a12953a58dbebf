-- What a slab of nodes has at each key after the node at one key got another state.
use Rattle.std.specs.Prelude.{◌≡◌, ◌≢◌, ℕ, zero, suc, ◌+◌, List, ◌∷◌, Option, None, Some, option_map, is_some}
use Rattle.std.proofs.Common.{refl, inl, inr, subst, sym, ap, ◌∙◌}
use Rattle.std.proofs.lemmas.Bool.{cases_eq}
use Rattle.std.proofs.lemmas.List.Sums.{sum_by-set}
use Rattle.slab.specs.Slab.{Slab, get, with_value, ContainsKey, Updates}
use Rattle.slab.proofs.SlabLemmas.{ContainsKey-within, Updates-with_value}
use Rattle.open_nodes.specs.declared.frontiers.Frontier.{Frontier}
use Rattle.open_nodes.specs.declared.nodes.Cut.{Cut}
use Rattle.open_nodes.specs.declared.nodes.Edge.{Edge}
use Rattle.open_nodes.specs.declared.nodes.Node.{Node}
use Rattle.open_nodes.specs.declared.nodes.State.{State}
use Rattle.open_nodes.specs.Nodes.{Entry, with_state}
use Rattle.open_nodes.specs.Frontiers.{entry_at, sum_over, HasState, SetsState}
use Rattle.open_nodes.specs.Internal.Forests.{along, edge_of, entry, entry_of, path_up, sum_among, weigh}

-- a node with another state
abbrev pub renewed : Node → State → Node
renewed n st = record { edge = n.edge; depth = n.depth; state = st }

-- the node at a key has another state, and every other key has what it had
pub record Renews (s s' : Slab Node) (key : ℕ) (n : Node) (st : State) : Type 0 where
  pub had : get s key ≡ Some n
  pub has : get s' key ≡ Some (renewed n st)
  pub others : (k : ℕ) → k ≢ key → get s' k ≡ get s k
  pub sums : (g : State → ℕ) → sum_among g s' + g n.state ≡ sum_among g s + g st

pub renews : (s s' : Slab Node) (key : ℕ) (n : Node) (st : State) → get s key ≡ Some n → s' ≡ with_value s key (renewed n st)
    → Renews s s' key n st
renews s s' key n st had is =
    let there : ContainsKey s key = ap is_some had in
    let new = subst (λ x. Updates s x key (Some (renewed n st))) (sym is) (Updates-with_value s key (renewed n st) there) in
    let set_sum : (g : State → ℕ) → sum_among g (with_value s key (renewed n st)) + g n.state ≡ sum_among g s + g st =
    λ g. subst (λ o. sum_among g (with_value s key (renewed n st)) + weigh g o ≡ sum_among g s + g st) had
    (sum_by-set (weigh g) s.slots key (Some (renewed n st)) None (ContainsKey-within s key there)) in
    record {
      had = had;
      has = new.changed;
      others = new.others;
      sums = λ g. subst (λ x. sum_among g x + g n.state ≡ sum_among g s + g st) (sym is) (set_sum g);
    }

-- ---- paths

-- each node has its edge still
abbrev pub KeepsEdges : Slab Node → Slab Node → Type 0
KeepsEdges s s' = (k : ℕ) (n : Node) → get s k ≡ Some n → edge_of (get s' k) ≡ n.edge

-- each parent is there
abbrev pub HasParents : Slab Node → Type 0
HasParents s = (k : ℕ) (n : Node) (e : Edge) → get s k ≡ Some n → n.edge ≡ Some e → (p : Node) × (get s e.parent ≡ Some p)

along_same : (o : Option Edge) (f g : ℕ → List Cut) → ((e : Edge) → o ≡ Some e → f e.parent ≡ g e.parent) → along o f ≡ along o g
along_same None f g h = refl
along_same (Some e) f g h = ap (λ xs. e.cut ∷ xs) (h e refl)

pub path_same : (s s' : Slab Node) → HasParents s → KeepsEdges s s' → (d k : ℕ) (n : Node) → get s k ≡ Some n
    → path_up s' d k ≡ path_up s d k
path_same s s' parents keeps zero k n has = refl
path_same s s' parents keeps (suc d) k n has =
    ap (λ o. along o (path_up s' d)) (keeps k n has)
    ∙ along_same n.edge (path_up s' d) (path_up s d)
    (λ e is. let p = parents k n e has is in path_same s s' parents keeps d e.parent p.0 p.1)
    ∙ sym (ap (λ o. along o (path_up s d)) (ap edge_of has))

-- the node of a key, as a caller sees it
pub entry_is : (s : Slab Node) (k : ℕ) (n : Node) → get s k ≡ Some n
    → entry s k ≡ Some (record { path = path_up s n.depth k; state = n.state })
entry_is s k n has = ap (entry_of s k) has

abbrev pub with_state_along : State → List Cut → Option Entry
with_state_along st xs = Some (record { path = xs; state = st })

pub entry_kept : (s s' : Slab Node) → HasParents s → KeepsEdges s s' → (k : ℕ) → get s' k ≡ get s k → entry s' k ≡ entry s k
entry_kept s s' parents keeps k same = by (get s k) refl
  where
    by : (o : Option Node) → get s k ≡ o → entry s' k ≡ entry s k
    by None e = ap (entry_of s' k) (same ∙ e) ∙ sym (ap (entry_of s k) e)
    by (Some n) e =
        ap (entry_of s' k) (same ∙ e)
        ∙ ap (with_state_along n.state) (path_same s s' parents keeps n.depth k n e)
        ∙ sym (ap (entry_of s k) e)

pub renewed_edges : (s s' : Slab Node) (key : ℕ) (n : Node) (st : State) → Renews s s' key n st → KeepsEdges s s'
renewed_edges s s' key n st r = λ k m has. elim (cases_eq k key) [
  | inl same ↦
      let now : get s' k ≡ Some (renewed n st) = ap (get s') same ∙ r.has in
      let was : Some m ≡ Some n = sym has ∙ ap (get s) same ∙ r.had in
      let is : n ≡ m = cc in
      ap edge_of now ∙ ap (λ (x : Node). x.edge) is
  | inr differs ↦ ap edge_of (r.others k differs ∙ has)
]

pub entry_renewed : (s s' : Slab Node) (key : ℕ) (n : Node) (st : State) → HasParents s → Renews s s' key n st
    → entry s' key ≡ option_map (with_state st) (entry s key)
entry_renewed s s' key n st parents r =
    entry_is s' key (renewed n st) r.has
    ∙ ap (with_state_along st)
    (path_same s s' parents (renewed_edges s s' key n st r) n.depth key n r.had)
    ∙ sym (ap (option_map (with_state st)) (entry_is s key n r.had))

-- ---- open trees

-- the node of a key whose state is known
pub state_there : (f : Frontier) (k : ℕ) (st : State) → HasState f k st → (n : Node) × (get f.nodes k ≡ Some n) × (n.state ≡ st)
unfolding entry_at
state_there f k st h = by (get f.nodes k) refl
  where
    by : (o : Option Node) → get f.nodes k ≡ o → (n : Node) × (get f.nodes k ≡ Some n) × (n.state ≡ st)
    by None e = absurd (let gone : option_map (λ (x : Entry). x.state) (entry f.nodes k) ≡ None =
        ap (λ o. option_map (λ (x : Entry). x.state) (entry_of f.nodes k o)) e in
        let both : None ≡ Some st = sym gone ∙ h in cc)
    by (Some n) e =
        let is : Some n.state ≡ Some st = sym (ap (λ o. option_map (λ (x : Entry). x.state) (entry_of f.nodes k o)) e) ∙ h in
        (n, e, cc)

pub sets_state : (f f' : Frontier) (key : ℕ) (n : Node) (st : State) → HasParents f.nodes → Renews f.nodes f'.nodes key n st
    → SetsState f f' key st
unfolding entry_at sum_over
sets_state f f' key n st parents r = record {
  changed = entry_renewed f.nodes f'.nodes key n st parents r;
  others = λ k differs.
      entry_kept f.nodes f'.nodes parents (renewed_edges f.nodes f'.nodes key n st r) k (r.others k differs);
  sums = λ g e has.
      let is : Some (record { path = path_up f.nodes n.depth key; state = n.state }) ≡ Some e = sym (entry_is f.nodes key n r.had) ∙ has in
      let same : record { path = path_up f.nodes n.depth key; state = n.state } ≡ e = cc in
      let state_is : n.state ≡ e.state = ap (λ (x : Entry). x.state) same in
      subst (λ (x : State). sum_among g f'.nodes + g x ≡ sum_among g f.nodes + g st) state_is (r.sums g);
}
