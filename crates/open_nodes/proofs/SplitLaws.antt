-- A node that is split into two new ones, and the root that is made first.
use Rattle.std.specs.Prelude.{◌≡◌, ◌≢◌, ℕ, zero, suc, ◌+◌, ◌≤◌, ◌^◌, ℤ, List, [], ◌∷◌, Option, None, Some, option_map, sum_by}
use Rattle.std.specs.Int.RustNames.{unsigned_abs}
use Rattle.std.proofs.Common.{refl, arith, inl, inr, subst, sym, ap, ◌∙◌, add-one, get_or}
use Rattle.std.proofs.lemmas.Bool.{cases_eq}
use Rattle.std.proofs.lemmas.List.Sums.{sum_by-cons}
use Rattle.slab.specs.Slab.{Slab, get, with_value, Updates}
use Rattle.open_nodes.specs.declared.frontiers.Frontier.{Frontier}
use Rattle.open_nodes.specs.declared.nodes.Cut.{Cut}
use Rattle.open_nodes.specs.declared.nodes.Cut.TheVariants.{Above, Below}
use Rattle.open_nodes.specs.declared.nodes.Edge.{Edge}
use Rattle.open_nodes.specs.declared.nodes.Node.{Node}
use Rattle.open_nodes.specs.declared.nodes.State.{State}
use Rattle.open_nodes.specs.declared.nodes.State.TheVariants.{Split, Taken, Waiting}
use Rattle.node_bounds.specs.declared.reasons.Why.{Why}
use Rattle.open_nodes.specs.Nodes.{under, with_state}
use Rattle.open_nodes.specs.Frontiers.{entry_at, sum_over, SplitsNode}
use Rattle.open_nodes.specs.Internal.Forests.{CameFrom, IsChildBy, IsForest, IsRooted, IsSmallCut}
use Rattle.open_nodes.specs.Internal.Forests.{along, edge_of, entry, entry_of, new_node, path_up, sum_among, weigh}
use Rattle.open_nodes.proofs.RenewLaws.{KeepsEdges, HasParents, entry_is, entry_kept, path_same, renewed, renews, with_state_along}

-- ---- sums over slots

pub sum_same : (f : Option Node → ℕ) → f None ≡ 0 → (xs ys : List (Option Node)) → ((k : ℕ) → get_or ys k None ≡ get_or xs k None)
    → sum_by f ys ≡ sum_by f xs
sum_same f none [] [] same = refl
sum_same f none [] (y ∷ ys) same =
    let head : f y ≡ 0 = ap f (same 0) ∙ none in
    omega (arith, sum_by-cons f y ys, sum_same f none [] ys (λ k. same (suc k)), head)
sum_same f none (x ∷ xs) [] same =
    let head : f x ≡ 0 = ap f (sym (same 0)) ∙ none in
    omega (arith, sum_by-cons f x xs, sum_same f none xs [] (λ k. same (suc k)), head)
sum_same f none (x ∷ xs) (y ∷ ys) same =
    let head : f y ≡ f x = ap f (same 0) in
    omega (arith, sum_by-cons f x xs, sum_by-cons f y ys, sum_same f none xs ys (λ k. same (suc k)), head)

-- a slot that was empty is filled
sum_filled : (f : Option Node → ℕ) → f None ≡ 0 → (xs ys : List (Option Node)) (key : ℕ) (v : Option Node) → get_or xs key None ≡ None
    → get_or ys key None ≡ v → ((k : ℕ) → k ≢ key → get_or ys k None ≡ get_or xs k None) → sum_by f ys ≡ sum_by f xs + f v
sum_filled f none [] [] key v was is others =
    let nothing : f v ≡ 0 = ap f (sym is) ∙ none in omega (arith, nothing)
sum_filled f none [] (y ∷ ys) zero v was is others =
    let head : f y ≡ f v = ap f is in
    omega (arith, sum_by-cons f y ys, sum_same f none [] ys (λ k. others (suc k) (λ e. omega (arith, e))), head)
sum_filled f none [] (y ∷ ys) (suc key) v was is others =
    let head : f y ≡ 0 = ap f (others 0 (λ e. omega (arith, e))) ∙ none in
    omega (
      arith,
      sum_by-cons f y ys,
      sum_filled f none [] ys key v refl is (λ k differs. others (suc k) (λ e. differs (omega (arith, e)))),
      head,
    )
sum_filled f none (x ∷ xs) [] zero v was is others =
    let head : f x ≡ 0 = ap f was ∙ none in
    let nothing : f v ≡ 0 = ap f (sym is) ∙ none in
    omega (arith, sum_by-cons f x xs, sum_same f none xs [] (λ k. others (suc k) (λ e. omega (arith, e))), head, nothing)
sum_filled f none (x ∷ xs) [] (suc key) v was is others =
    let head : f x ≡ 0 = ap f (sym (others 0 (λ e. omega (arith, e)))) ∙ none in
    omega (
      arith,
      sum_by-cons f x xs,
      sum_filled f none xs [] key v was is (λ k differs. others (suc k) (λ e. differs (omega (arith, e)))),
      head,
    )
sum_filled f none (x ∷ xs) (y ∷ ys) zero v was is others =
    let head : f x ≡ 0 = ap f was ∙ none in
    let new : f y ≡ f v = ap f is in
    omega (
      arith,
      sum_by-cons f x xs,
      sum_by-cons f y ys,
      sum_same f none xs ys (λ k. others (suc k) (λ e. omega (arith, e))),
      head,
      new,
    )
sum_filled f none (x ∷ xs) (y ∷ ys) (suc key) v was is others =
    let head : f y ≡ f x = ap f (others 0 (λ e. omega (arith, e))) in
    omega (
      arith,
      sum_by-cons f x xs,
      sum_by-cons f y ys,
      sum_filled f none xs ys key v was is (λ k differs. others (suc k) (λ e. differs (omega (arith, e)))),
      head,
    )

pub sum_added : (g : State → ℕ) (s s' : Slab Node) (key : ℕ) (n : Node) → get s key ≡ None → Updates s s' key (Some n)
    → sum_among g s' ≡ sum_among g s + g n.state
sum_added g s s' key n none new = sum_filled (weigh g) refl s.slots s'.slots key (Some n) none new.changed new.others

-- ---- what a slab has after a split

-- a new node below another one
abbrev pub child : ℕ → Cut → ℕ → ℤ → Node
child key cut depth bound = new_node (Some (record { parent = key; cut = cut })) depth bound

pub record Grows (s s' : Slab Node) (key col : ℕ) (z : ℤ) (why : Why) (bound : ℤ) (n : Node) (left right : ℕ) : Type 0 where
  pub had : get s key ≡ Some n
  pub taken : n.state ≡ Taken
  pub has : get s' key ≡ Some (renewed n (Split col z why left right))
  pub left_has : get s' left ≡ Some (child key (Below col z) (n.depth + 1) bound)
  pub right_has : get s' right ≡ Some (child key (Above col z) (n.depth + 1) bound)
  pub left_none : get s left ≡ None
  pub right_none : get s right ≡ None
  pub differ : left ≢ right
  pub others : (k : ℕ) → k ≢ key → k ≢ left → k ≢ right → get s' k ≡ get s k
  pub sums : (g : State → ℕ) → sum_among g s' + g Taken
      ≡ sum_among g s + g (Split col z why left right) + g (Waiting bound None) + g (Waiting bound None)

-- a key that has a node is none that has not
pub differs_from : (s : Slab Node) (k j : ℕ) (n : Node) → get s k ≡ Some n → get s j ≡ None → k ≢ j
differs_from s k j n has none = λ e. (let both : Some n ≡ None = sym has ∙ ap (get s) e ∙ none in absurd cc)

-- a node that was there is there after others were added
pub still_there : (s s' : Slab Node) (key new : ℕ) (n : Node) (v : Option Node) → get s key ≡ Some n → get s new ≡ None
    → Updates s s' new v → get s' key ≡ Some n
still_there s s' key new n v has none u = u.others key (differs_from s key new n has none) ∙ has

pub grows : (s s1 s2 s3 : Slab Node) (key col : ℕ) (z : ℤ) (why : Why) (bound : ℤ) (n : Node) (left right : ℕ) → get s key ≡ Some n
    → n.state ≡ Taken → get s left ≡ None → Updates s s1 left (Some (child key (Below col z) (n.depth + 1) bound)) → get s1 right ≡ None
    → Updates s1 s2 right (Some (child key (Above col z) (n.depth + 1) bound))
    → s3 ≡ with_value s2 key (renewed n (Split col z why left right)) → Grows s s3 key col z why bound n left right
grows s s1 s2 s3 key col z why bound n left right had taken left_none u1 right_none u2 set =
    let in_first = still_there s s1 key left n _ had left_none u1 in
    let in_second = still_there s1 s2 key right n _ in_first right_none u2 in
    let last = renews s2 s3 key n (Split col z why left right) in_second set in
    let key_left = differs_from s key left n had left_none in
    let key_right = differs_from s1 key right n in_first right_none in
    let differ = differs_from s1 left right _ u1.changed right_none in
    record {
      had = had;
      taken = taken;
      has = last.has;
      left_has = last.others left (λ e. key_left (sym e)) ∙ u2.others left differ ∙ u1.changed;
      right_has = last.others right (λ e. key_right (sym e)) ∙ u2.changed;
      left_none = left_none;
      right_none = sym (u1.others right (λ e. differ (sym e))) ∙ right_none;
      differ = differ;
      others = λ k a b c. last.others k a ∙ u2.others k c ∙ u1.others k b;
      sums = λ g.
          let a = sum_added g s s1 left _ left_none u1 in
          let b = sum_added g s1 s2 right _ right_none u2 in
          let c = subst (λ (st : State). sum_among g s3 + g st ≡ sum_among g s2 + g (Split col z why left right)) taken (last.sums g) in
          omega (arith, a, b, c);
    }

-- memory that was reserved before changes nothing
pub grown_from : (s s0 s' : Slab Node) (key col : ℕ) (z : ℤ) (why : Why) (bound : ℤ) (n : Node) (left right : ℕ) → s0.slots ≡ s.slots
    → Grows s0 s' key col z why bound n left right → Grows s s' key col z why bound n left right
grown_from s s0 s' key col z why bound n left right is w =
    let same : (k : ℕ) → get s0 k ≡ get s k = λ k. ap (λ xs. get_or xs k None) is in
    record {
      had = sym (same key) ∙ w.had;
      taken = w.taken;
      has = w.has;
      left_has = w.left_has;
      right_has = w.right_has;
      left_none = sym (same left) ∙ w.left_none;
      right_none = sym (same right) ∙ w.right_none;
      differ = w.differ;
      others = λ k a b c. w.others k a b c ∙ same k;
      sums = λ g.
          let total : sum_among g s0 ≡ sum_among g s = ap (sum_by (weigh g)) is in
          w.sums g ∙ ap (λ x. x + g (Split col z why left right) + g (Waiting bound None) + g (Waiting bound None)) total;
    }

grown_edges : (s s' : Slab Node) (key col : ℕ) (z : ℤ) (why : Why) (bound : ℤ) (n : Node) (left right : ℕ)
    → Grows s s' key col z why bound n left right → KeepsEdges s s'
grown_edges s s' key col z why bound n left right w = λ k m has. elim (cases_eq k key) [
  | inl same ↦
      let now : get s' k ≡ Some (renewed n (Split col z why left right)) = ap (get s') same ∙ w.has in
      let was : Some m ≡ Some n = sym has ∙ ap (get s) same ∙ w.had in
      let is : n ≡ m = cc in
      ap edge_of now ∙ ap (λ (x : Node). x.edge) is
  | inr differs ↦
      ap edge_of
      (w.others k differs (differs_from s k left m has w.left_none) (differs_from s k right m has w.right_none) ∙ has)
]

-- a new node as a caller sees it
grown_entry : (s s' : Slab Node) (key k : ℕ) (cut : Cut) (bound : ℤ) (n : Node) → HasParents s → KeepsEdges s s' → get s key ≡ Some n
    → get s' k ≡ Some (child key cut (n.depth + 1) bound) → entry s' k ≡ option_map (under cut (Waiting bound None)) (entry s key)
grown_entry s s' key k cut bound n parents keeps had has =
    entry_is s' k (child key cut (n.depth + 1) bound) has
    ∙ ap (with_state_along (Waiting bound None))
    (ap (λ d. path_up s' d k) (add-one n.depth)
    ∙ ap (λ o. along o (path_up s' n.depth)) (ap edge_of has)
    ∙ ap (λ (xs : List Cut). cut ∷ xs) (path_same s s' parents keeps n.depth key n had))
    ∙ sym (ap (option_map (under cut (Waiting bound None))) (entry_is s key n had))

pub splits_node : (f f' : Frontier) (key col : ℕ) (z : ℤ) (why : Why) (bound : ℤ) (n : Node) (left right : ℕ) → HasParents f.nodes
    → Grows f.nodes f'.nodes key col z why bound n left right → SplitsNode f f' key col z why bound left right
unfolding entry_at sum_over
splits_node f f' key col z why bound n left right parents w =
    let keeps = grown_edges f.nodes f'.nodes key col z why bound n left right w in
    record {
      parent =
          entry_is f'.nodes key (renewed n (Split col z why left right)) w.has
          ∙ ap (with_state_along (Split col z why left right)) (path_same f.nodes f'.nodes parents keeps n.depth key n w.had)
          ∙ sym (ap (option_map (with_state (Split col z why left right))) (entry_is f.nodes key n w.had));
      below = grown_entry f.nodes f'.nodes key left (Below col z) bound n parents keeps w.had w.left_has;
      above = grown_entry f.nodes f'.nodes key right (Above col z) bound n parents keeps w.had w.right_has;
      left_was = ap (entry_of f.nodes left) w.left_none;
      right_was = ap (entry_of f.nodes right) w.right_none;
      differ = w.differ;
      others = λ k a b c. entry_kept f.nodes f'.nodes parents keeps k (w.others k a b c);
      sums = w.sums;
    }

-- ---- the forest after a split

-- which node a key has after a split
data Which (s : Slab Node) (key col : ℕ) (z : ℤ) (why : Why) (bound : ℤ) (n : Node) (left right k : ℕ) (m : Node) : Type 0 where
  the_key : k ≡ key → m ≡ renewed n (Split col z why left right) → Which s key col z why bound n left right k m
  the_left : k ≡ left → m ≡ child key (Below col z) (n.depth + 1) bound → Which s key col z why bound n left right k m
  the_right : k ≡ right → m ≡ child key (Above col z) (n.depth + 1) bound → Which s key col z why bound n left right k m
  an_old : k ≢ key → get s k ≡ Some m → Which s key col z why bound n left right k m

abbrev edge_to : Cut → ℕ → Option Edge
edge_to cut p = Some (record { parent = p; cut = cut })

same_node : (s : Slab Node) (k : ℕ) (m n : Node) → get s k ≡ Some m → get s k ≡ Some n → m ≡ n
same_node s k m n a b = let both : Some m ≡ Some n = sym a ∙ b in cc

module _ (s s' : Slab Node) (key col : ℕ) (z : ℤ) (why : Why) (bound : ℤ) (n : Node) (left right : ℕ)
    (w : Grows s s' key col z why bound n left right) where
  which : (k : ℕ) (m : Node) → get s' k ≡ Some m → Which s key col z why bound n left right k m
  which k m has = elim (cases_eq k key) [
    | inl same ↦ the_key same (same_node s' key m _ (sym (ap (get s') same) ∙ has) w.has)
    | inr a ↦ elim (cases_eq k left) [
      | inl same ↦ the_left same (same_node s' left m _ (sym (ap (get s') same) ∙ has) w.left_has)
      | inr b ↦ elim (cases_eq k right) [
        | inl same ↦ the_right same (same_node s' right m _ (sym (ap (get s') same) ∙ has) w.right_has)
        | inr c ↦ an_old a (sym (w.others k a b c) ∙ has)
      ]
    ]
  ]

  -- a node that was there is there, with its edge and its depth
  kept : (k : ℕ) (m : Node) → get s k ≡ Some m → (x : Node) × (get s' k ≡ Some x) × (x.edge ≡ m.edge) × (x.depth ≡ m.depth)
  kept k m has = elim (cases_eq k key) [
    | inl same ↦
        let is : n ≡ m = same_node s key n m w.had (sym (ap (get s) same) ∙ has) in
        (renewed n (Split col z why left right), ap (get s') same ∙ w.has, ap (λ (x : Node). x.edge) is, ap (λ (x : Node). x.depth) is)
    | inr a ↦
        (m, w.others k a (differs_from s k left m has w.left_none) (differs_from s k right m has w.right_none) ∙ has, refl, refl)
  ]

  -- the children of the node that was split
  new_down : (cut : Cut) (c : ℕ) → IsChildBy (Split col z why left right) cut c
      → (m : Node) × (get s' c ≡ Some m) × CameFrom m key cut n.depth
  new_down (Below j v) c h =
      (child key (Below j v) (n.depth + 1) bound, rw (h.2, h.0, h.1) w.left_has, record { edge = refl; deeper = refl })
  new_down (Above j v) c h =
      (child key (Above j v) (n.depth + 1) bound, rw (h.2, h.0, h.1) w.right_has, record { edge = refl; deeper = refl })

  down : IsForest s → (k c : ℕ) (m : Node) (cut : Cut) → Which s key col z why bound n left right k m → IsChildBy m.state cut c
      → (x : Node) × (get s' c ≡ Some x) × CameFrom x k cut m.depth
  down forest k c m cut (the_key same is) h =
      let new = new_down cut c (subst (λ (x : Node). IsChildBy x.state cut c) is h) in (
        new.0,
        new.1,
        record {
          edge = new.2.edge ∙ ap (edge_to cut) (sym same);
          deeper = new.2.deeper ∙ ap (λ (x : Node). x.depth + 1) (sym is);
        },
      )
  down forest k c m cut (the_left same is) h = absurd (subst (λ (x : Node). IsChildBy x.state cut c) is h)
  down forest k c m cut (the_right same is) h = absurd (subst (λ (x : Node). IsChildBy x.state cut c) is h)
  down forest k c m cut (an_old a has) h =
      let old = forest.down k c m cut has h in
      let x = kept c old.0 old.1 in
      (x.0, x.1, record { edge = x.2 ∙ old.2.edge; deeper = x.3 ∙ old.2.deeper })

  -- the parent of a node that was there
  old_up : IsForest s → HasParents s → (c : ℕ) (m p : Node) (e : Edge) → get s c ≡ Some m → m.edge ≡ Some e
      → Which s key col z why bound n left right e.parent p → IsChildBy p.state e.cut c
  old_up forest parents c m p e has edge (the_key same is) =
      let was = forest.up c m n e has edge (ap (get s) same ∙ w.had) in
      absurd (subst (λ (st : State). IsChildBy st e.cut c) w.taken was)
  old_up forest parents c m p e has edge (the_left same is) =
      let above = parents c m e has edge in absurd (differs_from s e.parent left above.0 above.1 w.left_none same)
  old_up forest parents c m p e has edge (the_right same is) =
      let above = parents c m e has edge in absurd (differs_from s e.parent right above.0 above.1 w.right_none same)
  old_up forest parents c m p e has edge (an_old a there) = forest.up c m p e has edge there

  -- the parent of a new node
  new_up : (c : ℕ) (m p : Node) (e : Edge) (cut : Cut) → m ≡ child key cut (n.depth + 1) bound → m.edge ≡ Some e → get s' e.parent ≡ Some p
      → IsChildBy (Split col z why left right) cut c → IsChildBy p.state e.cut c
  new_up c m p e cut is edge above h =
      let two : Some (record { parent = key; cut = cut }) ≡ Some e = sym (ap (λ (x : Node). x.edge) is) ∙ edge in
      let edge_is : record { parent = key; cut = cut } ≡ e = cc in
      let p_is : renewed n (Split col z why left right) ≡ p =
      same_node s' key _ p w.has (ap (λ (x : Edge). get s' x.parent) edge_is ∙ above) in
      subst (λ (x : Node). IsChildBy x.state e.cut c) p_is
      (subst (λ (x : Edge). IsChildBy (Split col z why left right) x.cut c) edge_is h)

  up : IsForest s → HasParents s → (c : ℕ) (m p : Node) (e : Edge) → Which s key col z why bound n left right c m → m.edge ≡ Some e
      → get s' e.parent ≡ Some p → IsChildBy p.state e.cut c
  up forest parents c m p e (the_key same is) edge above =
      old_up forest parents c n p e (ap (get s) same ∙ w.had) (sym (ap (λ (x : Node). x.edge) is) ∙ edge) (which e.parent p above)
  up forest parents c m p e (the_left same is) edge above = new_up c m p e (Below col z) is edge above (refl, refl, same)
  up forest parents c m p e (the_right same is) edge above = new_up c m p e (Above col z) is edge above (refl, refl, same)
  up forest parents c m p e (an_old a has) edge above = old_up forest parents c m p e has edge (which e.parent p above)

  alone : (top : ℕ) → IsRooted s top → (k : ℕ) (m : Node) → Which s key col z why bound n left right k m → m.edge ≡ None → k ≡ top
  alone top r k m (the_key same is) none = r.alone k n (ap (get s) same ∙ w.had) (sym (ap (λ (x : Node). x.edge) is) ∙ none)
  alone top r k m (the_left same is) none = absurd (let two = sym (ap (λ (x : Node). x.edge) is) ∙ none in cc)
  alone top r k m (the_right same is) none = absurd (let two = sym (ap (λ (x : Node). x.edge) is) ∙ none in cc)
  alone top r k m (an_old a has) none = r.alone k m has none

  parents_there : HasParents s → (k : ℕ) (m : Node) (e : Edge) → Which s key col z why bound n left right k m → m.edge ≡ Some e
      → (p : Node) × (get s' e.parent ≡ Some p)
  parents_there parents k m e (the_key same is) edge =
      let p = parents k n e (ap (get s) same ∙ w.had) (sym (ap (λ (x : Node). x.edge) is) ∙ edge) in
      let x = kept e.parent p.0 p.1 in (x.0, x.1)
  parents_there parents k m e (the_left same is) edge =
      let two : Some (record { parent = key; cut = Below col z }) ≡ Some e = sym (ap (λ (x : Node). x.edge) is) ∙ edge in
      let edge_is : record { parent = key; cut = Below col z } ≡ e = cc in
      (renewed n (Split col z why left right), sym (ap (λ (x : Edge). get s' x.parent) edge_is) ∙ w.has)
  parents_there parents k m e (the_right same is) edge =
      let two : Some (record { parent = key; cut = Above col z }) ≡ Some e = sym (ap (λ (x : Node). x.edge) is) ∙ edge in
      let edge_is : record { parent = key; cut = Above col z } ≡ e = cc in
      (renewed n (Split col z why left right), sym (ap (λ (x : Edge). get s' x.parent) edge_is) ∙ w.has)
  parents_there parents k m e (an_old a has) edge =
      let p = parents k m e has edge in
      let x = kept e.parent p.0 p.1 in (x.0, x.1)

  small : (top : ℕ) → IsRooted s top → unsigned_abs z ≤ 2 ^ 24 → (k : ℕ) (m : Node) (e : Edge)
      → Which s key col z why bound n left right k m → m.edge ≡ Some e → IsSmallCut e.cut
  small top r fits k m e (the_key same is) edge =
      r.small k n e (ap (get s) same ∙ w.had) (sym (ap (λ (x : Node). x.edge) is) ∙ edge)
  small top r fits k m e (the_left same is) edge =
      let two : Some (record { parent = key; cut = Below col z }) ≡ Some e = sym (ap (λ (x : Node). x.edge) is) ∙ edge in
      let edge_is : record { parent = key; cut = Below col z } ≡ e = cc in
      subst (λ (x : Edge). IsSmallCut x.cut) edge_is fits
  small top r fits k m e (the_right same is) edge =
      let two : Some (record { parent = key; cut = Above col z }) ≡ Some e = sym (ap (λ (x : Node). x.edge) is) ∙ edge in
      let edge_is : record { parent = key; cut = Above col z } ≡ e = cc in
      subst (λ (x : Edge). IsSmallCut x.cut) edge_is fits
  small top r fits k m e (an_old a has) edge = r.small k m e has edge

  pub grown_rooted : (top : ℕ) → unsigned_abs z ≤ 2 ^ 24 → IsRooted s top → IsRooted s' top
  grown_rooted top fits r = record {
    forest = record {
      down = λ k c m cut has h. down r.forest k c m cut (which k m has) h;
      up = λ c m p e has edge above. up r.forest r.parents c m p e (which c m has) edge above;
    };
    root = (let x = kept top r.root.0 r.root.1 in (x.0, x.1, x.2 ∙ r.root.2, x.3 ∙ r.root.3));
    alone = λ k m has none. alone top r k m (which k m has) none;
    parents = λ k m e has edge. parents_there r.parents k m e (which k m has) edge;
    small = λ k m e has edge. small top r fits k m e (which k m has) edge;
  }
