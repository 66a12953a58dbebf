-- A tree that is taken out of a slab: what it has, and what stays.
use Rattle.std.specs.Prelude.{◌≡◌, ◌≢◌, ◌⊎◌, ℕ, ◌+◌, ◌≤◌, ℤ, List, [], ◌∷◌, ◌++◌, length, Option, None, Some, count_by}
use Rattle.std.specs.Prelude.{is_some, sum_by, Result, Ok, Err, IfOk}
use Rattle.std.proofs.Common.{refl, arith, inl, inr, subst, sym, ap, ◌∙◌, add-one, cond, set}
use Rattle.std.proofs.lemmas.Bool.{cases_eq}
use Rattle.std.proofs.lemmas.List.Sums.{sum_by-append, sum_by-cons, sum_by-set}
use Rattle.ip_defs.proofs.ListLaws.{each_append}
use Rattle.ip_defs.specs.Boxes.{above, below}
use Rattle.ip_defs.specs.Lists.{Each}
use Rattle.proof_tree.specs.LabelledTrees.{split, split_node, place, places_from}
use Rattle.slab.specs.Slab.{Slab, get, slab_len, Updates}
use Rattle.slab.proofs.SlabLemmas.{ContainsKey-within}
use Rattle.open_nodes.specs.OpenTrees.{OpenPlace, PlainOpen, SomeOf}
use Rattle.open_nodes.specs.declared.nodes.Cut.{Cut}
use Rattle.open_nodes.specs.declared.nodes.Cut.TheVariants.{Above, Below}
use Rattle.open_nodes.specs.declared.nodes.Edge.{Edge}
use Rattle.open_nodes.specs.declared.nodes.Node.{Node}
use Rattle.open_nodes.specs.declared.nodes.State.{State}
use Rattle.open_nodes.specs.declared.nodes.State.TheVariants.{Split}
use Rattle.open_nodes.specs.declared.nodes.State.TheVariants as States
use Rattle.open_nodes.specs.Internal.Joins.{IsLeafState, IsSplitInto, IsSplitState, leaf_tree, split_tree}
use Rattle.node_bounds.specs.declared.reasons.Why.{Why}
use Rattle.open_nodes.specs.Nodes.{box_along, node_of, place_over}
use Rattle.open_nodes.specs.Internal.Forests.{ArePaths, CameFrom, HasLeft, HasNoParent, IsChildBy, IsForest, IsTop}
use Rattle.open_nodes.specs.Internal.Forests.{TakesTree, places_at, sum_among, weigh, with_path}
use Rattle.open_nodes.proofs.ForestLaws.{IsChildless}

same_node : (s : Slab Node) (k : ℕ) (m n : Node) → get s k ≡ Some m → get s k ≡ Some n → m ≡ n
same_node s k m n a b = let both : Some m ≡ Some n = sym a ∙ b in cc

-- what is there is not gone
pub not_gone : (s : Slab Node) (k : ℕ) (n : Node) → get s k ≡ Some n → get s k ≡ None → ⊥
not_gone s k n has none = let both : Some n ≡ None = sym has ∙ none in cc

-- ---- the node of the key is removed

-- a node without parent was removed, and nothing else has changed
pub record Removes (s s' : Slab Node) (key : ℕ) (n : Node) : Type 0 where
  pub had : get s key ≡ Some n
  pub gone : get s' key ≡ None
  pub others : (k : ℕ) → k ≢ key → get s' k ≡ get s k
  pub sums : (g : State → ℕ) → g n.state + sum_among g s' ≡ sum_among g s

pub removes : (s s' : Slab Node) (key : ℕ) (n : Node) → get s key ≡ Some n → Updates s s' key None → s'.slots ≡ set s.slots key None
    → Removes s s' key n
removes s s' key n had new slots_are = record {
  had = had;
  gone = new.changed;
  others = new.others;
  sums = λ g.
      let within = ContainsKey-within s key (ap is_some had) in
      let total = sum_by-set (weigh g) s.slots key None None within in
      let mine : weigh g (get s key) ≡ g n.state = ap (weigh g) had in
      let same : sum_among g s' ≡ sum_by (weigh g) (set s.slots key None) = ap (sum_by (weigh g)) slots_are in
      omega (arith, total, mine, same);
}

-- each slot keeps its node, or is empty
shrunk : (s s' : Slab Node) (key : ℕ) (n : Node) → Removes s s' key n → (k : ℕ) → (get s' k ≡ get s k) ⊎ (get s' k ≡ None)
shrunk s s' key n r k = elim (cases_eq k key) [
  | inl same ↦ inr (ap (get s') same ∙ r.gone)
  | inr differs ↦ inl (r.others k differs)
]

-- what is left was there
was_there : (s s' : Slab Node) → ((k : ℕ) → (get s' k ≡ get s k) ⊎ (get s' k ≡ None)) → (k : ℕ) (m : Node) → get s' k ≡ Some m
    → get s k ≡ Some m
was_there s s' shrinks k m has = elim (shrinks k) [
  | inl same ↦ sym same ∙ has
  | inr none ↦ absurd (not_gone s' k m has none)
]

-- the key that was removed is no child of a node that is left
removed_forest : (s s' : Slab Node) (key : ℕ) (n : Node) → Removes s s' key n → HasNoParent s n → IsForest s → IsForest s'
removed_forest s s' key n r lone forest = record {
  down = λ k c m cut has h.
      let was = was_there s s' (shrunk s s' key n r) k m has in
      let old = forest.down k c m cut was h in
      elim (cases_eq c key) [
        | inl same ↦
            let is = same_node s key n old.0 r.had (sym (ap (get s) same) ∙ old.1) in
            let none = lone _ (ap (λ (x : Node). x.edge) is ∙ old.2.edge) in
            absurd (not_gone s k m was none)
        | inr differs ↦ (old.0, r.others c differs ∙ old.1, old.2)
      ];
  up = λ c m p e has edge above.
      let there = was_there s s' (shrunk s s' key n r) in forest.up c m p e (there c m has) edge (there e.parent p above);
}

-- ---- a leaf

-- the node was a leaf
pub leaf_taken : (s s' : Slab Node) (key : ℕ) (n : Node) (t : PlainOpen) → Removes s s' key n → HasNoParent s n → IsForest s
    → IsChildless n.state → ((d : ℕ) (b : List (ℤ × ℤ)) → places_from d b t ≡ place d b (node_of n.state) ∷ []) → TakesTree s s' key t
leaf_taken s s' key n t r lone forest childless places = record {
  forest = removed_forest s s' key n r lone forest;
  shrinks = shrunk s s' key n r;
  gone = r.gone;
  tops = λ k top differs. r.others k differs;
  parents = λ k m p e has edge above. elim (cases_eq e.parent key) [
    | inl same ↦
        let was = was_there s s' (shrunk s s' key n r) k m has in
        let is = same_node s key p n (sym (ap (get s) same) ∙ above) r.had in
        absurd (childless e.cut k (subst (λ (x : Node). IsChildBy x.state e.cut k) is (forest.up k m p e was edge above)))
    | inr differs ↦ r.others e.parent differs ∙ above
  ];
  made = λ path b ok.
      subst (Each (HasLeft s s' path b)) (sym (places (length (path key)) (box_along (path key) b)))
      ((key, n, r.had, r.gone, refl), tt);
  all = λ path b ok k m was none. elim (cases_eq k key) [
    | inl same ↦
        let is = same_node s key n m r.had (sym (ap (get s) same) ∙ was) in
        subst (SomeOf (λ p. p ≡ place_over b (with_path (path k) m))) (sym (places (length (path key)) (box_along (path key) b)))
        (inl (ap (λ (x : Node). place_over b (with_path (path key) x)) is ∙ ap (λ j. place_over b (with_path (path j) m)) (sym same)))
    | inr differs ↦ absurd (not_gone s k m was (sym (r.others k differs) ∙ none))
  ];
  sums = λ d b g.
      let one : sum_by (λ (p : OpenPlace). g p.node) (places_from d b t) ≡ g (node_of n.state) =
      ap (sum_by (λ (p : OpenPlace). g p.node)) (places d b) ∙ sum_by-cons (λ (p : OpenPlace). g p.node) (place d b (node_of n.state)) []
      ∙ omega arith in
      let rest = r.sums (λ st. g (node_of st)) in
      omega (arith, one, rest);
}

-- ---- a split

some_left : {A : Type 0} (P : A → Type 0) (xs ys : List A) → SomeOf P xs → SomeOf P (xs ++ ys)
some_left P [] ys h = absurd h
some_left P (x ∷ xs) ys (inl h) = inl h
some_left P (x ∷ xs) ys (inr h) = inr (some_left P xs ys h)

some_right : {A : Type 0} (P : A → Type 0) (xs ys : List A) → SomeOf P ys → SomeOf P (xs ++ ys)
some_right P [] ys h = h
some_right P (x ∷ xs) ys h = inr (some_right P xs ys h)

pub each_map : {A : Type 0} (P Q : A → Type 0) → ((x : A) → P x → Q x) → (xs : List A) → Each P xs → Each Q xs
each_map P Q f [] h = tt
each_map P Q f (x ∷ xs) h = (f x h.0, each_map P Q f xs h.1)

-- paths for keys are such for what is left
paths_left : (s s' : Slab Node) (path : ℕ → List Cut) → ((k : ℕ) → (get s' k ≡ get s k) ⊎ (get s' k ≡ None)) → ArePaths s path
    → ArePaths s' path
paths_left s s' path shrinks ok = λ k c n cut has h. ok k c n cut (was_there s s' shrinks k n has) h

-- the parents of what is left are gone where they were
lone_left : (s s' : Slab Node) (n : Node) → ((k : ℕ) → (get s' k ≡ get s k) ⊎ (get s' k ≡ None)) → HasNoParent s n → HasNoParent s' n
lone_left s s' n shrinks lone = λ e edge. elim (shrinks e.parent) [
  | inl same ↦ same ∙ lone e edge
  | inr none ↦ none
]

both_shrink : (a b c : Option Node) → (b ≡ a) ⊎ (b ≡ None) → (c ≡ b) ⊎ (c ≡ None) → (c ≡ a) ⊎ (c ≡ None)
both_shrink a b c h (inr none) = inr none
both_shrink a b c (inl x) (inl y) = inl (y ∙ x)
both_shrink a b c (inr none) (inl y) = inr (y ∙ none)

stays_gone : (s s' : Slab Node) (k : ℕ) → (get s' k ≡ get s k) ⊎ (get s' k ≡ None) → get s k ≡ None → get s' k ≡ None
stays_gone s s' k (inl same) none = same ∙ none
stays_gone s s' k (inr gone) none = gone

-- a child of a split node is its left or its right one
kid : (col : ℕ) (z : ℤ) (why : Why) (left right k : ℕ) (cut : Cut) → IsChildBy (Split col z why left right) cut k → (k ≡ left) ⊎ (k ≡ right)
kid col z why left right k (Below j v) h = inl h.2
kid col z why left right k (Above j v) h = inr h.2

-- 1 for the edge of an upper half
abbrev upper_cut : Cut → ℕ
upper_cut (Below j v) = 0
upper_cut (Above j v) = 1

abbrev upper : Option Edge → ℕ
upper None = 0
upper (Some e) = upper_cut e.cut

module _ (s s1 : Slab Node) (key : ℕ) (n : Node) (col : ℕ) (z : ℤ) (why : Why) (left right : ℕ) (r : Removes s s1 key n)
    (lone : HasNoParent s n) (forest : IsForest s) (state_is : n.state ≡ Split col z why left right) where
  left_child : (m : Node) × (get s left ≡ Some m) × CameFrom m key (Below col z) n.depth
  left_child = forest.down key left n (Below col z) r.had
      (subst (λ (st : State). IsChildBy st (Below col z) left) (sym state_is) (refl, refl, refl))

  right_child : (m : Node) × (get s right ≡ Some m) × CameFrom m key (Above col z) n.depth
  right_child = forest.down key right n (Above col z) r.had
      (subst (λ (st : State). IsChildBy st (Above col z) right) (sym state_is) (refl, refl, refl))

  not_key : (c : ℕ) (cut : Cut) (m : Node) → get s c ≡ Some m → CameFrom m key cut n.depth → c ≢ key
  not_key c cut m has came = λ e.
      let is = same_node s key m n (sym (ap (get s) e) ∙ has) r.had in
      let deep = came.deeper in
      let same = ap (λ (x : Node). x.depth) is in
      omega (arith, deep, same)

  -- a child of the node has no parent once the node was removed
  lone_child : (c : ℕ) (cut : Cut) (m : Node) → CameFrom m key cut n.depth → HasNoParent s1 m
  lone_child c cut m came = λ e edge.
      let two : Some (record { parent = key; cut = cut }) ≡ Some e = sym came.edge ∙ edge in
      let is : record { parent = key; cut = cut } ≡ e = cc in
      sym (ap (λ (x : Edge). get s1 x.parent) is) ∙ r.gone

  pub left_top : IsTop s1 left
  left_top =
      let m = left_child in
      (m.0, r.others left (not_key left (Below col z) m.0 m.1 m.2) ∙ m.1, lone_child left (Below col z) m.0 m.2)

  right_top : IsTop s1 right
  right_top =
      let m = right_child in
      (m.0, r.others right (not_key right (Above col z) m.0 m.1 m.2) ∙ m.1, lone_child right (Above col z) m.0 m.2)

  differ : right ≢ left
  differ = λ e.
      let is = same_node s left right_child.0 left_child.0 (sym (ap (get s) e) ∙ right_child.1) left_child.1 in
      let one = ap upper (sym right_child.2.edge ∙ ap (λ (x : Node). x.edge) is ∙ left_child.2.edge) in
      omega (arith, one)

  pub forest_left : IsForest s1
  forest_left = removed_forest s s1 key n r lone forest

  -- a node without parent that is none of the key is no child of the node
  no_child : (k c : ℕ) (cut : Cut) (m : Node) → IsTop s k → get s c ≡ Some m → CameFrom m key cut n.depth → k ≢ c
  no_child k c cut m top has came = λ e.
      let is = same_node s c top.0 m (sym (ap (get s) e) ∙ top.1) has in
      absurd (not_gone s key n r.had (top.2 _ (ap (λ (x : Node). x.edge) is ∙ came.edge)))

  module _ (s2 : Slab Node) (tl : PlainOpen) (first : TakesTree s1 s2 left tl) where
    pub second_top : IsTop s2 right
    second_top = (right_top.0, first.tops right right_top differ ∙ right_top.1, lone_left s1 s2 right_top.0 first.shrinks right_top.2)

    module _ (s3 : Slab Node) (tr : PlainOpen) (second : TakesTree s2 s3 right tr) where
      to_first : (k : ℕ) → (get s1 k ≡ get s k) ⊎ (get s1 k ≡ None)
      to_first = shrunk s s1 key n r

      to_second : (k : ℕ) → (get s2 k ≡ get s k) ⊎ (get s2 k ≡ None)
      to_second k = both_shrink (get s k) (get s1 k) (get s2 k) (to_first k) (first.shrinks k)

      to_third : (k : ℕ) → (get s3 k ≡ get s k) ⊎ (get s3 k ≡ None)
      to_third k = both_shrink (get s k) (get s2 k) (get s3 k) (to_second k) (second.shrinks k)

      gone_third : get s3 key ≡ None
      gone_third = stays_gone s2 s3 key (second.shrinks key) (stays_gone s1 s2 key (first.shrinks key) r.gone)

      tops_kept : (k : ℕ) → IsTop s k → k ≢ key → get s3 k ≡ get s k
      tops_kept k top differs =
          let in_first = r.others k differs in
          let top1 : IsTop s1 k = (top.0, in_first ∙ top.1, lone_left s s1 top.0 to_first top.2) in
          let in_second = first.tops k top1 (no_child k left (Below col z) left_child.0 top left_child.1 left_child.2) in
          let top2 : IsTop s2 k = (top.0, in_second ∙ top1.1, lone_left s1 s2 top.0 first.shrinks top1.2) in
          let in_third = second.tops k top2 (no_child k right (Above col z) right_child.0 top right_child.1 right_child.2) in
          in_third ∙ in_second ∙ in_first

      parents_kept : (k : ℕ) (m p : Node) (e : Edge) → get s3 k ≡ Some m → m.edge ≡ Some e → get s e.parent ≡ Some p
          → get s3 e.parent ≡ Some p
      parents_kept k m p e has edge above =
          let at_second = was_there s2 s3 second.shrinks k m has in
          let at_start = was_there s s2 to_second k m at_second in
          elim (cases_eq e.parent key) [
            | inl same ↦
                let is = same_node s key p n (sym (ap (get s) same) ∙ above) r.had in
                let child : IsChildBy (Split col z why left right) e.cut k =
                subst (λ (st : State). IsChildBy st e.cut k) (ap (λ (x : Node). x.state) is ∙ state_is)
                (forest.up k m p e at_start edge above) in
                elim (kid col z why left right k e.cut child) [
                  | inl it ↦ absurd (not_gone s2 k m at_second (ap (get s2) it ∙ first.gone))
                  | inr it ↦ absurd (not_gone s3 k m has (ap (get s3) it ∙ second.gone))
                ]
            | inr differs ↦ second.parents k m p e has edge (first.parents k m p e at_second edge (r.others e.parent differs ∙ above))
          ]

      -- the places of a half, by the path of the child
      places_is : (path : ℕ → List Cut) (b : List (ℤ × ℤ)) (c : ℕ) (cut : Cut) (t : PlainOpen) → path c ≡ cut ∷ path key
          → places_at path b c t ≡ places_from (length (path key) + 1) (box_along (cut ∷ path key) b) t
      places_is path b c cut t is =
          ap (λ cs. places_from (length cs) (box_along cs b) t) is
          ∙ ap (λ d. places_from d (box_along (cut ∷ path key) b) t) (sym (add-one (length (path key))))

      left_path : (path : ℕ → List Cut) → ArePaths s path → path left ≡ Below col z ∷ path key
      left_path path ok =
          ok key left n (Below col z) r.had (subst (λ (st : State). IsChildBy st (Below col z) left) (sym state_is) (refl, refl, refl))

      right_path : (path : ℕ → List Cut) → ArePaths s path → path right ≡ Above col z ∷ path key
      right_path path ok =
          ok key right n (Above col z) r.had (subst (λ (st : State). IsChildBy st (Above col z) right) (sym state_is) (refl, refl, refl))

      made_by : (path : ℕ → List Cut) (b : List (ℤ × ℤ)) → ArePaths s path
          → Each (HasLeft s s3 path b) (places_at path b key (split col z why tl tr))
      made_by path b ok =
          let xs = places_from (length (path key) + 1) (below (box_along (path key) b) col z) tl in
          let ys = places_from (length (path key) + 1) (above (box_along (path key) b) col z) tr in
          let xs_is = places_is path b left (Below col z) tl (left_path path ok) in
          let ys_is = places_is path b right (Above col z) tr (right_path path ok) in
          let first_made = subst (Each (HasLeft s1 s2 path b)) xs_is (first.made path b (paths_left s s1 path to_first ok)) in
          let second_made = subst (Each (HasLeft s2 s3 path b)) ys_is (second.made path b (paths_left s s2 path to_second ok)) in (
            (
              key,
              n,
              r.had,
              gone_third,
              ap (λ st. place (length (path key)) (box_along (path key) b) (node_of st)) (sym state_is),
            ),
            each_append (HasLeft s s3 path b) xs ys
                (each_map (HasLeft s1 s2 path b) (HasLeft s s3 path b)
                (λ p h. (h.0, h.1, was_there s s1 to_first h.0 h.1 h.2, stays_gone s2 s3 h.0 (second.shrinks h.0) h.3, h.4)) xs first_made)
                (each_map (HasLeft s2 s3 path b) (HasLeft s s3 path b)
                (λ p h. (h.0, h.1, was_there s s2 to_second h.0 h.1 h.2, h.3, h.4)) ys second_made),
          )

      all_by : (path : ℕ → List Cut) (b : List (ℤ × ℤ)) → ArePaths s path → (k : ℕ) (m : Node) → get s k ≡ Some m → get s3 k ≡ None
          → SomeOf (λ p. p ≡ place_over b (with_path (path k) m)) (places_at path b key (split col z why tl tr))
      all_by path b ok k m was none =
          let P : OpenPlace → Type 0 = λ p. p ≡ place_over b (with_path (path k) m) in
          let xs = places_from (length (path key) + 1) (below (box_along (path key) b) col z) tl in
          let ys = places_from (length (path key) + 1) (above (box_along (path key) b) col z) tr in
          let xs_is = places_is path b left (Below col z) tl (left_path path ok) in
          let ys_is = places_is path b right (Above col z) tr (right_path path ok) in
          elim (cases_eq k key) [
            | inl same ↦
                let is = same_node s key n m r.had (sym (ap (get s) same) ∙ was) in
                inl (ap (λ st. place (length (path key)) (box_along (path key) b) (node_of st)) (sym state_is)
                ∙ ap (λ (x : Node). place_over b (with_path (path key) x)) is
                ∙ ap (λ j. place_over b (with_path (path j) m)) (sym same))
            | inr differs ↦
                let in_first = r.others k differs ∙ was in
                elim (first.shrinks k) [
                  | inl kept ↦ inr (some_right P xs ys (subst (SomeOf P) ys_is
                      (second.all path b (paths_left s s2 path to_second ok) k m (kept ∙ in_first) none)))
                  | inr gone ↦ inr (some_left P xs ys (subst (SomeOf P) xs_is
                      (first.all path b (paths_left s s1 path to_first ok) k m in_first gone)))
                ]
          ]

      pub split_taken : TakesTree s s3 key (split col z why tl tr)
      split_taken = record {
        forest = second.forest;
        shrinks = to_third;
        gone = gone_third;
        tops = tops_kept;
        parents = parents_kept;
        made = made_by;
        all = all_by;
        sums = λ d b g.
            let f : OpenPlace → ℕ = λ p. g p.node in
            let xs = places_from (d + 1) (below b col z) tl in
            let ys = places_from (d + 1) (above b col z) tr in
            let head = sum_by-cons f (place d b (split_node col z why)) (xs ++ ys) in
            let tail = sum_by-append f xs ys in
            let h : State → ℕ = λ st. g (node_of st) in
            let one = subst (λ (st : State). h st + sum_among h s1 ≡ sum_among h s) state_is (r.sums h) in
            let two = first.sums (d + 1) (below b col z) g in
            let three = second.sums (d + 1) (above b col z) g in
            omega (arith, head, tail, one, two, three);
      }

-- the node at a key without parent is without parent
pub lone_here : (s : Slab Node) (key : ℕ) (n : Node) → get s key ≡ Some n → IsTop s key → HasNoParent s n
lone_here s key n has top = subst (HasNoParent s) (same_node s key top.0 n top.1 has) top.2

-- a leaf in a known state
pub leaf_in_state : (s s' : Slab Node) (key : ℕ) (n : Node) (st : State) (t : PlainOpen) → Removes s s' key n → IsTop s key → IsForest s
    → n.state ≡ st → IsChildless st → ((d : ℕ) (b : List (ℤ × ℤ)) → places_from d b t ≡ place d b (node_of st) ∷ []) → TakesTree s s' key t
leaf_in_state s s' key n st t r top forest is childless places =
    leaf_taken s s' key n t r (lone_here s key n r.had top) forest (subst IsChildless (sym is) childless)
    (λ d b. places d b ∙ ap (λ (x : State). place d b (node_of x) ∷ []) (sym is))

-- ---- how many are left

-- the sum of ones is the number of values
pub ones_are : (xs : List (Option Node)) → sum_by (weigh (λ x. 1)) xs ≡ count_by is_some xs
ones_are [] = refl
ones_are (None ∷ xs) =
    omega (arith, ones_are xs, sum_by-cons (weigh (λ x. 1)) None xs, sum_by-cons (λ (o : Option Node). cond (is_some o) 1 0) None xs)
ones_are (Some n ∷ xs) =
    let count : Option Node → ℕ = λ o. cond (is_some o) 1 0 in
    omega (arith, ones_are xs, sum_by-cons (weigh (λ x. 1)) (Some n) xs, sum_by-cons count (Some n) xs)

-- the slab does not grow
pub taken_fewer : (s s' : Slab Node) (key : ℕ) (t : PlainOpen) → TakesTree s s' key t → slab_len s' ≤ slab_len s
taken_fewer s s' key t h =
    let total = h.sums 0 [] (λ x. 1) in
    omega (arith, total, ones_are s.slots, ones_are s'.slots)

-- ---- by the state of the node

pub leaf_by : (s s' : Slab Node) (key : ℕ) (n : Node) (st : State) → n.state ≡ st → Removes s s' key n → IsTop s key → IsForest s
    → IsLeafState st → TakesTree s s' key (leaf_tree st)
leaf_by s s' key n (States.Waiting bound solved) is r top forest is_leaf =
    leaf_in_state s s' key n (States.Waiting bound solved) _ r top forest is (λ cut k h. h) (λ d b. refl)
leaf_by s s' key n States.Taken is r top forest is_leaf =
    leaf_in_state s s' key n States.Taken _ r top forest is (λ cut k h. h) (λ d b. refl)
leaf_by s s' key n (States.Closed c) is r top forest is_leaf =
    leaf_in_state s s' key n (States.Closed c) _ r top forest is (λ cut k h. h) (λ d b. refl)
leaf_by s s' key n (States.Stuck why) is r top forest is_leaf =
    leaf_in_state s s' key n (States.Stuck why) _ r top forest is (λ cut k h. h) (λ d b. refl)
leaf_by s s' key n (Split col z why left right) is r top forest is_leaf = absurd is_leaf

-- the first child of a split node may be taken
pub first_ready : (s s1 : Slab Node) (key : ℕ) (n : Node) (st : State) (a b : ℕ) → n.state ≡ st → Removes s s1 key n → IsTop s key
    → IsForest s → IsSplitInto st a b → IsForest s1 × IsTop s1 a
first_ready s s1 key n (States.Waiting bound solved) a b is r top forest into = absurd into
first_ready s s1 key n States.Taken a b is r top forest into = absurd into
first_ready s s1 key n (States.Closed c) a b is r top forest into = absurd into
first_ready s s1 key n (States.Stuck why) a b is r top forest into = absurd into
first_ready s s1 key n (Split col z why left right) a b is r top forest into =
    let lone = lone_here s key n r.had top in (
      forest_left s s1 key n col z why left right r lone forest is,
      subst (IsTop s1) (sym into.0) (left_top s s1 key n col z why left right r lone forest is),
    )

-- and so may the second one after it
pub second_ready : (s s1 s2 : Slab Node) (key : ℕ) (n : Node) (st : State) (a b : ℕ) (tl : PlainOpen) → n.state ≡ st → Removes s s1 key n
    → IsTop s key → IsForest s → IsSplitInto st a b → TakesTree s1 s2 a tl → IsForest s2 × IsTop s2 b
second_ready s s1 s2 key n (States.Waiting bound solved) a b tl is r top forest into first = absurd into
second_ready s s1 s2 key n States.Taken a b tl is r top forest into first = absurd into
second_ready s s1 s2 key n (States.Closed c) a b tl is r top forest into first = absurd into
second_ready s s1 s2 key n (States.Stuck why) a b tl is r top forest into first = absurd into
second_ready s s1 s2 key n (Split col z why left right) a b tl is r top forest into first =
    let lone = lone_here s key n r.had top in
    let mine = subst (λ k. TakesTree s1 s2 k tl) into.0 first in
    (first.forest, subst (IsTop s2) (sym into.1) (second_top s s1 key n col z why left right r lone forest is s2 tl mine))

pub split_by : (s s1 s2 s3 : Slab Node) (key : ℕ) (n : Node) (st : State) (a b : ℕ) (tl tr : PlainOpen) → n.state ≡ st → Removes s s1 key n
    → IsTop s key → IsForest s → IsSplitInto st a b → TakesTree s1 s2 a tl → TakesTree s2 s3 b tr → TakesTree s s3 key (split_tree st tl tr)
split_by s s1 s2 s3 key n (States.Waiting bound solved) a b tl tr is r top forest into first second = absurd into
split_by s s1 s2 s3 key n States.Taken a b tl tr is r top forest into first second = absurd into
split_by s s1 s2 s3 key n (States.Closed c) a b tl tr is r top forest into first second = absurd into
split_by s s1 s2 s3 key n (States.Stuck why) a b tl tr is r top forest into first second = absurd into
split_by s s1 s2 s3 key n (Split col z why left right) a b tl tr is r top forest into first second =
    split_taken s s1 key n col z why left right r (lone_here s key n r.had top) forest is s2 tl
    (subst (λ k. TakesTree s1 s2 k tl) into.0 first) s3 tr (subst (λ k. TakesTree s2 s3 k tr) into.1 second)

pub split_state : (st : State) (a b : ℕ) → IsSplitInto st a b → IsSplitState st
split_state (States.Waiting bound solved) a b into = absurd into
split_state States.Taken a b into = absurd into
split_state (States.Closed c) a b into = absurd into
split_state (States.Stuck why) a b into = absurd into
split_state (Split col z why left right) a b into = tt

-- what follows of a value follows of an answer
pub ok_map : {T E : Type 0} (P Q : T → Type 0) → ((x : T) → P x → Q x) → (r : Result T E) → IfOk r P → IfOk r Q
ok_map P Q f (Ok x) h = f x h
ok_map P Q f (Err e) h = h
