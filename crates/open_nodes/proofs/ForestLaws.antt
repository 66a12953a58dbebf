-- A forest of nodes stays one when states change, and when a node is split.
use Rattle.std.specs.Prelude.{◌≡◌, ℕ, ◌+◌, Some}
use Rattle.std.proofs.Common.{refl, inl, inr, subst, sym, ap, ◌∙◌}
use Rattle.std.proofs.lemmas.Bool.{cases_eq}
use Rattle.slab.specs.Slab.{Slab, get}
use Rattle.open_nodes.specs.declared.nodes.Cut.{Cut}
use Rattle.open_nodes.specs.declared.nodes.Node.{Node}
use Rattle.open_nodes.specs.declared.nodes.State.{State}
use Rattle.open_nodes.specs.Internal.Forests.{IsChildBy, IsRooted}
use Rattle.open_nodes.proofs.RenewLaws.{renewed, Renews}

-- a state without children
abbrev pub IsChildless : State → Type 0
IsChildless st = (cut : Cut) (c : ℕ) → IsChildBy st cut c → ⊥

-- two nodes that were made alike and have the same children
pub record AreTwins (m n : Node) : Type 0 where
  pub edge : m.edge ≡ n.edge
  pub depth : m.depth ≡ n.depth
  pub there : (cut : Cut) (c : ℕ) → IsChildBy m.state cut c → IsChildBy n.state cut c
  pub back : (cut : Cut) (c : ℕ) → IsChildBy n.state cut c → IsChildBy m.state cut c

-- each node of one slab has a twin at its key in another
abbrev pub HasTwins : Slab Node → Slab Node → Type 0
HasTwins s s' = (k : ℕ) (m : Node) → get s k ≡ Some m → (n : Node) × (get s' k ≡ Some n) × AreTwins m n

pub twins_rooted : (s s' : Slab Node) (top : ℕ) → HasTwins s s' → HasTwins s' s → IsRooted s top → IsRooted s' top
twins_rooted s s' top there back r = record {
  forest = record {
    down = λ k c n cut has child.
        let old = back k n has in
        let below = r.forest.down k c old.0 cut old.1 (old.2.there cut c child) in
        let new = there c below.0 below.1 in (
          new.0,
          new.1,
          record {
            edge = sym new.2.edge ∙ below.2.edge;
            deeper = sym new.2.depth ∙ below.2.deeper ∙ ap (λ d. d + 1) (sym old.2.depth);
          },
        );
    up = λ c m p e has edge above.
        let old = back c m has in
        let old_parent = back e.parent p above in
        old_parent.2.back e.cut c (r.forest.up c old.0 old_parent.0 e old.1 (sym old.2.edge ∙ edge) old_parent.1);
  };
  root =
      (let new = there top r.root.0 r.root.1 in
      (new.0, new.1, sym new.2.edge ∙ r.root.2, sym new.2.depth ∙ r.root.3));
  alone = λ k n has none. let old = back k n has in r.alone k old.0 old.1 (sym old.2.edge ∙ none);
  parents = λ k n e has edge.
      let old = back k n has in
      let above = r.parents k old.0 e old.1 (sym old.2.edge ∙ edge) in
      let new = there e.parent above.0 above.1 in (new.0, new.1);
  small = λ k n e has edge. let old = back k n has in r.small k old.0 e old.1 (sym old.2.edge ∙ edge);
}

pub same_twins : (n : Node) → AreTwins n n
same_twins n = record { edge = refl; depth = refl; there = λ cut c h. h; back = λ cut c h. h }

pub renewed_twins : (n : Node) (st : State) → IsChildless n.state → IsChildless st → AreTwins n (renewed n st)
renewed_twins n st old new = record {
  edge = refl;
  depth = refl;
  there = λ cut c h. absurd (old cut c h);
  back = λ cut c h. absurd (new cut c h);
}

turned : (m n : Node) → AreTwins m n → AreTwins n m
turned m n t = record { edge = sym t.edge; depth = sym t.depth; there = t.back; back = t.there }

pub renewed_rooted : (s s' : Slab Node) (top key : ℕ) (n : Node) (st : State) → Renews s s' key n st → IsChildless n.state
    → IsChildless st → IsRooted s top → IsRooted s' top
renewed_rooted s s' top key n st r old new rooted = twins_rooted s s' top there back rooted
  where
    there : HasTwins s s'
    there k m has = elim (cases_eq k key) [
      | inl same ↦
          let now : get s' k ≡ Some (renewed n st) = ap (get s') same ∙ r.has in
          let was : Some n ≡ Some m = sym r.had ∙ sym (ap (get s) same) ∙ has in
          let is : n ≡ m = cc in
          (renewed n st, now, subst (λ (x : Node). AreTwins x (renewed n st)) is (renewed_twins n st old new))
      | inr differs ↦ (m, r.others k differs ∙ has, same_twins m)
    ]

    back : HasTwins s' s
    back k m has = elim (cases_eq k key) [
      | inl same ↦
          let was : get s k ≡ Some n = ap (get s) same ∙ r.had in
          let now : Some (renewed n st) ≡ Some m = sym r.has ∙ sym (ap (get s') same) ∙ has in
          let is : renewed n st ≡ m = cc in
          (n, was, subst (λ (x : Node). AreTwins x n) is (turned n (renewed n st) (renewed_twins n st old new)))
      | inr differs ↦ (m, sym (r.others k differs) ∙ has, same_twins m)
    ]

-- a slab with the same slots
pub slots_rooted : (s s' : Slab Node) (top : ℕ) → ((k : ℕ) → get s' k ≡ get s k) → IsRooted s top → IsRooted s' top
slots_rooted s s' top same rooted =
    twins_rooted s s' top (λ k m has. (m, same k ∙ has, same_twins m)) (λ k m has. (m, sym (same k) ∙ has, same_twins m)) rooted
