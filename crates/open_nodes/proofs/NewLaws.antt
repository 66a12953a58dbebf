-- The root that is made first.
use Rattle.std.specs.Prelude.{◌≡◌, ℕ, ℤ, [], Option, None, Some, slice_index_or, sum_by}
use Rattle.std.specs.BinaryHeap.{IsHeap}
use Rattle.std.proofs.Common.{refl, arith, inl, inr, subst, sym, ap, ◌∙◌}
use Rattle.std.proofs.lemmas.Bool.{cases_eq}
use Rattle.slab.specs.Slab.{Slab, get, Updates}
use Rattle.open_nodes.specs.declared.frontiers.Frontier.{Frontier}
use Rattle.open_nodes.specs.declared.nodes.Node.{Node}
use Rattle.open_nodes.specs.Frontiers.{entry_at, sum_over, IsNew}
use Rattle.open_nodes.specs.Internal.Forests.{IsChildBy, IsRooted, entry_of, new_node, sum_among, weigh}
use Rattle.open_nodes.specs.Internal.Orders.{IsOrdered, rank_cmp, waits}
use Rattle.open_nodes.proofs.RenewLaws.{entry_is}
use Rattle.open_nodes.proofs.SplitLaws.{sum_added}

-- the root that waits with a bound
abbrev pub root_node : ℤ → Node
root_node bound = new_node None 0 bound

pub nothing_there : (s : Slab Node) → s.slots ≡ [] → (k : ℕ) → get s k ≡ None
nothing_there s empty k = ap (λ xs. slice_index_or xs k None) empty

-- the root alone is there
root_alone : (s s' : Slab Node) (root : ℕ) (bound : ℤ) → s.slots ≡ [] → Updates s s' root (Some (root_node bound)) → (k : ℕ) (n : Node)
    → get s' k ≡ Some n → (k ≡ root) × (root_node bound ≡ n)
root_alone s s' root bound empty u k n has = elim (cases_eq k root) [
  | inl same ↦ (let both : Some (root_node bound) ≡ Some n = sym u.changed ∙ sym (ap (get s') same) ∙ has in (same, cc))
  | inr differs ↦ absurd (let both : None ≡ Some n = sym (nothing_there s empty k) ∙ sym (u.others k differs) ∙ has in cc)
]

no_edge : {T : Type 0} (o : Option T) (x : T) → o ≡ None → o ≡ Some x → ⊥
no_edge o x none some = let both : None ≡ Some x = sym none ∙ some in absurd cc

pub new_rooted : (s s' : Slab Node) (root : ℕ) (bound : ℤ) → s.slots ≡ [] → Updates s s' root (Some (root_node bound)) → IsRooted s' root
new_rooted s s' root bound empty u =
    let only = root_alone s s' root bound empty u in
    record {
      forest = record {
        down = λ k c n cut has h. absurd (subst (λ (x : Node). IsChildBy x.state cut c) (sym (only k n has).1) h);
        up = λ c m p e has edge above. absurd (no_edge m.edge e (ap (λ (x : Node). x.edge) (sym (only c m has).1)) edge);
      };
      root = (root_node bound, u.changed, refl, refl);
      alone = λ k n has none. (only k n has).0;
      parents = λ k n e has edge. absurd (no_edge n.edge e (ap (λ (x : Node). x.edge) (sym (only k n has).1)) edge);
      small = λ k n e has edge. absurd (no_edge n.edge e (ap (λ (x : Node). x.edge) (sym (only k n has).1)) edge);
    }

-- no node waits at first
pub empty_ordered : (s : Slab Node) → s.slots ≡ [] → IsHeap rank_cmp [] → IsOrdered s []
empty_ordered s empty heap = record {
  heap = heap;
  listed = λ k. sym (ap waits (nothing_there s empty k));
  bounds = λ r n b has there. absurd (no_edge (get s r.2) n (nothing_there s empty r.2) there);
}

pub is_new : (f : Frontier) (s : Slab Node) (bound : ℤ) → s.slots ≡ [] → Updates s f.nodes f.root (Some (root_node bound))
    → IsNew bound f f.root
unfolding entry_at sum_over
is_new f s bound empty u = record {
  made = entry_is f.nodes f.root (root_node bound) u.changed;
  alone = λ k differs. ap (entry_of f.nodes k) (u.others k differs ∙ nothing_there s empty k);
  sums = λ g.
      let total = sum_added g s f.nodes f.root (root_node bound) (nothing_there s empty f.root) u in
      let none : sum_among g s ≡ 0 = ap (sum_by (weigh g)) empty in
      omega (arith, total, none);
}
