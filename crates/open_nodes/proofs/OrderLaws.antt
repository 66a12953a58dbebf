-- The ranks of the nodes that wait stay in order.
use Rattle.std.specs.Prelude.{◌≡◌, ◌≢◌, ℕ, ◌==◌, ◌+◌, ◌<◌, Bool, true, false, ℤ, ◌≤ℤ◌, ◌⊎◌, List, [], ◌∷◌, length, Option, None, Some}
use Rattle.std.specs.List.{Contains, count_by, AllByRecursion}
use Rattle.std.specs.List.Sorted.{IsPermutation}
use Rattle.std.specs.BinaryHeap.{IsHeap, IsUpperBound}
use Rattle.std.proofs.Common.{refl, arith, inl, inr, subst, sym, ap, ◌∙◌}
use Rattle.std.proofs.lemmas.Bool.{cases_eq, eqb-true}
use Rattle.std.proofs.lemmas.Int.{ints}
use Rattle.std.proofs.lemmas.List.Sorted.{Contains-permutation, IsPermutation-sym, sum_by_popped, sum_by_pushed}
use Rattle.std.proofs.lemmas.List.Sums.{sum_by-cons}
use Rattle.std.proofs.Common.{cond, int_lt}
use Rattle.std.specs.Ordering.{is_lt, nat_cmp, ordering_then}
use Rattle.std.specs.declared.cmp.Ordering.{Ordering}
use Rattle.std.specs.declared.cmp.Ordering.TheVariants.{Equal, Greater, Less}
use Rattle.slab.specs.Slab.{Slab, get}
use Rattle.slab.proofs.SlabLemmas.{Contains-cons, Contains-cons_cases}
use Rattle.open_nodes.specs.declared.nodes.Node.{Node}
use Rattle.open_nodes.specs.declared.nodes.Solved.{Solved}
use Rattle.open_nodes.specs.declared.nodes.State.{State}
use Rattle.open_nodes.specs.declared.nodes.State.TheVariants.{Waiting, Taken, Closed, Stuck, Split}
use Rattle.open_nodes.specs.Nodes.{bound_of}
use Rattle.open_nodes.specs.Internal.Orders.{Rank, rank_cmp, is_rank_of, waits, waits_by, IsOrdered}
use Rattle.open_nodes.proofs.RenewLaws.{Renews}

-- ---- counts of ranks

abbrev one_if : Bool → ℕ
one_if t = cond t 1 0

-- an element that passes a test is counted
counted : (p : Rank → Bool) (xs : List Rank) (r : Rank) → Contains xs r → p r ≡ true → count_by p xs ≡ 0 → ⊥
counted p [] r has passes none = omega (arith, has.1)
counted p (x ∷ xs) r has passes none =
    let parts = sum_by-cons (λ y. one_if (p y)) x xs in
    elim (Contains-cons_cases x r xs has) [
      | inl same ↦
          let one : one_if (p x) ≡ 1 = ap one_if (ap p same ∙ passes) in
          omega (arith, parts, one, none)
      | inr rest ↦ counted p xs r rest passes (omega (arith, parts, none))
    ]

-- where something is counted an element passes the test
found : (p : Rank → Bool) (xs : List Rank) → 0 < count_by p xs → (r : Rank) × Contains xs r × (p r ≡ true)
found p [] more = absurd (omega (arith, more))
found p (x ∷ xs) more = by (p x) refl (found p xs)
  where
    by : (t : Bool) → p x ≡ t → (0 < count_by p xs → (r : Rank) × Contains xs r × (p r ≡ true))
        → (r : Rank) × Contains (x ∷ xs) r × (p r ≡ true)
    by true e rest = (x, (0, omega arith, refl), e)
    by false e rest =
        let parts = sum_by-cons (λ y. one_if (p y)) x xs in
        let nothing : one_if (p x) ≡ 0 = ap one_if e in
        let later = rest (omega (arith, parts, nothing, more)) in
        (later.0, Contains-cons x later.0 xs later.1, later.2)

all_of : (P : Rank → Type 0) (xs : List Rank) (r : Rank) → AllByRecursion P xs → Contains xs r → P r
all_of P [] r all has = absurd (omega (arith, has.1))
all_of P (x ∷ xs) r all has = elim (Contains-cons_cases x r xs has) [
  | inl same ↦ subst P same all.0
  | inr rest ↦ all_of P xs r all.1 rest
]

-- ---- what waits

pub one_waits : (st : State) (b : ℤ) → bound_of st ≡ Some b → waits_by st ≡ 1
one_waits (Waiting bound solved) b e = refl
one_waits Taken b e = absurd cc
one_waits (Closed cert) b e = absurd cc
one_waits (Stuck why) b e = absurd cc
one_waits (Split col z why left right) b e = absurd cc

-- a state that has a bound is that of a node which waits with it
pub waits_with : (st : State) (b : ℤ) → bound_of st ≡ Some b → (solved : Option Solved) × (st ≡ Waiting b solved)
waits_with (Waiting bound solved) b e = (solved, let same : bound ≡ b = cc in ap (λ (z : ℤ). Waiting z solved) same)
waits_with Taken b e = absurd cc
waits_with (Closed cert) b e = absurd cc
waits_with (Stuck why) b e = absurd cc
waits_with (Split col z why left right) b e = absurd cc

bound_there : (st : State) → (waits_by st ≡ 0) ⊎ ((b : ℤ) × (bound_of st ≡ Some b))
bound_there (Waiting bound solved) = inr (bound, refl)
bound_there Taken = inl refl
bound_there (Closed cert) = inl refl
bound_there (Stuck why) = inl refl
bound_there (Split col z why left right) = inl refl

-- a rank is that of a node that waits with its bound
pub rank_waits : (s : Slab Node) (ranks : List Rank) (r : Rank) → IsOrdered s ranks → Contains ranks r
    → (n : Node) × (get s r.2 ≡ Some n) × (bound_of n.state ≡ Some r.0.0)
rank_waits s ranks r o has = by (get s r.2) refl
  where
    mine : is_rank_of r.2 r ≡ true
    mine = grind (arith)

    by : (x : Option Node) → get s r.2 ≡ x → (n : Node) × (get s r.2 ≡ Some n) × (bound_of n.state ≡ Some r.0.0)
    by None e = absurd (counted (is_rank_of r.2) ranks r has mine (o.listed r.2 ∙ ap waits e))
    by (Some n) e = elim (bound_there n.state) [
      | inl none ↦ absurd (counted (is_rank_of r.2) ranks r has mine (o.listed r.2 ∙ ap waits e ∙ none))
      | inr some ↦ (n, e, some.1 ∙ ap (λ (b : ℤ). Some b) (sym (o.bounds r n some.0 has e some.1)))
    ]

-- the greater rank has the lesser bound
bound_below : (r y : Rank) → is_lt (rank_cmp r y) ≡ false → r.0.0 ≤ℤ y.0.0
bound_below r y e = by (int_lt y.0.0 r.0.0) refl
  where
    by : (t : Bool) → int_lt y.0.0 r.0.0 ≡ t → r.0.0 ≤ℤ y.0.0
    by true is =
        let by_bound : Bool → Ordering = λ u. cond u Less (cond (int_lt r.0.0 y.0.0) Greater Equal) in
        let less : is_lt (rank_cmp r y) ≡ true =
        ap (λ u. is_lt (ordering_then (ordering_then (by_bound u) (nat_cmp r.1 y.1)) (nat_cmp r.2 y.2))) is in
        absurd cc
    by false is = grind (arith, ints)

-- the greatest rank has the least bound
pub rank_least : (s : Slab Node) (ranks : List Rank) (r : Rank) → IsOrdered s ranks → IsUpperBound rank_cmp r ranks
    → (k : ℕ) (n : Node) (bound : ℤ) → get s k ≡ Some n → bound_of n.state ≡ Some bound → r.0.0 ≤ℤ bound
rank_least s ranks r o most k n bound has waits' =
    let one = o.listed k ∙ ap waits has ∙ one_waits n.state bound waits' in
    let y = found (is_rank_of k) ranks (omega (arith, one)) in
    let key_is : y.0.2 ≡ k = eqb-true y.0.2 k y.2 in
    let bound_is : y.0.0.0 ≡ bound = o.bounds y.0 n bound y.1 (ap (get s) key_is ∙ has) waits' in
    subst (λ (b : ℤ). r.0.0 ≤ℤ b) bound_is
    (bound_below r y.0 (all_of (λ x. is_lt (rank_cmp r x) ≡ false) ranks y.0 most y.1))

-- no ranks, no node waits
pub no_rank : (s : Slab Node) (ranks : List Rank) → IsOrdered s ranks → length ranks ≡ 0 → (k : ℕ) (n : Node) (bound : ℤ)
    → get s k ≡ Some n → bound_of n.state ≡ Some bound → ⊥
no_rank s [] o none k n bound has waits' =
    let one = o.listed k ∙ ap waits has ∙ one_waits n.state bound waits' in
    omega (arith, one)
no_rank s (x ∷ xs) o none k n bound has waits' = omega (arith, none)

-- ---- what stays in order

-- the node of a key is counted where its rank is
weight_mine : (k : ℕ) (r : Rank) → k ≡ r.2 → one_if (is_rank_of k r) ≡ 1
weight_mine k r same = ap one_if (let is : is_rank_of k r ≡ true = rw same (grind (arith)) in is)

weight_other : (k : ℕ) (r : Rank) → k ≢ r.2 → one_if (is_rank_of k r) ≡ 0
weight_other k r differs = by (r.2 == k) refl
  where
    by : (t : Bool) → (r.2 == k) ≡ t → one_if (is_rank_of k r) ≡ 0
    by true e = absurd (differs (sym (eqb-true r.2 k e)))
    by false e = ap one_if e

-- one more node waits in one slab than in another: that of a rank
one_more : (few many : Slab Node) (r : Rank) → ((k : ℕ) → k ≢ r.2 → get few k ≡ get many k) → waits (get few r.2) ≡ 0
    → waits (get many r.2) ≡ 1 → (k : ℕ) → one_if (is_rank_of k r) + waits (get few k) ≡ waits (get many k)
one_more few many r same none one k = elim (cases_eq k r.2) [
  | inl is ↦
      let mine = weight_mine k r is in
      let here : waits (get few k) ≡ 0 = ap (λ j. waits (get few j)) is ∙ none in
      let there : waits (get many k) ≡ 1 = ap (λ j. waits (get many j)) is ∙ one in
      omega (arith, mine, here, there)
  | inr differs ↦
      let nothing = weight_other k r differs in
      let equal : waits (get few k) ≡ waits (get many k) = ap waits (same k differs) in
      omega (arith, nothing, equal)
]

-- where the nodes that wait are the same
pub kept_ordered : (s s' : Slab Node) (ranks : List Rank) → ((k : ℕ) → waits (get s' k) ≡ waits (get s k))
    → ((k : ℕ) (n : Node) (b : ℤ) → get s' k ≡ Some n → bound_of n.state ≡ Some b → get s k ≡ Some n) → IsOrdered s ranks
    → IsOrdered s' ranks
kept_ordered s s' ranks same old o = record {
  heap = o.heap;
  listed = λ k. o.listed k ∙ sym (same k);
  bounds = λ r n b has there waits'. o.bounds r n b has (old r.2 n b there waits') waits';
}

-- a node that does not wait, and did not
pub renewed_ordered : (s s' : Slab Node) (key : ℕ) (n : Node) (st : State) (ranks : List Rank) → Renews s s' key n st
    → waits_by n.state ≡ 0 → waits_by st ≡ 0 → IsOrdered s ranks → IsOrdered s' ranks
renewed_ordered s s' key n st ranks r before after o = kept_ordered s s' ranks same old o
  where
    same : (k : ℕ) → waits (get s' k) ≡ waits (get s k)
    same k = elim (cases_eq k key) [
      | inl is ↦
          ap (λ j. waits (get s' j)) is ∙ ap waits r.has ∙ after
          ∙ sym (ap (λ j. waits (get s j)) is ∙ ap waits r.had ∙ before)
      | inr differs ↦ ap waits (r.others k differs)
    ]

    old : (k : ℕ) (m : Node) (b : ℤ) → get s' k ≡ Some m → bound_of m.state ≡ Some b → get s k ≡ Some m
    old k m b has waits' = elim (cases_eq k key) [
      | inl is ↦
          let one = one_waits m.state b waits' in
          let none : waits (get s' k) ≡ 0 = ap (λ j. waits (get s' j)) is ∙ ap waits r.has ∙ after in
          let both : waits_by m.state ≡ 0 = sym (ap waits has) ∙ none in
          absurd (omega (arith, one, both))
      | inr differs ↦ sym (r.others k differs) ∙ has
    ]

-- the node of the greatest rank was taken
pub popped_ordered : (s s' : Slab Node) (r : Rank) (n : Node) (st : State) (ranks rest : List Rank) → Renews s s' r.2 n st
    → waits_by n.state ≡ 1 → waits_by st ≡ 0 → IsPermutation ranks (r ∷ rest) → IsHeap rank_cmp rest → IsOrdered s ranks
    → IsOrdered s' rest
popped_ordered s s' r n st ranks rest new before after moved heap o = record { heap = heap; listed = listed; bounds = bounds }
  where
    listed : (k : ℕ) → count_by (is_rank_of k) rest ≡ waits (get s' k)
    listed k =
        let left = sum_by_popped (λ y. one_if (is_rank_of k y)) r ranks rest moved in
        let more = one_more s' s r new.others (ap waits new.has ∙ after) (ap waits new.had ∙ before) k in
        omega (arith, left, o.listed k, more)

    bounds : (y : Rank) (m : Node) (b : ℤ) → Contains rest y → get s' y.2 ≡ Some m → bound_of m.state ≡ Some b → y.0.0 ≡ b
    bounds y m b has there waits' = elim (cases_eq y.2 r.2) [
      | inl is ↦
          let one = one_waits m.state b waits' in
          let none : waits (get s' y.2) ≡ 0 = ap (λ j. waits (get s' j)) is ∙ ap waits new.has ∙ after in
          let both : waits_by m.state ≡ 0 = sym (ap waits there) ∙ none in
          absurd (omega (arith, one, both))
      | inr differs ↦
          let was = Contains-permutation (r ∷ rest) ranks y (IsPermutation-sym ranks (r ∷ rest) moved) (Contains-cons r y rest has) in
          o.bounds y m b was (sym (new.others y.2 differs) ∙ there) waits'
    ]

-- a node waits that did not
pub pushed_ordered : (s s' : Slab Node) (r : Rank) (ranks more : List Rank) → ((k : ℕ) → k ≢ r.2 → get s' k ≡ get s k)
    → waits (get s r.2) ≡ 0 → (n : Node) → get s' r.2 ≡ Some n → bound_of n.state ≡ Some r.0.0 → IsPermutation (r ∷ ranks) more
    → IsHeap rank_cmp more → IsOrdered s ranks → IsOrdered s' more
pushed_ordered s s' r ranks more others before n now bound_is moved heap o = record { heap = heap; listed = listed; bounds = bounds }
  where
    listed : (k : ℕ) → count_by (is_rank_of k) more ≡ waits (get s' k)
    listed k =
        let all = sum_by_pushed (λ y. one_if (is_rank_of k y)) r ranks more moved in
        let waits' = ap waits now ∙ one_waits n.state r.0.0 bound_is in
        let one = one_more s s' r (λ j differs. sym (others j differs)) before waits' k in
        omega (arith, all, o.listed k, one)

    bounds : (y : Rank) (m : Node) (b : ℤ) → Contains more y → get s' y.2 ≡ Some m → bound_of m.state ≡ Some b → y.0.0 ≡ b
    bounds y m b has there waits' =
        let split_up = Contains-permutation more (r ∷ ranks) y (IsPermutation-sym (r ∷ ranks) more moved) has in
        elim (Contains-cons_cases r y ranks split_up) [
          | inl is ↦
              let at' : Some n ≡ Some m = sym now ∙ ap (λ (x : Rank). get s' x.2) is ∙ there in
              let same : n ≡ m = cc in
              let two : Some r.0.0 ≡ Some b = sym bound_is ∙ ap (λ (x : Node). bound_of x.state) same ∙ waits' in
              let bound_same : r.0.0 ≡ b = cc in
              sym (ap (λ (x : Rank). x.0.0) is) ∙ bound_same
          | inr old ↦ elim (cases_eq y.2 r.2) [
            | inl is ↦
                let mine : is_rank_of y.2 y ≡ true = grind (arith) in
                absurd (counted (is_rank_of y.2) ranks y old mine (o.listed y.2 ∙ ap (λ j. waits (get s j)) is ∙ before))
            | inr differs ↦ o.bounds y m b old (sym (others y.2 differs) ∙ there) waits'
          ]
        ]
