-- A search keeps what it keeps, whatever it does with the node that it takes.
use Rattle.std.specs.Prelude.{◌≡◌, ◌≢◌, ℕ, ◌+◌, ◌<◌, ◌==◌, List, length, Option, Some, None, option_map, ℤ, ◌≤ℤ◌}
use Rattle.std.specs.Prelude.{Bool, true, false}
use Rattle.std.specs.Int.{int_max}
use Rattle.std.proofs.Common.{arith, refl, ap, sym, ◌∙◌, subst}
use Rattle.std.proofs.lemmas.Bool.{eqb-true, eqb-false}
use Rattle.std.proofs.lemmas.Int.{ints, clamps}
use Rattle.ip_defs.specs.declared.certificates.Bound.{Bound}
use Rattle.ip_defs.specs.declared.certificates.Bound.TheVariants.{At, Infinite}
use Rattle.ip_defs.specs.declared.programs.Parts.{Parts}
use Rattle.ip_defs.specs.Certificates.{leaf_bound, IsAtMost}
use Rattle.ip_defs.specs.Program.{at, cost, IsFeasible, IsIn}
use Rattle.std.specs.Int.Signed.{lt_z}
use Rattle.ip_defs.proofs.BoxLaws.{in_above, in_below}
use Rattle.ip_defs.proofs.DualityLaws.{weak_duality}
use Rattle.node_bounds.specs.Certificates.{plain_cert}
use Rattle.node_bounds.specs.Cuts.{IsBelow}
use Rattle.node_bounds.specs.Nodes.{IsSplit, greater, own_bound}
use Rattle.node_bounds.specs.declared.reasons.Why.{Why}
use Rattle.node_bounds.specs.declared.reasons.Why.TheVariants.{Fractional, Stopped, Wide}
use Rattle.open_nodes.specs.declared.frontiers.Frontier.{Frontier}
use Rattle.open_nodes.specs.declared.nodes.State.{State}
use Rattle.open_nodes.specs.declared.nodes.State.TheVariants as States
use Rattle.open_nodes.specs.declared.nodes.Cut.TheVariants.{Below, Above}
use Rattle.open_nodes.specs.Frontiers.{entry_at, sum_over, SetsState, SplitsNode}
use Rattle.open_nodes.specs.Nodes.{Entry, bound_of, under, with_state}
use Rattle.branching.specs.declared.budgets.Limits.{Limits}
use Rattle.branching.specs.BestFirst.{BoundsAll}
use Rattle.branching.specs.Outcomes.{IsClosedBy}
use Rattle.branching.specs.Internal.Growth.{box_at, AreCovered, AreKept, IsBeaten, IsCovered, IsKept, IsStateOf, beaten, waits}
use Rattle.branching.specs.Internal.Search.{Found, Improves, IsSound, cost_of, point_of}
use Rattle.branching.proofs.FinishLaws.{IsNoWorse, closed_by_later}
use Rattle.branching.proofs.SearchLaws.{above_search, below_search}

-- ---- bounds

-- two bounds of at most a cost
greater_at_most : (u v : Bound) (w : ℤ) → IsAtMost u w → IsAtMost v w → IsAtMost (greater u v) w
greater_at_most (At u) (At v) w p q = omega (arith, ints, clamps)
greater_at_most Infinite v w p q = absurd p
greater_at_most (At u) Infinite w p q = absurd q

-- the bound of a box for a reason is at most the cost of each feasible point of the box
pub own_at_most : (m : Parts) (b : List (ℤ × ℤ)) (why : Why) (x : List ℤ) → length b ≡ length m.columns → IsFeasible m x → IsIn b x
    → IsAtMost (own_bound m b why) (cost m x)
own_at_most m b (Fractional y c) x size feasible inside =
    greater_at_most (leaf_bound m b plain_cert) (leaf_bound m b c) (cost m x) (weak_duality m b plain_cert x size feasible inside)
    (weak_duality m b c x size feasible inside)
own_at_most m b Stopped x size feasible inside = weak_duality m b plain_cert x size feasible inside
own_at_most m b Wide x size feasible inside = weak_duality m b plain_cert x size feasible inside

-- the certificate of a reason bounds by at most the bound of the box
part_at_most : (u v : Bound) (own w : ℤ) → At own ≡ greater u v → own ≤ℤ w → IsAtMost v w
part_at_most (At u) (At v) own w is less = let same : own ≡ int_max u v = cc in omega (arith, ints, clamps)
part_at_most (At u) Infinite own w is less = absurd cc
part_at_most Infinite v own w is less = absurd cc

-- where a bound is at most the cost of every feasible point, so is that of the certificate
pub bounds_all : (m : Parts) (b : List (ℤ × ℤ)) (why : Why) (own : ℤ) → At own ≡ own_bound m b why
    → ((x : List ℤ) → IsFeasible m x → own ≤ℤ cost m x) → BoundsAll m b why
bounds_all m b (Fractional y c) own is all =
    λ x feasible. part_at_most (leaf_bound m b plain_cert) (leaf_bound m b c) own (cost m x) is (all x feasible)
bounds_all m b Stopped own is all = tt
bounds_all m b Wide own is all = tt

-- a point in a box that the best point closes is beaten
pub closed_beaten : (m : Parts) (found : Found) (v : Bound) (x : List ℤ) → IsSound m found → IsClosedBy m (point_of found) v
    → IsAtMost v (cost m x) → IsBeaten m found x
closed_beaten m None v x sound closed less = absurd (subst (λ (u : Bound). IsAtMost u (cost m x)) closed less)
closed_beaten m (Some p) Infinite x sound closed less = absurd less
closed_beaten m (Some p) (At v) x sound closed less = let price = sound.1 in omega (arith, ints)

pub beaten_later : (m : Parts) (x y : Found) (z : List ℤ) → Improves x y → IsBeaten m x z → IsBeaten m y z
beaten_later m None y z better h = absurd h
beaten_later m (Some p) None z better h = absurd better
beaten_later m (Some p) (Some q) z better h = omega (arith, ints)

pub improves_self : (found : Found) → Improves found found
improves_self None = tt
improves_self (Some p) = omega (arith, ints)

-- ---- later points

-- what is known of a node stays right
pub later_state : (m : Parts) (pivots : ℕ) (x y : Option (List ℤ)) (b : List (ℤ × ℤ)) (s : State) → IsNoWorse m x y
    → IsStateOf m pivots x b s → IsStateOf m pivots y b s
later_state m pivots x y b (States.Waiting bound None) better h = h
later_state m pivots x y b (States.Waiting bound (Some asked)) better h = h
later_state m pivots x y b States.Taken better h = h
later_state m pivots x y b (States.Closed c) better h = (h.0, closed_by_later m x y (leaf_bound m b c) better h.1)
later_state m pivots x y b (States.Stuck why) better h = h
later_state m pivots x y b (States.Split col cut why left right) better h = h

-- ---- points that are covered

pub some_same : {A : Type 0} (x y : A) → Some x ≡ Some y → x ≡ y
some_same x y e = cc

-- each point stays covered, where it does that the node at a key covers, and the other nodes stay
covered_again : (m : Parts) (f h : Frontier) (key : ℕ) (e : Entry) (x y : Found) → entry_at f key ≡ Some e → Improves x y
    → ((k : ℕ) (d : Entry) → k ≢ key → entry_at f k ≡ Some d → entry_at h k ≡ Some d)
    → ((z : List ℤ) → IsFeasible m z → (bound : ℤ) → bound_of e.state ≡ Some bound → IsIn (box_at m e) z → bound ≤ℤ cost m z
    → IsCovered m y h z)
    → AreCovered m x f → AreCovered m y h
covered_again m f h key e x y was better others own covered = λ z feasible. by z feasible (covered z feasible)
  where
    at_key : (z : List ℤ) (k : ℕ) (d : Entry) (bound : ℤ) → IsFeasible m z → entry_at f k ≡ Some d → bound_of d.state ≡ Some bound
        → IsIn (box_at m d) z → bound ≤ℤ cost m z → (t : Bool) → (k == key) ≡ t → IsCovered m y h z
    at_key z k d bound feasible is waits' inside less true eq =
        let here : entry_at f key ≡ Some d = subst (λ (i : ℕ). entry_at f i ≡ Some d) (eqb-true k key eq) is in
        let same : d ≡ e = some_same _ _ (sym here ∙ was) in
        own z feasible bound (subst (λ (d' : Entry). bound_of d'.state ≡ Some bound) same waits')
        (subst (λ (d' : Entry). IsIn (box_at m d') z) same inside) less
    at_key z k d bound feasible is waits' inside less false eq =
        waits k d bound (others k d (eqb-false k key eq) is) waits' inside less

    by : (z : List ℤ) → IsFeasible m z → IsCovered m x f z → IsCovered m y h z
    by z feasible (beaten b) = beaten (beaten_later m x y z better b)
    by z feasible (waits k d bound is waits' inside less) = at_key z k d bound feasible is waits' inside less (k == key) refl

-- ---- a node that changes its state

-- the node at a key, which is known, has another state, and nothing else has changed
pub record Moves (old new : Frontier) (key : ℕ) (e : Entry) (s : State) : Type 0 where
  pub was : entry_at old key ≡ Some e
  pub now : entry_at new key ≡ Some (with_state s e)
  pub others : (k : ℕ) → k ≢ key → entry_at new k ≡ entry_at old k
  pub sums : (g : State → ℕ) → sum_over g new + g e.state ≡ sum_over g old + g s

-- a node that is taken and then put into a state
pub moves_through : (f g h : Frontier) (key : ℕ) (e : Entry) (s : State) → entry_at f key ≡ Some e → SetsState f g key States.Taken
    → SetsState g h key s → Moves f h key e s
moves_through f g h key e s was first second =
    let mid : entry_at g key ≡ Some (with_state States.Taken e) = first.changed ∙ ap (option_map (with_state States.Taken)) was in
    record {
      was = was;
      now = second.changed ∙ ap (option_map (with_state s)) mid;
      others = λ k other. second.others k other ∙ first.others k other;
      sums = λ w. let p = first.sums w e was in let q = second.sums w (with_state States.Taken e) mid in omega arith;
    }

module _ (m : Parts) (f h : Frontier) (key : ℕ) (e : Entry) (s : State) (moves : Moves f h key e s) where
  -- what is known of all nodes is right, where the new state is
  pub moved_kept : (l : Limits) (x y : Option (List ℤ)) → IsNoWorse m x y → AreKept m l x f
      → IsStateOf m l.pivots y (box_at m e) s → AreKept m l y h
  moved_kept l x y better kept state = λ k e' is. by k e' is (k == key) refl
    where
      by : (k : ℕ) (e' : Entry) → entry_at h k ≡ Some e' → (t : Bool) → (k == key) ≡ t → IsKept m l y e'
      by k e' is true eq =
          let here : entry_at h key ≡ Some e' = subst (λ (i : ℕ). entry_at h i ≡ Some e') (eqb-true k key eq) is in
          let same : with_state s e ≡ e' = some_same _ _ (sym moves.now ∙ here) in
          let old = kept key e moves.was in
          subst (IsKept m l y) same (record { area = old.area; deep = old.deep; state = state })
      by k e' is false eq =
          let old = kept k e' (sym (moves.others k (eqb-false k key eq)) ∙ is) in
          record { area = old.area; deep = old.deep; state = later_state m l.pivots x y (box_at m e') e'.state better old.state }

  -- each point that another node covers is covered
  pub moved_covered : (x y : Found) → Improves x y → AreCovered m x f
      → ((z : List ℤ) → IsFeasible m z → (bound : ℤ) → bound_of e.state ≡ Some bound → IsIn (box_at m e) z → bound ≤ℤ cost m z
      → IsCovered m y h z)
      → AreCovered m y h
  moved_covered x y better covered own =
      covered_again m f h key e x y moves.was better (λ k e' differs is. moves.others k differs ∙ is) own covered

-- ---- a node that is split

-- the node at a key, which is known, is split into two that wait, and nothing else has changed
pub record Divides (old new : Frontier) (key : ℕ) (e : Entry) (col : ℕ) (cut : ℤ) (why : Why) (bound : ℤ) (l r : ℕ) : Type 0 where
  pub was : entry_at old key ≡ Some e
  pub parent : entry_at new key ≡ Some (with_state (States.Split col cut why l r) e)
  pub left : entry_at new l ≡ Some (under (Below col cut) (States.Waiting bound None) e)
  pub right : entry_at new r ≡ Some (under (Above col cut) (States.Waiting bound None) e)
  pub left_was : entry_at old l ≡ None
  pub right_was : entry_at old r ≡ None
  pub others : (k : ℕ) → k ≢ key → k ≢ l → k ≢ r → entry_at new k ≡ entry_at old k
  pub sums : (g : State → ℕ) → sum_over g new + g e.state
      ≡ sum_over g old + g (States.Split col cut why l r) + g (States.Waiting bound None) + g (States.Waiting bound None)

-- a key without a node is not that of a node
not_none : (f : Frontier) (i k : ℕ) (e : Entry) → entry_at f i ≡ None → entry_at f k ≡ Some e → i ≢ k
not_none f i k e none some = λ same.
    let here : entry_at f k ≡ None = subst (λ (j : ℕ). entry_at f j ≡ None) same none in
    let both : None ≡ Some e = sym here ∙ some in
    absurd cc

pub divides_through : (f g h : Frontier) (key : ℕ) (e : Entry) (col : ℕ) (cut : ℤ) (why : Why) (bound : ℤ) (l r : ℕ)
    → entry_at f key ≡ Some e → SetsState f g key States.Taken → SplitsNode g h key col cut why bound l r
    → Divides f h key e col cut why bound l r
divides_through f g h key e col cut why bound l r was first second =
    let mid : entry_at g key ≡ Some (with_state States.Taken e) = first.changed ∙ ap (option_map (with_state States.Taken)) was in
    let no_l = not_none g l key _ second.left_was mid in
    let no_r = not_none g r key _ second.right_was mid in
    record {
      was = was;
      parent = second.parent ∙ ap (option_map (with_state (States.Split col cut why l r))) mid;
      left = second.below ∙ ap (option_map (under (Below col cut) (States.Waiting bound None))) mid;
      right = second.above ∙ ap (option_map (under (Above col cut) (States.Waiting bound None))) mid;
      left_was = sym (first.others l no_l) ∙ second.left_was;
      right_was = sym (first.others r no_r) ∙ second.right_was;
      others = λ k a b d. second.others k a b d ∙ first.others k a;
      sums = λ w. let p = first.sums w e was in let q = second.sums w in omega arith;
    }

module _ (m : Parts) (f h : Frontier) (key : ℕ) (e : Entry) (col : ℕ) (cut : ℤ) (why : Why) (bound : ℤ) (l r : ℕ)
    (divides : Divides f h key e col cut why bound l r) where
  -- what is known of all nodes is right, where the split is a right one
  pub divided_kept : (lim : Limits) (x : Option (List ℤ)) → AreKept m lim x f → length e.path < lim.depth
      → IsSplit m lim.pivots (box_at m e) col cut why → BoundsAll m (box_at m e) why → AreKept m lim x h
  divided_kept lim x kept deep split first = λ k e' is. at_key k e' is (k == key) refl
    where
      old : IsKept m lim x e
      old = kept key e divides.was

      at_right : (k : ℕ) (e' : Entry) → entry_at h k ≡ Some e' → (k == key) ≡ false → (k == l) ≡ false → (t : Bool) → (k == r) ≡ t
          → IsKept m lim x e'
      at_right k e' is p q true eq =
          let here : entry_at h r ≡ Some e' = subst (λ (i : ℕ). entry_at h i ≡ Some e') (eqb-true k r eq) is in
          let same : under (Above col cut) (States.Waiting bound None) e ≡ e' = some_same _ _ (sym divides.right ∙ here) in
          subst (IsKept m lim x) same
          (record { area = above_search m lim.pivots (box_at m e) col cut why split old.area; deep = omega arith; state = tt })
      at_right k e' is p q false eq =
          kept k e' (sym (divides.others k (eqb-false k key p) (eqb-false k l q) (eqb-false k r eq)) ∙ is)

      at_left : (k : ℕ) (e' : Entry) → entry_at h k ≡ Some e' → (k == key) ≡ false → (t : Bool) → (k == l) ≡ t → IsKept m lim x e'
      at_left k e' is p true eq =
          let here : entry_at h l ≡ Some e' = subst (λ (i : ℕ). entry_at h i ≡ Some e') (eqb-true k l eq) is in
          let same : under (Below col cut) (States.Waiting bound None) e ≡ e' = some_same _ _ (sym divides.left ∙ here) in
          subst (IsKept m lim x) same
          (record { area = below_search m lim.pivots (box_at m e) col cut why split old.area; deep = omega arith; state = tt })
      at_left k e' is p false eq = at_right k e' is p eq (k == r) refl

      at_key : (k : ℕ) (e' : Entry) → entry_at h k ≡ Some e' → (t : Bool) → (k == key) ≡ t → IsKept m lim x e'
      at_key k e' is true eq =
          let here : entry_at h key ≡ Some e' = subst (λ (i : ℕ). entry_at h i ≡ Some e') (eqb-true k key eq) is in
          let same : with_state (States.Split col cut why l r) e ≡ e' = some_same _ _ (sym divides.parent ∙ here) in
          subst (IsKept m lim x) same (record { area = old.area; deep = old.deep; state = (split, first) })
      at_key k e' is false eq = at_left k e' is eq (k == l) refl

  -- a point of the box lies in one of its halves
  in_half : (found : Found) (z : List ℤ) → col < length (box_at m e) → IsIn (box_at m e) z → bound ≤ℤ cost m z → (t : Bool)
      → lt_z cut (at z col) ≡ t → IsCovered m found h z
  in_half found z within inside less true eq =
      waits r (under (Above col cut) (States.Waiting bound None) e) bound divides.right refl
      (in_above (box_at m e) col cut z within inside (omega (arith, ints))) less
  in_half found z within inside less false eq =
      waits l (under (Below col cut) (States.Waiting bound None) e) bound divides.left refl
      (in_below (box_at m e) col cut z within inside (omega (arith, ints))) less

  -- each point that the node covered is covered by one of its halves, and the others are as before
  pub divided_covered : (found : Found) → col < length (box_at m e) → AreCovered m found f
      → ((z : List ℤ) → IsFeasible m z → (v : ℤ) → bound_of e.state ≡ Some v → IsIn (box_at m e) z → v ≤ℤ cost m z → bound ≤ℤ cost m z)
      → AreCovered m found h
  divided_covered found within covered rise =
      covered_again m f h key e found found divides.was (improves_self found)
      (λ k e' differs is. divides.others k differs (λ same. not_none f l k e' divides.left_was is (sym same))
      (λ same. not_none f r k e' divides.right_was is (sym same)) ∙ is)
      (λ z feasible v waits' inside less. in_half found z within inside (rise z feasible v waits' inside less) (lt_z cut (at z col)) refl)
      covered

-- ---- best bound first

-- where no other node waits with a bound below that of a box, no feasible point costs less than the bound
pub none_below : (m : Parts) (found : Found) (f : Frontier) (key : ℕ) (e : Entry) (own : ℤ) (why : Why) → AreCovered m found f
    → entry_at f key ≡ Some e → length (box_at m e) ≡ length m.columns → At own ≡ own_bound m (box_at m e) why
    → IsBelow (At own) (cost_of found)
    → ((k : ℕ) (e' : Entry) (v : ℤ) → k ≢ key → entry_at f k ≡ Some e' → bound_of e'.state ≡ Some v → own ≤ℤ v)
    → (z : List ℤ) → IsFeasible m z → own ≤ℤ cost m z
none_below m found f key e own why covered was size own_is below least = λ z feasible. by z feasible found below (covered z feasible)
  where
    inside_box : (z : List ℤ) → IsFeasible m z → IsIn (box_at m e) z → own ≤ℤ cost m z
    inside_box z feasible inside =
        subst (λ (v : Bound). IsAtMost v (cost m z)) (sym own_is) (own_at_most m (box_at m e) why z size feasible inside)

    at_key : (z : List ℤ) (k : ℕ) (e' : Entry) (v : ℤ) → IsFeasible m z → entry_at f k ≡ Some e' → bound_of e'.state ≡ Some v
        → IsIn (box_at m e') z → v ≤ℤ cost m z → (t : Bool) → (k == key) ≡ t → own ≤ℤ cost m z
    at_key z k e' v feasible is waits' inside less true eq =
        let here : entry_at f key ≡ Some e' = subst (λ (i : ℕ). entry_at f i ≡ Some e') (eqb-true k key eq) is in
        let same : e' ≡ e = some_same _ _ (sym here ∙ was) in
        inside_box z feasible (subst (λ (d : Entry). IsIn (box_at m d) z) same inside)
    at_key z k e' v feasible is waits' inside less false eq =
        let more = least k e' v (eqb-false k key eq) is waits' in omega (arith, ints)

    by : (z : List ℤ) → IsFeasible m z → (x : Found) → IsBelow (At own) (cost_of x) → IsCovered m x f z → own ≤ℤ cost m z
    by z feasible None low (beaten b) = absurd b
    by z feasible (Some p) low (beaten b) = omega (arith, ints)
    by z feasible x low (waits k e' v is waits' inside less) = at_key z k e' v feasible is waits' inside less (k == key) refl
