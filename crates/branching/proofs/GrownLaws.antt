-- The tree of a search that ended: what is right of each node of the open tree is right of each node of the tree.
use Rattle.std.specs.Prelude.{◌≡◌, ℕ, ◌+◌, ◌*◌, ◌≤◌, ◌==◌, ◌++◌, List, [], ◌∷◌, length, sum_by, Option}
use Rattle.std.specs.Prelude.{Some, None, ℤ, ◌≤ℤ◌, Bool, true, false}
use Rattle.std.proofs.Common.{arith, refl, ap, sym, ◌∙◌, subst, inl, inr}
use Rattle.std.proofs.lemmas.Bool.{eqb-true, eqb-false}
use Rattle.std.proofs.lemmas.Int.{ints}
use Rattle.std.proofs.lemmas.List.Sums.{sum_by-append}
use Rattle.ip_defs.specs.declared.certificates.Bound.TheVariants.{At}
use Rattle.ip_defs.specs.declared.programs.Parts.{Parts}
use Rattle.ip_defs.specs.Boxes.{above, below}
use Rattle.ip_defs.specs.Lists.{Each}
use Rattle.ip_defs.specs.Limits.{IsWithinLimits}
use Rattle.ip_defs.specs.Program.{box_of, cost, IsFeasible}
use Rattle.node_bounds.proofs.LeafLaws.{whole_area}
use Rattle.ip_defs.proofs.ListLaws.{each_left, each_right, each_weaker}
use Rattle.proof_tree.specs.LabelledTrees.{leaf, split, leaf_node, split_node, node_count, place, places_from}
use Rattle.proof_tree.proofs.LabelledTreeLaws.{places_counted}
use Rattle.node_bounds.specs.Cuts.{IsBelow}
use Rattle.node_bounds.specs.Nodes.{own_bound}
use Rattle.open_nodes.specs.declared.frontiers.Frontier.{Frontier}
use Rattle.open_nodes.specs.declared.nodes.State.{State}
use Rattle.open_nodes.specs.declared.nodes.State.TheVariants as States
use Rattle.open_nodes.specs.Frontiers.{IsFrontier}
use Rattle.open_nodes.specs.Frontiers.{entry_at, sum_over, IsNew, IsPlaceIn, IsTreeOf, NoneWaits}
use Rattle.open_nodes.specs.Nodes.{Entry, bound_of, node_of, place_over}
use Rattle.open_nodes.specs.OpenTrees.{PlainOpen, pending, stuck, ended, OpenNode, OpenPlace, IsDone, places, stuck_count}
use Rattle.branching.specs.declared.budgets.BudgetWhat.{BudgetWhat}
use Rattle.branching.specs.declared.budgets.BudgetWhat.TheVariants.{Nodes, Depth}
use Rattle.branching.specs.declared.budgets.Limits.{Limits}
use Rattle.branching.specs.BestFirst.{IsBestNode, IsBestStop, IsStillOpen}
use Rattle.branching.specs.Counts.{stopped_in, IsCounted}
use Rattle.branching.specs.Outcomes.{FitsNode, HasReason, IsClosedBy, IsClosedNode, IsStuckAt, IsStuckNode}
use Rattle.open_nodes.specs.OpenTrees.{SomeOf}
use Rattle.branching.specs.Internal.Growth.{box_at, node_stops, node_stuck, one_of, stopped, stuck_of, unsolved, waits}
use Rattle.branching.specs.Internal.Growth.{AreSteps, IsGrowing, IsHalted, IsKept, IsStateOf}
use Rattle.branching.proofs.GrowthLaws.{some_same}
use Rattle.branching.specs.Internal.Search.{EndsBy, Found, IsGrown, IsSound, MayNotSplit, cost_of, point_of}

-- ---- sums over the nodes of a tree

sum_of_ones : (ps : List OpenPlace) → sum_by (λ p. 1) ps ≡ length ps
sum_of_ones [] = refl
sum_of_ones (p ∷ ps) =
    let own = sum_by-append (λ (q : OpenPlace). 1) (p ∷ []) ps in
    let rest = sum_of_ones ps in
    own ∙ (omega arith)

stuck_sum : (d : ℕ) (b : List (ℤ × ℤ)) (t : PlainOpen) → sum_by (λ p. node_stuck p.node) (places_from d b t) ≡ stuck_count t
stuck_sum d b (leaf pending) = refl
stuck_sum d b (leaf (stuck why)) = refl
stuck_sum d b (leaf (ended c)) = refl
stuck_sum d b (split col cut why left right) =
    let ps = places_from (d + 1) (below b col cut) left in
    let qs = places_from (d + 1) (above b col cut) right in
    let both = sum_by-append (λ (p : OpenPlace). node_stuck p.node) ps qs in
    let first = stuck_sum (d + 1) (below b col cut) left in
    let second = stuck_sum (d + 1) (above b col cut) right in
    omega arith

stop_sum : (d : ℕ) (b : List (ℤ × ℤ)) (t : PlainOpen) → sum_by (λ p. node_stops p.node) (places_from d b t) ≡ stopped_in t
stop_sum d b (leaf pending) = refl
stop_sum d b (leaf (stuck why)) = omega arith
stop_sum d b (leaf (ended c)) = refl
stop_sum d b (split col cut why left right) =
    let ps = places_from (d + 1) (below b col cut) left in
    let qs = places_from (d + 1) (above b col cut) right in
    let own = sum_by-append (λ (p : OpenPlace). node_stops p.node) (place d b (split_node col cut why) ∷ []) (ps ++ qs) in
    let both = sum_by-append (λ (p : OpenPlace). node_stops p.node) ps qs in
    let first = stop_sum (d + 1) (below b col cut) left in
    let second = stop_sum (d + 1) (above b col cut) right in
    own ∙ (omega arith)

-- ---- trees without open nodes

-- a node that is closed or split
abbrev IsShut : OpenNode → Type 0
IsShut (split_node col cut why) = Unit {0}
IsShut (leaf_node (ended c)) = Unit {0}
IsShut (leaf_node pending) = ⊥
IsShut (leaf_node (stuck why)) = ⊥

shut_done : (d : ℕ) (b : List (ℤ × ℤ)) (t : PlainOpen) → Each (λ p. IsShut p.node) (places_from d b t) → IsDone t
shut_done d b (leaf pending) h = h.0
shut_done d b (leaf (stuck why)) h = h.0
shut_done d b (leaf (ended c)) h = tt
shut_done d b (split col cut why left right) h =
    let ps = places_from (d + 1) (below b col cut) left in
    let qs = places_from (d + 1) (above b col cut) right in
    (shut_done (d + 1) (below b col cut) left (each_left _ ps qs h.1), shut_done (d + 1) (above b col cut) right (each_right _ ps qs h.1))

some_weaker : {A : Type 0} (P Q : A → Type 0) (xs : List A) → ((x : A) → P x → Q x) → SomeOf P xs → SomeOf Q xs
some_weaker P Q [] h some = absurd some
some_weaker P Q (x ∷ xs) h (inl p) = inl (h x p)
some_weaker P Q (x ∷ xs) h (inr p) = inr (some_weaker P Q xs h p)

-- a bound below the cost of the best point is not closed by the point
still_below : (m : Parts) (found : Found) (v : ℤ) → IsSound m found → IsBelow (At v) (cost_of found) → IsClosedBy m (point_of found) (At v)
    → ⊥
still_below m None v sound below closed = absurd cc
still_below m (Some p) v sound below closed = let price = sound.1 in absurd (omega (arith, ints))

-- ---- the root

-- a root alone, which waits with a lower bound on the costs of all feasible points
pub new_growing : (m : Parts) (l : Limits) (f : Frontier) (root : ℕ) (bound : ℤ) (begun : ℕ) → IsWithinLimits m → IsNew bound f root
    → IsFrontier f → 1 ≤ l.nodes → ((x : List ℤ) → IsFeasible m x → bound ≤ℤ cost m x) → IsGrowing m l None f begun begun
new_growing m l f root bound begun limits new ready room' low =
    let one = new.sums one_of in
    let stuck' = new.sums stuck_of in
    let stop = ap (λ n. n * l.pivots) (new.sums stopped) in
    let all = ap (λ n. n * l.pivots) one in
    let left = ap (λ n. n * l.pivots) (new.sums unsolved) in
    record {
      frontier = ready;
      kept = λ k e is. by k e is (k == root) refl;
      sound = tt;
      covered = λ x feasible. waits root _ bound new.made refl feasible.within (low x feasible);
      nodes = omega arith;
      none_stuck = omega arith;
      steps = record { least = omega arith; most = omega arith };
    }
  where
    by : (k : ℕ) (e : Entry) → entry_at f k ≡ Some e → (t : Bool) → (k == root) ≡ t → IsKept m l None e
    by k e is true eq =
        let here : entry_at f root ≡ Some e = subst (λ (i : ℕ). entry_at f i ≡ Some e) (eqb-true k root eq) is in
        let same = some_same _ _ (sym new.made ∙ here) in
        subst (IsKept m l None) same (record { area = whole_area m limits; deep = omega arith; state = tt })
    by k e is false eq = let none : None ≡ Some e = sym (new.alone k (eqb-false k root eq)) ∙ is in absurd cc

-- ---- nodes of a search

module _ (m : Parts) (l : Limits) (x : Option (List ℤ)) where
  kept_reason : (b : List (ℤ × ℤ)) (s : State) → IsStateOf m l.pivots x b s → HasReason m l.pivots b (node_of s)
  kept_reason b (States.Waiting v o) h = tt
  kept_reason b States.Taken h = tt
  kept_reason b (States.Closed c) h = tt
  kept_reason b (States.Stuck why) h = absurd h
  kept_reason b (States.Split col cut why left right) h = h.0.reasoned

  kept_closed : (b : List (ℤ × ℤ)) (s : State) → IsStateOf m l.pivots x b s → IsClosedNode m x b (node_of s)
  kept_closed b (States.Waiting v o) h = tt
  kept_closed b States.Taken h = tt
  kept_closed b (States.Closed c) h = h.1
  kept_closed b (States.Stuck why) h = tt
  kept_closed b (States.Split col cut why left right) h = tt

  kept_fits : (b : List (ℤ × ℤ)) (s : State) → IsStateOf m l.pivots x b s → FitsNode m (node_of s)
  kept_fits b (States.Waiting v o) h = tt
  kept_fits b States.Taken h = tt
  kept_fits b (States.Closed c) h = h.0
  kept_fits b (States.Stuck why) h = tt
  kept_fits b (States.Split col cut why left right) h = (h.0.column, h.0.cut_small)

  kept_best : (b : List (ℤ × ℤ)) (s : State) → IsStateOf m l.pivots x b s → IsBestNode m b (node_of s)
  kept_best b (States.Waiting v o) h = tt
  kept_best b States.Taken h = tt
  kept_best b (States.Closed c) h = tt
  kept_best b (States.Stuck why) h = absurd h
  kept_best b (States.Split col cut why left right) h = h.1

  kept_open : (b : List (ℤ × ℤ)) (s : State) → IsStateOf m l.pivots x b s → IsStillOpen m x b (node_of s)
  kept_open b (States.Waiting v o) h = tt
  kept_open b States.Taken h = tt
  kept_open b (States.Closed c) h = tt
  kept_open b (States.Stuck why) h = absurd h
  kept_open b (States.Split col cut why left right) h = tt

  kept_not_stuck : (b : List (ℤ × ℤ)) (s : State) → IsStateOf m l.pivots x b s → IsStuckNode (node_of s) → ⊥
  kept_not_stuck b (States.Waiting v o) h n = n
  kept_not_stuck b States.Taken h n = n
  kept_not_stuck b (States.Closed c) h n = n
  kept_not_stuck b (States.Stuck why) h n = h
  kept_not_stuck b (States.Split col cut why left right) h n = n

  kept_shut : (b : List (ℤ × ℤ)) (s : State) → IsStateOf m l.pivots x b s → ((v : ℤ) → bound_of s ≡ Some v → ⊥) → IsShut (node_of s)
  kept_shut b (States.Waiting v o) h none = none v refl
  kept_shut b States.Taken h none = absurd h
  kept_shut b (States.Closed c) h none = tt
  kept_shut b (States.Stuck why) h none = absurd h
  kept_shut b (States.Split col cut why left right) h none = tt

module _ (m : Parts) (l : Limits) (found : Found) (f : Frontier) (t : PlainOpen) (tree : IsTreeOf f t) where
  -- what is right of each node of the open tree is right of each node of the tree
  each_place : (P : OpenPlace → Type 0) → ((k : ℕ) (e : Entry) → entry_at f k ≡ Some e → P (place_over (box_of m) e)) → Each P (places m t)
  each_place P all = each_weaker (IsPlaceIn f (box_of m)) P (places m t) (λ p h. subst P (sym h.3) (all h.0 h.1 h.2)) (tree.made (box_of m))

  count_is : length (places m t) ≡ sum_over one_of f
  count_is = sym (sum_of_ones (places m t)) ∙ tree.sums (box_of m) (λ n. 1)

  stuck_is : stuck_count t ≡ sum_over stuck_of f
  stuck_is = sym (stuck_sum 0 (box_of m) t) ∙ tree.sums (box_of m) node_stuck

  stops_is : stopped_in t ≡ sum_over stopped f
  stops_is = sym (stop_sum 0 (box_of m) t) ∙ tree.sums (box_of m) node_stops

  -- the counted steps
  counted : (before after : ℕ) → AreSteps l f before after → IsCounted l (stopped_in t) (node_count t) before after
  counted before after steps =
      let nodes : node_count t ≡ sum_over one_of f = sym (places_counted 0 (box_of m) t) ∙ count_is in
      let a = ap (λ n. n * l.pivots) stops_is in
      let b = ap (λ n. n * l.pivots) nodes in
      let c = steps.least in
      let d = steps.most in
      record { least = omega arith; most = omega arith }

  -- ---- no node waits
  module _ (before after : ℕ) (growing : IsGrowing m l found f before after) (none : NoneWaits f) where
    pub done_grown : IsGrown m l 0 (box_of m) 1 (sum_over one_of f) None found t None
    done_grown = record {
      places = record {
        reasons = each_place _ (λ k e is. kept_reason m l (point_of found) (box_at m e) e.state (growing.kept k e is).state);
        deep = each_place _ (λ k e is. (growing.kept k e is).deep);
        closed = each_place _ (λ k e is. kept_closed m l (point_of found) (box_at m e) e.state (growing.kept k e is).state);
        fits = each_place _ (λ k e is. kept_fits m l (point_of found) (box_at m e) e.state (growing.kept k e is).state);
        count = (let p = count_is in omega arith);
        room = growing.nodes;
      };
      ends = shut_done 0 (box_of m) t (each_place _ (λ k e is. kept_shut m l (point_of found) (box_at m e) e.state
          (growing.kept k e is).state (λ v waits. none k v (e, is, waits))));
      stuck = (let p = stuck_is in let q = growing.none_stuck in omega arith);
      sound = growing.sound;
      improves = tt;
    }

    pub done_best : Each (λ p. IsBestNode m p.box p.node) (places m t)
    done_best = each_place _ (λ k e is. kept_best m l (point_of found) (box_at m e) e.state (growing.kept k e is).state)

    pub done_counted : IsCounted l (stopped_in t) (node_count t) before after
    done_counted = counted before after growing.steps

  -- ---- a limit stopped the search
  module _ (before after : ℕ) (what : BudgetWhat) (halted : IsHalted m l found f before after what) where
    -- what is right of the node that is stuck and of each other one is right of all
    each_halted : (P : OpenPlace → Type 0)
        → P (record { depth = length halted.entry.path; box = box_at m halted.entry; node = leaf_node (stuck halted.why) })
        → ((e : Entry) → IsKept m l (point_of found) e → P (place_over (box_of m) e)) → Each P (places m t)
    each_halted P own others = each_place P (λ k e is. by k e is (k == halted.key) refl)
      where
        by : (k : ℕ) (e : Entry) → entry_at f k ≡ Some e → (b : Bool) → (k == halted.key) ≡ b → P (place_over (box_of m) e)
        by k e is true eq =
            let here : entry_at f halted.key ≡ Some e = subst (λ (i : ℕ). entry_at f i ≡ Some e) (eqb-true k halted.key eq) is in
            let same : halted.entry ≡ e = some_same _ _ (sym halted.here ∙ here) in
            subst (λ (d : Entry). P (place_over (box_of m) d)) same
            (subst (λ (s : State). P (record { depth = length halted.entry.path; box = box_at m halted.entry; node = node_of s }))
            (sym halted.is_stuck) own)
        by k e is false eq = others e (halted.others k e (eqb-false k halted.key eq) is)

    -- the stuck node stands in the tree
    here_in_tree : SomeOf (λ p. p ≡ place_over (box_of m) halted.entry) (places m t)
    here_in_tree = tree.all (box_of m) halted.key halted.entry halted.here

    here_stuck : (p : OpenPlace) → p ≡ place_over (box_of m) halted.entry → IsStuckNode p.node × (p.depth ≡ length halted.entry.path)
    here_stuck p is =
        let own : IsStuckNode (node_of halted.entry.state) = subst (λ (s : State). IsStuckNode (node_of s)) (sym halted.is_stuck) tt in
        (subst (λ (q : OpenPlace). IsStuckNode q.node) (sym is) own, ap (λ (q : OpenPlace). q.depth) is)

    halted_ends : (w : BudgetWhat) → MayNotSplit l (length halted.entry.path) (sum_over one_of f) w
        → EndsBy l (sum_over one_of f) t (places m t) (Some w)
    halted_ends Depth cause = some_weaker _ _ (places m t) (λ p is. let at = here_stuck p is in (at.0, at.1 ∙ cause)) here_in_tree
    halted_ends Nodes cause = (
      some_weaker _ _ (places m t) (λ p is. (here_stuck p is).0) here_in_tree,
      each_halted (λ p. IsStuckAt l.depth p → ⊥) (λ s. let deep = s.1 in let less = cause.0 in absurd (omega arith))
          (λ e kept s. kept_not_stuck m l (point_of found) (box_at m e) e.state kept.state s.0),
      cause.1,
    )

    pub halted_grown : IsGrown m l 0 (box_of m) 1 (sum_over one_of f) None found t (Some what)
    halted_grown = record {
      places = record {
        reasons = each_halted _
            (record { col = halted.asked.0; cut = halted.asked.1; reasoned = halted.asked.2.reasoned })
            (λ e kept. kept_reason m l (point_of found) (box_at m e) e.state kept.state);
        deep = each_halted _ halted.deep (λ e kept. kept.deep);
        closed = each_halted _ tt (λ e kept. kept_closed m l (point_of found) (box_at m e) e.state kept.state);
        fits = each_halted _ tt (λ e kept. kept_fits m l (point_of found) (box_at m e) e.state kept.state);
        count = (let p = count_is in omega arith);
        room = halted.nodes;
      };
      ends = halted_ends what halted.cause;
      stuck = (let p = stuck_is in let q = halted.one in omega arith);
      sound = halted.sound;
      improves = tt;
    }

    -- the best point does not close the stuck node
    not_closed : IsClosedBy m (point_of found) (own_bound m (box_at m halted.entry) halted.why) → ⊥
    not_closed closed = still_below m found halted.own halted.sound halted.below
        (subst (IsClosedBy m (point_of found)) (sym halted.own_is) closed)

    pub halted_best : IsBestStop m (places m t) (point_of found)
    halted_best = record {
      first = each_halted _ halted.first (λ e kept. kept_best m l (point_of found) (box_at m e) e.state kept.state);
      still_open = each_halted _ not_closed (λ e kept. kept_open m l (point_of found) (box_at m e) e.state kept.state);
    }

    pub halted_counted : IsCounted l (stopped_in t) (node_count t) before after
    halted_counted = counted before after halted.steps
