-- One round of a search: the node that is taken is closed, put back, split or stuck, and what the search keeps stays right.
use Rattle.std.specs.Prelude.{◌≡◌, ◌≢◌, ℕ, ◌+◌, ◌*◌, ◌≤◌, ◌<◌, List, length, Option, Some, None, ℤ, ◌≤ℤ◌, true, false}
use Rattle.std.specs.Int.{int_max}
use Rattle.std.specs.Option.{is_some}
use Rattle.std.proofs.Common.{arith, refl, ap, sym, ◌∙◌, subst, inl, inr}
use Rattle.std.proofs.Math.Nat.{mul-le-mul_right}
use Rattle.std.proofs.lemmas.Int.{ints, clamps}
use Rattle.ip_defs.specs.declared.certificates.Bound.{Bound}
use Rattle.ip_defs.specs.declared.certificates.Bound.TheVariants.{At}
use Rattle.ip_defs.specs.declared.certificates.Cert.{Cert}
use Rattle.ip_defs.specs.declared.programs.Parts.{Parts}
use Rattle.ip_defs.specs.Certificates.{leaf_bound, IsAtMost}
use Rattle.ip_defs.specs.Program.{cost, IsFeasible, IsIn}
use Rattle.ip_defs.proofs.DualityLaws.{weak_duality}
use Rattle.node_bounds.specs.Nodes.{IsBranch, IsNodeOf, KeepsReason, own_bound, stops_of}
use Rattle.node_bounds.specs.Stops.{stops}
use Rattle.node_bounds.specs.declared.nodes.Branch.{Branch}
use Rattle.node_bounds.specs.declared.nodes.Node.{Node}
use Rattle.node_bounds.specs.declared.nodes.Node.TheVariants as Nodes
use Rattle.node_bounds.specs.declared.reasons.Why.{Why}
use Rattle.open_nodes.specs.declared.frontiers.Frontier.{Frontier}
use Rattle.open_nodes.specs.declared.nodes.Solved.{Solved}
use Rattle.open_nodes.specs.declared.nodes.State.{State}
use Rattle.open_nodes.specs.declared.nodes.State.TheVariants as States
use Rattle.open_nodes.specs.Frontiers.{IsFrontier}
use Rattle.open_nodes.specs.Frontiers.{entry_at, sum_over, IsLeast, SetsState, SplitsNode}
use Rattle.open_nodes.specs.Nodes.{Entry, bound_of, with_state}
use Rattle.branching.specs.declared.budgets.BudgetWhat.{BudgetWhat}
use Rattle.branching.specs.declared.budgets.Limits.{Limits}
use Rattle.branching.specs.declared.rounds.Step.{Step}
use Rattle.branching.specs.BestFirst.{BoundsAll}
use Rattle.branching.specs.Internal.Growth.{box_at, one_of, stopped, stuck_of, unsolved, visits_left, AreCovered, AreKept}
use Rattle.branching.specs.Internal.Growth.{AreSteps, IsAsked, IsCovered}
use Rattle.branching.specs.Internal.Growth.{IsAfter, IsGrowing, IsHalted, IsKept, IsSettled, IsStateOf, MayGo, asked_of, beaten, waits}
use Rattle.branching.specs.Internal.Growth as Growth
use Rattle.branching.specs.Internal.Search.{Found, Improves, IsSound, MayNotSplit, cost_of, point_of}
use Rattle.branching.proofs.GrowthLaws.{Divides, Moves, bounds_all, closed_beaten, divided_covered, divided_kept, divides_through}
use Rattle.branching.proofs.GrowthLaws.{improves_self, moved_covered, moved_kept, moves_through, none_below, own_at_most, some_same}
use Rattle.branching.proofs.SearchLaws.{no_worse, no_worse_self}
use Rattle.branching.proofs.VisitLaws.{closed_by, whole_end, whole_improves, whole_sound}

-- ---- steps

-- a node that is worked on once more may take the allowed number of steps, and takes them where its linear program is stopped
pub record WorksOn (pivots : ℕ) (e : Entry) (n : Node) (mid after : ℕ) : Type 0 where
  pub least : mid + stops_of n * pivots ≤ after
  pub most : after ≤ mid + unsolved e.state * pivots

-- sums that change by a known number, times the allowed number of steps
times_sum : (p a b c d : ℕ) → a + b ≡ c + d → a * p + b * p ≡ c * p + d * p
times_sum p a b c d e = let whole = ap (λ n. n * p) e in omega arith

steps_moved : (l : Limits) (f h : Frontier) (key : ℕ) (e : Entry) (s : State) (n : Node) (before mid after : ℕ) → Moves f h key e s
    → AreSteps l f before mid → WorksOn l.pivots e n mid after → stopped e.state ≡ 0 → stopped s ≤ stops_of n → unsolved s ≡ 0
    → AreSteps l h before after
steps_moved l f h key e s n before mid after moves steps works was_none stop solved =
    let p = l.pivots in
    let stop_sum = times_sum p (sum_over stopped h) (stopped e.state) (sum_over stopped f) (stopped s) (moves.sums stopped) in
    let left_sum = times_sum p (sum_over unsolved h) (unsolved e.state) (sum_over unsolved f) (unsolved s) (moves.sums unsolved) in
    let same : sum_over one_of h ≡ sum_over one_of f = let one = moves.sums one_of in omega arith in
    let none = ap (λ k. k * p) was_none in
    let zero = ap (λ k. k * p) solved in
    let few : stopped s * p ≤ stops_of n * p = mul-le-mul_right p stop in
    let all = ap (λ k. k * p) same in
    let a = steps.least in
    let b = steps.most in
    let c = works.least in
    let d = works.most in
    record { least = omega arith; most = omega arith }

steps_divided : (l : Limits) (f h : Frontier) (key : ℕ) (e : Entry) (col : ℕ) (cut : ℤ) (why : Why) (bound : ℤ) (a b : ℕ) (n : Node)
    (before mid after : ℕ) → Divides f h key e col cut why bound a b → AreSteps l f before mid → WorksOn l.pivots e n mid after
    → stopped e.state ≡ 0 → stops why ≤ stops_of n → AreSteps l h before after
steps_divided l f h key e col cut why bound a b n before mid after divides steps works was_none stop =
    let p = l.pivots in
    let one = divides.sums one_of in
    let stop_sum = times_sum p (sum_over stopped h) (stopped e.state) (sum_over stopped f) (stops why)
    (let s = divides.sums stopped in omega arith) in
    let left_sum = times_sum p (sum_over unsolved h) (unsolved e.state) (sum_over unsolved f) 2
    (let s = divides.sums unsolved in omega arith) in
    let all = times_sum p (sum_over one_of h) 0 (sum_over one_of f) 2 (omega arith) in
    let none = ap (λ k. k * p) was_none in
    let few : stops why * p ≤ stops_of n * p = mul-le-mul_right p stop in
    let x = steps.least in
    let y = steps.most in
    let z = works.least in
    let w = works.most in
    record { least = omega arith; most = omega arith }

not_some : (o : Option Solved) → is_some o ≡ false → o ≡ None
not_some None e = refl
not_some (Some s) e = absurd cc

at_same : {u v : ℤ} → At u ≡ At v → u ≡ v
at_same e = cc

-- ---- the node that is taken

module _ (m : Parts) (l : Limits) (found : Found) (f g : Frontier) (key : ℕ) (e : Entry) (v : ℤ) (o : Option Solved) (n : Node)
    (before mid after : ℕ) (growing : IsGrowing m l found f before mid) (was : entry_at f key ≡ Some e)
    (state : e.state ≡ States.Waiting v o) (least : IsLeast f v) (taken : SetsState f g key States.Taken)
    (right : IsNodeOf m l.pivots (box_at m e) (cost_of found) n) (works : WorksOn l.pivots e n mid after)
    (keeps : (q : Solved) → o ≡ Some q → KeepsReason q.why n) where
  own_kept : IsKept m l (point_of found) e
  own_kept = growing.kept key e was

  size : length (box_at m e) ≡ length m.columns
  size = own_kept.area.area.size

  no_stop : stopped e.state ≡ 0
  no_stop = ap stopped state

  no_stuck : stuck_of e.state ≡ 0
  no_stuck = ap stuck_of state

  -- it will be worked on at least once
  one_visit : 1 ≤ visits_left e.state
  one_visit = subst (λ (s : State). 1 ≤ visits_left s) (sym state) (by o)
    where
      by : (o : Option Solved) → 1 ≤ visits_left (States.Waiting v o)
      by None = omega arith
      by (Some s) = omega arith

  -- ---- it is closed
  closing : (found' : Found) (h : Frontier) (c : Cert) → Improves found found' → IsSound m found'
      → IsStateOf m l.pivots (point_of found') (box_at m e) (States.Closed c) → SetsState g h key (States.Closed c) → IsFrontier h
      → IsGrowing m l found' h before after × (Growth.rounds_left l h < Growth.rounds_left l f)
  closing found' h c better sound' closed sets ready =
      let moves = moves_through f g h key e (States.Closed c) was taken sets in
      let one = moves.sums one_of in
      let visits = moves.sums visits_left in
      let stuck_sum = moves.sums stuck_of in
      let own = own_visit in
      let no = no_stuck in
      let few = growing.nodes in
      let none = growing.none_stuck in (
        record {
          frontier = ready;
          kept = moved_kept m f h key e (States.Closed c) moves l (point_of found) (point_of found')
              (no_worse m found found' growing.sound sound' better) growing.kept closed;
          sound = sound';
          covered = moved_covered m f h key e (States.Closed c) moves found found' better growing.covered
              (λ z feasible bound waits' inside less. beaten (closed_beaten m found' (leaf_bound m (box_at m e) c) z sound' closed.1
              (weak_duality m (box_at m e) c z size feasible inside)));
          nodes = omega arith;
          none_stuck = omega arith;
          steps = steps_moved l f h key e (States.Closed c) n before mid after moves growing.steps works no_stop (omega arith) refl;
        },
        omega arith,
      )
    where
      own_visit : 1 ≤ visits_left e.state
      own_visit = one_visit

  closed_after : (h : Frontier) (c : Cert) → n ≡ Nodes.Closed c → SetsState g h key (States.Closed c) → IsFrontier h
      → IsGrowing m l found h before after × (Growth.rounds_left l h < Growth.rounds_left l f)
  closed_after h c is sets ready =
      let ends = subst (IsNodeOf m l.pivots (box_at m e) (cost_of found)) is right in
      closing found h c (improves_self found) growing.sound
      (ends.cert, closed_by m found (leaf_bound m (box_at m e) c) growing.sound ends.closed) sets ready

  whole_after : (h : Frontier) (x : List ℤ) (w : ℤ) (c : Cert) → n ≡ Nodes.Whole x w c → SetsState g h key (States.Closed c) → IsFrontier h
      → IsGrowing m l (Some (x, w)) h before after × (Growth.rounds_left l h < Growth.rounds_left l f)
  whole_after h x w c is sets ready =
      let whole = subst (IsNodeOf m l.pivots (box_at m e) (cost_of found)) is right in
      let end = whole_end m (box_at m e) x w c found whole in
      closing (Some (x, w)) h c (whole_improves m (box_at m e) x w c found whole) (whole_sound m (box_at m e) x w c found whole)
      (end.cert, end.closed) sets ready

  -- ---- it has to be split
  module _ (s : Branch) (is : n ≡ Nodes.Split s) where
    branch : IsBranch m l.pivots (box_at m e) (cost_of found) s
    branch = subst (IsNodeOf m l.pivots (box_at m e) (cost_of found)) is right

    stops_are : stops s.why ≡ stops_of n
    stops_are = ap stops_of (sym is)

    -- a point that the node covers costs at least the risen bound
    risen : (z : List ℤ) → IsFeasible m z → (bound : ℤ) → bound_of e.state ≡ Some bound → IsIn (box_at m e) z → bound ≤ℤ cost m z
        → int_max s.bound v ≤ℤ cost m z
    risen z feasible bound waits' inside less =
        let same : bound ≡ v = some_same bound v (sym waits' ∙ ap bound_of state) in
        let at_most : s.bound ≤ℤ cost m z = subst (λ (u : Bound). IsAtMost u (cost m z)) (sym branch.bound)
        (own_at_most m (box_at m e) s.why z size feasible inside) in
        omega (arith, ints, clamps)

    -- ---- it waits again
    put_back_after : (h : Frontier) → stops s.why ≡ 0 → o ≡ None
        → SetsState g h key (States.Waiting (int_max s.bound v) (Some (asked_of s))) → IsFrontier h
        → IsGrowing m l found h before after × (Growth.rounds_left l h < Growth.rounds_left l f)
    put_back_after h answered fresh sets ready =
        let bound = int_max s.bound v in
        let new : State = States.Waiting bound (Some (asked_of s)) in
        let moves = moves_through f g h key e new was taken sets in
        let one = moves.sums one_of in
        let visits = moves.sums visits_left in
        let stuck_sum = moves.sums stuck_of in
        let twice : visits_left e.state ≡ 2 = ap visits_left (state ∙ ap (States.Waiting v) fresh) in
        let no = no_stuck in
        let few = growing.nodes in
        let none = growing.none_stuck in
        let asked : IsAsked m l.pivots (box_at m e) bound (asked_of s) =
        record { split = branch.split; answered = answered; own = s.bound; own_is = branch.bound; least = omega (arith, ints, clamps) } in (
          record {
            frontier = ready;
            kept = moved_kept m f h key e new moves l (point_of found) (point_of found) (no_worse_self m (point_of found))
                growing.kept asked;
            sound = growing.sound;
            covered = moved_covered m f h key e new moves found found (improves_self found) growing.covered
                (λ z feasible old waits' inside less. waits key (with_state new e) bound moves.now refl inside
                (risen z feasible old waits' inside less));
            nodes = omega arith;
            none_stuck = omega arith;
            steps = steps_moved l f h key e new n before mid after moves growing.steps works no_stop (omega arith) refl;
          },
          omega arith,
        )

    -- ---- it goes on
    -- where it may go, no feasible point costs less than its own bound
    nothing_below : MayGo g (is_some o) s.why (int_max s.bound v) → BoundsAll m (box_at m e) s.why
    nothing_below (Growth.unanswered (inl stop)) = subst (BoundsAll m (box_at m e)) (sym stop) tt
    nothing_below (Growth.unanswered (inr wide)) = subst (BoundsAll m (box_at m e)) (sym wide) tt
    nothing_below (Growth.waited solved) = bounds_all m (box_at m e) s.why s.bound branch.bound
        (none_below m found f key e s.bound s.why growing.covered was size branch.bound branch.below (others o refl solved))
      where
        others : (p : Option Solved) → o ≡ p → is_some o ≡ true
            → (k : ℕ) (e' : Entry) (u : ℤ) → k ≢ key → entry_at f k ≡ Some e' → bound_of e'.state ≡ Some u → s.bound ≤ℤ u
        others None same so = absurd (let no = sym so ∙ ap is_some same in cc)
        others (Some q) same so = λ k e' u other is' waits'.
            let kept : IsAsked m l.pivots (box_at m e) v q =
            subst (IsStateOf m l.pivots (point_of found) (box_at m e)) (state ∙ ap (States.Waiting v) same) own_kept.state in
            let more = least k u (e', is', waits') in
            let reason : s.why ≡ q.why = subst (KeepsReason q.why) is (keeps q same) in
            let bounds : At s.bound ≡ At kept.own = branch.bound ∙ ap (own_bound m (box_at m e)) reason ∙ sym kept.own_is in
            let own : s.bound ≡ kept.own = at_same bounds in
            let low = kept.least in
            omega (arith, ints)
    nothing_below (Growth.least first) = bounds_all m (box_at m e) s.why s.bound branch.bound
        (none_below m found f key e s.bound s.why growing.covered was size branch.bound branch.below
        (λ k e' u other is' waits'. let more = first k u (e', taken.others k other ∙ is', waits') in omega (arith, ints, clamps)))

    parted_after : (h : Frontier) (a b : ℕ) → MayGo g (is_some o) s.why (int_max s.bound v) → length e.path < l.depth
        → sum_over one_of g + 2 ≤ l.nodes → SplitsNode g h key s.col s.at s.why (int_max s.bound v) a b → IsFrontier h
        → IsGrowing m l found h before after × (Growth.rounds_left l h < Growth.rounds_left l f)
    parted_after h a b goes deep few splits ready =
        let bound = int_max s.bound v in
        let divides = divides_through f g h key e s.col s.at s.why bound a b was taken splits in
        let one = divides.sums one_of in
        let taken_one = taken.sums one_of e was in
        let visits = divides.sums visits_left in
        let stuck_sum = divides.sums stuck_of in
        let own = one_visit in
        let no = no_stuck in
        let none = growing.none_stuck in
        let within = branch.split.reasoned.0.col in (
          record {
            frontier = ready;
            kept = divided_kept m f h key e s.col s.at s.why bound a b divides l (point_of found) growing.kept deep branch.split
                (nothing_below goes);
            sound = growing.sound;
            covered = divided_covered m f h key e s.col s.at s.why bound a b divides found within growing.covered risen;
            nodes = omega arith;
            none_stuck = omega arith;
            steps = steps_divided l f h key e s.col s.at s.why bound a b n before mid after divides growing.steps works no_stop
                (omega (arith, stops_are));
          },
          omega arith,
        )

    -- ---- it is stuck
    stuck_after : (h : Frontier) (what : BudgetWhat) → MayGo g (is_some o) s.why (int_max s.bound v)
        → MayNotSplit l (length e.path) (sum_over one_of g) what → SetsState g h key (States.Stuck s.why) → IsFrontier h
        → IsHalted m l found h before after what
    stuck_after h what goes cause sets ready =
        let new : State = States.Stuck s.why in
        let moves = moves_through f g h key e new was taken sets in
        let one = moves.sums one_of in
        let taken_one = taken.sums one_of e was in
        let stuck_sum = moves.sums stuck_of in
        let no = no_stuck in
        let few = growing.nodes in
        let none = growing.none_stuck in
        let same : sum_over one_of g ≡ sum_over one_of h = omega arith in
        record {
          key = key;
          entry = with_state new e;
          why = s.why;
          here = moves.now;
          is_stuck = refl;
          area = own_kept.area;
          deep = own_kept.deep;
          asked = (s.col, s.at, branch.split);
          first = nothing_below goes;
          own = s.bound;
          own_is = branch.bound;
          below = branch.below;
          cause = subst (λ (k : ℕ). MayNotSplit l (length e.path) k what) same cause;
          others = λ k e' other is'. growing.kept k e' (sym (moves.others k other) ∙ is');
          sound = growing.sound;
          nodes = omega arith;
          one = omega arith;
          steps = steps_moved l f h key e new n before mid after moves growing.steps works no_stop (omega (arith, stops_are)) refl;
          frontier = ready;
        }

  -- what holds after the node was settled
  pub settled_after : (found' : Found) (h : Frontier) (step : Step) → IsFrontier h
      → IsSettled l key (length e.path) v (is_some o) n found found' g h step → IsAfter m l found' f h before after step
  settled_after found' h step ready (Growth.closed c is same sets went) =
      subst (λ (x : Found). IsAfter m l x f h before after step) (sym same)
      (subst (IsAfter m l found f h before after) (sym went) (closed_after h c is sets ready))
  settled_after found' h step ready (Growth.whole x w c is same sets went) =
      subst (λ (x : Found). IsAfter m l x f h before after step) (sym same)
      (subst (IsAfter m l (Some (x, w)) f h before after) (sym went) (whole_after h x w c is sets ready))
  settled_after found' h step ready (Growth.put_back s is same fresh answered sets went) =
      subst (λ (x : Found). IsAfter m l x f h before after step) (sym same)
      (subst (IsAfter m l found f h before after) (sym went) (put_back_after s is h answered (not_some o fresh) sets ready))
  settled_after found' h step ready (Growth.parted s a b is same goes deep few splits went) =
      subst (λ (x : Found). IsAfter m l x f h before after step) (sym same)
      (subst (IsAfter m l found f h before after) (sym went) (parted_after s is h a b goes deep few splits ready))
  settled_after found' h step ready (Growth.halted s what is same goes cause sets ended) =
      subst (λ (x : Found). IsAfter m l x f h before after step) (sym same)
      (subst (IsAfter m l found f h before after) (sym ended) (stuck_after s is h what goes cause sets ready))
