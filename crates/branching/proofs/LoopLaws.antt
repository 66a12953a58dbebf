-- The loop of a search: the node that is taken, what a round over it keeps, and how the search ends.
use Rattle.std.specs.Prelude.{◌≡◌, ℕ, ◌+◌, ◌*◌, ◌≤◌, List, length, Option, Some, None, option_map, ℤ, Bool, true, false}
use Rattle.std.specs.Prelude.{IsSome, MatchBool, Result, IfOk, ◌≤ℤ◌}
use Rattle.std.specs.Int.Signed.{lt_z}
use Rattle.std.specs.Option.{is_some, ForSome}
use Rattle.std.proofs.Common.{arith, refl, ap, sym, ◌∙◌, subst}
use Rattle.std.proofs.lemmas.Int.{ints}
use Rattle.std.proofs.lemmas.Result.{IfOk-weaker}
use Rattle.ip_defs.specs.declared.programs.Parts.{Parts}
use Rattle.ip_defs.specs.Limits.{IsWithinLimits}
use Rattle.ip_defs.specs.Program.{box_of, cost, IsFeasible, IsIn}
use Rattle.proof_tree.specs.LabelledTrees.{node_count}
use Rattle.node_bounds.specs.Areas.{IsSearchArea}
use Rattle.node_bounds.specs.Nodes.{HasCert, IsNodeOf, IsSplit, KeepsReason, stops_of}
use Rattle.node_bounds.specs.Stops.{stops}
use Rattle.node_bounds.specs.declared.nodes.Node.{Node}
use Rattle.node_bounds.specs.declared.nodes.Node.TheVariants as Nodes
use Rattle.node_bounds.specs.declared.reasons.Why.{Why}
use Rattle.node_bounds.specs.declared.reasons.Why.TheVariants.{Fractional, Stopped, Wide}
use Rattle.open_nodes.specs.declared.frontiers.Frontier.{Frontier}
use Rattle.open_nodes.specs.declared.nodes.Solved.{Solved}
use Rattle.open_nodes.specs.declared.nodes.State.{State}
use Rattle.open_nodes.specs.declared.nodes.State.TheVariants as States
use Rattle.open_nodes.specs.Frontiers.{IsFrontier}
use Rattle.open_nodes.specs.Frontiers.{entry_at, sum_over, HasState, IsLeast, IsNew, IsTreeOf, NoneWaits, SameNodes, SetsState}
use Rattle.open_nodes.specs.Nodes.{Entry, box_along, with_state}
use Rattle.open_nodes.specs.OpenTrees.{PlainOpen, IsDone, places, stuck_count}
use Rattle.branching.specs.declared.budgets.BudgetWhat.{BudgetWhat}
use Rattle.branching.specs.declared.budgets.Limits.{Limits}
use Rattle.branching.specs.declared.outcomes.Outcome.{Outcome}
use Rattle.branching.specs.declared.rounds.Step.{Step}
use Rattle.branching.specs.declared.search.Progress.{Progress}
use Rattle.branching.specs.Internal.Growth as Growth
use Rattle.branching.specs.Internal.Growth.{box_at, one_of, solves, stopped, stuck_of, unsolved, AreKept, FitsProgress, HasSmallCut}
use Rattle.branching.specs.Internal.Growth.{IsAfter, IsAsked, IsCovered, IsEnded, IsGrowing, IsSettled, IsStateOf, MayGo, beaten, waits}
use Rattle.branching.specs.BestFirst.{IsBestFirst, IsBestStop}
use Rattle.branching.specs.Counts.{nodes_of, stopped_in, stopped_of, IsCounted}
use Rattle.branching.specs.Outcomes.{IsRightOutcome, IsStopped}
use Rattle.branching.specs.Internal.Search.{Found, IsAnswerOf, cost_of, point_of}
use Rattle.branching.proofs.GrowthLaws.{some_same}
use Rattle.branching.proofs.RoundLaws.{settled_after}
use Rattle.branching.proofs.CountLaws.{answer_counted}
use Rattle.branching.proofs.GrownLaws.{done_best, done_counted, done_grown, halted_best, halted_counted, halted_grown, new_growing}
use Rattle.branching.proofs.SearchLaws.{answer_first, end_is_right, stop_is_right}

-- ---- whether a node has to wait

-- the least bound of the nodes that wait decides
pub waits_or_goes : (f : Frontier) (solved : Bool) (why : Why) (bound least : ℤ) → solved ≡ false → stops why ≡ 0 → IsLeast f least
    → (b : Bool) → lt_z least bound ≡ b → MatchBool b ((solved ≡ false) × (stops why ≡ 0)) (MayGo f solved why bound)
waits_or_goes f solved why bound least fresh answered first true below = (fresh, answered)
waits_or_goes f solved why bound least fresh answered first false below =
    Growth.least (λ k other waits'. let more = first k other waits' in omega (arith, ints))

-- where no node waits, one that was taken need not
pub none_goes : (f : Frontier) (solved : Bool) (why : Why) (bound : ℤ) → NoneWaits f → MayGo f solved why bound
none_goes f solved why bound none = Growth.least (λ k other waits'. absurd (none k other waits'))

-- ---- the node that is taken

-- a node that waited with a bound, and what it kept, was taken
pub record IsTaken (f g : Frontier) (key depth : ℕ) (bound : ℤ) (solved : Option Solved) : Type 0 where
  pub entry : Entry
  pub was : entry_at f key ≡ Some entry
  pub state : entry.state ≡ States.Waiting bound solved
  pub now : entry_at g key ≡ Some (with_state States.Taken entry)
  pub deep : length entry.path ≡ depth
  pub sets : SetsState f g key States.Taken

pub taken_from : (f g : Frontier) (key depth : ℕ) (bound : ℤ) (solved : Option Solved) → HasState f key (States.Waiting bound solved)
    → ((e : Entry) → entry_at f key ≡ Some e → length e.path ≡ depth) → SetsState f g key States.Taken
    → IsTaken f g key depth bound solved
taken_from f g key depth bound solved has deep sets = by (entry_at f key) refl
  where
    by : (o : Option Entry) → entry_at f key ≡ o → IsTaken f g key depth bound solved
    by None is =
        let no : None ≡ Some (States.Waiting bound solved) =
        subst (λ (o : Option Entry). option_map (λ (e : Entry). e.state) o ≡ Some (States.Waiting bound solved)) is has in
        absurd cc
    by (Some e) is =
        let same : Some e.state ≡ Some (States.Waiting bound solved) =
        subst (λ (o : Option Entry). option_map (λ (e : Entry). e.state) o ≡ Some (States.Waiting bound solved)) is has in
        record {
          entry = e;
          was = is;
          state = some_same _ _ same;
          now = sets.changed ∙ ap (option_map (with_state States.Taken)) is;
          deep = deep e is;
          sets = sets;
        }

module _ (m : Parts) (l : Limits) (found : Found) (f g : Frontier) (key depth : ℕ) (bound : ℤ) (solved : Option Solved)
    (taken : IsTaken f g key depth bound solved) where
  same_entry : (e : Entry) → entry_at g key ≡ Some e → with_state States.Taken taken.entry ≡ e
  same_entry e is = some_same _ _ (sym taken.now ∙ is)

  pub taken_here : IsSome (entry_at g key)
  taken_here = ap is_some taken.now

  pub taken_state : HasState g key States.Taken
  taken_state = ap (option_map (λ (e : Entry). e.state)) taken.now

  pub taken_depth : (e : Entry) → entry_at g key ≡ Some e → length e.path ≡ depth
  taken_depth e is = subst (λ (d : Entry). length d.path ≡ depth) (same_entry e is) taken.deep

  pub taken_nodes : sum_over one_of f ≤ l.nodes → sum_over one_of g ≤ l.nodes
  taken_nodes few = let one = taken.sets.sums one_of taken.entry taken.was in omega arith

  module _ (kept : AreKept m l (point_of found) f) where
    pub taken_area : (e : Entry) → entry_at g key ≡ Some e → IsSearchArea m (box_at m e)
    taken_area e is = subst (λ (d : Entry). IsSearchArea m (box_at m d)) (same_entry e is) (kept key taken.entry taken.was).area

    pub taken_shallow : depth ≤ l.depth
    taken_shallow = let most = (kept key taken.entry taken.was).deep in let same = taken.deep in omega arith

    pub taken_asked : ForSome solved (λ s. (e : Entry) → entry_at g key ≡ Some e
        → IsSplit m l.pivots (box_at m e) s.col s.at s.why × (stops s.why ≡ 0))
    taken_asked s is e here =
        let asked : IsAsked m l.pivots (box_at m taken.entry) bound s =
        subst (IsStateOf m l.pivots (point_of found) (box_at m taken.entry)) (taken.state ∙ ap (States.Waiting bound) is)
        (kept key taken.entry taken.was).state in
        subst (λ (d : Entry). IsSplit m l.pivots (box_at m d) s.col s.at s.why × (stops s.why ≡ 0)) (same_entry e here)
        (asked.split, asked.answered)

  -- it is solved at most as often as it may be
  works_most : (mid after : ℕ) → after ≤ mid + solves solved * l.pivots → after ≤ mid + unsolved taken.entry.state * l.pivots
  works_most mid after most = subst (λ (s : State). after ≤ mid + unsolved s * l.pivots) (sym taken.state) (by solved most)
    where
      by : (o : Option Solved) → after ≤ mid + solves o * l.pivots → after ≤ mid + unsolved (States.Waiting bound o) * l.pivots
      by None h = h
      by (Some s) h = h

  -- what holds after it was settled
  pub round_after : (found' : Found) (h : Frontier) (n : Node) (before mid after : ℕ) (step : Step)
      → ((e : Entry) → entry_at g key ≡ Some e → IsNodeOf m l.pivots (box_at m e) (cost_of found) n)
      → ForSome solved (λ s. KeepsReason s.why n) → mid + stops_of n * l.pivots ≤ after → after ≤ mid + solves solved * l.pivots
      → IsLeast f bound → IsFrontier h → IsSettled l key depth bound (is_some solved) n found found' g h step
      → IsGrowing m l found f before mid → IsAfter m l found' f h before after step
  round_after found' h n before mid after step right keeps least most first ready settled growing =
      settled_after m l found f g key taken.entry bound solved n before mid after growing taken.was taken.state first taken.sets
      (right (with_state States.Taken taken.entry) taken.now)
      (record { least = least; most = works_most mid after most })
      keeps found' h step ready
      (subst (λ (d : ℕ). IsSettled l key d bound (is_some solved) n found found' g h step) (sym taken.deep) settled)

  -- so for a round that gave an answer
  pub round_over : {E : Type 0} (r : Result Step E) (limit : ℤ) (flag : Bool) (n : Node) (x found' : Found) (k h : Frontier) (mid after : ℕ)
      → IfOk r (IsSettled l key depth limit flag n x found' k h) → limit ≡ bound → flag ≡ is_some solved → x ≡ found → k ≡ g
      → ((e : Entry) → entry_at g key ≡ Some e → IsNodeOf m l.pivots (box_at m e) (cost_of found) n)
      → ForSome solved (λ s. KeepsReason s.why n) → mid + stops_of n * l.pivots ≤ after → after ≤ mid + solves solved * l.pivots
      → IsLeast f bound → IsFrontier h
      → IfOk r (λ step. (begun : ℕ) → IsGrowing m l found f begun mid → IsAfter m l found' f h begun after step)
  round_over r limit flag n x found' k h mid after settled limit_is flag_is x_is k_is right keeps least most first ready =
      IfOk-weaker r (IsSettled l key depth limit flag n x found' k h)
      (λ step. (begun : ℕ) → IsGrowing m l found f begun mid → IsAfter m l found' f h begun after step)
      (λ step own begun growing. round_after found' h n begun mid after step right keeps least most first ready (mended step own) growing)
      settled
    where
      mended : (step : Step) → IsSettled l key depth limit flag n x found' k h step
          → IsSettled l key depth bound (is_some solved) n found found' g h step
      mended step own =
          subst (λ (j : Frontier). IsSettled l key depth bound (is_some solved) n found found' j h step) k_is
          (subst (λ (y : Found). IsSettled l key depth bound (is_some solved) n y found' k h step) x_is
          (subst (λ (b : Bool). IsSettled l key depth bound b n x found' k h step) flag_is
          (subst (λ (v : ℤ). IsSettled l key depth v flag n x found' k h step) limit_is own)))

-- what is right of the box of each node at a key is right of the area that was cut down to it
pub at_node : (P : List (ℤ × ℤ) → Type 0) (m : Parts) (f : Frontier) (key : ℕ) (whole b : List (ℤ × ℤ)) → IsSome (entry_at f key)
    → whole ≡ box_of m → ((e : Entry) → entry_at f key ≡ Some e → b ≡ box_along e.path whole)
    → ((e : Entry) → entry_at f key ≡ Some e → P (box_at m e)) → P b
at_node P m f key whole b here sides cut all = by (entry_at f key) refl
  where
    by : (o : Option Entry) → entry_at f key ≡ o → P b
    by None is = let no : false ≡ true = subst (λ (o : Option Entry). is_some o ≡ true) is here in absurd cc
    by (Some e) is = subst P (sym (cut e is ∙ ap (box_along e.path) sides)) (all e is)

-- the cut of a right split is small
pub small_cut : (m : Parts) (pivots : ℕ) (b : List (ℤ × ℤ)) (cut_at : Option ℤ) (n : Node) → IsNodeOf m pivots b cut_at n → HasSmallCut n
small_cut m pivots b cut_at (Nodes.Closed c) h = tt
small_cut m pivots b cut_at (Nodes.Whole x w c) h = tt
small_cut m pivots b cut_at (Nodes.Split s) h = h.split.cut_small

-- the certificate of a right split is one for the rows of the program
pub split_cert : (m : Parts) (pivots : ℕ) (b : List (ℤ × ℤ)) (col : ℕ) (cut : ℤ) (why : Why) → IsSplit m pivots b col cut why
    → HasCert (length m.rows) why
split_cert m pivots b col cut (Fractional x c) h = h.reasoned.1.certificate
split_cert m pivots b col cut Stopped h = tt
split_cert m pivots b col cut Wide h = tt

-- ---- from round to round

-- what holds after some rounds, where it held before
pub record GoesOn (m : Parts) (l : Limits) (old now : Progress) (before after : ℕ) : Type 0 where
  pub fits : FitsProgress m now
  pub growing : (begun : ℕ) → IsGrowing m l old.found old.open begun before → IsGrowing m l now.found now.open begun after
  pub rises : before ≤ after

-- ---- the end

-- a root alone, which waits with a number that no feasible point of the whole box costs less than
pub root_growing : (m : Parts) (l : Limits) (f : Frontier) (root : ℕ) (area : List (ℤ × ℤ)) (bound : ℤ) (begun : ℕ) → IsWithinLimits m
    → area ≡ box_of m → IsNew bound f root → IsFrontier f → 1 ≤ l.nodes
    → ((x : List ℤ) → IsFeasible m x → IsIn area x → bound ≤ℤ cost m x) → IsGrowing m l None f begun begun
root_growing m l f root area bound begun limits sides new ready few low =
    new_growing m l f root bound begun limits new ready few
    (λ x feasible. low x feasible (subst (λ (b : List (ℤ × ℤ)). IsIn b x) (sym sides) feasible.within))

module _ (m : Parts) (l : Limits) (found : Found) (f h : Frontier) (same : SameNodes f h) where
  -- what a search keeps, where no node has changed
  pub same_growing : (before after : ℕ) → IsFrontier h → IsGrowing m l found f before after → IsGrowing m l found h before after
  same_growing before after ready growing =
      let one = same.sums one_of in
      let stuck' = same.sums stuck_of in
      let stop = ap (λ n. n * l.pivots) (same.sums stopped) in
      let all = ap (λ n. n * l.pivots) one in
      let left = ap (λ n. n * l.pivots) (same.sums unsolved) in
      let few = growing.nodes in
      let none = growing.none_stuck in
      let least = growing.steps.least in
      let most = growing.steps.most in
      record {
        frontier = ready;
        kept = λ k e is. growing.kept k e (sym (same.nodes k) ∙ is);
        sound = growing.sound;
        covered = λ x feasible. by x (growing.covered x feasible);
        nodes = omega arith;
        none_stuck = omega arith;
        steps = record { least = omega arith; most = omega arith };
      }
    where
      by : (x : List ℤ) → IsCovered m found f x → IsCovered m found h x
      by x (beaten b) = beaten b
      by x (waits k e bound is w inside less) = waits k e bound (same.nodes k ∙ is) w inside less

  pub same_none : NoneWaits f → NoneWaits h
  same_none none k bound w = none k bound (w.0, sym (same.nodes k) ∙ w.1, w.2)

-- the open tree of a search that ended is whole
pub ended_ready : (m : Parts) (l : Limits) (found : Found) (h : Frontier) (before after : ℕ) (stop : Option BudgetWhat)
    → IsEnded m l found h before after stop → IsFrontier h
ended_ready m l found h before after None e = e.0.frontier
ended_ready m l found h before after (Some what) e = e.frontier

-- the tree at the end
module _ (m : Parts) (l : Limits) (found : Found) (f : Frontier) (t : PlainOpen) (tree : IsTreeOf f t) (before after : ℕ) where
  -- no node waits
  module _ (ended : IsEnded m l found f before after None) where
    pub ended_done : IsDone t
    ended_done = (done_grown m l found f t tree before after ended.0 ended.1).ends

    module _ (o : Outcome) (made : IsAnswerOf t (point_of found) o) where
      pub ended_right : IsWithinLimits m → l.nodes ≤ 1000000 → l.depth ≤ 800 → IsRightOutcome m l o
      ended_right limits few shallow =
          end_is_right m l t (sum_over one_of f) found o limits few shallow
          (done_grown m l found f t tree before after ended.0 ended.1) made

      pub ended_first : IsBestFirst m o
      ended_first =
          answer_first m t (point_of found) o ended_done (done_best m l found f t tree before after ended.0 ended.1) made

      pub ended_counted : IsCounted l (stopped_of o) (nodes_of o) before after
      ended_counted =
          answer_counted l t (point_of found) o before after ended_done
          (done_counted m l found f t tree before after ended.0 ended.1) made

  -- a limit stopped the search
  module _ (what : BudgetWhat) (ended : IsEnded m l found f before after (Some what)) where
    pub stopped_right : IsStopped m l what (places m t) (point_of found)
    stopped_right =
        stop_is_right m l t (sum_over one_of f) found what (halted_grown m l found f t tree before after what ended)

    pub stopped_first : IsBestStop m (places m t) (point_of found)
    stopped_first = halted_best m l found f t tree before after what ended

    pub stopped_once : stuck_count t ≡ 1
    stopped_once = (halted_grown m l found f t tree before after what ended).stuck

    pub stopped_counted : IsCounted l (stopped_in t) (node_count t) before after
    stopped_counted = halted_counted m l found f t tree before after what ended
