-- The stopped linear programs and the skipped splits of a tree, and that a right outcome has no more nodes than its limit.
use Rattle.std.specs.Prelude.{◌≡◌, ℕ, ◌+◌, ◌≤◌, ℤ, List, [], ◌∷◌, ◌++◌, length, Option, Some, None}
use Rattle.std.specs.List.{count_by}
use Rattle.std.proofs.Common.{refl, arith, ◌∙◌}
use Rattle.std.proofs.lemmas.List.Sums.{count_by-le-length, sum_by-append}
use Rattle.ip_defs.specs.declared.programs.Parts.{Parts}
use Rattle.ip_defs.specs.Program.{box_of}
use Rattle.proof_tree.specs.LabelledTrees.{leaf, split, node_count, splits_over, split_labels, no_label}
use Rattle.proof_tree.specs.Trees.{plain}
use Rattle.proof_tree.specs.declared.claims.Proof.{Proof}
use Rattle.proof_tree.proofs.LabelledTreeLaws.{places_counted, labels_counted, splits_counted, relabelled_count}
use Rattle.branching.specs.declared.budgets.Limits.{Limits}
use Rattle.branching.specs.declared.outcomes.Outcome.{Outcome}
use Rattle.branching.specs.declared.outcomes.Outcome.TheVariants.{Best, Empty, Budget}
use Rattle.node_bounds.specs.declared.reasons.Why.{Why}
use Rattle.node_bounds.specs.declared.reasons.Why.TheVariants.{Fractional, Stopped, Wide}
use Rattle.node_bounds.specs.Stops.{is_skipped, is_stopped, stops}
use Rattle.branching.specs.Counts.{nodes_of, stopped_in, stopped_of, AreCountsWithin, IsCounted}
use Rattle.open_nodes.specs.OpenTrees.{PlainOpen, pending, stuck, ended, cert_of, plain_open, IsDone}
use Rattle.branching.specs.Outcomes.{Pairwise, IsFinished, IsRightOutcome}
use Rattle.node_bounds.specs.Reasons.{IsReasoned}
use Rattle.branching.specs.Internal.Search.{IsAnswerOf}

-- ---- trees

-- the skipped splits of a tree are its own and those of its halves
pub skips_joined : (xs ys : List Why) → count_by is_skipped (xs ++ ys) ≡ count_by is_skipped xs + count_by is_skipped ys
skips_joined xs ys = sum_by-append _ xs ys

stops_joined : (xs ys : List Why) → count_by is_stopped (xs ++ ys) ≡ count_by is_stopped xs + count_by is_stopped ys
stops_joined xs ys = sum_by-append _ xs ys

stops_once : (why : Why) → count_by is_stopped (why ∷ []) ≡ stops why
stops_once (Fractional x c) = refl
stops_once Stopped = refl
stops_once Wide = refl

-- of a tree without open nodes the stopped linear programs are those of its splits
done_stops : (t : PlainOpen) → IsDone t → count_by is_stopped (split_labels t) ≡ stopped_in t
done_stops (leaf pending) done = absurd done
done_stops (leaf (stuck why)) done = absurd done
done_stops (leaf (ended c)) done = refl
done_stops (split col cut why left right) done =
    let p = done_stops left done.0 in
    let q = done_stops right done.1 in
    let sum = stops_joined (split_labels left) (split_labels right) in
    let own = stops_joined (why ∷ []) (split_labels left ++ split_labels right) in
    let one = stops_once why in
    own ∙ (omega arith)

-- ---- outcomes

-- the steps of a search whose tree has no open node are those of its answer
pub answer_counted : (l : Limits) (t : PlainOpen) (best : Option (List ℤ)) (o : Outcome) (before after : ℕ) → IsDone t
    → IsCounted l (stopped_in t) (node_count t) before after → IsAnswerOf t best o → IsCounted l (stopped_of o) (nodes_of o) before after
answer_counted l t None (Empty p whys) before after done counted made =
    rw (made.tree_is, made.reasons_are, relabelled_count cert_of no_label t, done_stops t done) counted
answer_counted l t (Some x) (Best p whys) before after done counted made =
    rw (made.tree_is, made.reasons_are, relabelled_count cert_of no_label t, done_stops t done) counted
answer_counted l t None (Best p whys) before after done counted made = absurd made
answer_counted l t None (Budget what grown best) before after done counted made = absurd made
answer_counted l t (Some x) (Empty p whys) before after done counted made = absurd made
answer_counted l t (Some x) (Budget what grown best) before after done counted made = absurd made

pairs_agree : {A B : Type 0} (R : A → B → Type 0) (xs : List A) (ys : List B) → Pairwise R xs ys → length xs ≡ length ys
pairs_agree R [] [] h = refl
pairs_agree R [] (y ∷ ys) h = absurd h
pairs_agree R (x ∷ xs) [] h = absurd h
pairs_agree R (x ∷ xs) (y ∷ ys) h = let rest = pairs_agree R xs ys h.1 in omega arith

few_skipped : (m : Parts) (l : Limits) (p : Proof) (whys : List Why) → IsFinished m l p whys → count_by is_skipped whys ≤ l.nodes
few_skipped m l p whys h =
    let same = pairs_agree (IsReasoned m l.pivots) (splits_over (box_of m) (plain p.tree)) whys h.reasons in
    let few = splits_counted (box_of m) (plain p.tree) in
    let most = count_by-le-length is_skipped whys in
    let room = h.nodes in
    omega arith

pub counts_within : (m : Parts) (l : Limits) (o : Outcome) → IsRightOutcome m l o → AreCountsWithin l o
counts_within m l (Best p whys) h = record { nodes = h.1.nodes; skipped = few_skipped m l p whys h.1 }
counts_within m l (Empty p whys) h = record { nodes = h.1.nodes; skipped = few_skipped m l p whys h.1 }
counts_within m l (Budget what grown best) h =
    let t = plain_open grown in
    let same = places_counted 0 (box_of m) t in
    let few = labels_counted t in
    let most = count_by-le-length is_skipped (split_labels t) in
    let room = h.nodes in
    record { nodes = omega arith; skipped = omega arith }
