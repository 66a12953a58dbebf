use Rattle.std.proofs.Common.{rules, refl, ◌≡◌, to_z, of_z}
use Rattle.std.specs.Int.{int_max, w64, w128}
use Rattle.branching.specs.Internal.Growth as Growth
use Rattle.branching.proofs.rounds.settle.Goals as goal
use Rattle.branching.proofs.rounds.settle.Goals.{After-max-bound}

-- the bound of a split: the greater of its own and that with which the node waited
split_bound : (c : goal.After-max-bound)
    → (to_z w128 (of_z w128 c.max-bound.result) ≡ c.max-bound.result)
    × (c.max-bound.result ≡ int_max c.in-Split.field-0.bound c.args.place.bound)
split_bound c =
    let own = c.in-Split.field-0.bound in
    let bound = c.args.place.bound in
    let same_own : to_z w128 (of_z w128 own) ≡ own = search rules in
    let same_bound : to_z w128 (of_z w128 bound) ≡ bound = search rules in
    (search rules, rw (same_own, same_bound) at c.max-bound.ensures.value)

pub returns-in-Closed-clause-settled : goal.returns-in-Closed-clause-settled
returns-in-Closed-clause-settled c = Growth.closed c.in-Closed.cert c.in-Closed.is refl c.close.ensures.closed refl

pub returns-in-Whole-clause-settled : goal.returns-in-Whole-clause-settled
returns-in-Whole-clause-settled c =
    let cost = c.in-Whole.cost in
    let back : to_z w128 (of_z w128 cost) ≡ cost = search rules in
    rw back (Growth.whole c.in-Whole.point cost c.in-Whole.cert c.in-Whole.is refl c.close-in-Whole.ensures.closed refl)

pub returns-then-has_to_wait-clause-settled : goal.returns-then-has_to_wait-clause-settled
returns-then-has_to_wait-clause-settled c =
    let s = c.in-Split.field-0 in
    let same_at : to_z w64 (of_z w64 s.at) ≡ s.at = search rules in
    let most = split_bound (goal.at.returns-then-has_to_wait-clause-settled c).After-max-bound in
    let sets = rw (same_at, most.0, most.1) at c.in_ok-wait-in-Split.ensures.waits in
    let fresh = c.if-has_to_wait.ensures in
    Growth.put_back s c.in-Split.is refl fresh.0 fresh.1 sets refl

pub returns-in-Some-clause-settled : goal.returns-in-Some-clause-settled
returns-in-Some-clause-settled c =
    let s = c.in-Split.field-0 in
    let most = split_bound (goal.at.returns-in-Some-clause-settled c).After-max-bound in
    let goes = rw (most.0, most.1) at c.if-has_to_wait.ensures in
    let cause = rw c.len.ensures at c.in-Some.ensures.some in
    Growth.halted s c.in-Some.what c.in-Split.is refl goes cause c.stick.ensures.stuck refl

pub returns-in_ok-split-in-None-clause-settled : goal.returns-in_ok-split-in-None-clause-settled
returns-in_ok-split-in-None-clause-settled c =
    let s = c.in-Split.field-0 in
    let same_at : to_z w64 (of_z w64 s.at) ≡ s.at = search rules in
    let most = split_bound (goal.at.returns-in_ok-split-in-None-clause-settled c).After-max-bound in
    let goes = rw (most.0, most.1) at c.if-has_to_wait.ensures in
    let few = rw c.len.ensures at c.in-None.ensures.none in
    let splits = rw (same_at, most.0, most.1) at c.in_ok-split-in-None.ensures.split in
    Growth.parted s c.in_ok-split-in-None.field-0.0 c.in_ok-split-in-None.field-0.1 c.in-Split.is refl goes few.0 few.1 splits refl
