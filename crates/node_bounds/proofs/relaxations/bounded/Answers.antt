use Rattle.std.proofs.Common.{arith, ◌≡◌, ◌∙◌, sym, subst, to_z, of_z}
use Rattle.std.specs.Prelude.{◌+ℤ◌, ℤ, pos}
use Rattle.std.specs.Int.{w64, w128}
use Rattle.std.proofs.lemmas.Int.{ints}
use Rattle.frac128.specs.Rationals.{Rational, of, AtMost}
use Rattle.node_bounds.specs.declared.reasons.Why.TheVariants.{Fractional}
use Rattle.node_bounds.specs.Internal.Relaxed.{IsSmallNumber, IsWholeNumber}
use Rattle.node_bounds.specs.Nodes.{IsSplit}
use Rattle.node_bounds.proofs.BoundedLaws.{fraction_splits, number_small, point_ends}
use Rattle.node_bounds.proofs.WholeLaws.{number_read}
use Rattle.node_bounds.proofs.relaxations.bounded.Goals as goal

pub floor_of-at-requires-clause-broken : goal.floor_of-at-requires-clause-broken
floor_of-at-requires-clause-broken c =
    let found = rw c.as_slice.ensures at c.in-Some.ensures.some in
    let read = number_read c.args.point c.in-Some.col c.index-as_slice-col.result found.0
    (rw c.as_slice-in-Some.ensures at c.index-as_slice-col.is) in
    subst (λ (p : Rational). IsWholeNumber p → ⊥) read found.1

pub floor_of-at-requires-clause-small : goal.floor_of-at-requires-clause-small
floor_of-at-requires-clause-small c =
    let found = rw c.as_slice.ensures at c.in-Some.ensures.some in
    let read = number_read c.args.point c.in-Some.col c.index-as_slice-col.result found.0
    (rw c.as_slice-in-Some.ensures at c.index-as_slice-col.is) in
    subst IsSmallNumber read (number_small c.args.task.now.model.now c.args.task.now.area.now c.args.point c.args.cert c.requires.bounds
    c.requires.area c.in-Some.col found.0)

pub whole_point-requires-clause-whole : goal.whole_point-requires-clause-whole
whole_point-requires-clause-whole c = rw (c.as_slice-in-None.ensures, sym c.as_slice.ensures) c.in-None.ensures.none

pub whole_point-requires-clause-small : goal.whole_point-requires-clause-small
whole_point-requires-clause-small c =
    rw c.as_slice-in-None.ensures
    (number_small c.args.task.now.model.now c.args.task.now.area.now c.args.point c.args.cert c.requires.bounds c.requires.area)

pub returns-in-Some-clause-relaxed : goal.returns-in-Some-clause-relaxed
returns-in-Some-clause-relaxed c = λ pivots.
    let m = c.args.task.now.model.now in
    let b = c.args.task.now.area.now in
    let col = c.in-Some.col in
    let found = rw c.as_slice.ensures at c.in-Some.ensures.some in
    let read = number_read c.args.point col c.index-as_slice-col.result found.0
    (rw c.as_slice-in-Some.ensures at c.index-as_slice-col.is) in
    let cut = c.floor_of-at.result in
    let least = subst (AtMost (of cut)) (sym read) c.floor_of-at.ensures.least in
    let most = subst (λ (p : Rational). AtMost p (of (cut +ℤ pos 1))) (sym read) c.floor_of-at.ensures.most in
    let split = fraction_splits m b c.args.point c.args.cert c.requires.bounds c.requires.area pivots col cut
    c.requires.open found.0 found.1 least most in
    let small = split.cut_small in
    let back : to_z w64 (of_z w64 cut) ≡ cut = omega (arith, ints) in
    subst (λ (z : ℤ). IsSplit m pivots b col z (Fractional c.args.point c.args.cert)) (sym back) split

pub returns-in_ok-point-in-None-clause-relaxed : goal.returns-in_ok-point-in-None-clause-relaxed
returns-in_ok-point-in-None-clause-relaxed c = λ pivots.
    let x = c.in_ok-point-in-None.point in
    let size = rw c.as_slice-in-None.ensures at c.in_ok-point-in-None.ensures.size in
    let same = rw c.as_slice-in-None.ensures at c.in_ok-point-in-None.ensures.same in
    let back : to_z w128 (of_z w128 c.cost-cost.result) ≡ c.cost-cost.result = omega (arith, ints) in
    point_ends c.args.task.now.model.now c.args.task.now.area.now c.args.point c.args.cert c.requires.bounds c.requires.area x size
    same c.args.task.now.cut_at c.leaf_bound-bound.result (to_z w128 (of_z w128 c.cost-cost.result)) c.requires.open
    c.leaf_bound-bound.ensures.bound c.if-is_closed.ensures (sym c.cost-cost.ensures ∙ sym back)
