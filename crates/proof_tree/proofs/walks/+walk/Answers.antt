use Rattle.std.proofs.Common.{rules, arith, ℕ, ◌≡◌, ◌∙◌, ◌<◌, ◌≤ℤ◌, ap, sym, to_z, of_z, length}
use Rattle.std.specs.Int.{w64}
use Rattle.ip_defs.specs.Boxes.{below, above}
use Rattle.ip_defs.specs.Program.{low_at, high_at}
use Rattle.ip_defs.specs.declared.programs.Parts.{Parts}
use Rattle.leaf_cert.specs.Changes.{changed_by}
use Rattle.leaf_cert.specs.Scratches.{FitsScratch}
use Rattle.proof_tree.specs.LabelledTrees.{depth}
use Rattle.proof_tree.specs.Trees.{plain, bound_min, bound_over}
use Rattle.proof_tree.proofs.TreeLaws.{bound_split}
use Rattle.proof_tree.proofs.WalkLaws.{no_half, below_size, above_size, below_within, above_within, put_back}
use Rattle.proof_tree.proofs.walks.+walk.Goals as goal
use Rattle.proof_tree.proofs.walks.+walk.Goals.{In-Split, After-cut_below, After-cut_above, then-cut_below, else-cut_below}
use Rattle.proof_tree.proofs.walks.+walk.Goals.{then-cut_above, else-cut_above}

-- ---- the box during the walk

same_number : (t : ℕ) (c : In-Split t) → to_z w64 (of_z w64 c.in-Split.at) ≡ c.in-Split.at
same_number t c = search rules

is_below : (t : ℕ) (c : After-cut_below t) → c.cut_below.new.area ≡ below c.args.area.now c.in-Split.col c.in-Split.at
is_below t c = rw (same_number t (goal.at.After-cut_below t c).In-Split) at c.cut_below.ensures.cut

-- after the left half the box is still cut, and then its column is restored
is_put_back : (t : ℕ) (c : After-cut_above t) → c.set.new.self ≡ c.args.area.now
is_put_back t c =
    let cut = is_below t (goal.at.After-cut_above t c).After-cut_below in
    let lowered : c.if-cut_below.area ≡ below c.args.area.now c.in-Split.col c.in-Split.at =
    elim c.if-cut_below.branch [
      | then-cut_below w ↦ w.area-is ∙ w.walk-below.ensures.restored ∙ cut
      | else-cut_below w ↦ w.area-is ∙ cut
    ] in
    rw c.as_slice.ensures at c.set.ensures ∙ put_back c.args.area.now c.if-cut_below.area c.in-Split.col _ lowered

is_above : (t : ℕ) (c : After-cut_above t) → c.cut_above.new.area ≡ above c.args.area.now c.in-Split.col c.in-Split.at
is_above t c =
    let back = same_number t (goal.at.After-cut_above t c).In-Split in
    rw (back, is_put_back t c) at c.cut_above.ensures.cut

-- ---- the goals

pub walk-below-requires : goal.walk-below-requires
walk-below-requires t c =
    let n : ℕ = length c.args.model.now.columns in
    let numbers = rw c.in-Split.is at c.requires.numbers in
    let columns = rw c.in-Split.is at c.requires.columns in
    let rows = rw c.in-Split.is at c.requires.rows in
    let deep = rw c.in-Split.is at c.decreases in
    let is = c.deref.ensures in
    let cut = is_below t (goal.at.walk-below-requires t c).After-cut_below in
    let area = below_within n c.args.area.now c.in-Split.col c.in-Split.at columns.0 numbers.1 c.requires.area in
    let falls : depth (plain c.deref.result.now) < t = rw is (omega arith) in
    (falls, (c.requires.change, (rw is numbers.2, (rw is columns.1, (rw is rows.0, (rw cut area, c.requires.scratch))))))

pub walk-above-requires : goal.walk-above-requires
walk-above-requires t c =
    let m = c.args.model.now in
    let b = c.args.area.now in
    let j = c.in-Split.col in
    let z = c.in-Split.at in
    let numbers = rw c.in-Split.is at c.requires.numbers in
    let columns = rw c.in-Split.is at c.requires.columns in
    let rows = rw c.in-Split.is at c.requires.rows in
    let deep = rw c.in-Split.is at c.decreases in
    let is = c.deref-then-cut_above.ensures in
    let cut = is_above t (goal.at.walk-above-requires t c).After-cut_above in
    let some : low_at (above b j z) j ≤ℤ high_at (above b j z) j = rw cut at (c.cut_above.ensures.open.0 c.if-cut_above.true) in
    let area = above_within (length m.columns) b j z columns.0 numbers.1 c.requires.area some in
    let falls : depth (plain c.deref-then-cut_above.result.now) < t = rw is (omega arith) in
    let scratch : FitsScratch m c.if-cut_below.scratch =
    elim c.if-cut_below.branch [
      | then-cut_below w ↦ rw w.scratch-is (w.walk-below.ensures.scratch ∙ c.requires.scratch)
      | else-cut_below w ↦ rw w.scratch-is c.requires.scratch
    ] in
    (falls, (c.requires.change, (rw is numbers.3, (rw is columns.2, (rw is rows.1, (rw cut area, scratch))))))

pub returns-after-cut_above-clause-bound : goal.returns-after-cut_above-clause-bound
returns-after-cut_above-clause-bound t c =
    let m : Parts = changed_by c.args.model.now c.args.change in
    let b = c.args.area.now in
    let j = c.in-Split.col in
    let cut = c.in-Split.at in
    let left = plain c.in-Split.left.value in
    let right = plain c.in-Split.right.value in
    let columns = rw c.in-Split.is at c.requires.columns in
    let lowered = is_below t (goal.at.returns-after-cut_above-clause-bound t c).After-cut_below in
    let raised = is_above t (goal.at.returns-after-cut_above-clause-bound t c).After-cut_above in
    let within : j < length b = omega (arith, columns.0, c.requires.area.size) in
    let no_left = no_half m left c.cut_below.new.area j c.cut_below.result (rw lowered (below_size b j cut within)) in
    let no_right = no_half m right c.cut_above.new.area j c.cut_above.result (rw raised (above_size b j cut within)) in
    let first : c.if-cut_below.below ≡ bound_over m left (below b j cut) =
    elim c.if-cut_below.branch [
      | then-cut_below w ↦ w.below-is ∙ rw (w.deref.ensures, lowered) at w.walk-below.ensures.bound
      | else-cut_below w ↦ w.below-is ∙ sym (rw lowered at (no_left w.if-cut_below.false c.cut_below.ensures.open))
    ] in
    let second : c.if-cut_above.above ≡ bound_over m right (above b j cut) =
    elim c.if-cut_above.branch [
      | then-cut_above w ↦ w.above-is ∙ rw (w.deref-then-cut_above.ensures, raised) at w.walk-above.ensures.bound
      | else-cut_above w ↦ w.above-is ∙ sym (rw raised at (no_right w.if-cut_above.false c.cut_above.ensures.open))
    ] in
    c.lesser.ensures ∙ ap (λ v. bound_min v c.if-cut_above.above) first ∙ ap (bound_min (bound_over m left (below b j cut))) second
    ∙ sym (bound_split m b j cut left right) ∙ ap (λ (s : _). bound_over m (plain s) b) (sym c.in-Split.is)

pub returns-after-cut_above-clause-restored : goal.returns-after-cut_above-clause-restored
returns-after-cut_above-clause-restored t c =
    let b = c.args.area.now in
    let j = c.in-Split.col in
    let cut = is_above t (goal.at.returns-after-cut_above-clause-restored t c).After-cut_above in
    let raised : c.if-cut_above.area ≡ above b j c.in-Split.at =
    elim c.if-cut_above.branch [
      | then-cut_above w ↦ w.area-is ∙ w.walk-above.ensures.restored ∙ cut
      | else-cut_above w ↦ w.area-is ∙ cut
    ] in
    rw c.as_slice.ensures at c.set-in-Split.ensures ∙ put_back b c.if-cut_above.area j _ raised
