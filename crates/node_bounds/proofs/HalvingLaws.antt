-- The widest column of a box, and the split at its middle.
use Rattle.std.specs.Prelude.{◌≡◌, ℕ, ◌+◌, ◌<◌, List, length, ℤ, pos, negsuc, ◌+ℤ◌, ◌≤ℤ◌, ◌<ℤ◌}
use Rattle.std.specs.Int.{int_div_euclid}
use Rattle.std.proofs.Common.{arith, refl, below_more}
use Rattle.std.proofs.lemmas.Int.{ints}
use Rattle.ip_defs.specs.declared.programs.Parts.{Parts}
use Rattle.ip_defs.specs.Boxes.{IsOpen}
use Rattle.ip_defs.specs.Limits.{IsArea}
use Rattle.ip_defs.specs.Program.{low_at, high_at}
use Rattle.ip_defs.proofs.BoxLaws.{below_open, above_open}
use Rattle.node_bounds.specs.Nodes.{IsSplit}
use Rattle.node_bounds.specs.declared.reasons.Why.{Why}
use Rattle.node_bounds.specs.declared.reasons.Why.TheVariants.{Fractional, Stopped, Wide}
use Rattle.node_bounds.specs.Reasons.{IsTrueReason}
use Rattle.node_bounds.specs.Internal.Relaxed.{IsUnanswered}
use Rattle.proof_tree.specs.LabelledTrees.{split_at}
use Rattle.node_bounds.specs.Splits.{IsWidest, middle, width_at}

-- among the columns below j this one is the first of the widest, where one has more than one number
pub record IsWidestBelow (b : List (ℤ × ℤ)) (j widest : ℕ) (most : ℤ) : Type 0 where
  pub most_is : pos 0 ≤ℤ most
  pub within : pos 0 <ℤ most → widest < j
  pub reached : pos 0 <ℤ most → width_at b widest ≡ most
  pub none : (k : ℕ) → k < j → width_at b k ≤ℤ most
  pub first : pos 0 <ℤ most → (k : ℕ) → k < widest → width_at b k <ℤ most

pub widest_more : (b : List (ℤ × ℤ)) (j widest : ℕ) (most width : ℤ) → IsWidestBelow b j widest most → width ≡ width_at b j → most <ℤ width
    → IsWidestBelow b (j + 1) j width
widest_more b j widest most width so is more = record {
  most_is = let m = so.most_is in omega (arith, ints);
  within = λ h. omega arith;
  reached = λ h. omega (arith, ints);
  none = below_more _ _ (λ k l. let before = so.none k l in omega (arith, ints)) (omega (arith, ints));
  first = λ h k l. let before = so.none k l in omega (arith, ints);
}

pub widest_same : (b : List (ℤ × ℤ)) (j widest : ℕ) (most width : ℤ) → IsWidestBelow b j widest most → width ≡ width_at b j → width ≤ℤ most
    → IsWidestBelow b (j + 1) widest most
widest_same b j widest most width so is less = record {
  most_is = so.most_is;
  within = λ h. let before = so.within h in omega arith;
  reached = so.reached;
  none = below_more _ _ so.none (omega (arith, ints));
  first = so.first;
}

pub widest_is : (b : List (ℤ × ℤ)) (widest : ℕ) (most : ℤ) → IsWidestBelow b (length b) widest most → pos 0 <ℤ most → IsWidest b widest
widest_is b widest most so h = record {
  within = so.within h;
  widest = λ j l. let is = so.reached h in let less = so.none j l in omega (arith, ints);
  first = λ j l. let is = so.reached h in let less = so.first h j l in omega (arith, ints);
}

middle_inside : (lo hi : ℤ) → lo <ℤ hi → (lo ≤ℤ middle lo hi) × (middle lo hi <ℤ hi)
middle_inside lo hi h = by (lo +ℤ hi) refl
  where
    by : (s : ℤ) → lo +ℤ hi ≡ s → (lo ≤ℤ int_div_euclid s (pos 2)) × (int_div_euclid s (pos 2) <ℤ hi)
    by (pos n) e = (omega (arith, ints), omega (arith, ints))
    by (negsuc n) e = (omega (arith, ints), omega (arith, ints))

-- the middle of the widest column splits a box, where that column has more than one number, for a reason that is true of the box
pub middle_splits : (m : Parts) (pivots : ℕ) (b : List (ℤ × ℤ)) (col : ℕ) (why : Why) → IsArea (length b) b → length b ≡ length m.columns
    → IsOpen b
    → IsWidest b col → low_at b col <ℤ high_at b col → IsUnanswered m pivots b why
    → IsSplit m pivots b col (middle (low_at b col) (high_at b col)) why
middle_splits m pivots b col why area size open' widest wide is =
    let z = middle (low_at b col) (high_at b col) in
    let within : col < length b = widest.within in
    let inside = middle_inside (low_at b col) (high_at b col) wide in
    let low = area.low col within in
    let high = area.high col within in
    let from = inside.0 in
    let to' = inside.1 in
    record {
      reasoned = (
        record {
          col = within;
          left = below_open b col z within from to' open';
          right = above_open b col z within from to' open';
        },
        reason why is,
      );
      column = omega (arith, within, size);
      cut_small = omega (arith, ints);
    }
  where
    reason : (why : Why) → IsUnanswered m pivots b why → IsTrueReason m pivots (split_at b col (middle (low_at b col) (high_at b col))) why
    reason (Fractional x c) is = absurd is
    reason Stopped is = (record { widest = widest; cut = refl }, is)
    reason Wide is = (record { widest = widest; cut = refl }, is)
