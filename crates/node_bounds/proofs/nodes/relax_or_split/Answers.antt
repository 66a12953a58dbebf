use Rattle.std.proofs.Common.{rules, ℕ, ◌≡◌, ◌<◌, length, sym, subst, to_z, of_z, arith}
use Rattle.std.specs.Int.{w64}
use Rattle.std.proofs.lemmas.Int.{ints}
use Rattle.ip_defs.specs.Program.{high_at, low_at}
use Rattle.ip_defs.specs.Limits.{IsArea}
use Rattle.node_bounds.specs.Internal.Relaxed.{IsUnanswered}
use Rattle.node_bounds.specs.Nodes.{IsSplit}
use Rattle.node_bounds.specs.Splits.{middle}
use Rattle.node_bounds.proofs.HalvingLaws.{middle_splits}
use Rattle.node_bounds.proofs.nodes.relax_or_split.Goals as goal

pub returns-in-Between-clause-node : goal.returns-in-Between-clause-node
returns-in-Between-clause-node g c =
    let back : to_z w64 (of_z w64 c.in-Between.at) ≡ c.in-Between.at = search rules in
    let t = c.args.task.now in
    let split : IsSplit t.model.now t.pivots t.area.now c.in-Between.col c.in-Between.at c.in-Between.why =
    rw c.in-Between.is at c.in_ok-cert.ensures.relaxed in
    (rw back at (c.split_or_close.ensures.node c.args.task.now.pivots)) split

pub returns-in-Unanswered-clause-node : goal.returns-in-Unanswered-clause-node
returns-in-Unanswered-clause-node g c =
    let m = c.args.task.now.model.now in
    let b = c.args.task.now.area.now in
    let j = c.args.widest in
    let why = c.in-Unanswered.why in
    let within : j < length b = c.requires.widest.within in
    let area = c.requires.task.area.area in
    let size : length b ≡ length m.columns = area.size in
    let own : IsArea (length b) b = subst (λ (n : ℕ). IsArea n b) (sym size) area in
    let small_low = own.low j within in
    let small_high = own.high j within in
    let low : to_z w64 (of_z w64 (low_at b j)) ≡ low_at b j = omega (arith, ints) in
    let high : to_z w64 (of_z w64 (high_at b j)) ≡ high_at b j = omega (arith, ints) in
    let is : c.middle-at.result ≡ middle (low_at b j) (high_at b j) = rw (c.as_slice.ensures, low, high) at c.middle-at.ensures in
    let back : to_z w64 (of_z w64 c.middle-at.result) ≡ c.middle-at.result = search rules in
    let reason : IsUnanswered m c.args.task.now.pivots b why = rw c.in-Unanswered.is at c.in_ok-cert.ensures.relaxed in
    let halved : IsSplit m c.args.task.now.pivots b j (middle (low_at b j) (high_at b j)) why =
    middle_splits m c.args.task.now.pivots b j why own size c.requires.open c.requires.widest c.requires.wide reason in
    (rw (back, is) at (c.split_or_close-in-Unanswered.ensures.node c.args.task.now.pivots)) halved
