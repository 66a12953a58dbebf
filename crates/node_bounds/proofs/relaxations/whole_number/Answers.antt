use Rattle.std.proofs.Common.{arith, ◌∙◌, ap, subst}
use Rattle.std.proofs.lemmas.Int.{ints}
use Rattle.frac128.specs.Rationals.{of}
use Rattle.node_bounds.specs.Internal.Relaxed.{IsSmallNumber}
use Rattle.node_bounds.proofs.WholeLaws.{small_whole, whole_is}
use Rattle.node_bounds.proofs.relaxations.whole_number.Goals as goal

pub overflow_cast-result : goal.overflow_cast-result
overflow_cast-result c =
    let is = whole_is c.args.number c.num.ensures.fraction c.requires.whole in
    let small = small_whole c.args.number.num (subst IsSmallNumber is c.requires.small) in
    omega (arith, ints, c.num.ensures.value)

pub returns : goal.returns
returns c =
    let is = whole_is c.args.number c.num.ensures.fraction c.requires.whole in
    let small = small_whole c.args.number.num (subst IsSmallNumber is c.requires.small) in
    is ∙ ap of (omega (arith, ints, c.num.ensures.value))
