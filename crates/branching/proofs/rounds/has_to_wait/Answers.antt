use Rattle.std.proofs.Common.{rules, refl, ◌≡◌, to_z, of_z}
use Rattle.std.specs.Int.{w128}
use Rattle.std.specs.Int.Signed.{lt_z}
use Rattle.branching.proofs.LoopLaws.{none_goes, waits_or_goes}
use Rattle.branching.proofs.rounds.has_to_wait.Goals as goal

pub returns-in-Some : goal.returns-in-Some
returns-in-Some c =
    let least = c.in-Some.least in
    let bound = c.args.bound in
    let same_least : to_z w128 (of_z w128 least) ≡ least = search rules in
    let same_bound : to_z w128 (of_z w128 bound) ≡ bound = search rules in
    rw (same_least, same_bound) (waits_or_goes c.args.frontier.now c.args.solved c.args.why.now bound least c.if-solved.false
    c.if-not-is_fractional.ensures c.in-Some.ensures.least (lt_z least bound) refl)

pub returns-in-None : goal.returns-in-None
returns-in-None c = none_goes c.args.frontier.now c.args.solved c.args.why.now c.args.bound c.in-None.ensures.none
