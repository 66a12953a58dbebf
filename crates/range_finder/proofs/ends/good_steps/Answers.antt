use Rattle.std.proofs.Common.{rules}
use Rattle.range_finder.specs.Internal.Asked.{IsGood, steps_by}
use Rattle.range_finder.proofs.EndLaws.{none_good, some_steps}
use Rattle.range_finder.proofs.ends.good_steps.Goals as goal

pub last_good-requires-clause-apart : goal.last_good-requires-clause-apart
last_good-requires-clause-apart c =
    let bad : ¬ IsGood c.args.asked.now (steps_by c.args.first.up c.args.first.steps) = search rules in
    some_steps c.args.asked.now c.args.first.up c.args.first.steps c.requires.now bad
