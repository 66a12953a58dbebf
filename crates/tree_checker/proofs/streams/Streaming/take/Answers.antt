use Rattle.std.proofs.Common.{arith, ◌∷◌, [], ◌<◌}
use Rattle.tree_checker.proofs.StreamLaws.{still_failed, byte_walked}
use Rattle.tree_checker.proofs.streams.Streaming.take.Goals as goal

pub returns-in-Some-clause-read : goal.returns-in-Some-clause-read
returns-in-Some-clause-read c = λ bytes h.
    still_failed c.args.model.now c.args.self.now c.in-Some.fault bytes (c.args.byte ∷ []) c.in-Some.is h

pub returns-in-Ok-clause-read : goal.returns-in-Ok-clause-read
returns-in-Ok-clause-read c = λ bytes h.
    let small : c.args.byte < 256 = (let fits = c.ranges.byte in omega (arith, fits)) in
    byte_walked c.args.model.now c.args.self.now c.step.new.self c.take.new.self c.args.byte c.in-Ok.part bytes c.in_default.is small
    c.in-Ok.ensures.answer c.in-Ok.ensures.read c.take.ensures.taken h
