use Rattle.tree_format.proofs.ReadLaws.{answered, stepped}
use Rattle.tree_format.proofs.readers.TreeReader.step.Goals as goal

pub returns-clause-answer : goal.returns-clause-answer
returns-clause-answer c = λ bytes h. answered c.args.self.now c.take.new.self bytes c.args.byte c.take.result c.take.ensures.step h

pub returns-clause-read : goal.returns-clause-read
returns-clause-read c = λ bytes h. stepped c.args.self.now c.take.new.self bytes c.args.byte c.take.result c.take.ensures.step h
