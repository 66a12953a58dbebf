use Rattle.std.proofs.Common.{◌∙◌, sym, ap, Result, Ok, Err, ◌≡◌, refl}
use Rattle.tree_format.specs.Readings.{Reading}
use Rattle.tree_format.specs.Internal.Remaining.{ended_by, fault_of}
use Rattle.tree_format.specs.declared.errors.TreeError.{TreeError}
use Rattle.tree_format.specs.declared.tokens.Token.{Token}
use Rattle.tree_format.proofs.ReadLaws.{ended}
use Rattle.tree_format.proofs.readers.TreeReader.close.Goals as goal

fault_is : (r : Result (Unit {0}) TreeError) → fault_of r ≡ (ended_by r).fault
fault_is (Ok done) = refl
fault_is (Err e) = refl

pub returns-clause-fault : goal.returns-clause-fault
returns-clause-fault c = λ bytes h.
    fault_is c.ending.result ∙ ap (λ (r : Reading Token). r.fault) (sym c.ending.ensures.left) ∙ ended c.args.self.now bytes h
