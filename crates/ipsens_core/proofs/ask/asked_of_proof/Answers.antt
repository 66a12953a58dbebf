use Rattle.std.proofs.Common.{rules}
use Rattle.proof_tree.specs.Trees.{plain}
use Rattle.proof_tree.proofs.WithinLaws.{fits_of}
use Rattle.ipsens_core.proofs.AskLaws.{not_proved_prepared, proved_prepared}
use Rattle.ipsens_core.proofs.ReadLaws.{began_none, began_one}
use Rattle.ipsens_core.proofs.ask.asked_of_proof.Goals as goal

pub check-requires-clause-fits : goal.check-requires-clause-fits
check-requires-clause-fits g c = (fits_of c.args.model.now c.args.proof.now.claim (plain c.args.proof.now.tree) c.requires.fits).1

pub check-requires-clause-point : goal.check-requires-clause-point
check-requires-clause-point g c = (fits_of c.args.model.now c.args.proof.now.claim (plain c.args.proof.now.tree) c.requires.fits).0

pub answered-requires-clause-fits : goal.answered-requires-clause-fits
answered-requires-clause-fits g c = (fits_of c.args.model.now c.args.proof.now.claim (plain c.args.proof.now.tree) c.requires.fits).1

pub answered-requires-clause-point : goal.answered-requires-clause-point
answered-requires-clause-point g c = (fits_of c.args.model.now c.args.proof.now.claim (plain c.args.proof.now.tree) c.requires.fits).0

pub returns-in-Proved-clause-prepared : goal.returns-in-Proved-clause-prepared
returns-in-Proved-clause-prepared g c =
    proved_prepared c.args.questions.now c.args.model.now c.args.proof.now.claim (plain c.args.proof.now.tree) c.check.result
    c.in-Proved.cost
    _ _ _ _ _ _ _ c.check.ensures.verdict c.in-Proved.is c.check.ensures.holds c.answered.ensures.prepared

pub returns-in-Proved-clause-names : goal.returns-in-Proved-clause-names
returns-in-Proved-clause-names g c = began_one _ _ _ _ c.answered.ensures.names

pub returns-in_err-not_proved-in_default : goal.returns-in_err-not_proved-in_default
returns-in_err-not_proved-in_default g c = record { prepared = search rules; names = began_none _ _ }

pub returns : goal.returns
returns g c = record {
  prepared = not_proved_prepared c.args.questions.now c.args.model.now c.args.proof.now.claim (plain c.args.proof.now.tree) c.check.result
      _ _ _ c.in_ok-not_proved-in_default.field-0 c.requires.fits c.check.ensures.verdict c.in_default.not-Proved
      c.in_ok-not_proved-in_default.ensures;
  names = began_none _ _;
}
