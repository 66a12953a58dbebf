use Rattle.text_laws.proofs.PrintableReadLaws.{models_printable}
use Rattle.text_laws.proofs.ReadCanonicalLaws.{models_canonical, models_read_back}
use Rattle.text_laws.proofs.laws.models_read_are_canonical.Goals as goal

pub returns-clause-printable : goal.returns-clause-printable
returns-clause-printable c = models_printable

pub returns-clause-canonical : goal.returns-clause-canonical
returns-clause-canonical c = models_canonical

pub returns-clause-read_back : goal.returns-clause-read_back
returns-clause-read_back c = models_read_back
