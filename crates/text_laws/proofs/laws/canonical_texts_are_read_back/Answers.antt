use Rattle.text_laws.proofs.ModelReadLaws.{model_read}
use Rattle.text_laws.proofs.NoFaultLaws.{none_found}
use Rattle.text_laws.proofs.laws.canonical_texts_are_read_back.Goals as goal

pub returns-clause-no_fault : goal.returns-clause-no_fault
returns-clause-no_fault c = none_found

pub returns-clause-same_model : goal.returns-clause-same_model
returns-clause-same_model c = model_read
