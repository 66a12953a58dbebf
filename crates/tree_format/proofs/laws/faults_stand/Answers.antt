use Rattle.tree_format.proofs.StandLaws.{faults_stand}
use Rattle.tree_format.proofs.laws.faults_stand.Goals as goal

pub returns : goal.returns
returns c = faults_stand
