use Rattle.sens_report.specs.StopTexts.{grown_count}
use Rattle.sens_report.proofs.stop_texts.+grown_nodes.Given as goal

abbrev pub decreases-grown_nodes : goal.decreases-grown_nodes
decreases-grown_nodes l = grown_count l.tree.now
