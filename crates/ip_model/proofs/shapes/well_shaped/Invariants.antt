use Rattle.ip_model.proofs.ShapeLaws.{AreShapedBelow}
use Rattle.ip_model.proofs.shapes.well_shaped.Given as goal

abbrev pub invariant-loop-row : goal.invariant-loop-row
invariant-loop-row l = AreShapedBelow l.columns l.row-items l.row-index
