use Rattle.std.proofs.Common.{sym}
use Rattle.ip_model.proofs.LimitLaws.{within_limits}
use Rattle.ip_defs.specs.Limits.{limits_of}
use Rattle.ip_model.proofs.models.make.Goals as goal
use Rattle.ip_defs.proofs.ListLaws.{no_first}

pub invariant_of-result : goal.invariant_of-result
invariant_of-result c = within_limits c.args.parts c.requires (no_first (limits_of c.args.parts) (sym c.in-None.ensures))
