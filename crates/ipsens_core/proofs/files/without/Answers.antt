use Rattle.std.proofs.Common.{refl}
use Rattle.ipsens_core.proofs.files.without.Goals as goal

pub returns-in-Refused : goal.returns-in-Refused
returns-in-Refused c = rw c.in-Refused.is (c.says.result, refl, c.says.ensures)
