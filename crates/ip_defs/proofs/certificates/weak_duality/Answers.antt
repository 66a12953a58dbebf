use Rattle.ip_defs.proofs.DualityLaws.{weak_duality}
use Rattle.ip_defs.proofs.certificates.weak_duality.Goals as goal

pub returns : goal.returns
returns c = weak_duality
