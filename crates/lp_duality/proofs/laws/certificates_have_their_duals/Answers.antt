use Rattle.lp_duality.proofs.CertificateLaws.{certificates_have_their_duals}
use Rattle.lp_duality.proofs.laws.certificates_have_their_duals.Goals as goal

pub returns : goal.returns
returns c = certificates_have_their_duals
