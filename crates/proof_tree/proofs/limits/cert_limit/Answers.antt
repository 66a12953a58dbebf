use Rattle.std.proofs.Common.{refl, ◌∙◌}
use Rattle.proof_tree.proofs.CertLaws.{cert_test}
use Rattle.proof_tree.proofs.limits.cert_limit.Goals as goal

pub returns-then-cert_ok : goal.returns-then-cert_ok
returns-then-cert_ok c = rw (cert_test 1024 c.args.cert.now c.cert_ok.result c.cert_ok.ensures ∙ c.if-cert_ok.true) refl

pub returns-else-cert_ok : goal.returns-else-cert_ok
returns-else-cert_ok c = rw (cert_test 1024 c.args.cert.now c.cert_ok.result c.cert_ok.ensures ∙ c.if-cert_ok.false) refl
