-- The certificate that needs no linear program.
use Rattle.std.specs.Prelude.{[], pos}
use Rattle.ip_defs.specs.declared.certificates.Cert.{Cert}

-- the certificate without multipliers, whose bound is the sum of a box
abbrev pub plain_cert : Cert
plain_cert = record { q = pos 1; y = [] }
