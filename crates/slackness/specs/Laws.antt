-- The lemma of complementary slackness.
use Rattle.std.specs.Prelude.{◌≡◌, List, length, ℤ}
use Rattle.ip_defs.specs.declared.certificates.Cert.{Cert}
use Rattle.ip_defs.specs.declared.programs.Parts.{Parts}
use Rattle.slackness.specs.Points.{point_of, IsOptimal}
use Rattle.slackness.specs.Tight.{IsTight}

-- a point that stands at the sides that a certificate pays is optimal, as the certificate shows
abbrev pub ComplementarySlackness : Type 0
ComplementarySlackness = (m : Parts) (b : List (ℤ × ℤ)) (d : ℤ) (n : List ℤ) (c : Cert) → length b ≡ length m.columns →
    IsTight m b d n c → IsOptimal m b (point_of d n) c
