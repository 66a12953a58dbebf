-- The bound of a leaf by a certificate that may not be one for the rows of the model, and blanks of each length.
use Rattle.std.specs.Prelude.{◌≡◌, ℕ, if◌then◌else◌, List, length, slice_get, ℤ, Option, Some, None}
use Rattle.ip_defs.specs.declared.certificates.Bound.{Bound}
use Rattle.ip_defs.specs.declared.certificates.Cert.{Cert}
use Rattle.ip_defs.specs.declared.programs.Parts.{Parts}
use Rattle.ip_defs.specs.Certificates.{leaf_bound}
use Rattle.proof_tree.specs.Trees.{is_cert}

-- the bound of a leaf over a box, or none where its certificate is none for the rows
abbrev pub cert_bound : Parts → List (ℤ × ℤ) → Cert → Option Bound
cert_bound m b c = if is_cert (length m.rows) c then Some (leaf_bound m b c) else None

-- each certificate has as many multipliers as its number
abbrev pub AreBlank : List Cert → Type 0
AreBlank certs = (n : ℕ) (c : Cert) → slice_get certs n ≡ Some c → length c.y ≡ n
