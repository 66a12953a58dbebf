use Rattle.std.proofs.Common.{◌≡◌, ◌*◌, ◌^◌, ◌≤◌, ◌+ℤ◌, option_map, drop}
use Rattle.std.specs.Int.RustNames.{unsigned_abs}
use Rattle.ip_defs.specs.Certificates.{pay}
use Rattle.leaf_cert.proofs.payments.paid.Given as goal

abbrev pub invariant-loop-row : goal.invariant-loop-row
invariant-loop-row l = record {
  paid : pay l.parts.rows l.y ≡ option_map (λ rest. l.total +ℤ rest) (pay l.parts.rows (drop l.row-index l.y));
  small : unsigned_abs l.total ≤ l.row-index * 2 ^ 98;
}
