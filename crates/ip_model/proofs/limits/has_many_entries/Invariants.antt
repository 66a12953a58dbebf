use Rattle.std.proofs.Common.{◌≡◌, ◌+◌, length, sum_by, take}
use Rattle.ip_model.proofs.limits.has_many_entries.Given as goal

abbrev pub invariant-loop-row : goal.invariant-loop-row
invariant-loop-row l = l.left + sum_by (λ r. length r.coefs) (take l.row-index l.rows) ≡ 200000
