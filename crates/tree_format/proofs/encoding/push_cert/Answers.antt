use Rattle.std.proofs.Common.{arith}
use Rattle.tree_format.proofs.CertSizes.{count_within}
use Rattle.tree_format.proofs.encoding.push_cert.Goals as goal

pub push_number-requires-2 : goal.push_number-requires-2
push_number-requires-2 c = rw c.as_slice.ensures (let few = count_within 1024 _ c.requires.ordered in omega arith)
