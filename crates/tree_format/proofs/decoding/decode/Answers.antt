use Rattle.std.proofs.Common.{◌<◌, arith}
use Rattle.ip_defs.specs.Lists.{Each}
use Rattle.proof_tree.specs.Trees.{plain}
use Rattle.tree_format.proofs.DecodingLaws.{are_bytes, if_ok, if_err, read_is_spelled, spelled_once, spelled_refusal}
use Rattle.tree_format.proofs.decoding.decode.Goals as goal

each_byte : (c : goal.After-drop-reader-inside) → Each (λ b. b < 256) c.args.bytes.now
each_byte c = are_bytes c.args.bytes.now (λ i. (let fits = c.type_inv.bytes i in omega (arith, fits)))

pub returns-clause-spelled : goal.returns-clause-spelled
returns-clause-spelled c =
    if_ok c.read_all.result _ _ (λ p r. read_is_spelled c.args.bytes.now p.claim (plain p.tree) (each_byte c) r) c.read_all.ensures.read

pub returns-clause-only : goal.returns-clause-only
returns-clause-only c = λ d u s. (
  if_ok c.read_all.result _ _ (λ p r. spelled_once c.args.bytes.now p.claim d (plain p.tree) u
      (read_is_spelled c.args.bytes.now p.claim (plain p.tree) (each_byte c) r) s) c.read_all.ensures.read,
  if_err c.read_all.result _ _ (λ e r. spelled_refusal c.args.bytes.now d u e s r) c.read_all.ensures.refused,
)
