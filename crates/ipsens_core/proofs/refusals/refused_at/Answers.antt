use Rattle.std.proofs.Common.{◌∙◌}
use Rattle.std.specs.Prelude.{decimal}
use Rattle.ipsens_core.proofs.RefusalLaws.{line_parts}
use Rattle.ipsens_core.proofs.refusals.refused_at.Goals as goal

pub returns : goal.returns
returns c = c.in_ok-format.ensures.ok ∙ line_parts c.args.file.now c.args.word.now c.args.kind.now (decimal c.args.number)
