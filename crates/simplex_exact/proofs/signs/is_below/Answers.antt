use Rattle.std.proofs.Common.{◌∙◌}
use Rattle.simplex_exact.proofs.SignLaws.{is_less}
use Rattle.simplex_exact.proofs.signs.is_below.Goals as goal

pub returns : goal.returns
returns c = c.eq.ensures ∙ is_less c.cmp.result c.args.a c.args.c c.cmp.ensures.order
