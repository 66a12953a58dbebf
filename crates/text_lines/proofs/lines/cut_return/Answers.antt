use Rattle.text_lines.proofs.FieldLaws.{stays}
use Rattle.text_lines.proofs.lines.cut_return.Goals as goal

pub returns-in-None : goal.returns-in-None
unfolding lib.Utf8.encode
returns-in-None c = stays c.args.line.now c.in-None.ensures.cases
