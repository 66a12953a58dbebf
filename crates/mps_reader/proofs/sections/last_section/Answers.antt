use Rattle.std.proofs.Common.{◌∙◌, sym}
use Rattle.mps_reader.proofs.PlaceLaws.{last_by_number}
use Rattle.mps_reader.proofs.sections.last_section.Goals as goal

pub returns : goal.returns
returns c = c.copied.ensures ∙ c.last.ensures.value ∙ sym (last_by_number c.args.sections.now)
