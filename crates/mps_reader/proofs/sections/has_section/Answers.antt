use Rattle.std.specs.Prelude.{bytes_eq}
use Rattle.std.proofs.Common.{rules, tests, ◌∙◌}
use Rattle.std.proofs.lemmas.Iterator.{YieldsList-from_slice}
use Rattle.std.proofs.lemmas.Iterator.Search.{any_from_yields_List}
use Rattle.mps_reader.specs.Internal.Progress.{section_word}
use Rattle.mps_defs.proofs.ListLaws.{any_of_map}
use Rattle.mps_reader.proofs.sections.has_section.Goals as goal

pub returns : goal.returns
returns c =
    any_from_yields_List (λ s. bytes_eq (section_word c.args.section) (section_word s)) _ _ _ c.any.ensures.ran
    (YieldsList-from_slice c.args.sections.now cc) (λ x b q k. search (rules, tests))
    ∙ any_of_map (bytes_eq (section_word c.args.section)) section_word c.args.sections.now
