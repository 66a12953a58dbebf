use Rattle.mps_defs.specs.Faults.{is_before}
use Rattle.std.proofs.Common.{rules, tests, ◌∙◌, sym}
use Rattle.std.proofs.lemmas.Iterator.{YieldsList-from_slice}
use Rattle.std.proofs.lemmas.Iterator.Search.{all_from_yields_List}
use Rattle.mps_reader.specs.Internal.Progress.{section_word}
use Rattle.std.proofs.lemmas.List.Folds.{list_all-map}
use Rattle.mps_reader.proofs.sections.are_before.Goals as goal

pub returns : goal.returns
returns c =
    all_from_yields_List (λ s. is_before (section_word s) (section_word c.args.later)) _ _ _ c.all.ensures.ran
    (YieldsList-from_slice c.args.sections.now cc) (λ x b q k. search (rules, tests))
    ∙ sym (list_all-map (λ word. is_before word (section_word c.args.later)) section_word c.args.sections.now)
