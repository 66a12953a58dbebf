use Rattle.std.specs.Prelude.{◌≡◌, ◌∷◌, true, map, refl}
use Rattle.std.proofs.Common.{◌∙◌, ap, sym, rules}
use Rattle.mps_defs.specs.Records.{words_of}
use Rattle.mps_defs.specs.Faults.{may_come}
use Rattle.mps_reader.specs.Internal.Progress.{section_word}
use Rattle.mps_reader.proofs.SectionLaws.{opening_stands}
use Rattle.mps_reader.proofs.sections.take_section.Goals as goal

pub returns : goal.returns
returns c before others h =
    let d = c.args.draft.now in
    let come : may_come (map section_word d.sections.items) (section_word c.in-Some.section) ≡ true =
    sym (c.may_come.ensures ∙ ap (λ ss. may_come (map section_word ss) (section_word c.in-Some.section)) c.as_slice.ensures.value)
    ∙ c.if-not-may_come.false in
    let comes : may_come (words_of before) c.args.word.now ≡ true =
    ap (may_come (words_of before)) (sym c.in-Some.ensures)
    ∙ ap (λ ws. may_come ws (section_word c.in-Some.section)) (sym h.sections.words)
    ∙ come in
    opening_stands before c.args.line (c.args.word.now ∷ others) c.args.word.now c.in-Some.section d _ c.in-Some.ensures comes
    (search rules) refl refl refl h
