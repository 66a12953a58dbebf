use Rattle.std.proofs.Common.{◌∙◌, ap, sym}
use Rattle.std.specs.Prelude.{map, flat_map}
use Rattle.std.proofs.lemmas.List.{take_all}
use Rattle.text_lines.proofs.FieldLaws.{fields_by_parts, parts_of}
use Rattle.text_lines.proofs.fields.fields_of.Goals as goal

pub returns : goal.returns
returns c =
    let words = c.as_slice-word-items.result.now in
    let all = take_all c.loop-word.word-index words c.loop-word-test.false in
    c.loop-word.invariant
    ∙ ap (λ l. flat_map parts_of (map (λ x. x.now) l)) (all ∙ c.as_slice-word-items.ensures.value)
    ∙ ap (flat_map parts_of) c.in_ok-words.ensures
    ∙ sym (fields_by_parts c.args.line.now)
