use Rattle.std.specs.Prelude.{Some, option_map, refl, map, codes}
use Rattle.std.proofs.Common.{◌∙◌, ap, sym}
use Rattle.mps_defs.specs.Lists.{last_of}
use Rattle.mps_defs.specs.Records.{words_of}
use Rattle.mps_reader.specs.Internal.Progress.{section_word}
use Rattle.mps_reader.specs.Internal.Reading.{last_section as last_word}
use Rattle.mps_reader.specs.declared.sections.Section.TheVariants.{Name, Rows, Columns, RightSides, Ranges, Bounds, End}
use Rattle.mps_reader.proofs.SectionLaws.{last_word_is, none_is_among}
use Rattle.mps_reader.proofs.ReaderLaws.{at_section, before_rows, belongs}
use Rattle.std.proofs.lemmas.Bool.{true≢false}
use Rattle.mps_reader.proofs.reader.take_item.Goals as goal

pub returns-in-None : goal.returns-in-None
returns-in-None c before h going =
    let none =
    last_word_is before c.args.draft.now.sections.items h.sections
    ∙ ap (λ ss. option_map section_word (last_of ss)) (sym c.as_slice.ensures.value)
    ∙ ap (option_map section_word) (sym c.last_section.ensures ∙ c.in-None.is) in
    before_rows before (last_word (words_of before)) c.args.line (map (λ f. f.now) c.args.fields.now)
    (none_is_among (words_of before) (codes "ROWS") none)

pub returns-in-Name : goal.returns-in-Name
returns-in-Name c before h going =
    let b =
    belongs before c.args.draft.now c.last_section.result Name h (c.last_section.ensures ∙ ap last_of c.as_slice.ensures.value)
    (c.in-Some.is ∙ ap Some c.in-Name.is) in
    before_rows before (last_word (words_of before)) c.args.line (map (λ f. f.now) c.args.fields.now) (b.later (codes "ROWS") refl)

pub returns-in-Rows : goal.returns-in-Rows
returns-in-Rows c before h going =
    let b =
    belongs before c.args.draft.now c.last_section.result Rows h (c.last_section.ensures ∙ ap last_of c.as_slice.ensures.value)
    (c.in-Some.is ∙ ap Some c.in-Rows.is) in
    at_section before _ _ _ _ (codes "ROWS") b.last (c.take_row_line.ensures before h b.there b.last)

pub returns-in-Columns : goal.returns-in-Columns
returns-in-Columns c before h going =
    let b =
    belongs before c.args.draft.now c.last_section.result Columns h (c.last_section.ensures ∙ ap last_of c.as_slice.ensures.value)
    (c.in-Some.is ∙ ap Some c.in-Columns.is) in
    at_section before _ _ _ _ (codes "COLUMNS") b.last
    (c.take_column_line.ensures before h b.there (b.rows refl) (b.none_later (codes "BOUNDS") refl))

pub returns-in-RightSides : goal.returns-in-RightSides
returns-in-RightSides c before h going =
    let b =
    belongs before c.args.draft.now c.last_section.result RightSides h (c.last_section.ensures ∙ ap last_of c.as_slice.ensures.value)
    (c.in-Some.is ∙ ap Some c.in-RightSides.is) in
    at_section before _ _ _ _ (codes "RHS") b.last (c.take_set_line.ensures before h refl b.there (b.rows refl))

pub returns-in-Ranges : goal.returns-in-Ranges
returns-in-Ranges c before h going =
    let b =
    belongs before c.args.draft.now c.last_section.result Ranges h (c.last_section.ensures ∙ ap last_of c.as_slice.ensures.value)
    (c.in-Some.is ∙ ap Some c.in-Ranges.is) in
    at_section before _ _ _ _ (codes "RANGES") b.last (c.take_set_line-in-Ranges.ensures before h refl b.there (b.rows refl))

pub returns-in-Bounds : goal.returns-in-Bounds
returns-in-Bounds c before h going =
    let b =
    belongs before c.args.draft.now c.last_section.result Bounds h (c.last_section.ensures ∙ ap last_of c.as_slice.ensures.value)
    (c.in-Some.is ∙ ap Some c.in-Bounds.is) in
    at_section before _ _ _ _ (codes "BOUNDS") b.last (c.take_bound_line.ensures before h (b.rows refl) b.last)

pub returns-in-End : goal.returns-in-End
returns-in-End c before h going =
    let b =
    belongs before c.args.draft.now c.last_section.result End h (c.last_section.ensures ∙ ap last_of c.as_slice.ensures.value)
    (c.in-Some.is ∙ ap Some c.in-End.is) in
    absurd (true≢false (sym b.there ∙ going))
