-- A line that is no comment and has a field is a data line where it is indented, and a section line otherwise.
use Rattle.std.specs.Prelude.{◌≡◌, ℕ, List, map, false, bytes_eq, codes, Ok}
use Rattle.std.proofs.Common.{◌∙◌, ap, sym, subst}
use Rattle.mps_defs.specs.Records.{fields_of, without_return}
use Rattle.mps_reader.specs.Internal.Reading.{IsLineTaken, lines_by}
use Rattle.mps_reader.proofs.ReaderLaws.{answer_of, ended_where, item_taken, opening_taken, words_read}
use Rattle.mps_reader.proofs.reader.take_line.Goals.{in-Ok, in-Err}
use Rattle.mps_reader.proofs.reader.take_line.Goals as goal

pub returns-then-is_indented : goal.returns-then-is_indented
returns-then-is_indented c ps h going =
    let p : ℕ × List ℕ = (c.args.number, without_return c.args.text.now) in
    let line = words_read c.args.number c.args.text.now _ _ _ c.in-Some.word.now _ _ _ c.cut_return-text.ensures
    (c.is_comment.ensures, c.if-is_comment.false) (c.is_indented.ensures, c.if-is_indented.true)
    c.in_ok-fields.ensures c.deref.ensures.value (sym c.in-Some.ensures.value) in
    let fields : fields_of p.1 ≡ map (λ f. f.now) c.as_slice.result.now =
    ap fields_of (sym c.cut_return-text.ensures) ∙ sym c.in_ok-fields.ensures ∙ ap (map (λ f. f.now)) (sym c.as_slice.ensures.value) in
    let taken = item_taken ps p c.in-Some.word.now.now line.0 _ c.args.draft.now _ _ line.1 fields h
    (c.take_item.ensures (lines_by ps) h (ended_where ps ∙ going)) in
    elim c.match-take_item.branch [
      | in-Ok w ↦ subst (IsLineTaken ps p c.take_item.new.draft) (ap (λ r. answer_of r false) w.in-Ok.is ∙ sym w.result-is) taken
      | in-Err w ↦ subst (IsLineTaken ps p c.take_item.new.draft) (ap (λ r. answer_of r false) w.in-Err.is ∙ sym w.result-is) taken
    ]

pub returns-in-Ok-take_section : goal.returns-in-Ok-take_section
returns-in-Ok-take_section c ps h going =
    let p : ℕ × List ℕ = (c.args.number, without_return c.args.text.now) in
    let line = words_read c.args.number c.args.text.now _ _ _ c.in-Some.word.now _ _ _ c.cut_return-text.ensures
    (c.is_comment.ensures, c.if-is_comment.false) (c.is_indented.ensures, c.if-is_indented.false)
    c.in_ok-fields.ensures c.deref.ensures.value (sym c.in-Some.ensures.value) in
    let word = c.in-Some.word.now.now in
    subst (IsLineTaken ps p c.take_section.new.draft)
    (ap (λ r. answer_of r (bytes_eq word (codes "ENDATA"))) c.in-Ok-take_section.is ∙ ap Ok (sym c.eq.ensures))
    (opening_taken ps p word line.0 c.args.draft.now _ _ line.1 h (c.take_section.ensures (lines_by ps) line.0 h))

pub returns : goal.returns
returns c ps h going =
    let p : ℕ × List ℕ = (c.args.number, without_return c.args.text.now) in
    let line = words_read c.args.number c.args.text.now _ _ _ c.in-Some.word.now _ _ _ c.cut_return-text.ensures
    (c.is_comment.ensures, c.if-is_comment.false) (c.is_indented.ensures, c.if-is_indented.false)
    c.in_ok-fields.ensures c.deref.ensures.value (sym c.in-Some.ensures.value) in
    let word = c.in-Some.word.now.now in
    subst (IsLineTaken ps p c.take_section.new.draft) (ap (λ r. answer_of r (bytes_eq word (codes "ENDATA"))) c.in-Err-take_section.is)
    (opening_taken ps p word line.0 c.args.draft.now _ _ line.1 h (c.take_section.ensures (lines_by ps) line.0 h))
