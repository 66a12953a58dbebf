use Rattle.std.specs.Prelude.{not}
use Rattle.std.proofs.Common.{◌∙◌, sym, ap, map, string_bytes}
use Rattle.ip_defs.specs.Lists.{first_of, when}
use Rattle.mps_defs.specs.Lists.{is_among}
use Rattle.mps_defs.specs.Numbers.{is_number}
use Rattle.mps_defs.specs.declared.reading.MpsError.TheVariants as Out
use Rattle.text_lines.proofs.NameLaws.{place_of_name}
use Rattle.mps_reader.proofs.TakingLaws.{met, not_met, where_none}
use Rattle.mps_defs.proofs.PlaceLaws.{unknown, known}
use Rattle.mps_reader.proofs.entries.read_entry.Goals as goal

pub returns-in-Some-read_number : goal.returns-in-Some-read_number
returns-in-Some-read_number c =
    (sym (place_of_name c.args.rows.now.names.keys c.args.row.now) ∙ sym c.in-Some.ensures.index, sym c.in-Some-read_number.ensures.number)

pub returns-in-None-read_number : goal.returns-in-None-read_number
returns-in-None-read_number c =
    let names = map string_bytes c.args.rows.now.names.keys in
    let row = c.args.row.now in
    let text = c.args.text.now in
    let at = sym (place_of_name c.args.rows.now.names.keys row) ∙ sym c.in-Some.ensures.index in
    let none = where_none (is_number text) _ (sym c.in-None-read_number.ensures.number) in
    ap first_of (not_met (not (is_among row names)) (Out.UnknownRow c.args.line) (when (not (is_number text)) (Out.Number c.args.line))
    (ap not (known row names c.in-Some.place at)))
    ∙ ap (λ b. first_of (when (not b) (Out.Number c.args.line))) none

pub returns-in-None : goal.returns-in-None
returns-in-None c =
    let names = map string_bytes c.args.rows.now.names.keys in
    let row = c.args.row.now in
    let text = c.args.text.now in
    let at = sym (place_of_name c.args.rows.now.names.keys row) ∙ sym c.in-None.ensures.index in
    met (not (is_among row names)) (Out.UnknownRow c.args.line) (when (not (is_number text)) (Out.Number c.args.line))
    (ap not (unknown row names at))
