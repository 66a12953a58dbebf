use Rattle.std.specs.Prelude.{map, string_bytes}
use Rattle.std.proofs.Common.{◌∙◌, ap, rules}
use Rattle.text_lines.proofs.NameLaws.{name_added}
use Rattle.mps_reader.proofs.rows.add_row.Goals as goal

pub returns : goal.returns
returns c = record {
  names = ap (map string_bytes) c.in_ok-insert.ensures.keys
      ∙ name_added c.args.table.now.names.keys c.in_ok-from_str.field-0 c.args.name.now c.in_ok-from_str.ensures.ok c.requires;
  row = c.new_row.result;
  is_new = c.new_row.ensures;
  rows = search rules;
  objective = search rules;
}
