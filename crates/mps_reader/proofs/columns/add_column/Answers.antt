use Rattle.std.specs.Prelude.{map, string_bytes}
use Rattle.std.proofs.Common.{◌∙◌, ap, rules}
use Rattle.text_lines.proofs.NameLaws.{name_added}
use Rattle.mps_reader.proofs.columns.add_column.Goals as goal

pub returns-clause-added : goal.returns-clause-added
returns-clause-added c = record {
  names = ap (map string_bytes) c.in_ok-insert.ensures.keys
      ∙ name_added c.args.columns.now.names.keys c.in_ok-from_str.field-0 c.args.name.now c.in_ok-from_str.ensures.ok c.requires;
  columns = search rules;
  in_integers = search rules;
  open_is = search rules;
}
