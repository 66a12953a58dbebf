use Rattle.std.proofs.Common.{◌∙◌, ap}
use Rattle.std.specs.Option.{is_some}
use Rattle.ip_defs.specs.Program.{is_crossed}
use Rattle.mps_defs.proofs.PlaceLaws.{place_where_any}
use Rattle.mps_printer.proofs.names.has_crossed_row.Goals as goal

pub returns : goal.returns
returns c = c.is_some.ensures ∙ ap is_some c.crossed.ensures ∙ place_where_any is_crossed c.args.model.now.rows
