use Rattle.std.proofs.Common.{◌≡◌, ◌≤◌, ◌*◌, ◌^◌, false, take, sum_by}
use Rattle.std.specs.List.{list_any}
use Rattle.ip_defs.specs.Program.{box_of}
use Rattle.ip_defs.specs.Certificates.{is_empty_side}
use Rattle.ip_model.specs.Sizes.{width_of}
use Rattle.ip_model.proofs.widths.width_sum.Given as goal

abbrev pub invariant-loop-column : goal.invariant-loop-column
invariant-loop-column l = record {
  none : list_any is_empty_side (take l.column-index (box_of l.model)) ≡ false;
  sum : l.total ≡ sum_by width_of (take l.column-index (box_of l.model));
  small : l.total ≤ l.column-index * 2 ^ 25;
}
