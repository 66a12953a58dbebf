use Rattle.std.specs.Prelude.{map}
use Rattle.tree_format.specs.RowSpellings.{plain_piece}
use Rattle.tree_format.proofs.RowUniqueLaws.{rows_spelled_once, rows_refused}
use Rattle.tree_format.proofs.row_decoding.decode_rows.Goals as goal

pub returns-in-Ok-clause-only : goal.returns-in-Ok-clause-only
returns-in-Ok-clause-only c = λ ps s. (rows_spelled_once c.args.bytes.now (map plain_piece c.in-Ok.pieces) ps c.in-Ok.ensures.read s, tt)

pub returns-in-Err-clause-only : goal.returns-in-Err-clause-only
returns-in-Err-clause-only c = λ ps s. (tt, rows_refused c.args.bytes.now ps c.in-Err.fault s c.in-Err.ensures.refused)
