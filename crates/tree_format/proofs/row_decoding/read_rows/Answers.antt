use Rattle.std.specs.Prelude.{map}
use Rattle.tree_format.specs.RowSpellings.{plain_piece}
use Rattle.tree_format.proofs.RowStepLaws.{HasCount, rows_count_fails, rows_piece_fails, rows_tail, rows_read}
use Rattle.tree_format.proofs.row_decoding.read_rows.Goals as goal

pub returns-in-Err-clause-refused : goal.returns-in-Err-clause-refused
returns-in-Err-clause-refused c = c.in-Err.ensures.fault _

pub returns-in-Err-read_count-clause-refused : goal.returns-in-Err-read_count-clause-refused
returns-in-Err-read_count-clause-refused c =
    rows_count_fails c.args.bytes.now c.read_opening.new.at c.in-Err-read_count.fault c.in-Ok.ensures.on c.in-Err-read_count.ensures.fault

pub returns-in-Err-read_pieces-clause-refused : goal.returns-in-Err-read_pieces-clause-refused
returns-in-Err-read_pieces-clause-refused c =
    let count = c.in-Ok-read_count.ensures in
    let h : HasCount c.args.bytes.now c.read_opening.new.at c.read_count.new.at c.in-Ok-read_count.count =
    record { opened = c.in-Ok.ensures.on; count = count.on; some = count.count.0; few = count.count.1 } in
    rows_piece_fails c.args.bytes.now c.read_opening.new.at c.read_count.new.at c.in-Ok-read_count.count c.in-Err-read_pieces.fault h
    c.in-Err-read_pieces.ensures.fault

pub returns-then-at-bytes-clause-refused : goal.returns-then-at-bytes-clause-refused
returns-then-at-bytes-clause-refused c =
    let count = c.in-Ok-read_count.ensures in
    let h : HasCount c.args.bytes.now c.read_opening.new.at c.read_count.new.at c.in-Ok-read_count.count =
    record { opened = c.in-Ok.ensures.on; count = count.on; some = count.count.0; few = count.count.1 } in
    let pieces = c.in-Ok-read_pieces.ensures in
    rows_tail c.args.bytes.now c.read_opening.new.at c.read_count.new.at c.read_pieces.new.at c.in-Ok-read_count.count pieces.within.0
    (map plain_piece c.in-Ok-read_pieces.pieces) h pieces.within.1 pieces.on c.if-at-bytes.true

pub returns-clause-read : goal.returns-clause-read
returns-clause-read c =
    let count = c.in-Ok-read_count.ensures in
    let h : HasCount c.args.bytes.now c.read_opening.new.at c.read_count.new.at c.in-Ok-read_count.count =
    record { opened = c.in-Ok.ensures.on; count = count.on; some = count.count.0; few = count.count.1 } in
    let pieces = c.in-Ok-read_pieces.ensures in
    rows_read c.args.bytes.now c.read_opening.new.at c.read_count.new.at c.read_pieces.new.at c.in-Ok-read_count.count pieces.within.0
    (map plain_piece c.in-Ok-read_pieces.pieces) h pieces.within.1 pieces.on c.if-at-bytes.false
