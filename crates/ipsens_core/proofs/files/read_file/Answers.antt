use Rattle.std.proofs.Common.{ap, subst, Err}
use Rattle.ipsens_core.specs.Internal.Files.{IsFile}
use Rattle.ipsens_core.proofs.FileLaws.{long_file}
use Rattle.ipsens_core.proofs.files.read_file.Goals as goal

pub returns-in-Err-TooLong-clause-file : goal.returns-in-Err-TooLong-clause-file
returns-in-Err-TooLong-clause-file g c =
    let files = g.S.Shelf.files c.args.shelf.now in
    let files_after = g.S.Shelf.files c.read_all.new.shelf in
    let file = long_file files files_after c.as_str.result.now c.args.longest c.args.line.now c.refused_with.result c.read_all.ensures.files
    c.read_all.ensures.unknown (c.in-Err-TooLong.ensures.too_long (ap Err c.in-Err-TooLong.field-0-is)) c.refused_with.ensures in
    subst (λ nm. IsFile files files_after nm c.args.longest c.args.line.now (Err c.refused_with.result)) c.as_str.ensures file
