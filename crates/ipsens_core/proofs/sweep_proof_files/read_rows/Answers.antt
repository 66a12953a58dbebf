use Rattle.std.proofs.Common.{refl, subst}
use Rattle.ipsens_core.specs.Internal.SweepProofFiles.{IsRowsText}
use Rattle.ipsens_core.proofs.SweepProofLaws.{rows_read, rows_unread}
use Rattle.ipsens_core.proofs.sweep_proof_files.read_rows.Goals as goal

pub returns-in-Ok-clause-file : goal.returns-in-Ok-clause-file
returns-in-Ok-clause-file g c =
    let text = subst (λ bs. IsRowsText c.args.model.now bs c.understand.result) c.as_slice.ensures c.understand.ensures in
    rows_read c.args.model.now c.args.name.now c.in-Ok.bytes _ _ c.understand.result c.in-Ok.ensures.file text

pub returns-in-Err-clause-file : goal.returns-in-Err-clause-file
returns-in-Err-clause-file g c = rows_unread c.args.model.now c.args.name.now _ _ _ c.in-Err.unread refl c.in-Err.ensures.file
