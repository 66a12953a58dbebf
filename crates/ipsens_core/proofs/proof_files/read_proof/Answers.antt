use Rattle.std.proofs.Common.{ap, sym, ◌∙◌, subst, ◌≡◌, length, vec_len, Err}
use Rattle.ipsens_core.specs.Internal.ProofFiles.{IsDecoded, IsProofFile}
use Rattle.ipsens_core.proofs.AskLaws.{proof_read, proof_unread}
use Rattle.ipsens_core.proofs.ReadLaws.{one_read}
use Rattle.ipsens_core.proofs.proof_files.read_proof.Goals as goal

pub returns-in-Ok-clause-file : goal.returns-in-Ok-clause-file
returns-in-Ok-clause-file g c =
    let m = c.args.model.now in
    let files = g.S.Shelf.files c.args.shelf.now in
    let files_after = g.S.Shelf.files c.read_all.new.shelf in
    let bytes = c.in-Ok.bytes.items in
    let size : length bytes ≡ vec_len c.in-Ok.bytes = ap length (sym c.as_slice.ensures.value) ∙ c.as_slice.ensures.len in
    let agrees = one_read files files_after c.as_str.result.now bytes c.read_all.ensures.files c.read_all.ensures.unknown
    c.in-Ok.ensures.whole in
    let text : IsDecoded m bytes c.decoded.result = subst (λ bs. IsDecoded m bs c.decoded.result) c.as_slice.ensures.value
    c.decoded.ensures in
    let file = proof_read m c.as_str.result.now bytes files files_after c.decoded.result agrees (rw size c.in-Ok.ensures.length) text in
    subst (λ nm. IsProofFile m files files_after nm c.decoded.result) c.as_str.ensures file

pub returns-in-Err-clause-file : goal.returns-in-Err-clause-file
returns-in-Err-clause-file g c =
    let m = c.args.model.now in
    let files = g.S.Shelf.files c.args.shelf.now in
    let files_after = g.S.Shelf.files c.read_all.new.shelf in
    let file = proof_unread m files files_after c.as_str.result.now c.in-Err.error c.in-Err.ensures.files c.in-Err.ensures.unknown
    (λ is. c.in-Err.ensures.too_long (ap Err is)) in
    subst (λ nm. IsProofFile m files files_after nm (Err c.in-Err.error)) c.as_str.ensures file
