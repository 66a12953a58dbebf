use Rattle.std.proofs.Common.{◌==◌, ap, sym, ◌∙◌, false}
use Rattle.std.specs.Option.{option_map_or}
use Rattle.mps_reader.proofs.PlaceLaws.{last_by_number}
use Rattle.mps_reader.proofs.draft.RowDraft.has_column.Goals as goal

pub returns-in-Some : goal.returns-in-Some
returns-in-Some c =
    let last = last_by_number c.args.self.now.entries.items in
    let is = c.in-Some.ensures.value in
    sym (ap (λ o. option_map_or (λ p. p.0 == c.args.column) o false) (last ∙ sym (rw c.deref.ensures.value at is)))
