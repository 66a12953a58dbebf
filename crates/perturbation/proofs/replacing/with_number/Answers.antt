use Rattle.std.proofs.Common.{rules}
use Rattle.std.specs.Int.{w64}
use mir.Val.{SFits}
use Rattle.std.proofs.lemmas.Int.{to_z-of_z}
use Rattle.perturbation.specs.Internal.Places.{column_changed}
use Rattle.perturbation.proofs.ReplacedLaws.{written_at}
use Rattle.perturbation.proofs.replacing.with_number.Goals as goal

pub returns : goal.returns
returns c =
    let fits : SFits w64 c.args.value = search rules in
    written_at (column_changed c.args.place (λ z. c.args.value)) c.into_vec-items.ensures c.requires c.index_mut.ensures.value
    (rw (to_z-of_z w64 c.args.value fits) at c.set_number.ensures) c.from_vec.ensures
