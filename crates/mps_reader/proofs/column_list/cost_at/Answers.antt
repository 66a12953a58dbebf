use Rattle.std.proofs.Common.{◌≡◌, refl, subst, length}
use Rattle.std.specs.Prelude.{slice_get, Some}
use Rattle.std.proofs.lemmas.Option.{slice_get_read}
use Rattle.decimals.specs.Decimals.{IsBelowLarge}
use Rattle.mps_reader.proofs.column_list.cost_at.Goals as goal

pub returns-then-first-column-clause-below : goal.returns-then-first-column-clause-below
returns-then-first-column-clause-below c x e =
    let costs = c.args.costs.now in
    let first = c.in-Some.first.now in
    let found : slice_get costs c.args.next ≡ Some first =
    slice_get_read costs (length costs) c.args.next first refl c.in-Some.ensures.lookup.3.0 (c.in-Some.ensures.lookup.3.1 first) in
    let same : first.1 ≡ x = cc in
    subst IsBelowLarge same (c.requires c.args.next first found)
