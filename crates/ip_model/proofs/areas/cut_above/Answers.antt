use Rattle.std.proofs.Common.{rules, arith, ◌≡◌, ◌+ℤ◌, pos, to_z, of_z}
use Rattle.std.specs.Int.{w64, int_max}
use mir.Val.{SFits}
use Rattle.std.proofs.lemmas.Int.{ints, to_z-of_z}
use Rattle.ip_defs.specs.Program.{low_at, high_at}
use Rattle.ip_model.proofs.areas.cut_above.Goals as goal

pub returns-clause-cut : goal.returns-clause-cut
returns-clause-cut c =
    let b = c.args.area.now in
    let j = c.args.j in
    let cut = c.args.cut in
    let fits_low : SFits w64 (low_at b j) = search rules in
    let fits_high : SFits w64 (high_at b j) = search rules in
    let fits_cut : SFits w64 cut = search rules in
    let read_low = to_z-of_z w64 (low_at b j) fits_low in
    let read_high = to_z-of_z w64 (high_at b j) fits_high in
    let read_cut = to_z-of_z w64 cut fits_cut in
    let back : to_z w64 (of_z w64 c.raised-low.result) ≡ c.raised-low.result = omega (arith, ints) in
    let raised : c.raised-low.result ≡ int_max (low_at b j) (cut +ℤ pos 1) = rw (
      c.as_slice.ensures,
      read_low,
      read_cut,
    ) at c.raised-low.ensures in
    rw (c.as_slice.ensures, back, raised, read_high) at c.set.ensures
