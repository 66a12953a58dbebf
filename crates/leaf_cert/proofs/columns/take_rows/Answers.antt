use Rattle.std.proofs.Common.{arith, ◌≡◌, ◌<◌, ap, length, refl, Some}
use Rattle.std.proofs.lemmas.Int.{ints, to_z-of_z}
use Rattle.std.specs.Prelude.{slice_get}
use Rattle.std.specs.Int.{w64}
use mir.Val.{SFits}
use Rattle.std.proofs.lemmas.Option.{slice_get_read}
use Rattle.ip_defs.specs.Program.{coefficient}
use Rattle.ip_defs.specs.Certificates.{coefficient_of, coefs_of}
use Rattle.ip_defs.specs.Limits.{index_at, value_at}
use Rattle.ip_model.proofs.WalkLaws.{place_below, small_fits}
use Rattle.leaf_cert.proofs.Taken.{taken_small, taken_more}
use Rattle.leaf_cert.proofs.columns.take_rows.Goals as goal

pub add_row-requires-clause-small : goal.add_row-requires-clause-small
add_row-requires-clause-small c = λ j l.
    let y = c.args.y.now in
    let i = c.loop-row.row-index in
    let test : i < length y = c.loop-row-test.true in
    let is = c.loop-row.invariant j l in
    let small = taken_small c.args.parts.now y i j c.requires.limits c.requires.multipliers (omega arith) in
    let place = place_below y i c.requires.ordered.rising test in
    let row = c.requires.ordered.within i test in
    let few = c.requires.limits.row_count in
    rw is (omega arith)

pub loop-row-preserved : goal.loop-row-preserved
loop-row-preserved c = λ j l.
    let y = c.args.y.now in
    let i = c.loop-row.row-index in
    let test : i < length y = c.loop-row-test.true in
    let taken = c.add_row.ensures j (omega arith) in
    let is = c.loop-row.invariant j (omega arith) in
    let m = c.args.parts.now in
    let more = taken_more m.rows y i j test in
    let row = c.index-rows-row.result in
    let inside = c.requires.ordered.within i test in
    let found : slice_get m.rows (index_at y i) ≡ Some row =
    slice_get_read m.rows (length m.rows) (index_at y i) row refl inside (rw c.as_slice-rows.ensures at c.index-rows-row.is) in
    let read : coefficient_of m.rows (index_at y i) j ≡ coefficient row.coefs j = ap (λ o. coefficient (coefs_of o) j) found in
    let fits : SFits w64 (value_at y i) = small_fits (value_at y i) (let small = (c.requires.multipliers i test) in omega (arith, ints)) in
    let back = to_z-of_z w64 (value_at y i) fits in
    let taken' = rw (back, c.as_slice.ensures, ← read) at taken in
    omega (arith, ints)
