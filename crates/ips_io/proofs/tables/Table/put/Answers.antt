use Rattle.std.proofs.Common.{◌∙◌, ◌++◌, ◌∷◌, [], length, sym, ap, arith}
use Rattle.ips_io.proofs.TableLaws.{changed_at, added, same_files, filled_after, IsFilled}
use Rattle.ips_io.specs.Places.{resized, edited}
use Rattle.ips_io.specs.declared.places.Lengths.{Lengths}
use Rattle.ips_io.proofs.tables.Table.put.Goals as goal

pub change-requires-clause-index : goal.change-requires-clause-index
change-requires-clause-index c =
    let change = changed_at c.args.bytes.now c.as_slice.ensures.value c.as_slice-2.ensures.value c.as_bytes-name.ensures.value
    (c.self.invariant.0 ∙ c.self.inside.buffer.ok.0) c.in-Some.ensures in
    omega (arith, change.index, c.self.inside.lengths.ok.0)

pub change-requires-clause-within : goal.change-requires-clause-within
change-requires-clause-within c =
    let change = changed_at c.args.bytes.now c.as_slice.ensures.value c.as_slice-2.ensures.value c.as_bytes-name.ensures.value
    (c.self.invariant.0 ∙ c.self.inside.buffer.ok.0) c.in-Some.ensures in
    omega (arith, change.within, c.self.inside.buffer.ok.0)

pub invariant_of-self : goal.invariant_of-self
invariant_of-self c =
    let ls = c.self.inside.lengths.items in
    let b = c.self.inside.buffer.items in
    let place = c.in-Some.place in
    let bytes = c.args.bytes.now in
    let listed = c.self.inside.lengths.ok.0 in
    let size = c.self.inside.buffer.ok.0 in
    let filled = c.self.invariant.0 ∙ size in
    let change = changed_at bytes c.as_slice.ensures.value c.as_slice-2.ensures.value c.as_bytes-name.ensures.value filled
    c.in-Some.ensures in
    let before : IsFilled ls b c.self.inside.most_files c.self.inside.room = record {
      filled = filled;
      listed = omega arith;
      within = omega arith;
    } in
    let after =
    filled_after c.change.result ls (resized ls place.index (length bytes)) c.change.new.files.items b (edited b place.content bytes)
    c.change.new.buffer.items
    c.self.inside.most_files c.self.inside.room before c.change.ensures.files c.change.ensures.buffer c.change.ensures.same_files
    c.change.ensures.same_buffer
    (λ yes. let fits = c.change.ensures.fits.0 yes in record {
      filled = change.filled;
      listed = omega (arith, change.listed);
      within = omega (arith, change.bytes, change.within);
    })
    in (
      after.filled ∙ sym c.change.new.buffer.ok.0,
      omega (arith, after.listed, c.change.new.files.ok.0),
      omega (arith, c.change.ensures.files_room),
      omega (arith, after.within, c.change.new.buffer.ok.0),
      omega (arith, c.change.ensures.buffer_room),
    )

pub returns-in-Some-clause-fits : goal.returns-in-Some-clause-fits
returns-in-Some-clause-fits c =
    let change = changed_at c.args.bytes.now c.as_slice.ensures.value c.as_slice-2.ensures.value c.as_bytes-name.ensures.value
    (c.self.invariant.0 ∙ c.self.inside.buffer.ok.0) c.in-Some.ensures in
    let listed = c.self.inside.lengths.ok.0 in
    let size = c.self.inside.buffer.ok.0 in
    rw (← c.self.view_is) (
      λ yes. let fits = c.change.ensures.fits.0 yes in
          (omega (arith, change.count), omega (arith, change.size, change.bytes, change.within)),
      λ within. c.change.ensures.fits.1 (omega (arith, within.1, change.size, change.bytes, change.within)),
    )

pub returns-in-Some-clause-files : goal.returns-in-Some-clause-files
returns-in-Some-clause-files c =
    let ls = c.self.inside.lengths.items in
    let b = c.self.inside.buffer.items in
    let place = c.in-Some.place in
    let bytes = c.args.bytes.now in
    let change = changed_at bytes c.as_slice.ensures.value c.as_slice-2.ensures.value c.as_bytes-name.ensures.value
    (c.self.invariant.0 ∙ c.self.inside.buffer.ok.0) c.in-Some.ensures in
    rw (← c.self.view_is) (same_files c.change.result c.change.new.files.items (resized ls place.index (length bytes))
    c.change.new.buffer.items (edited b place.content bytes) _ c.change.ensures.files c.change.ensures.buffer change.files)

pub returns-in-None-clause-fits : goal.returns-in-None-clause-fits
returns-in-None-clause-fits c =
    let at = rw (c.as_slice.ensures.value, c.as_slice-2.ensures.value, c.as_bytes-name.ensures.value) at c.in-None.ensures in
    let filled = c.self.invariant.0 ∙ c.self.inside.buffer.ok.0 in
    let more = added c.self.inside.lengths.items c.self.inside.buffer.items c.args.name.now c.args.bytes.now filled (sym at) in
    let name = ap length c.as_bytes-name.ensures.value in
    let listed = c.self.inside.lengths.ok.0 in
    let size = c.self.inside.buffer.ok.0 in
    rw (← c.self.view_is) (
      λ yes. let fits = c.add.ensures.fits.0 yes in
          (omega (arith, more.count, fits.0), omega (arith, more.size, more.bytes, fits.1)),
      λ within. c.add.ensures.fits.1 (omega (arith, within.0, more.count), omega (arith, within.1, more.size, more.bytes)),
    )

pub returns-in-None-clause-files : goal.returns-in-None-clause-files
returns-in-None-clause-files c =
    let at = rw (c.as_slice.ensures.value, c.as_slice-2.ensures.value, c.as_bytes-name.ensures.value) at c.in-None.ensures in
    let filled = c.self.invariant.0 ∙ c.self.inside.buffer.ok.0 in
    let ls = c.self.inside.lengths.items in
    let b = c.self.inside.buffer.items in
    let name = c.args.name.now in
    let bytes = c.args.bytes.now in
    let more = added ls b name bytes filled (sym at) in
    let last : Lengths = record { name = length name; content = length bytes } in
    rw (← c.self.view_is) (same_files c.add.result c.add.new.files.items (ls ++ last ∷ []) c.add.new.buffer.items ((b ++ name)
    ++ bytes) _ (rw c.as_bytes-name.ensures.value at c.add.ensures.files) (rw c.as_bytes-name.ensures.value at c.add.ensures.buffer)
    more.files)
