use Rattle.std.proofs.Common.{◌∙◌, [], sym, ap, option_map}
use Rattle.ips_io.specs.Places.{part_of}
use Rattle.ips_io.proofs.TableLaws.{file_at_place, changed}
use Rattle.ips_io.proofs.tables.Table.find.Goals as goal

pub returns-in-Some-clause-content : goal.returns-in-Some-clause-content
returns-in-Some-clause-content c =
    let at = rw (c.as_slice.ensures.value, c.as_slice-2.ensures.value, c.as_bytes.ensures.value) at c.in-Some.ensures in
    let there = ap (option_map (λ p. part_of c.self.inside.buffer.items p.content)) at in
    rw (← c.self.view_is) (there ∙ file_at_place c.self.inside.lengths.items c.self.inside.buffer.items c.args.name.now)

pub returns-in-Some-clause-within : goal.returns-in-Some-clause-within
returns-in-Some-clause-within c =
    let at = rw (c.as_slice.ensures.value, c.as_slice-2.ensures.value, c.as_bytes.ensures.value) at c.in-Some.ensures in
    let filled = c.self.invariant.0 ∙ c.self.inside.buffer.ok.0 in
    rw (← c.self.view_is) (changed c.self.inside.lengths.items c.self.inside.buffer.items c.args.name.now [] c.in-Some.place filled
    (sym at)).within

pub returns-in-None-clause-content : goal.returns-in-None-clause-content
returns-in-None-clause-content c =
    let at = rw (c.as_slice.ensures.value, c.as_slice-2.ensures.value, c.as_bytes.ensures.value) at c.in-None.ensures in
    let there = ap (option_map (λ p. part_of c.self.inside.buffer.items p.content)) at in
    rw (← c.self.view_is) (there ∙ file_at_place c.self.inside.lengths.items c.self.inside.buffer.items c.args.name.now)
