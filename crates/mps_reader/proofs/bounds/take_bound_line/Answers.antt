use Rattle.std.specs.Prelude.{map, codes, refl}
use Rattle.mps_defs.specs.Records.{words_of}
use Rattle.mps_reader.proofs.BoundLaws.{bound_item, wrong_count, wrong_kind}
use Rattle.mps_reader.proofs.SectionLaws.{last_is_among}
use Rattle.mps_reader.proofs.bounds.take_bound_line.Goals as goal

pub returns-in-None : goal.returns-in-None
returns-in-None c before h rows last =
    let fields = map (λ f. f.now) c.args.fields.now in
    wrong_kind before c.args.line fields rows (c.in-None.ensures (bound_item c.args.line fields) refl)

pub returns-in-None-fields_after : goal.returns-in-None-fields_after
returns-in-None-fields_after c before h rows last =
    let fields = map (λ f. f.now) c.args.fields.now in
    let l = bound_item c.args.line fields in
    let kind = c.in-Some.ensures l refl in
    wrong_count before c.args.line fields c.in-Some.kind rows kind (c.in-None-fields_after.ensures l kind refl)

pub returns : goal.returns
returns c before h rows last =
    let fields = map (λ f. f.now) c.args.fields.now in
    let l = bound_item c.args.line fields in
    let kind = c.in-Some.ensures l refl in
    c.take_bound.ensures before fields h rows (last_is_among (words_of before) (codes "BOUNDS") last)
    (c.in-Some-fields_after.ensures l kind refl)
