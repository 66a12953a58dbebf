use Rattle.std.proofs.Common.{map, subst}
use Rattle.mps_reader.proofs.SetLaws.{set_line, Takes}
use Rattle.mps_reader.proofs.right_sides.take_set_line.Goals as goal

pub returns : goal.returns
returns c before h is there has_rows =
    let draft = c.args.draft.now in
    let set = c.in-Some.parts.0.now in
    let entries = map (λ f. f.now) c.in-Some.parts.1.now in
    let takes =
    subst (λ owner. Takes owner c.args.line entries draft.rows c.take_entries.new.rows c.take_entries.result) c.in_ok-owner.ensures.owner
    c.take_entries.ensures in
    set_line before draft c.args.section c.args.line
    (map (λ f. f.now) c.args.fields.now) set entries c.take_entries.new.rows c.owner_of.new.sets c.take_entries.result h is there has_rows
    c.in-Some.ensures c.in_ok-owner.ensures.kept takes
