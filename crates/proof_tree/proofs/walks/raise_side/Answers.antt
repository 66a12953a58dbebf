use Rattle.std.proofs.Common.{rules, ◌≡◌, ◌∙◌, ◌+ℤ◌, ap, sym, ℤ, List}
use Rattle.std.specs.Prelude.{slice_set}
use Rattle.std.specs.Int.{w64, w128}
use mir.Val.{SFits}
use Rattle.std.proofs.lemmas.Int.{to_z-of_z}
use Rattle.ip_defs.specs.Program.{box_of, low_at, high_at}
use Rattle.ip_model.specs.declared.places.Place.{Place}
use Rattle.ip_model.specs.Places.{raised}
use Rattle.proof_tree.proofs.ChangedBoxes.{lower_box, upper_box, kept_box}
use Rattle.proof_tree.proofs.walks.raise_side.Goals as goal

pub returns-in-Lower : goal.returns-in-Lower
returns-in-Lower c =
    let m = c.args.model.now in
    let area = c.args.area.now in
    let j = c.in-Lower.j in
    let read = c.as_slice.result.now in
    let low : SFits w64 (low_at read j) = search rules in
    let high : SFits w64 (high_at read j) = search rules in
    let set = rw (to_z-of_z w64 c.moved.result (search rules), to_z-of_z w64 (high_at read j) high, c.as_slice.ensures) at c.set.ensures in
    let moved = rw (to_z-of_z w64 (low_at read j) low, to_z-of_z w128 c.args.by (search rules), c.as_slice.ensures) at c.moved.ensures in
    set ∙ ap (λ z. slice_set area j (z, high_at area j)) moved
    ∙ ap (λ (b : List (ℤ × ℤ)). slice_set b j (low_at b j +ℤ c.args.by, high_at b j)) c.requires.area
    ∙ sym (lower_box m j c.args.by) ∙ ap (λ (p : Place). box_of (raised m p c.args.by)) (sym c.in-Lower.is)

pub returns-in-Upper : goal.returns-in-Upper
returns-in-Upper c =
    let m = c.args.model.now in
    let area = c.args.area.now in
    let j = c.in-Upper.j in
    let read = c.as_slice-in-Upper.result.now in
    let low : SFits w64 (low_at read j) = search rules in
    let high : SFits w64 (high_at read j) = search rules in
    let set = rw (to_z-of_z w64 c.moved-in-Upper.result (search rules), to_z-of_z w64 (low_at read j) low, c.as_slice-in-Upper.ensures)
    at c.set-in-Upper.ensures in
    let moved = rw (to_z-of_z w64 (high_at read j) high, to_z-of_z w128 c.args.by (search rules), c.as_slice-in-Upper.ensures)
    at c.moved-in-Upper.ensures in
    set ∙ ap (λ z. slice_set area j (low_at area j, z)) moved
    ∙ ap (λ (b : List (ℤ × ℤ)). slice_set b j (low_at b j, high_at b j +ℤ c.args.by)) c.requires.area
    ∙ sym (upper_box m j c.args.by) ∙ ap (λ (p : Place). box_of (raised m p c.args.by)) (sym c.in-Upper.is)

pub returns-in-Cost : goal.returns-in-Cost
returns-in-Cost c = c.requires.area ∙ sym (kept_box c.args.model.now c.args.place c.args.by c.in-Cost.is)
