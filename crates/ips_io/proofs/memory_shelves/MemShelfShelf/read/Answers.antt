use Rattle.std.proofs.Common.{◌≡◌, ◌+◌, ◌-◌, ◌≤◌, ◌++◌, List, ℕ, Some, drop, take, min, option_map, ◌∙◌, sym, ap, subst, arith, refl}
use Rattle.ips_io.specs.Places.{part_of}
use Rattle.ips_io.specs.Shelves.{Moved}
use Rattle.ips_io.proofs.ShelfLaws.{moved_part, rest_of_part}
use Rattle.ips_io.proofs.memory_shelves.MemShelfShelf.read.Goals as goal

pub returns-clause-bytes : goal.returns-clause-bytes
returns-clause-bytes c old known =
    let b = c.self.inside.table.buffer in
    let part = c.in-Some.part in
    let n = c.min-n.result in
    let here : Some (part_of b part) ≡ Some old =
    sym (ap (option_map (part_of b)) c.in-Some.is) ∙ ap (λ v. v.left) c.self.view_is ∙ known in
    let same : part_of b part ≡ old = cc in
    let within = c.self.invariant.0 part c.in-Some.is in
    let piece = c.self.invariant.1 in
    let room = c.requires.room in
    let fits : n ≤ part.length = omega (arith, c.min-n.ensures) in
    let some : min part.length 1 ≤ n = omega (arith, c.min-n.ensures, c.min.ensures) in
    let count : part.start + n - part.start ≡ n = omega arith in
    let copied : c.copy_from_slice.new.self ≡ take n (drop part.start b) =
    c.copy_from_slice.ensures.after ∙ ap (λ k. take k (drop part.start c.buffer.result.now)) count
    ∙ ap (λ xs. take n (drop part.start xs)) c.buffer.ensures
    in
    let P : List ℕ → Type 0 = λ x. Moved x (Some (part_of b (record { start = part.start + n; length = part.length - n }))) n
    (c.copy_from_slice.new.self ++ drop n c.args.into.now) in
    subst P same (moved_part b part n c.args.into.now c.copy_from_slice.new.self within fits some copied)

pub returns-clause-state : goal.returns-clause-state
returns-clause-state c =
    let b = c.self.inside.table.buffer in
    let part = c.in-Some.part in
    let n = c.min-n.result in
    let within = c.self.invariant.0 part c.in-Some.is in
    let fits : n ≤ part.length = omega (arith, c.min-n.ensures) in
    let rest = rest_of_part b part n fits in
    rw (← c.self.view_is, c.in-Some.is, c.count.ensures.counted) (rw rest refl)
