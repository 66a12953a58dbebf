use Rattle.std.proofs.Common.{◌≡◌, ◌++◌, take, length}
use Rattle.std.specs.Prelude.{map, filter, nat_le}
use Rattle.text_lines.proofs.fields.push_parts.Given as goal

abbrev pub invariant-loop-part : goal.invariant-loop-part
invariant-loop-part l =
    map (λ x. x.now) l.fields.items ≡ map (λ x. x.now) l.initial.fields.items ++ filter (λ f. nat_le 1 (length f))
    (map (λ x. x.now) (take l.part-index l.part-items))
