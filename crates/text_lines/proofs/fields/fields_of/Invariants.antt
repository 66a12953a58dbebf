use Rattle.std.proofs.Common.{◌≡◌, take}
use Rattle.std.specs.Prelude.{map, flat_map}
use Rattle.text_lines.proofs.FieldLaws.{parts_of}
use Rattle.text_lines.proofs.fields.fields_of.Given as goal

abbrev pub invariant-loop-word : goal.invariant-loop-word
invariant-loop-word l = map (λ x. x.now) l.fields.items ≡ flat_map parts_of (map (λ x. x.now) (take l.word-index l.word-items))
