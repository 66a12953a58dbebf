use Rattle.std.specs.Prelude.{map, drop, length, ◌-◌, ◌≤◌}
use Rattle.std.proofs.Common.{ap, sym, ◌∙◌, arith}
use Rattle.std.proofs.lemmas.List.{drop-map, length-drop, take_all}
use Rattle.question_text.proofs.data.words_after.Goals as goal

pub returns-then-count-words : goal.returns-then-count-words
returns-then-count-words c =
    let words = c.args.words.now in
    let few : length (drop c.args.count words) ≤ length words - c.args.count = omega (arith, length-drop c.args.count words) in
    ap (map (λ w. w.now)) (take_all _ (drop c.args.count words) few) ∙ sym (drop-map (λ w. w.now) c.args.count words)
