use Rattle.std.specs.Prelude.{◌≡◌, ℕ, List, [], ◌∷◌, length, map, Err, refl}
use Rattle.std.proofs.Common.{rules, sym, ◌∙◌}
use Rattle.std.proofs.lemmas.List.{length-map}
use Rattle.question_text.specs.SweepFiles.{cost_line}
use Rattle.question_text.specs.declared.errors.TextError.TheVariants as Refused
use Rattle.question_text.proofs.heads.cost_line.Goals.{in_default-via-then-words-lt2, in_default-via-else-words-lt2+else-words-lt3}
use Rattle.question_text.proofs.heads.cost_line.Goals as goal

not_two : (n : ℕ) (ws : List (List ℕ)) → (length ws ≡ 2 → ⊥) → cost_line n ws ≡ Err (Refused.Word n)
not_two n [] h = refl
not_two n (a ∷ []) h = refl
not_two n (a ∷ b ∷ []) h = absurd (h refl)
not_two n (a ∷ b ∷ d ∷ ws) h = refl

pub returns-in_default-clause-head : goal.returns-in_default-clause-head
returns-in_default-clause-head c =
    let words = c.args.words.now in
    let same = length-map words (λ w. w.now) in
    let other : (length words ≡ 2 → ⊥) = elim c.in_default.branch [
      | in_default-via-then-words-lt2 w ↦ λ e. search rules
      | in_default-via-else-words-lt2+else-words-lt3 w ↦ λ e. search rules
    ] in
    not_two c.args.line (map (λ w. w.now) words) (λ e. other (sym same ∙ e))
