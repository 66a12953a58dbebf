use Rattle.std.specs.Prelude.{◌≡◌, ℕ, Bool, false, Option, None, Some, List, map, position, bytes_eq, string_bytes}
use Rattle.std.specs.Option.{is_some}
use Rattle.std.proofs.Common.{String, Global, ap, sym, refl, ◌∙◌}
use Rattle.std.proofs.lemmas.Bool.{true≢false}
use Rattle.ip_defs.specs.Lists.{when}
use Rattle.mps_defs.specs.Lists.{is_among}
use Rattle.text_lines.proofs.NameLaws.{name_added, name_found}
use Rattle.question_text.specs.Lines.{allowed}
use Rattle.question_text.specs.declared.errors.TextError.TheVariants as Refused
use Rattle.question_text.proofs.directions.add_name.Goals as goal

none_of : (o : Option ℕ) → is_some o ≡ false → o ≡ None
none_of None h = refl
none_of (Some k) h = absurd (true≢false h)

-- whether a name is among those of a set, by what the set finds
found_as : (keys : List (String Global)) (bytes name : List ℕ) (o : Option ℕ) (t : Bool)
    → o ≡ position (λ k. bytes_eq bytes (string_bytes k)) keys → bytes ≡ name → t ≡ is_some o → is_among name (map string_bytes keys) ≡ t
found_as keys bytes name o t index is some =
    sym (name_found keys name)
    ∙ ap is_some (sym (index ∙ ap (λ n. position (λ k. bytes_eq n (string_bytes k)) keys) is))
    ∙ sym some

pub returns-then-is_some-clause-name : goal.returns-then-is_some-clause-name
returns-then-is_some-clause-name c =
    ap (λ t. allowed (when t (Refused.Word c.args.line)))
    (found_as c.args.moved.now.keys _ (string_bytes c.args.name) _ _ c.get_index_of.ensures.index c.as_str.ensures.value c.is_some.ensures
    ∙ c.if-is_some.true)

pub returns-clause-name : goal.returns-clause-name
returns-clause-name c =
    ap (λ t. allowed (when t (Refused.Word c.args.line)))
    (found_as c.args.moved.now.keys _ (string_bytes c.args.name) _ _ c.get_index_of.ensures.index c.as_str.ensures.value c.is_some.ensures
    ∙ c.if-is_some.false)

pub returns-clause-added : goal.returns-clause-added
returns-clause-added c =
    let keys = c.args.moved.now.keys in
    let at = c.get_index_of.ensures.index ∙ ap (λ n. position (λ k. bytes_eq n (string_bytes k)) keys) c.as_str.ensures.value in
    let none = sym at ∙ none_of c.get_index_of.result (sym c.is_some.ensures ∙ c.if-is_some.false) in
    ap (map string_bytes) c.in-Ok.ensures.keys ∙ name_added keys c.args.name (string_bytes c.args.name) refl none
