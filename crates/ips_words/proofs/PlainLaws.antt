-- Words that are compared, found and taken by twos.
use Rattle.std.specs.Prelude.{◌≡◌, ℕ, suc, ◌-◌, ◌%◌, ◌==◌, ◌<◌, ◌≤◌, Bool, true, false, ◌&&◌, not, Option, None, Some, option_map, refl}
use Rattle.std.specs.Prelude.{List, [], ◌∷◌, length, map, get_or, take, drop, find, bytes_eq, codes}
use Rattle.std.specs.List.{list_all}
use Rattle.std.specs.Option.{option_map_or}
use Rattle.std.proofs.Common.{sym, ◌∙◌, ap, arith}
use Rattle.std.proofs.Math.Seq.{take-length}
use Rattle.ip_defs.proofs.TextLaws.{text_same}
use Rattle.mps_defs.specs.Lists.{is_among}
use Rattle.ips_words.specs.Commands.{Choice, Word, are_distinct, are_options, command_named, commands, is_choice, is_of_kind, twos}
use Rattle.ips_words.specs.Internal.Rows.{choice_row}
use Rattle.ips_words.specs.declared.commands.Choice.{Choice as OwnChoice}

-- a word that is not another
pub other_word : (a b : Word) → (b ≡ a → ⊥) → bytes_eq a b ≡ false
other_word a b other = by (bytes_eq a b) refl where
  by : (t : Bool) → bytes_eq a b ≡ t → bytes_eq a b ≡ false
  by true e = absurd (other (sym (text_same a b e)))
  by false e = e

-- a word that is none of the commands
pub no_command : (w : Word) → (w ≡ codes "solve" → ⊥) → (w ≡ codes "check" → ⊥) → (w ≡ codes "ask" → ⊥) → (w ≡ codes "sweep" → ⊥)
    → (w ≡ codes "recheck" → ⊥) → (w ≡ codes "show" → ⊥) → (w ≡ codes "trial" → ⊥) → command_named w ≡ None
unfolding commands
no_command w no_solve no_check no_ask no_sweep no_recheck no_show no_trial =
    let a = other_word (codes "solve") w no_solve in
    let b = other_word (codes "check") w no_check in
    let c = other_word (codes "ask") w no_ask in
    let d = other_word (codes "sweep") w no_sweep in
    let e = other_word (codes "recheck") w no_recheck in
    let f = other_word (codes "show") w no_show in
    let g = other_word (codes "trial") w no_trial in
    rw (a, b, c, d, e, f, g) refl

-- what is found among rows
find_map : {A B : Type 0} (test : B → Bool) (f : A → B) (xs : List A) → find test (map f xs) ≡ option_map f (find (λ x. test (f x)) xs)
find_map test f [] = refl
find_map test f (x ∷ xs) = by (find_map test f xs) (test (f x)) refl where
  by : find test (map f xs) ≡ option_map f (find (λ y. test (f y)) xs) → (t : Bool) → test (f x) ≡ t
      → find test (map f (x ∷ xs)) ≡ option_map f (find (λ y. test (f y)) (x ∷ xs))
  by rest true e = rw e refl
  by rest false e = rw e rest

-- an option of the program's own table
pub choice_found : (cs : List OwnChoice) (o v : Word) (found : Option OwnChoice) → found ≡ find (λ c. bytes_eq c.word.now o) cs
    → is_choice (map choice_row cs) (o, v) ≡ option_map_or (λ c. c.built && is_of_kind c.value v) found false
choice_found cs o v found e =
    rw (e, find_map (λ c. bytes_eq c.word o) choice_row cs) (by (find (λ c. bytes_eq c.word.now o) cs)) where
      by : (x : Option OwnChoice)
          → option_map_or (λ c. c.built && is_of_kind c.value v) (option_map choice_row x) false
          ≡ option_map_or (λ c. c.built && is_of_kind c.value v) x false
      by None = refl
      by (Some c) = refl

-- fewer than two words have no twos
pub twos_few : {A : Type 0} (f : A → Word) (xs : List A) → length xs < 2 → twos (map f xs) ≡ []
twos_few f [] few = refl
twos_few f (x ∷ []) few = refl
twos_few f (x ∷ y ∷ xs) few = absurd (omega arith)

-- the first two words and the rest
pub two_words : {A : Type 0} (f : A → Word) (xs : List A) (o v : A) → 2 ≤ length xs → o ≡ get_or xs 0 o → v ≡ get_or xs 1 v
    → map f xs ≡ f o ∷ f v ∷ map f (take (length xs - 2) (drop 2 xs))
two_words f [] o v some first second = absurd (omega arith)
two_words f (x ∷ []) o v some first second = absurd (omega arith)
two_words f (x ∷ y ∷ xs) o v some first second =
    let rest : length (x ∷ y ∷ xs) - 2 ≡ length xs = omega arith in
    rw (rest, take-length xs) (ap (λ w. f w ∷ f y ∷ map f xs) (sym first) ∙ ap (λ w. f o ∷ f w ∷ map f xs) (sym second))

-- two words more
pub even_more : (n : ℕ) → (suc (suc n) % 2 == 0) ≡ (n % 2 == 0)
even_more n = ap (λ r. r == 0) (let r : suc (suc n) % 2 ≡ n % 2 = omega arith in r)

pub options_more : (cs : List Choice) (o v : Word) (ws : List Word)
    → are_options cs (o ∷ v ∷ ws)
    ≡ (is_choice cs (o, v) && not (is_among o (map (λ p. p.0) (twos ws))) && are_options cs ws)
options_more cs o v ws =
    let all = list_all (is_choice cs) (twos ws) in
    rw (even_more (length ws)) (by (length ws % 2 == 0) (is_choice cs (o, v)) all (is_among o (map (λ p. p.0) (twos ws)))) where
      by : (even choice others again : Bool)
          → (even && (choice && others) && (not again && are_distinct (map (λ p. p.0) (twos ws))))
          ≡ (choice && not again && (even && others && are_distinct (map (λ p. p.0) (twos ws))))
      by true true true true = refl
      by true true true false = refl
      by true true false true = refl
      by true true false false = refl
      by true false others true = refl
      by true false others false = refl
      by false true others true = refl
      by false true others false = refl
      by false false others true = refl
      by false false others false = refl

-- words whose first two are an option and its value: a new choice or not, as t says
pub options_step : {A : Type 0} (f : A → Word) (cs : List Choice) (xs : List A) (o v : A) (b t : Bool) → 2 ≤ length xs
    → o ≡ get_or xs 0 o → v ≡ get_or xs 1 v
    → b ≡ (is_choice cs (f o, f v) && not (is_among (f o) (map (λ p. p.0) (twos (map f (take (length xs - 2) (drop 2 xs)))))))
    → b ≡ t → are_options cs (map f xs) ≡ (t && are_options cs (map f (take (length xs - 2) (drop 2 xs))))
options_step f cs xs o v b t some first second new is =
    let later = map f (take (length xs - 2) (drop 2 xs)) in
    ap (are_options cs) (two_words f xs o v some first second)
    ∙ options_more cs (f o) (f v) later
    ∙ ap (λ u. u && are_options cs later) (sym new ∙ is)
