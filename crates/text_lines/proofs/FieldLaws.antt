-- Fields by blanks and tabs: splitting at blanks, each piece at tabs, and dropping what is empty, is splitting at either.
use Rattle.std.specs.Prelude.{◌≡◌, ℕ, ◌==◌, ◌||◌, Bool, true, false, cond, List, [], ◌∷◌, ◌++◌, ◌-◌, if◌then◌else◌, length, take}
use Rattle.std.specs.Prelude.{slice_index_or, filter, flat_map, nat_le, refl}
use Rattle.std.specs.List.{slice_split, onto_first}
use Rattle.std.proofs.Common.{arith, ap, sym, ◌∙◌}
use Rattle.std.proofs.lemmas.Bool.{eqb-true}
use Rattle.std.proofs.lemmas.List.Splits.{slice_split-cons_yes, slice_split-cons_no}
use Rattle.mps_defs.specs.Records.{fields_of, is_blank, without_return}

abbrev pub is_space : ℕ → Bool
is_space b = b == 32

abbrev pub is_tab : ℕ → Bool
is_tab b = b == 9

abbrev pub is_there : List ℕ → Bool
is_there f = nat_le 1 (length f)

-- the parts of a word between its tabs that are not empty
abbrev pub parts_of : List ℕ → List (List ℕ)
parts_of word = filter is_there (slice_split is_tab word)

-- how a line is cut: its first field so far, the pieces after it, and the same of its first word
record Cut (line : List ℕ) : Type 0 where
  first : List ℕ
  others : List (List ℕ)
  word : List ℕ
  words : List (List ℕ)
  parts : List (List ℕ)
  cut_is : slice_split is_blank line ≡ first ∷ others
  words_are : slice_split is_space line ≡ word ∷ words
  parts_are : slice_split is_tab word ≡ first ∷ parts
  rest_is : filter is_there others ≡ filter is_there parts ++ flat_map parts_of words

-- one more piece in front of both
one_more : (a : List ℕ) (xs ys zs : List (List ℕ)) → filter is_there xs ≡ filter is_there ys ++ zs
    → filter is_there (a ∷ xs) ≡ filter is_there (a ∷ ys) ++ zs
one_more a xs ys zs e = by (is_there a)
  where
    by : (t : Bool) → cond t (a ∷ filter is_there xs) (filter is_there xs) ≡ cond t (a ∷ filter is_there ys) (filter is_there ys) ++ zs
    by true = ap (λ l. a ∷ l) e
    by false = e

cut : (line : List ℕ) → Cut line
cut [] =
    record { first = []; others = []; word = []; words = []; parts = []; cut_is = refl; words_are = refl; parts_are = refl; rest_is = refl }
cut (x ∷ xs) = by (is_space x) (is_tab x) refl refl (cut xs)
  where
    by : (s t : Bool) → is_space x ≡ s → is_tab x ≡ t → Cut xs → Cut (x ∷ xs)
    by true t e f c = record {
      first = [];
      others = c.first ∷ c.others;
      word = [];
      words = c.word ∷ c.words;
      parts = [];
      cut_is = slice_split-cons_yes is_blank x xs (ap (λ b. b || is_tab x) e) ∙ ap (λ l. [] ∷ l) c.cut_is;
      words_are = slice_split-cons_yes is_space x xs e ∙ ap (λ l. [] ∷ l) c.words_are;
      parts_are = refl;
      rest_is = one_more c.first c.others c.parts (flat_map parts_of c.words) c.rest_is
          ∙ ap (λ l. filter is_there l ++ flat_map parts_of c.words) (sym c.parts_are);
    }
    by false true e f c = record {
      first = [];
      others = c.first ∷ c.others;
      word = x ∷ c.word;
      words = c.words;
      parts = c.first ∷ c.parts;
      cut_is = slice_split-cons_yes is_blank x xs (ap (λ b. b || is_tab x) e ∙ f) ∙ ap (λ l. [] ∷ l) c.cut_is;
      words_are = slice_split-cons_no is_space x xs e ∙ ap (onto_first x) c.words_are;
      parts_are = slice_split-cons_yes is_tab x c.word f ∙ ap (λ l. [] ∷ l) c.parts_are;
      rest_is = one_more c.first c.others c.parts (flat_map parts_of c.words) c.rest_is;
    }
    by false false e f c = record {
      first = x ∷ c.first;
      others = c.others;
      word = x ∷ c.word;
      words = c.words;
      parts = c.parts;
      cut_is = slice_split-cons_no is_blank x xs (ap (λ b. b || is_tab x) e ∙ f) ∙ ap (onto_first x) c.cut_is;
      words_are = slice_split-cons_no is_space x xs e ∙ ap (onto_first x) c.words_are;
      parts_are = slice_split-cons_no is_tab x c.word f ∙ ap (onto_first x) c.parts_are;
      rest_is = c.rest_is;
    }

pub fields_by_parts : (line : List ℕ) → fields_of line ≡ flat_map parts_of (slice_split is_space line)
fields_by_parts line =
    let c = cut line in
    ap (filter is_there) c.cut_is
    ∙ one_more c.first c.others c.parts (flat_map parts_of c.words) c.rest_is
    ∙ ap (λ l. filter is_there l ++ flat_map parts_of c.words) (sym c.parts_are)
    ∙ ap (flat_map parts_of) (sym c.words_are)

-- ---- the carriage return at the end of a line

last_apart : (b : ℕ) (bs : List ℕ) → b ∷ bs ≡ take (length bs) (b ∷ bs) ++ slice_index_or (b ∷ bs) (length bs) 0 ∷ []
last_apart b [] = refl
last_apart b (c ∷ cs) = ap (λ l. b ∷ l) (last_apart c cs)

-- a line that does not end with a carriage return stays as it is
pub stays : (line : List ℕ) → ((front : List ℕ) → line ≡ front ++ 13 ∷ [] → ⊥) → line ≡ without_return line
stays [] none = refl
stays (b ∷ bs) none = by (slice_index_or (b ∷ bs) (length bs) 0 == 13) refl
  where
    size : length (b ∷ bs) - 1 ≡ length bs
    size = omega arith

    by : (t : Bool) → (slice_index_or (b ∷ bs) (length bs) 0 == 13) ≡ t → b ∷ bs ≡ without_return (b ∷ bs)
    by true e =
        absurd (none (take (length bs) (b ∷ bs)) (last_apart b bs
        ∙ ap (λ n. take (length bs) (b ∷ bs) ++ n ∷ []) (eqb-true (slice_index_or (b ∷ bs) (length bs) 0) 13 e)))
    by false e =
        sym (ap (λ n. if slice_index_or (b ∷ bs) n 0 == 13 then take n (b ∷ bs) else b ∷ bs) size
        ∙ ap (λ t. if t then take (length bs) (b ∷ bs) else b ∷ bs) e)
