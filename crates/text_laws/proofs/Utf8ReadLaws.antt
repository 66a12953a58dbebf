-- The fields of the lines of a UTF-8 text are UTF-8, since lines and fields are cut at ASCII bytes.
use Rattle.std.specs.Prelude.{◌≡◌, ℕ, zero, suc, ◌-◌, ◌<◌, ◌≤◌, ◌==◌, nat_lt, nat_le, Bool, true, false, ◌&&◌, ◌||◌, not, if◌then◌else◌}
use Rattle.std.specs.Prelude.{List, [], ◌∷◌, ◌++◌, length, take, map, slice_index_or}
use Rattle.std.specs.List.{slice_split, onto_first, list_any, enumerate_from}
use Rattle.std.specs.Char.{IsScalar}
use Rattle.std.specs.Str.{IsUtf8, is_utf8, encode_utf8_all}
use Rattle.std.proofs.Common.{refl, arith, ap, sym, ◌∙◌, subst, get_or}
use Rattle.std.proofs.Math.Utf8.{encode, scalar, scalars}
use Rattle.std.proofs.lemmas.Bool.{ltb-true, ltb-false, eqb-true}
use Rattle.std.proofs.lemmas.List.Splits.{slice_split-cons_yes, slice_split-cons_no}
use Rattle.std.proofs.lemmas.Str.{IsUtf8-append, IsUtf8-nil, IsUtf8-encode, IsUtf8-from_is_utf8, IsUtf8-take, IsCharBoundary-before_ascii}
use Rattle.std.proofs.lemmas.Str.{encode_ascii, inside_one}
use Rattle.mps_defs.specs.Lists.{with_earlier, through_first}
use Rattle.mps_defs.specs.Records.{Line, is_blank, is_star, begins_with, without_return, fields_of, numbered, is_end_line, line_of}
use Rattle.mps_defs.specs.Records.{lines_of, field, is_line_end}
use Rattle.text_laws.proofs.LineTextLaws.{split_joined}
use Rattle.text_laws.proofs.EachLaws.{each_filter, each_of_map, each_through, each_those}
use Rattle.ip_defs.proofs.BoolLaws.{both_true}
use Rattle.ip_defs.proofs.ListLaws.{each_weaker, each_numbered}
use Rattle.std.proofs.lemmas.List.{append-nil}
use Rattle.ip_defs.specs.Lists.{Each}

-- only ASCII bytes meet the test
abbrev IsLow : (ℕ → Bool) → Type 0
IsLow test = (b : ℕ) → test b ≡ true → b < 128

none_meets : (test : ℕ → Bool) (xs : List ℕ) → ((k : ℕ) → k < length xs → test (get_or xs k 0) ≡ false) → list_any test xs ≡ false
none_meets test [] h = refl
none_meets test (x ∷ xs) h = ap (λ t. t || list_any test xs) (h 0 (omega arith)) ∙ none_meets test xs (λ k l. h (suc k) (omega arith))

-- no byte of a longer character is ASCII
none_inside : (test : ℕ → Bool) → IsLow test → (c : ℕ) → 128 ≤ c → list_any test (encode c) ≡ false
none_inside test low c high = none_meets test (encode c) (λ k l. by k l (test (get_or (encode c) k 0)) refl)
  where
    by : (k : ℕ) → k < length (encode c) → (t : Bool) → test (get_or (encode c) k 0) ≡ t → t ≡ false
    by k l true e =
        absurd (let small = low (get_or (encode c) k 0) e in let same = inside_one c [] (encode c) k
        (sym (append-nil (encode c))) l small in omega arith)
    by k l false e = refl

-- a text has a first part
pub first_part : (test : ℕ → Bool) (xs : List ℕ) → (a : List ℕ) × (more : List (List ℕ)) × (slice_split test xs ≡ a ∷ more)
first_part test [] = ([], [], refl)
first_part test (x ∷ xs) = by (test x) refl (first_part test xs)
  where
    by : (t : Bool) → test x ≡ t → (a : List ℕ) × (more : List (List ℕ)) × (slice_split test xs ≡ a ∷ more)
        → (a : List ℕ) × (more : List (List ℕ)) × (slice_split test (x ∷ xs) ≡ a ∷ more)
    by true e rest = ([], slice_split test xs, slice_split-cons_yes test x xs e)
    by false e rest = (x ∷ rest.0, rest.1, slice_split-cons_no test x xs e ∙ ap (onto_first x) rest.2)

-- the parts of a character and a text
char_split : (test : ℕ → Bool) → IsLow test → (c : ℕ) → IsScalar c → (text : List ℕ) → Each IsUtf8 (slice_split test text)
    → Each IsUtf8 (slice_split test (encode c ++ text))
char_split test low c valid text rest = by (nat_lt c 128) refl (test c) refl
  where
    joined : list_any test (encode c) ≡ false → Each IsUtf8 (slice_split test (encode c ++ text))
    joined none =
        let first = first_part test text in
        let parts : Each IsUtf8 (first.0 ∷ first.1) = subst (Each IsUtf8) first.2 rest in
        subst (Each IsUtf8) (sym (split_joined test (encode c) text first.0 first.1 none first.2))
        (IsUtf8-append (encode c) first.0 (IsUtf8-encode c valid) parts.0, parts.1)

    by : (t : Bool) → nat_lt c 128 ≡ t → (u : Bool) → test c ≡ u → Each IsUtf8 (slice_split test (encode c ++ text))
    by true e true f =
        let one = encode_ascii c (ltb-true c 128 e) in
        subst (Each IsUtf8) (sym (ap (λ l. slice_split test (l ++ text)) one ∙ slice_split-cons_yes test c text f)) (IsUtf8-nil, rest)
    by true e false f =
        let one = encode_ascii c (ltb-true c 128 e) in
        joined (ap (list_any test) one ∙ ap (λ t. t || false) f)
    by false e u f = joined (none_inside test low c (ltb-false c 128 e))

-- the parts of characters
chars_split : (test : ℕ → Bool) → IsLow test → (cs : List ℕ) → scalars cs ≡ true → Each IsUtf8 (slice_split test (encode_utf8_all cs))
chars_split test low [] valid = (IsUtf8-nil, tt)
chars_split test low (c ∷ cs) valid =
    let is = both_true (scalar c) (scalars cs) valid in char_split test low c is.0 (encode_utf8_all cs) (chars_split test low cs is.1)

split_utf8 : (test : ℕ → Bool) → IsLow test → (text : List ℕ) → IsUtf8 text → Each IsUtf8 (slice_split test text)
split_utf8 test low text valid =
    let is = valid.1 in subst (λ bs. Each IsUtf8 (slice_split test bs)) is.1 (chars_split test low valid.0 is.0)

-- ---- lines and fields

low_end : IsLow is_line_end
low_end b e = omega (arith, eqb-true b 10 e)

low_blank : IsLow is_blank
low_blank b e = by (b == 32) refl e
  where
    by : (t : Bool) → (b == 32) ≡ t → (t || (b == 9)) ≡ true → b < 128
    by true f h = omega (arith, eqb-true b 32 f)
    by false f h = omega (arith, eqb-true b 9 h)

-- a line without one CR at its end
return_utf8 : (line : List ℕ) → IsUtf8 line → IsUtf8 (without_return line)
return_utf8 [] valid = valid
return_utf8 (b ∷ bs) valid = by (slice_index_or (b ∷ bs) (length (b ∷ bs) - 1) 0 == 13) refl
  where
    by : (t : Bool) → (slice_index_or (b ∷ bs) (length (b ∷ bs) - 1) 0 == 13) ≡ t
        → IsUtf8 (if t then take (length (b ∷ bs) - 1) (b ∷ bs) else b ∷ bs)
    by true e =
        let last = eqb-true (slice_index_or (b ∷ bs) (length (b ∷ bs) - 1) 0) 13 e in
        IsUtf8-take (b ∷ bs) (length (b ∷ bs) - 1) valid
        (IsCharBoundary-before_ascii (b ∷ bs) (length (b ∷ bs) - 1) (omega arith) (omega (arith, last)))
    by false e = valid

fields_utf8 : (line : List ℕ) → IsUtf8 line → Each IsUtf8 (fields_of line)
fields_utf8 line valid =
    each_filter IsUtf8 (λ f. nat_le 1 (length f)) (slice_split is_blank line) (split_utf8 is_blank low_blank line valid)

-- each field of a line is UTF-8
abbrev pub IsTextLine : Line → Type 0
IsTextLine l = Each IsUtf8 l.fields

pub lines_utf8 : (text : List ℕ) → is_utf8 text ≡ true → Each IsTextLine (lines_of text)
lines_utf8 text valid =
    let cut = split_utf8 is_line_end low_end text (IsUtf8-from_is_utf8 text valid) in
    let plain =
    each_of_map IsUtf8 without_return (slice_split is_line_end text)
    (each_weaker IsUtf8 (λ l. IsUtf8 (without_return l)) (slice_split is_line_end text) return_utf8 cut) in
    let counted = each_numbered IsUtf8 1 (map without_return (slice_split is_line_end text)) plain in
    let kept =
    each_filter (λ p. IsUtf8 p.1) (λ p. nat_le 1 (length (fields_of p.1)) && not (begins_with is_star p.1))
    (enumerate_from 1 (map without_return (slice_split is_line_end text))) counted in
    let ended = each_through (λ p. IsUtf8 p.1) is_end_line (numbered text) kept in
    each_of_map IsTextLine line_of (with_earlier (through_first is_end_line (numbered text)))
    (each_weaker (λ q. IsUtf8 q.1.1) (λ q. IsTextLine (line_of q)) (with_earlier (through_first is_end_line (numbered text)))
    (λ q h. fields_utf8 q.1.1 h) (each_those (λ p. IsUtf8 p.1) [] (through_first is_end_line (numbered text)) ended))

-- a field by its place, which is empty past the end
pub field_utf8 : (l : Line) (i : ℕ) → IsTextLine l → IsUtf8 (field l i)
field_utf8 l i all = by l.fields i all
  where
    by : (fs : List (List ℕ)) (k : ℕ) → Each IsUtf8 fs → IsUtf8 (slice_index_or fs k [])
    by [] k h = IsUtf8-nil
    by (f ∷ fs) zero h = h.0
    by (f ∷ fs) (suc k) h = by fs k h.1
