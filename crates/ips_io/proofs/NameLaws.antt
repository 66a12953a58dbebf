-- Names one after another in a buffer.
use Rattle.std.proofs.Common.{◌≡◌, ℕ, ◌+◌, ◌≤◌, List, [], ◌∷◌, ◌++◌, take, drop, length, Some, None, suc}
use Rattle.std.proofs.Common.{Bool, true, false, ◌<◌, ◌&&◌, nat_lt, nat_le, refl, ap, arith, length-drop, if◌then◌else◌}
use Rattle.std.proofs.lemmas.Bool.Decides.{nat_tests}
use Rattle.std.proofs.lemmas.List.{take-append-le, drop-append-le, take_all}
use Rattle.ips_io.specs.BegunNames.{noted, texts_of, total_of}

-- their number
pub count_of_texts : (ns buffer : List ℕ) → length (texts_of ns buffer) ≡ length ns
count_of_texts [] buffer = refl
count_of_texts (n ∷ ns) buffer = ap suc (count_of_texts ns (drop n buffer))

-- the bytes of one more
pub total_more : (ns : List ℕ) (n : ℕ) → total_of (ns ++ n ∷ []) ≡ total_of ns + n
total_more [] n = omega arith
total_more (m ∷ ns) n = let rest = total_more ns n in omega arith

-- one more text
pub texts_more : (ns buffer text : List ℕ) → total_of ns ≡ length buffer → texts_of (ns ++ length text ∷ []) (buffer ++ text)
    ≡ texts_of ns buffer ++ text ∷ []
texts_more [] [] text filled = ap (λ t. t ∷ []) (take_all (length text) text (omega arith))
texts_more [] (b ∷ buffer) text filled = absurd (omega arith)
texts_more (n ∷ ns) buffer text filled =
    let within : n ≤ length buffer = omega arith in
    let cut = length-drop n buffer in
    let rest : total_of ns ≡ length (drop n buffer) = omega arith in
    let later = texts_more ns (drop n buffer) text rest in
    rw (take-append-le n buffer text within, drop-append-le n buffer text within) (ap (λ ts. take n buffer ∷ ts) later)

-- a name that is kept
pub noted_kept : (ns buffer name : List ℕ) → total_of ns ≡ length buffer → length ns < 8 → length name ≤ 255 →
    Some (texts_of (ns ++ length name ∷ []) (buffer ++ name)) ≡ noted (Some (texts_of ns buffer)) name
noted_kept ns buffer name filled few short =
    let count = count_of_texts ns buffer in
    let fits : nat_lt (length (texts_of ns buffer)) 8 ≡ true = grind (arith, nat_tests) in
    let whole : nat_le (length name) 255 ≡ true = grind (arith, nat_tests) in
    rw (fits, whole) (ap Some (texts_more ns buffer name filled))

-- a name behind eight names
pub noted_beyond : (ns buffer name : List ℕ) → 8 ≤ length ns → noted (Some (texts_of ns buffer)) name ≡ None
noted_beyond ns buffer name many =
    let count = count_of_texts ns buffer in
    let full : nat_lt (length (texts_of ns buffer)) 8 ≡ false = grind (arith, nat_tests) in
    rw full refl

-- a name that is too long
pub noted_long : (ns buffer name : List ℕ) → 255 < length name → noted (Some (texts_of ns buffer)) name ≡ None
noted_long ns buffer name long = by (nat_lt (length (texts_of ns buffer)) 8) where
  long_is : nat_le (length name) 255 ≡ false
  long_is = grind (arith, nat_tests)

  by : (t : Bool) → (if t && nat_le (length name) 255 then Some (texts_of ns buffer ++ name ∷ []) else None) ≡ None
  by true = rw long_is refl
  by false = refl
