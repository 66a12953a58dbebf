-- Reading a number that stands at a place of bytes, a byte at a time.
use Rattle.std.specs.Prelude.{◌≡◌, ℕ, zero, suc, ◌+◌, ◌-◌, ◌*◌, ◌^◌, ◌<◌, ◌≤◌, Bool, true, false, nat_lt, List, [], ◌∷◌, ◌++◌, length}
use Rattle.std.specs.Prelude.{drop, map, None, Option, Some, ℤ, if◌then◌else◌, ◌&&◌, ◌==◌}
use Rattle.std.specs.Int.RustNames.{unsigned_abs}
use Rattle.std.proofs.Common.{arith, refl, ap, ◌∙◌, sym, subst, get_or, add-one, drop-cons, append_assoc, length-append}
use Rattle.std.proofs.Math.Nat.{mul-le-mul_right}
use Rattle.std.proofs.lemmas.Grind.{pow_more}
use Rattle.ip_defs.specs.Lists.{Each}
use Rattle.ip_defs.proofs.OrderLaws.{lt_is}
use Rattle.tree_format.specs.Readings.{Reading, stopped}
use Rattle.tree_format.specs.Numbers.{number_from, next_digit, signed, unsigned}
use Rattle.tree_format.specs.Spellings.{longest, number, signed_number}
use Rattle.tree_format.specs.Grammar.{number_at, IsErrorOf}
use Rattle.tree_format.specs.Internal.Steps.{Stands, IsNumberFault}
use Rattle.tree_format.specs.declared.errors.TreeError.{TreeError}
use Rattle.tree_format.specs.declared.errors.TreeError.TheVariants as faults
use Rattle.tree_format.specs.declared.numbers.Digit.TheVariants.{GoesOn, Ends, Fails}
use Rattle.tree_format.specs.declared.tokens.Token.{Token}
use Rattle.tree_format.specs.declared.tokens.Token.TheVariants.{Parts}
use Rattle.tree_format.proofs.GrammarLaws.{number_taken, unsigned_signed, signed_within}
use Rattle.tree_format.proofs.NumberLaws.{from_ends, from_on, from_fails}
use Rattle.tree_format.proofs.SpellingLaws.{number_is_read, signed_is_read}

-- ---- faults

pub is_error : (e : TreeError) → IsErrorOf (Some e) e
is_error faults.Memory = tt
is_error (faults.Magic p) = refl
is_error (faults.Cut p) = refl
is_error (faults.LongNumber p) = refl
is_error (faults.Order p) = refl
is_error (faults.Zero p) = refl
is_error (faults.Width p) = refl
is_error (faults.TooDeep p) = refl
is_error (faults.TooMany p) = refl
is_error (faults.Tail p) = refl
is_error (faults.Tag p) = refl

-- an error of one reading is one of another with the same fault
pub error_of : (r s : Reading Token) (e : TreeError) → r.fault ≡ s.fault → IsErrorOf s.fault e → IsErrorOf r.fault e
error_of r s e same h = subst (λ (f : Option TreeError). IsErrorOf f e) (sym same) h

pub error_at : (f g : Option TreeError) (e : TreeError) → f ≡ g → IsErrorOf g e → IsErrorOf f e
error_at f g e same h = subst (λ (f : Option TreeError). IsErrorOf f e) (sym same) h

-- without a fault, memory ran out
pub fine_error : (f : Option TreeError) (e : TreeError) → f ≡ None → IsErrorOf f e → e ≡ faults.Memory
fine_error f faults.Memory none h = refl
fine_error f (faults.Magic p) none h = absurd cc
fine_error f (faults.Cut p) none h = absurd cc
fine_error f (faults.LongNumber p) none h = absurd cc
fine_error f (faults.Order p) none h = absurd cc
fine_error f (faults.Zero p) none h = absurd cc
fine_error f (faults.Width p) none h = absurd cc
fine_error f (faults.TooDeep p) none h = absurd cc
fine_error f (faults.TooMany p) none h = absurd cc
fine_error f (faults.Tail p) none h = absurd cc
fine_error f (faults.Tag p) none h = absurd cc

-- a reading that stops has its own error
pub stops : (r : Reading Token) (e : TreeError) → r ≡ stopped e → IsErrorOf r.fault e
stops r e is = error_of r (stopped e) e (ap (λ (r : Reading Token). r.fault) is) (is_error e)

-- ---- places

pub next_drop : (bytes : List ℕ) (i : ℕ) → i < length bytes → drop i bytes ≡ get_or bytes i 0 ∷ drop (i + 1) bytes
next_drop bytes i l = drop-cons bytes i 0 l ∙ ap (λ (k : ℕ). get_or bytes i 0 ∷ drop k bytes) (sym (add-one i))

-- what stands between two places and what stands after it
pub both_stand : (bytes : List ℕ) (i j k : ℕ) (xs ys : List ℕ) → Stands bytes i j xs → Stands bytes j k ys → Stands bytes i k (xs ++ ys)
both_stand bytes i j k xs ys a b = record {
  is = a.is ∙ ap (λ (bs : List ℕ). xs ++ bs) b.is ∙ sym (append_assoc xs ys (drop k bytes));
  place = (let l = length-append xs ys in let p = a.place in let q = b.place in omega arith);
  within = b.within;
}

pub each_dropped : (i : ℕ) (bytes : List ℕ) → Each (λ b. b < 256) bytes → Each (λ b. b < 256) (drop i bytes)
each_dropped zero bytes each = each
each_dropped (suc i) [] each = tt
each_dropped (suc i) (b ∷ bytes) each = each_dropped i bytes each.1

-- ---- numbers

-- what the next byte leaves of a number of which some bytes are read
abbrev pub IsLeft : ℕ → List ℕ → ℕ → ℕ → ℕ → ℕ → Type 0
IsLeft greatest bytes start read low at = (next : ℕ → ℕ → List ℕ → Reading Token)
    → number_at greatest start (drop start bytes) next ≡ number_from longest greatest read low start (drop at bytes) next

never_on : (s t : Bool) (x y : TreeError) (w v : ℕ) → (if s then Fails x else if t then Fails y else Ends w) ≡ GoesOn v → ⊥
never_on true t x y w v e = absurd cc
never_on false true x y w v e = absurd cc
never_on false false x y w v e = absurd cc

-- low bits and high bits that are below 128
joined_small : (low d p : ℕ) → low < p → d ≤ 127 → low + d * p < p * 128
joined_small low d p l h = let m = mul-le-mul_right {m = d} {n = 127} p h in omega arith

pub goes_on : (g read low start b v : ℕ) → b < 256 → read < 6 → low < 128 ^ read → next_digit longest g read low start b ≡ GoesOn v
    → (read + 1 < 6) × (v < 128 ^ (read + 1))
goes_on g read low start b v byte few small d = by (nat_lt b 128) (nat_lt (read + 1) 6) refl refl
  where
    by : (t u : Bool) → nat_lt b 128 ≡ t → nat_lt (read + 1) 6 ≡ u → (read + 1 < 6) × (v < 128 ^ (read + 1))
    by true u e f = absurd (never_on (nat_lt 0 read && b == 0) (nat_lt g (low + b * 128 ^ read)) _ _ _ v (rw e at d))
    by false false e f = absurd (let no : Fails (faults.Width start) ≡ GoesOn v = rw (e, f) at d in cc)
    by false true e f =
        let is : GoesOn (low + (b - 128) * 128 ^ read) ≡ GoesOn v = rw (e, f) at d in
        let same : low + (b - 128) * 128 ^ read ≡ v = cc in
        let all = joined_small low (b - 128) (128 ^ read) small (omega arith) in
        (lt_is (read + 1) 6 f, rw (sym same, pow_more 128 read) all)

-- one byte more of a number that goes on
pub on_by_byte : (g : ℕ) (bytes : List ℕ) (start read low at v : ℕ) → at < length bytes → IsLeft g bytes start read low at
    → next_digit longest g read low start (get_or bytes at 0) ≡ GoesOn v → IsLeft g bytes start (read + 1) v (at + 1)
on_by_byte g bytes start read low at v l left d next =
    left next ∙ ap (λ (bs : List ℕ). number_from longest g read low start bs next) (next_drop bytes at l)
    ∙ from_on longest g read low start (get_or bytes at 0) v (drop (at + 1) bytes) next d

-- a number that ends
abbrev pub IsRead : ℕ → List ℕ → ℕ → ℕ → ℕ → Type 0
IsRead g bytes i v j = (next : ℕ → ℕ → List ℕ → Reading Token) → number_at g i (drop i bytes) next ≡ next v j (drop j bytes)

ended : (g : ℕ) (bytes : List ℕ) (start read low at v : ℕ) → at < length bytes → at ≡ start + read → IsLeft g bytes start read low at
    → next_digit longest g read low start (get_or bytes at 0) ≡ Ends v → IsRead g bytes start v (at + 1)
ended g bytes start read low at v l place left d next =
    left next ∙ ap (λ (bs : List ℕ). number_from longest g read low start bs next) (next_drop bytes at l)
    ∙ from_ends longest g read low start (get_or bytes at 0) v (drop (at + 1) bytes) next d
    ∙ ap (λ (k : ℕ). next v k (drop (at + 1) bytes)) (omega arith)

-- what a number is followed by, as parts
seen : ℕ → ℕ → List ℕ → Reading Token
seen v p rest = record { parts = Parts v ∷ Parts p ∷ map Parts rest; fault = None }

same_parts : (xs ys : List ℕ) → map Parts xs ≡ map Parts ys → xs ≡ ys
same_parts [] [] e = refl
same_parts [] (y ∷ ys) e = absurd cc
same_parts (x ∷ xs) [] e = absurd cc
same_parts (x ∷ xs) (y ∷ ys) e =
    let first : x ≡ y = cc in
    let others = same_parts xs ys (let o : map Parts xs ≡ map Parts ys = cc in o) in
    ap (λ (z : ℕ). z ∷ xs) first ∙ ap (λ (zs : List ℕ). y ∷ zs) others

-- numbers before other bytes are one where the bytes are
pub same_number : (g v w : ℕ) (xs ys : List ℕ) → g < 2 ^ 42 → v ≤ g → w ≤ g → number v ++ xs ≡ number w ++ ys → (v ≡ w) × (xs ≡ ys)
unfolding seen
same_number g v w xs ys small l m e =
    let both = sym (number_is_read g v 0 xs seen l small) ∙ ap (λ (bs : List ℕ). number_at g 0 bs seen) e
    ∙ number_is_read g w 0 ys seen m small in
    let parts : Parts v ∷ Parts (0 + length (number v)) ∷ map Parts xs ≡ Parts w ∷ Parts (0 + length (number w)) ∷ map Parts ys =
    ap (λ (r : Reading Token). r.parts) both in
    (let value : v ≡ w = cc in value, same_parts xs ys (let o : map Parts xs ≡ map Parts ys = cc in o))

read_stands : (g : ℕ) (bytes : List ℕ) (i v j : ℕ) → g < 2 ^ 42 → Each (λ b. b < 256) bytes → j ≤ length bytes → IsRead g bytes i v j
    → (v ≤ g) × Stands bytes i j (number v)
unfolding seen
read_stands g bytes i v j small each within read =
    let t = number_taken g i (drop i bytes) seen small (each_dropped i bytes each) (ap (λ (r : Reading Token). r.fault) (read seen)) in
    let again = ap (λ (bs : List ℕ). number_at g i bs seen) t.is ∙ number_is_read g t.value i t.others seen t.fits small in
    let parts : Parts v ∷ Parts j ∷ map Parts (drop j bytes) ≡ Parts t.value ∷ Parts (i + length (number t.value)) ∷ map Parts t.others =
    ap (λ (r : Reading Token). r.parts) (sym (read seen) ∙ again) in
    let value : v ≡ t.value = cc in
    let place : j ≡ i + length (number t.value) = cc in
    let others = same_parts (drop j bytes) t.others (let o : map Parts (drop j bytes) ≡ map Parts t.others = cc in o) in
    let fits = t.fits in (
      omega arith,
      record {
        is = t.is ∙ ap (λ (n : ℕ). number n ++ t.others) (sym value) ∙ ap (λ (bs : List ℕ). number v ++ bs) (sym others);
        place = place ∙ ap (λ (n : ℕ). i + length (number n)) (sym value);
        within = within;
      },
    )

pub number_stands : (g : ℕ) (bytes : List ℕ) (start read low at v : ℕ) → g < 2 ^ 42 → Each (λ b. b < 256) bytes → at < length bytes
    → at ≡ start + read → IsLeft g bytes start read low at → next_digit longest g read low start (get_or bytes at 0) ≡ Ends v
    → (v ≤ g) × Stands bytes start (at + 1) (number v)
number_stands g bytes start read low at v small each l place left d =
    read_stands g bytes start v (at + 1) small each (omega arith) (ended g bytes start read low at v l place left d)

-- a byte at which a number fails, and the end of the bytes
pub number_fails : (g : ℕ) (bytes : List ℕ) (start read low at : ℕ) (e : TreeError) → at < length bytes
    → IsLeft g bytes start read low at → next_digit longest g read low start (get_or bytes at 0) ≡ Fails e
    → IsNumberFault g start (drop start bytes) e
number_fails g bytes start read low at e l left d next =
    stops _ e (left next ∙ ap (λ (bs : List ℕ). number_from longest g read low start bs next) (next_drop bytes at l)
    ∙ from_fails longest g read low start (get_or bytes at 0) e (drop (at + 1) bytes) next d)

pub nothing_dropped : (bytes : List ℕ) (i : ℕ) → length bytes ≤ i → drop i bytes ≡ []
nothing_dropped [] zero l = refl
nothing_dropped [] (suc i) l = refl
nothing_dropped (b ∷ bytes) zero l = absurd (omega arith)
nothing_dropped (b ∷ bytes) (suc i) l = nothing_dropped bytes i (omega arith)

pub number_cut : (g : ℕ) (bytes : List ℕ) (start read low at : ℕ) → length bytes ≤ at → at ≡ start + read
    → IsLeft g bytes start read low at → IsNumberFault g start (drop start bytes) (faults.Cut at)
number_cut g bytes start read low at l place left next =
    stops _ (faults.Cut at)
    (left next ∙ ap (λ (bs : List ℕ). number_from longest g read low start bs next) (nothing_dropped bytes at l)
    ∙ ap (λ (p : ℕ). stopped (faults.Cut p)) (sym place))

-- ---- numbers that stand

pub number_reads : (g : ℕ) (bytes : List ℕ) (i v j : ℕ) → g < 2 ^ 42 → v ≤ g → Stands bytes i j (number v) → IsRead g bytes i v j
number_reads g bytes i v j small fits s next =
    ap (λ (bs : List ℕ). number_at g i bs next) s.is ∙ number_is_read g v i (drop j bytes) next fits small
    ∙ ap (λ (p : ℕ). next v p (drop j bytes)) (sym s.place)

pub signed_reads : (m : ℕ) (bytes : List ℕ) (i : ℕ) (z : ℤ) (j : ℕ) → 2 * m < 2 ^ 42 → unsigned_abs z ≤ m
    → Stands bytes i j (signed_number z) → IsRead (2 * m) bytes i (unsigned z) j
signed_reads m bytes i z j small fits s next =
    ap (λ (bs : List ℕ). number_at (2 * m) i bs next) s.is ∙ signed_is_read m z i (drop j bytes) next fits small
    ∙ ap (λ (p : ℕ). next (unsigned z) p (drop j bytes)) (sym s.place)

-- a number that is read as a signed one
pub signed_stands : (m : ℕ) (bytes : List ℕ) (i v j : ℕ) → v ≤ 2 * m → Stands bytes i j (number v)
    → (unsigned_abs (signed v) ≤ m) × Stands bytes i j (signed_number (signed v))
signed_stands m bytes i v j fits s = (
  signed_within m v fits,
  subst (λ (n : ℕ). Stands bytes i j (number n)) (sym (unsigned_signed v)) s,
)
