-- Numbers as bytes: what is read was written.
use Rattle.std.specs.Prelude.{◌≡◌, ℕ, zero, suc, ◌+◌, ◌-◌, ◌*◌, ◌/◌, ◌%◌, ◌^◌, ◌<◌, ◌≤◌, ◌==◌, ◌&&◌, Bool, true, false, nat_lt, List, []}
use Rattle.std.specs.Prelude.{◌∷◌, ◌++◌, Some, None}
use Rattle.std.proofs.Common.{arith, refl, ap, ◌∙◌, sym, lit<}
use Rattle.std.proofs.Math.Nat.{pow-le-pow_right, pow-suc, mul_assoc, mul_comm, add-mul}
use Rattle.std.proofs.lemmas.Bool.{eqb-false}
use Rattle.std.proofs.lemmas.Grind.{pow_more}
use Rattle.std.proofs.lemmas.Nat.{mod-mul-add, div-mul-add}
use Rattle.ip_defs.specs.Lists.{Each}
use Rattle.ip_defs.proofs.OrderLaws.{lt_true, lt_false, lt_is}
use Rattle.tree_format.specs.Numbers.{number_bytes, number_from, next_digit}
use Rattle.tree_format.specs.Readings.{Reading}
use Rattle.tree_format.specs.declared.errors.TreeError.{TreeError}
use Rattle.tree_format.specs.declared.errors.TreeError.TheVariants.{LongNumber, Width}
use Rattle.tree_format.specs.declared.numbers.Digit.TheVariants.{Fails}
use Rattle.tree_format.proofs.NumberLaws.{not_lt, last_byte, longer_at, from_fails, from_on, digit_on}

-- the number at the front of bytes that have no fault in it, and what follows it
pub record IsNumber (j g read low : ℕ) (bytes : List ℕ) : Type 0 where
  pub value : ℕ
  pub others : List ℕ
  pub is : bytes ≡ number_bytes (suc j) value ++ others
  pub small : value < 128 ^ suc j
  pub shortest : 0 < read → 0 < value
  pub fits : low + value * 128 ^ read ≤ g
  pub are_bytes : Each (λ b. b < 256) others

-- a byte that ends a number
ended_by : (most j g read low start b : ℕ) (bytes : List ℕ) → b < 128 → Each (λ b. b < 256) bytes
    → ((f : TreeError) → next_digit most g read low start b ≡ Fails f → ⊥) → IsNumber j g read low (b ∷ bytes)
ended_by most j g read low start b bytes l each fine = by (nat_lt 0 read && b == 0) (nat_lt g (low + b * 128 ^ read)) refl refl
  where
    by : (t u : Bool) → (nat_lt 0 read && b == 0) ≡ t → nat_lt g (low + b * 128 ^ read) ≡ u → IsNumber j g read low (b ∷ bytes)
    by true u e f = absurd (fine (LongNumber start) (rw (lt_true b 128 l, e) refl))
    by false true e f = absurd (fine (Width start) (rw (lt_true b 128 l, e, f) refl))
    by false false e f = record {
      value = b;
      others = bytes;
      is = rw (last_byte j b l) refl;
      small = less;
      shortest = λ h. positive (b == 0) refl (rw (lt_true 0 read h) at e);
      fits = not_lt g (low + b * 128 ^ read) f;
      are_bytes = each;
    }
      where
        less : b < 128 ^ suc j
        less = let p = pow-le-pow_right {n = 128} (lit< tt) {i = 1} {j = suc j} (omega arith) in omega arith

        positive : (t : Bool) → (b == 0) ≡ t → (true && t) ≡ false → 0 < b
        positive true e f = absurd cc
        positive false e f = let n = eqb-false b 0 e in omega arith

-- a byte after which a number goes on
gone_on : (i g read low b : ℕ) (bytes : List ℕ) → 128 ≤ b → b < 256 → IsNumber i g (read + 1) (low + (b - 128) * 128 ^ read) bytes
    → IsNumber (suc i) g read low (b ∷ bytes)
gone_on i g read low b bytes l under n = record {
  value = whole;
  others = n.others;
  is = ap (λ (bs : List ℕ). b ∷ bs) n.is ∙ ap (λ (bs : List ℕ). bs ++ n.others) (sym spelled);
  small = small;
  shortest = λ h. omega arith;
  fits = (let fits = n.fits in rw sums at fits);
  are_bytes = n.are_bytes;
}
  where
    whole : ℕ
    whole = n.value * 128 + (b - 128)

    small : whole < 128 ^ suc (suc i)
    small = let less = n.small in let power = pow-suc 128 (suc i) in omega arith

    spelled : number_bytes (suc (suc i)) whole ≡ b ∷ number_bytes (suc i) n.value
    spelled =
        let some = n.shortest (omega arith) in
        let low : 128 + whole % 128 ≡ b = (let m = mod-mul-add n.value 128 (b - 128) (omega arith) in omega arith) in
        let high : whole / 128 ≡ n.value = div-mul-add n.value 128 (b - 128) (omega arith) in
        (longer_at i whole (omega arith) small).1 ∙ ap (λ (k : ℕ). k ∷ number_bytes (suc i) (whole / 128)) low
        ∙ ap (λ (k : ℕ). b ∷ number_bytes (suc i) k) high

    sums : (low + (b - 128) * 128 ^ read) + n.value * 128 ^ (read + 1) ≡ low + whole * 128 ^ read
    sums =
        let split = add-mul (n.value * 128) (b - 128) (128 ^ read) in
        let turned : n.value * (128 ^ read * 128) ≡ n.value * 128 * 128 ^ read =
        ap (λ (k : ℕ). n.value * k) (mul_comm (128 ^ read) 128) ∙ sym (mul_assoc n.value 128 (128 ^ read)) in
        rw (pow_more 128 read) (omega arith)

no_fail : {A : Type 0} (most g read low start b : ℕ) (f : TreeError) (bytes : List ℕ) (next : ℕ → ℕ → List ℕ → Reading A)
    → (number_from most g read low start (b ∷ bytes) next).fault ≡ None → next_digit most g read low start b ≡ Fails f → ⊥
no_fail {A = A} most g read low start b f bytes next none d =
    let is = ap (λ (r : Reading A). r.fault) (from_fails most g read low start b f bytes next d) in absurd (let no : Some f
    ≡ None = sym is ∙ none in cc)

-- the last byte that a number may have does not say that it goes on
no_more : (most g read low start b : ℕ) → 128 ≤ b → most ≤ read + 1 → next_digit most g read low start b ≡ Fails (Width start)
no_more most g read low start b l full = rw (lt_false b 128 l, lt_false (read + 1) most full) refl

pub number_spelled : {A : Type 0} (most j g read low start : ℕ) (bytes : List ℕ) (next : ℕ → ℕ → List ℕ → Reading A)
    → read + suc j ≡ most → Each (λ b. b < 256) bytes → (number_from most g read low start bytes next).fault ≡ None
    → IsNumber j g read low bytes
number_spelled most j g read low start [] next fuel each none = absurd cc
number_spelled most zero g read low start (b ∷ bytes) next fuel each none = by (nat_lt b 128) refl
  where
    by : (t : Bool) → nat_lt b 128 ≡ t → IsNumber zero g read low (b ∷ bytes)
    by true e = ended_by most zero g read low start b bytes (lt_is b 128 e) each.1
        (λ f d. no_fail most g read low start b f bytes next none d)
    by false e = absurd (no_fail most g read low start b (Width start) bytes next none
        (no_more most g read low start b (not_lt b 128 e) (omega arith)))
number_spelled most (suc i) g read low start (b ∷ bytes) next fuel each none =
    by (nat_lt b 128) refl
    (λ f. number_spelled most i g (read + 1) (low + (b - 128) * 128 ^ read) start bytes next (omega arith) each.1 f)
  where
    by : (t : Bool) → nat_lt b 128 ≡ t
        → ((number_from most g (read + 1) (low + (b - 128) * 128 ^ read) start bytes next).fault ≡ None
        → IsNumber i g (read + 1) (low + (b - 128) * 128 ^ read) bytes) → IsNumber (suc i) g read low (b ∷ bytes)
    by true e others = ended_by most (suc i) g read low start b bytes (lt_is b 128 e) each.1
        (λ f d. no_fail most g read low start b f bytes next none d)
    by false e others =
        let l = not_lt b 128 e in
        let on = from_on most g read low start b _ bytes next (digit_on most g read low start b l (omega arith)) in
        gone_on i g read low b bytes l each.0 (others (sym (ap (λ r. r.fault) on) ∙ none))
