-- The decimals of a right side and of a range are among those of the amounts that the sides of their row make.
use Rattle.std.specs.Prelude.{◌≡◌, ℕ, ◌+◌, ◌*◌, ◌^◌, ◌≤◌, Bool, true, false, ◌&&◌, not, if◌then◌else◌, List, [], ◌∷◌, ◌++◌, Option, None}
use Rattle.std.specs.Prelude.{Some, bytes_eq, codes, ℤ, pos, ◌+ℤ◌, ◌-ℤ◌}
use Rattle.std.specs.Int.RustNames.{unsigned_abs}
use Rattle.std.specs.Int.Signed.{lt_z}
use Rattle.std.specs.Option.{option_map_or, is_some, is_none, ForSome}
use Rattle.std.proofs.Common.{refl, arith, ap, ◌∙◌, subst}
use Rattle.std.proofs.lemmas.Int.{ints}
use Rattle.std.proofs.lemmas.Nat.{pow-add}
use Rattle.mps_defs.specs.Lists.{where_true}
use Rattle.mps_defs.specs.Numbers.{decimals_of, is_large}
use Rattle.mps_defs.specs.TextModels.{units, plain_sides, range_sides, row_sides}
use Rattle.mps_defs.specs.declared.reading.Number.{Number}
use Rattle.mps_defs.specs.declared.reading.Number.TheVariants.{Dec, Large}
use Rattle.text_laws.specs.ReadBack.{needed_decimals}
use Rattle.text_laws.proofs.LeastReadLaws.{difference_needs, nothing_needs}
use Rattle.ip_defs.specs.Lists.{Each}
use Rattle.mps_defs.proofs.NumberLaws.{ten_positive, signed_size}

-- the right side and the range of two sides
abbrev pub right_amount : Option ℤ → Option ℤ → List ℤ
right_amount low high = option_map_or (λ b. b ∷ []) (if is_some low && is_none high then low else high) []

abbrev pub range_amount : Option ℤ → Option ℤ → List ℤ
range_amount low high = option_map_or (λ l. option_map_or (λ h. (h -ℤ l) ∷ []) high []) low []

abbrev pub AreWithin : ℕ → ℕ → Option ℤ × Option ℤ → Type 0
AreWithin k most sides = Each (λ z. needed_decimals k z ≤ most) (right_amount sides.0 sides.1 ++ range_amount sides.0 sides.1)

-- the number needs its own decimals in these units
abbrev pub NeedsOwn : ℕ → Number → Type 0
NeedsOwn k n = needed_decimals k (units k n) ≡ decimals_of n

-- a Large number exceeds the limit of a side
large_passes : (k : ℕ) (negative : Bool) → unsigned_abs (units k (Large negative)) ≤ 2 ^ 62 → ⊥
large_passes k negative small =
    let size = signed_size negative (10 ^ (20 + k)) in
    let split : 10 ^ (20 + k) ≡ 10 ^ 20 * 10 ^ k = pow-add 10 20 k in
    let some = ten_positive k in
    omega arith

-- a range below a right side, and one above it
range_below : (k most : ℕ) (v : ℤ) (x : Number) → NeedsOwn k x
    → AreWithin k most (where_true (not (is_large x)) (v -ℤ pos (unsigned_abs (units k x))), Some v)
    → (needed_decimals k v ≤ most) × (decimals_of x ≤ most)
range_below k most v (Large negative) own h = (h.0, omega arith)
range_below k most v (Dec u d) own h =
    let s = unsigned_abs (units k (Dec u d)) in
    let width : v -ℤ (v -ℤ pos s) ≡ pos s = omega (arith, ints) in
    let range : needed_decimals k (v -ℤ (v -ℤ pos s)) ≡ d = ap (needed_decimals k) width ∙ own in
    let last = h.1 in
    let small = last.0 in
    (h.0, omega arith)

range_above : (k most : ℕ) (v : ℤ) (x : Number) → NeedsOwn k x
    → AreWithin k most (Some v, where_true (not (is_large x)) (v +ℤ pos (unsigned_abs (units k x))))
    → (needed_decimals k v ≤ most) × (decimals_of x ≤ most)
range_above k most v (Large negative) own h = (h.0, omega arith)
range_above k most v (Dec u d) own h =
    let s = unsigned_abs (units k (Dec u d)) in
    let width : v +ℤ pos s -ℤ v ≡ pos s = omega (arith, ints) in
    let range : needed_decimals k (v +ℤ pos s -ℤ v) ≡ d = ap (needed_decimals k) width ∙ own in
    let back : v +ℤ pos s -ℤ pos s ≡ v = omega (arith, ints) in
    let last = h.1 in
    let small = last.0 in
    let width_small : needed_decimals k (pos s) ≤ most = let same = ap (needed_decimals k) width in omega arith in
    (subst (λ (z : ℤ). needed_decimals k z ≤ most) back (difference_needs k most (v +ℤ pos s) (pos s) h.0 width_small), omega arith)

no_range : (k most : ℕ) (v : ℤ) (x : Number) → NeedsOwn k x → unsigned_abs (units k x) ≡ 0 → AreWithin k most (Some v, Some v)
    → (needed_decimals k v ≤ most) × (decimals_of x ≤ most)
no_range k most v x own e h = let none = nothing_needs k (units k x) e in (h.0, omega arith)

ranged : (kind : List ℕ) (k most : ℕ) (v : ℤ) (x : Number) → NeedsOwn k x
    → AreWithin k most (range_sides kind v (not (is_large x)) (units k x) (unsigned_abs (units k x)))
    → (needed_decimals k v ≤ most) × (decimals_of x ≤ most)
ranged kind k most v x own =
    by (bytes_eq kind (codes "L")) (bytes_eq kind (codes "G")) (lt_z (pos 0) (units k x)) (lt_z (units k x) (pos 0)) refl refl
  where
    low : Option ℤ
    low = where_true (not (is_large x)) (v -ℤ pos (unsigned_abs (units k x)))

    high : Option ℤ
    high = where_true (not (is_large x)) (v +ℤ pos (unsigned_abs (units k x)))

    by : (a b c d : Bool) → lt_z (pos 0) (units k x) ≡ c → lt_z (units k x) (pos 0) ≡ d
        → AreWithin k most (if a then (low, Some v) else (if b then (Some v, high)
        else (if c then (Some v, high) else (if d then (low, Some v) else (Some v, Some v)))))
        → (needed_decimals k v ≤ most) × (decimals_of x ≤ most)
    by true b c d e f h = range_below k most v x own h
    by false true c d e f h = range_above k most v x own h
    by false false true d e f h = range_above k most v x own h
    by false false false true e f h = range_below k most v x own h
    by false false false false e f h = no_range k most v x own (zero_between (units k x) e f) h
      where
        zero_between : (z : ℤ) → lt_z (pos 0) z ≡ false → lt_z z (pos 0) ≡ false → unsigned_abs z ≡ 0
        zero_between z p q = grind (arith, ints)

plain : (kind : List ℕ) (k most : ℕ) (v : ℤ) → AreWithin k most (plain_sides kind v) → needed_decimals k v ≤ most
plain kind k most v = by (bytes_eq kind (codes "L")) (bytes_eq kind (codes "G"))
  where
    by : (a b : Bool) → AreWithin k most (if a then (None, Some v) else (if b then (Some v, None) else (Some v, Some v)))
        → needed_decimals k v ≤ most
    by true b h = h.0
    by false true h = h.0
    by false false h = h.0

-- both, where the high side is within its limit
pub sides_known : (kind : List ℕ) (k most : ℕ) (b : Number) (r : Option Number) → NeedsOwn k b → ForSome r (NeedsOwn k)
    → ForSome ((row_sides kind k b r).1) (λ side. unsigned_abs side ≤ 2 ^ 62) → AreWithin k most (row_sides kind k b r)
    → (decimals_of b ≤ most) × ForSome r (λ x. decimals_of x ≤ most)
sides_known kind k most (Large negative) None own width small h = (omega arith, λ x e. absurd cc)
sides_known kind k most (Large negative) (Some x) own width small h =
    absurd (large_passes k negative (small (units k (Large negative)) refl))
sides_known kind k most (Dec u d) None own width small h =
    (let first = plain kind k most (units k (Dec u d)) h in omega arith, λ x e. absurd cc)
sides_known kind k most (Dec u d) (Some x) own width small h =
    let parts = ranged kind k most (units k (Dec u d)) x (width x refl) h in
    (let first = parts.0 in omega arith, λ y e. (let same : x ≡ y = cc in subst (λ n. decimals_of n ≤ most) same parts.1))
