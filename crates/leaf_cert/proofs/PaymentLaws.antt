-- Payments, one more at a time.
use Rattle.std.specs.Prelude.{◌≡◌, ℕ, zero, suc, ◌+◌, ◌^◌, ◌<◌, ◌≤◌, List, length, drop, slice_get, Some, None, Option, option_map}
use Rattle.std.specs.Prelude.{option_and_then, ℤ, pos, negsuc, ◌+ℤ◌, ◌*ℤ◌}
use Rattle.std.specs.Int.RustNames.{unsigned_abs}
use Rattle.std.proofs.Common.{arith, refl, ap, sym, ◌∙◌, get_or, add-one}
use Rattle.std.proofs.lemmas.Int.{ints}
use Rattle.std.proofs.Math.Seq.{drop-cons}
use Rattle.std.proofs.Math.IntN.{+ℤ_assoc}
use Rattle.ip_defs.specs.Certificates.{pay, payment, side_for}
use Rattle.ip_defs.specs.Limits.{IsRow}
use Rattle.ip_defs.specs.declared.programs.Row.{Row}

abbrev pub onto : Option ℤ → Option ℤ → Option ℤ
onto one rest = option_and_then (λ x. option_map (λ r. x +ℤ r) rest) one

-- the first of the payments that are left, and the others
pub pay_next : (rows : List Row) (y : List (ℕ × ℤ)) (i : ℕ) → i < length y → pay rows (drop i y)
    ≡ onto (payment rows (get_or y i (0, pos 0))) (pay rows (drop (i + 1) y))
pay_next rows y i l = rw (add-one, drop-cons y i (0, pos 0)) refl

-- the total so far, and the payments that are left
pub so_far : (total one : ℤ) (rest : Option ℤ) → option_map (λ r. total +ℤ r) (onto (Some one) rest)
    ≡ option_map (λ r. (total +ℤ one) +ℤ r) rest
so_far total one None = refl
so_far total one (Some r) = ap Some (sym (+ℤ_assoc total one r))

-- the payments are none where one side does not exist
pub no_payment : (rows : List Row) (p : ℕ × ℤ) (r : Row) → slice_get rows p.0 ≡ Some r → side_for p.1 r ≡ None → payment rows p ≡ None
no_payment rows p r found has = ap (λ o. option_map (λ s. p.1 *ℤ s) (option_and_then (side_for p.1) o)) found
    ∙ ap (option_map (λ s. p.1 *ℤ s)) has

-- a side that is paid for is within its limit
pub side_small : (r : Row) (k side : ℤ) → IsRow r → side_for k r ≡ Some side → unsigned_abs side ≤ 2 ^ 62
side_small r (pos zero) side row e = let is : pos 0 ≡ side = cc in omega (arith, ints)
side_small r (pos (suc k)) side row e = row.low side e
side_small r (negsuc k) side row e = row.high side e
