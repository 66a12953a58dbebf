-- What `&&` and `||` say of their two operands.
use Rattle.std.specs.Prelude.{◌≡◌, Bool, true, false, ◌&&◌, ◌||◌}
use Rattle.std.proofs.Common.{refl}

-- both operands of a true `&&`
pub both_true : (s t : Bool) → (s && t) ≡ true → (s ≡ true) × (t ≡ true)
both_true true t e = (refl, e)
both_true false t e = absurd cc

pub left_true : (s t : Bool) → (s && t) ≡ true → s ≡ true
left_true s t e = (both_true s t e).0

pub right_true : (s t : Bool) → (s && t) ≡ true → t ≡ true
right_true s t e = (both_true s t e).1

-- both operands of a false `||`
pub neither_true : (s t : Bool) → (s || t) ≡ false → (s ≡ false) × (t ≡ false)
neither_true true t e = absurd cc
neither_true false t e = (refl, e)

pub left_false : (s t : Bool) → (s || t) ≡ false → s ≡ false
left_false s t e = (neither_true s t e).0

pub right_false : (s t : Bool) → (s || t) ≡ false → t ≡ false
right_false s t e = (neither_true s t e).1

-- a true right operand makes a true `||`
pub either_true : (s t : Bool) → t ≡ true → (s || t) ≡ true
either_true true t e = refl
either_true false t e = e
