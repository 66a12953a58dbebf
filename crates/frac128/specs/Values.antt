-- Fractions as rational numbers.
use Rattle.std.specs.Prelude.{◌≡◌}
use Rattle.std.specs.Ordering.{MatchOrdering}
use Rattle.std.specs.declared.cmp.Ordering.{Ordering}
use Rattle.frac128.specs.Fractions.{Fraction}
use Rattle.frac128.specs.Rationals.{Rational, add, sub, mul, quotient, rational, IsBelow}

-- the rational number of a fraction
abbrev pub value_of : Fraction → Rational
value_of x = rational x.num x.den

-- r is x + y
abbrev pub IsSum : Fraction → Fraction → Fraction → Type 0
IsSum x y r = value_of r ≡ add (value_of x) (value_of y)

-- r is x - y
abbrev pub IsDifference : Fraction → Fraction → Fraction → Type 0
IsDifference x y r = value_of r ≡ sub (value_of x) (value_of y)

-- r is x * y
abbrev pub IsProduct : Fraction → Fraction → Fraction → Type 0
IsProduct x y r = value_of r ≡ mul (value_of x) (value_of y)

-- r is x / y
abbrev pub IsQuotient : Fraction → Fraction → Fraction → Type 0
IsQuotient x y r = value_of r ≡ quotient (value_of x) (value_of y)

-- the result of comparing x with y
abbrev pub IsOrder : Ordering → Fraction → Fraction → Type 0
IsOrder r x y = MatchOrdering r (IsBelow (value_of x) (value_of y)) (value_of x ≡ value_of y) (IsBelow (value_of y) (value_of x))
