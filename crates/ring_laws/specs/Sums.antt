-- A sum of finitely many terms, for any addition.
use Rattle.std.specs.Prelude.{ℕ, zero, suc}

-- f 0 + .. + f (n - 1), given an addition and its zero
abbrev pub sum_with : {A : Type 0} → (A → A → A) → A → (ℕ → A) → ℕ → A
sum_with plus zero_of f zero = zero_of
sum_with plus zero_of f (suc n) = plus (sum_with plus zero_of f n) (f n)
