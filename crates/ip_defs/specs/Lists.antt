-- Lists: a property of each element, the first element, and the first index at which a function has an answer.
use Rattle.std.specs.Prelude.{ℕ, zero, suc, Bool, if◌then◌else◌, List, [], ◌∷◌, Option, None, Some}
use Rattle.std.specs.Option.{option_or}

-- each element of a list has a property
abbrev pub Each : {A : Type 0} → (A → Type 0) → List A → Type 0
Each P [] = Unit {0}
Each P (x ∷ xs) = P x × Each P xs

-- the list of one element where a test holds, else the empty list
abbrev pub when : {A : Type 0} → Bool → A → List A
when test x = if test then x ∷ [] else []

-- the first element of a list, if there is one
abbrev pub first_of : {A : Type 0} → List A → Option A
first_of [] = None
first_of (x ∷ xs) = Some x

-- what f answers at the least index below n at which it answers
abbrev pub first : {A : Type 0} → (ℕ → Option A) → ℕ → Option A
first f zero = None
first f (suc n) = option_or (first f n) (f n)
