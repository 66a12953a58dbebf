-- Functions on lists that the definitions of texts share.
use Rattle.std.specs.Prelude.{◌≡◌, ℕ, zero, suc, Bool, false, if◌then◌else◌, List, [], ◌∷◌, ◌++◌, Option, None, Some, bytes_eq, ⊤}
use Rattle.std.specs.List.{list_any}

-- x where the test holds, and nothing else
abbrev pub where_true : {A : Type 0} → Bool → A → Option A
where_true test x = if test then Some x else None

abbrev pub last_of : {A : Type 0} → List A → Option A
last_of [] = None
last_of (x ∷ []) = Some x
last_of (x ∷ y ∷ xs) = last_of (y ∷ xs)

-- each element of xs with those before it, where `before` stand before all
abbrev pub after_those : {A : Type 0} → List A → List A → List (List A × A)
after_those before [] = []
after_those before (x ∷ xs) = (before, x) ∷ after_those (before ++ x ∷ []) xs

-- each element with those before it
abbrev pub with_earlier : {A : Type 0} → List A → List (List A × A)
with_earlier xs = after_those [] xs

-- a name is among others
abbrev pub is_among : List ℕ → List (List ℕ) → Bool
is_among name names = list_any (bytes_eq name) names

-- no name stands twice in a list
abbrev pub AreDistinct : List (List ℕ) → Type 0
AreDistinct [] = ⊤
AreDistinct (x ∷ xs) = (is_among x xs ≡ false) × AreDistinct xs

-- the least of the n numbers from i on that meets the test, and i + n where none does
abbrev pub least_from : (ℕ → Bool) → ℕ → ℕ → ℕ
least_from test i zero = i
least_from test i (suc n) = let later = least_from test (suc i) n in if test i then i else later

-- up to and with the first one that meets the test
abbrev pub through_first : {A : Type 0} → (A → Bool) → List A → List A
through_first test [] = []
through_first test (x ∷ xs) = if test x then x ∷ [] else x ∷ through_first test xs
