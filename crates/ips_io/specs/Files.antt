-- Files by name, and what the outside of a run shows of its shelf of files and its sink of output. A table of files, the names that
-- were begun and the bytes taken may be unknown, before a call or after it.
use Rattle.std.specs.Prelude.{◌≡◌, ℕ, ◌++◌, false, List, find, take, Option, Some, option_map, bytes_eq}
use Rattle.std.specs.Option.{ForSome}

-- a table of files: names with their bytes
abbrev pub Files : Type 0
Files = List (List ℕ × List ℕ)

-- names of files, in order
abbrev pub Names : Type 0
Names = List (List ℕ)

-- the bytes of the first file of a name
abbrev pub file_of : Files → List ℕ → Option (List ℕ)
file_of fs name = option_map (λ p. p.1) (find (λ p. bytes_eq p.0 name) fs)

-- as before, where it is still known
abbrev pub Keeps : {A : Type 0} → Option A → Option A → Type 0
Keeps before after = ForSome after (λ t. before ≡ Some t)

-- longer by the text, where it was known
abbrev pub Takes : Option (List ℕ) → Option (List ℕ) → List ℕ → Type 0
Takes before after text = ForSome before (λ old. after ≡ Some (old ++ text))

-- the names that were begun, where they are still known, are those before and then these
abbrev pub Began : Option Names → Option Names → Names → Type 0
Began before after names = ForSome after (λ now. (old : Names) × (before ≡ Some old) × (now ≡ old ++ names))

-- the same with no more than the first of these names
abbrev pub BeganFirst : Option Names → Option Names → Names → Type 0
BeganFirst before after names = (most : ℕ) × Began before after (take most names)

-- each file but one is as before
abbrev pub KeepsOthers : Option Files → Option Files → List ℕ → Type 0
KeepsOthers before after name = ForSome before (λ old. ForSome after (λ new. (other : List ℕ) → bytes_eq other name ≡ false →
    file_of new other ≡ file_of old other))
