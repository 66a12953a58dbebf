-- What the calls of a shelf say of its table of files and of the bytes that the begun file has still to give.
use Rattle.std.specs.Prelude.{◌≡◌, ◌↔◌, ℕ, ◌<◌, List, [], take, drop, length, Option, Some, None, Result, IfOk, OnErr}
use Rattle.std.specs.Option.{ForSome}
use Rattle.ips_io.specs.Files.{Files, file_of}

-- the table, where it is known after the call, is as before, and all of the named file is left
abbrev pub Begins : Option Files → Option Files → Option (List ℕ) → List ℕ → Type 0
Begins before after left name = ForSome after (λ t. (before ≡ Some t) × ((bytes : List ℕ) × (file_of t name ≡ Some bytes)
    × (left ≡ Some bytes)))

-- a table that was known and is unknown now had no file of the name
abbrev pub BecomesUnknown : Option Files → Option Files → List ℕ → Type 0
BecomesUnknown before after name = ForSome before (λ t. after ≡ None → file_of t name ≡ None)

-- n bytes went from the front of what was left to the front of the buffer, none exactly at the end
pub record Moved (old : List ℕ) (now : Option (List ℕ)) (n : ℕ) (into : List ℕ) : Type 0 where
  pub rest : now ≡ Some (drop n old)
  pub bytes : take n into ≡ take n old
  pub ended : (n ≡ 0) ↔ (old ≡ [])

-- the same, where it was known what was left
abbrev pub Moves : Option (List ℕ) → Option (List ℕ) → ℕ → List ℕ → Type 0
Moves before now n into = ForSome before (λ old. Moved old now n into)

-- a read changes no byte of its buffer but those that it counts, and none where it fails
pub record FillsFront {E : Type 0} (before now : List ℕ) (result : Result ℕ E) : Type 0 where
  pub behind : IfOk result (λ n. drop n now ≡ drop n before)
  pub failed : OnErr result (now ≡ before)

-- the file of the name, where the table is known, is these bytes
abbrev pub IsWhole : Option Files → List ℕ → List ℕ → Type 0
IsWhole files name bytes = ForSome files (λ t. file_of t name ≡ Some bytes)

-- the file of the name, where the table is known, is longer than the limit
abbrev pub IsTooLong : Option Files → List ℕ → ℕ → Type 0
IsTooLong files name most = ForSome files (λ t. (bytes : List ℕ) × (file_of t name ≡ Some bytes) × (most < length bytes))
