-- The names that a shelf in memory was asked to begin: they are known while they are few and short.
use Rattle.std.specs.Prelude.{ℕ, nat_lt, nat_le, ◌&&◌, List, [], ◌∷◌, ◌++◌, ◌+◌, take, drop, length, Option, Some, None, if◌then◌else◌}
use Rattle.ips_io.specs.Files.{Names}

-- one more name: from the ninth name on, or the first of more than 255 bytes, no name is known
abbrev pub noted : Option Names → List ℕ → Option Names
noted None name = None
noted (Some names) name = if nat_lt (length names) 8 && nat_le (length name) 255 then Some (names ++ name ∷ []) else None

-- the bytes of texts of these lengths
abbrev pub total_of : List ℕ → ℕ
total_of [] = 0
total_of (n ∷ ns) = n + total_of ns

-- texts that stand one after another in a buffer
abbrev pub texts_of : List ℕ → List ℕ → Names
texts_of [] buffer = []
texts_of (n ∷ ns) buffer = take n buffer ∷ texts_of ns (drop n buffer)
