-- Numbers as bytes: seven bits a byte, the low ones first, in the shortest spelling; and the first fault of such a number.
use Rattle.std.specs.Prelude.{ℕ, zero, suc, ◌+◌, ◌*◌, ◌-◌, ◌/◌, ◌%◌, ◌^◌, ◌==◌, ◌&&◌, if◌then◌else◌, nat_lt, List, [], ◌∷◌, ℤ, pos, negsuc}
use Rattle.tree_format.specs.Readings.{Reading, stopped}
use Rattle.tree_format.specs.declared.numbers.Digit.{Digit}
use Rattle.tree_format.specs.declared.numbers.Digit.TheVariants.{GoesOn, Ends, Fails}
use Rattle.tree_format.specs.declared.errors.TreeError.TheVariants.{Cut, LongNumber, Width}

-- the spelling of a number in at most some bytes: a byte below 128 is the last, one from 128 on says that the number goes on
unfoldable pub number_bytes : ℕ → ℕ → List ℕ
number_bytes zero n = []
number_bytes (suc k) n = if nat_lt n 128 then n ∷ [] else (128 + n % 128) ∷ number_bytes k (n / 128)

-- the number that stands for a signed one: 0, -1, 1, -2 and so on are 0, 1, 2, 3 and so on
abbrev pub unsigned : ℤ → ℕ
unsigned (pos n) = 2 * n
unsigned (negsuc n) = 2 * n + 1

-- the signed number that a number stands for
abbrev pub signed : ℕ → ℤ
signed n = if n % 2 == 0 then pos (n / 2) else negsuc (n / 2)

-- a byte ends a number: with a 0 the number was longer than its shortest spelling, and then its size is tested
abbrev pub last_digit : ℕ → ℕ → ℕ → ℕ → ℕ → Digit
last_digit greatest read low start b = if nat_lt 0 read && b == 0 then Fails (LongNumber start) else
    if nat_lt greatest (low + b * 128 ^ read) then Fails (Width start) else Ends (low + b * 128 ^ read)

-- the next byte of a number that begins at a place, where some of its bytes are read and have a value: a number of all bytes that it may
-- have and of which each says that it goes on is too wide, whatever follows
abbrev pub next_digit : ℕ → ℕ → ℕ → ℕ → ℕ → ℕ → Digit
next_digit longest greatest read low start b = if nat_lt b 128 then last_digit greatest read low start b else
    if nat_lt (read + 1) longest then GoesOn (low + (b - 128) * 128 ^ read) else Fails (Width start)

-- what is left of a number at the front of bytes, and what follows it, by its value, the place after it and the bytes there
abbrev pub number_from : {A : Type 0} → ℕ → ℕ → ℕ → ℕ → ℕ → List ℕ → (ℕ → ℕ → List ℕ → Reading A) → Reading A
number_from longest greatest read low start [] next = stopped (Cut (start + read))
number_from longest greatest read low start (b ∷ bytes) next =
    elim (next_digit longest greatest read low start b) [
      | GoesOn v ↦ number_from longest greatest (read + 1) v start bytes next
      | Ends v ↦ next v (start + (read + 1)) bytes
      | Fails e ↦ stopped e
    ]

-- a number of at most some bytes and some size at a place
abbrev pub number_at : {A : Type 0} → ℕ → ℕ → ℕ → List ℕ → (ℕ → ℕ → List ℕ → Reading A) → Reading A
number_at longest greatest start bytes next = number_from longest greatest 0 0 start bytes next
