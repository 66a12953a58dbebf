-- Reading the file of a row sweep, from the first byte on, and its first fault with its place.
use Rattle.std.specs.Prelude.{ℕ, zero, suc, ◌^◌, ◌==◌, true, false, List, Option}
use Rattle.tree_format.specs.Readings.{Reading, stopped}
use Rattle.tree_format.specs.Grammar.{number_at, opening_at, claim_at, tree_at, end_at, IsErrorOf}
use Rattle.tree_format.specs.RowSpellings.{row_opening}
use Rattle.tree_format.specs.declared.errors.TreeError.{TreeError}
use Rattle.tree_format.specs.declared.errors.TreeError.TheVariants as faults
use Rattle.tree_format.specs.declared.tokens.Token.{Token}

-- how many pieces there are: 1 to 10,000
abbrev pub count_at : ℕ → List ℕ → (ℕ → ℕ → List ℕ → Reading Token) → Reading Token
count_at place bytes next =
    number_at 10000 place bytes (λ n p rest. elim (n == 0) [ true ↦ stopped (faults.Zero place) | false ↦ next n p rest ])

-- a piece, where some nodes stand before it; what follows is given how many nodes stand before it
abbrev pub piece_at : ℕ → ℕ → List ℕ → (ℕ → ℕ → List ℕ → Reading Token) → Reading Token
piece_at nodes place bytes next =
    number_at (10 ^ 6) place bytes (λ from p rest. number_at (10 ^ 6) p rest (λ to p rest.
    claim_at p rest (λ p rest. tree_at 801 nodes p rest next)))

-- pieces, of which some number is still to come, where some nodes stand before them
abbrev pub pieces_at : ℕ → ℕ → ℕ → List ℕ → (ℕ → List ℕ → Reading Token) → Reading Token
pieces_at zero nodes place bytes next = next place bytes
pieces_at (suc n) nodes place bytes next = piece_at nodes place bytes (λ m p rest. pieces_at n m p rest next)

-- a whole file: the opening, the count of pieces, the pieces, and the end
abbrev pub row_reading : List ℕ → Reading Token
row_reading bytes =
    opening_at row_opening 0 bytes (λ p rest. count_at p rest (λ n p rest. pieces_at n 0 p rest (λ p rest. end_at p rest)))

-- the first fault of the file of a row sweep, or none
abbrev pub first_row_fault : List ℕ → Option TreeError
first_row_fault bytes = (row_reading bytes).fault

-- an error is that memory ran out, or the first fault of bytes
abbrev pub IsRowRefusal : List ℕ → TreeError → Type 0
IsRowRefusal bytes e = IsErrorOf (first_row_fault bytes) e
