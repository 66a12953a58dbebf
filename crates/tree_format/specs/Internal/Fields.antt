-- The fields of a tree file: what is left to read of each, and what a number in one is followed by.
use Rattle.std.specs.Prelude.{◌≡◌, ℕ, zero, suc, ◌+◌, ◌*◌, ◌-◌, ◌^◌, ◌<◌, ◌≤◌, ◌==◌, Bool, true, false, nat_lt, List, [], ◌∷◌, ◌++◌, drop}
use Rattle.std.specs.Prelude.{pos, Option, Some, None, Result, Ok, Err}
use Rattle.tree_format.specs.Readings.{Reading, complete, stopped, part_then, parts_then}
use Rattle.tree_format.specs.Numbers.{number_from, signed}
use Rattle.tree_format.specs.Spellings.{longest, opening}
use Rattle.tree_format.specs.Grammar.{number_at, opening_at, coordinates_at, claim_at, multiplier_at, multipliers_at, shown, begins_with}
use Rattle.tree_format.specs.declared.errors.TreeError.{TreeError}
use Rattle.tree_format.specs.declared.errors.TreeError.TheVariants as faults
use Rattle.tree_format.specs.declared.fields.Field.{Field}
use Rattle.tree_format.specs.declared.fields.Field.TheVariants as fields
use Rattle.tree_format.specs.declared.tokens.Token.{Token}
use Rattle.tree_format.specs.declared.tokens.Token.TheVariants.{Coordinate, SplitAt, LeafQ, Parts, Part}

-- the greatest number that may stand in a field, or none where the field is no number
abbrev pub greatest_of : Field → Option ℕ
greatest_of (fields.Opening read) = None
greatest_of fields.Claim = None
greatest_of fields.CoordinateCount = Some 4096
greatest_of (fields.Coordinate more) = Some (2 ^ 25)
greatest_of fields.Node = None
greatest_of fields.Divisor = Some (2 ^ 36)
greatest_of fields.MultiplierCount = Some 1024
greatest_of (fields.Row more least) = Some 1023
greatest_of (fields.Multiplier more row) = Some (2 ^ 37)
greatest_of fields.Column = Some 4095
greatest_of (fields.Cut col) = Some (2 ^ 25)

-- a token, then what is read after it
abbrev pub token_then : Token → Reading Token → Reading Token
token_then token r = parts_then (shown token) r

-- what a number in a field that begins at a place is followed by, where the trees after the field are read so
abbrev pub after_number : Field → ℕ → (ℕ → List ℕ → Reading Token) → ℕ → ℕ → List ℕ → Reading Token
after_number (fields.Opening read) start trees v p rest = complete
after_number fields.Claim start trees v p rest = complete
after_number fields.CoordinateCount start trees n p rest = coordinates_at n p rest trees
after_number (fields.Coordinate more) start trees v p rest = part_then (Coordinate (signed v)) (coordinates_at more p rest trees)
after_number fields.Node start trees v p rest = complete
after_number fields.Divisor start trees q p rest =
    part_then (LeafQ (pos q)) (number_at 1024 p rest (λ n p rest. part_then (Parts n) (multipliers_at n 0 p rest trees)))
after_number fields.MultiplierCount start trees n p rest = part_then (Parts n) (multipliers_at n 0 p rest trees)
after_number (fields.Row more least) start trees row p rest =
    elim (nat_lt row least) [
      | true ↦ stopped (faults.Order start)
      | false ↦ multiplier_at row p rest (λ p rest. multipliers_at more (row + 1) p rest trees)
    ]
after_number (fields.Multiplier more row) start trees v p rest =
    elim (v == 0) [
      | true ↦ stopped (faults.Zero start)
      | false ↦ part_then (Part row (signed v)) (multipliers_at more (row + 1) p rest trees)
    ]
after_number fields.Column start trees col p rest = number_at (2 ^ 25) p rest (λ v p rest. part_then (SplitAt col (signed v)) (trees
    p rest))
after_number (fields.Cut col) start trees v p rest = part_then (SplitAt col (signed v)) (trees p rest)

-- what is left of a field of which a number's first bytes are read, and the trees after it
abbrev pub field_from : Field → ℕ → ℕ → ℕ → (ℕ → List ℕ → Reading Token) → List ℕ → Reading Token
field_from (fields.Opening seen) read low start trees bytes = opening_at (drop seen opening) start bytes (λ p rest. claim_at p rest trees)
field_from fields.Claim read low start trees bytes = claim_at start bytes trees
field_from fields.Node read low start trees bytes = trees start bytes
field_from fields.CoordinateCount read low start trees bytes =
    number_from longest 4096 read low start bytes (after_number fields.CoordinateCount start trees)
field_from (fields.Coordinate more) read low start trees bytes =
    number_from longest (2 ^ 25) read low start bytes (after_number (fields.Coordinate more) start trees)
field_from fields.Divisor read low start trees bytes =
    number_from longest (2 ^ 36) read low start bytes (after_number fields.Divisor start trees)
field_from fields.MultiplierCount read low start trees bytes =
    number_from longest 1024 read low start bytes (after_number fields.MultiplierCount start trees)
field_from (fields.Row more least) read low start trees bytes =
    number_from longest 1023 read low start bytes (after_number (fields.Row more least) start trees)
field_from (fields.Multiplier more row) read low start trees bytes =
    number_from longest (2 ^ 37) read low start bytes (after_number (fields.Multiplier more row) start trees)
field_from fields.Column read low start trees bytes =
    number_from longest 4095 read low start bytes (after_number fields.Column start trees)
field_from (fields.Cut col) read low start trees bytes =
    number_from longest (2 ^ 25) read low start bytes (after_number (fields.Cut col) start trees)

-- a value is at most a greatest one, where there is one
abbrev pub IsUpTo : Option ℕ → ℕ → Type 0
IsUpTo None v = ⊥
IsUpTo (Some greatest) v = v ≤ greatest

-- a field with a token before it, or a fault, then what is left from a place on
abbrev pub field_then : Result (Field × Token) TreeError → ℕ → (ℕ → List ℕ → Reading Token) → List ℕ → Reading Token
field_then (Ok on) p trees rest = token_then on.1 (field_from on.0 0 0 p trees rest)
field_then (Err e) p trees rest = stopped e

-- a field with its token, or a fault, is what a number in another field is followed by
abbrev pub IsAfter : Field → ℕ → ℕ → Result (Field × Token) TreeError → Type 0
IsAfter f start v on = (trees : ℕ → List ℕ → Reading Token) (p : ℕ) (rest : List ℕ) → field_then on p trees rest
    ≡ after_number f start trees v p rest

-- the field before coordinates, or before multipliers, of which some number is still to come
abbrev pub coordinate_field : ℕ → Field
coordinate_field zero = fields.Node
coordinate_field (suc more) = fields.Coordinate more

abbrev pub multiplier_field : ℕ → ℕ → Field
multiplier_field zero least = fields.Node
multiplier_field (suc more) least = fields.Row more least

-- the numbers of a field that are bounded by what was read before it
abbrev pub IsFieldSound : Field → Type 0
IsFieldSound (fields.Opening read) = read < 5
IsFieldSound (fields.Multiplier more row) = row ≤ 1023
IsFieldSound other = Unit {0}

-- the most bytes from the start of a field to the next node
abbrev pub most_left : Field → ℕ
most_left (fields.Opening read) = 24600 - read
most_left fields.Claim = 24590
most_left fields.CoordinateCount = 24582
most_left (fields.Coordinate more) = 6 * (more + 1)
most_left fields.Node = 0
most_left fields.Divisor = 12399
most_left fields.MultiplierCount = 12393
most_left (fields.Row more least) = 12 * (more + 1)
most_left (fields.Multiplier more row) = 12 * more + 6
most_left fields.Column = 12
most_left (fields.Cut col) = 6

-- a list without elements
abbrev pub is_none : List ℕ → Bool
is_none [] = true
is_none (k ∷ more) = false

-- nothing is left to read: no field is begun and no tree is pending
abbrev pub is_whole : Field → List ℕ → Bool
is_whole fields.Node pending = is_none pending
is_whole other pending = false

-- whether the claim is of a point, by what is left of a field and what is known so far
abbrev pub claim_from : Field → Bool → List ℕ → Bool
claim_from (fields.Opening seen) known bytes = begins_with (drop seen opening ++ 66 ∷ []) bytes
claim_from fields.Claim known bytes = begins_with (66 ∷ []) bytes
claim_from other known bytes = known

-- before the claim no point is claimed
abbrev pub IsUnclaimed : Field → Bool → Type 0
IsUnclaimed (fields.Opening seen) known = known ≡ false
IsUnclaimed fields.Claim known = known ≡ false
IsUnclaimed other known = Unit {0}

-- the claim is read
abbrev pub IsClaimed : Field → Type 0
IsClaimed (fields.Opening seen) = ⊥
IsClaimed fields.Claim = ⊥
IsClaimed other = Unit {0}

-- a field that comes after the claim, from which on some number of bytes is left at most
abbrev pub IsNextField : ℕ → Field → Type 0
IsNextField most f = (most_left f ≡ most) × IsFieldSound f × IsClaimed f
