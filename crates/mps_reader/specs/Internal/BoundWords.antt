-- The kinds of bounds, and what a bound says of its column.
use Rattle.std.specs.Prelude.{◌≡◌, ℕ, nat_le, Bool, true, ◌&&◌, ◌||◌, not, if◌then◌else◌, List, [], ◌∷◌, length, Option, Some, codes, ℤ}
use Rattle.std.specs.Prelude.{pos}
use Rattle.mps_defs.specs.Lists.{is_among, where_true}
use Rattle.std.specs.Option.{option_or}
use Rattle.mps_defs.specs.Numbers.{is_large}
use Rattle.mps_defs.specs.Records.{Line, bound_column, bound_kind, bound_set, bound_text, takes_number}
use Rattle.mps_defs.specs.TextModels.{is_negative_number, rounded_down, rounded_up}
use Rattle.mps_defs.specs.declared.reading.Number.{Number}
use Rattle.mps_reader.specs.declared.bounds.BoundKind.{BoundKind}
use Rattle.mps_reader.specs.declared.bounds.BoundKind.TheVariants.{Lower, LowerInteger, Upper, UpperInteger, Fixed, Free, NoLower, NoUpper}
use Rattle.mps_reader.specs.declared.bounds.BoundKind.TheVariants.{Binary}
use Rattle.mps_reader.specs.declared.draft.UpperBound.{UpperBound}
use Rattle.mps_reader.specs.declared.draft.ColumnDraft.{ColumnDraft}

-- the word of a kind
abbrev pub bound_word : BoundKind → List ℕ
bound_word Lower = codes "LO"
bound_word LowerInteger = codes "LI"
bound_word Upper = codes "UP"
bound_word UpperInteger = codes "UI"
bound_word Fixed = codes "FX"
bound_word Free = codes "FR"
bound_word NoLower = codes "MI"
bound_word NoUpper = codes "PL"
bound_word Binary = codes "BV"

-- the kinds with a number, those without, and those that name a column integer
abbrev pub numbered_words : List (List ℕ)
numbered_words = codes "LO" ∷ codes "LI" ∷ codes "UP" ∷ codes "UI" ∷ codes "FX" ∷ []

abbrev pub plain_words : List (List ℕ)
plain_words = codes "FR" ∷ codes "MI" ∷ codes "PL" ∷ codes "BV" ∷ []

abbrev pub integer_words : List (List ℕ)
integer_words = codes "BV" ∷ codes "LI" ∷ codes "UI" ∷ []

-- a line has a number of fields that its kind has
abbrev pub has_right_count : Line → Bool
has_right_count l = nat_le (if takes_number l then 3 else 2) (length l.fields) && nat_le (length l.fields) 4

-- a line of a kind with the right number of fields: its set, its column and its number
pub record IsBound (l : Line) (kind : BoundKind) (set column text : List ℕ) : Type 0 where
  pub kind_is : bound_kind l ≡ bound_word kind
  pub count : has_right_count l ≡ true
  pub set_is : bound_set l ≡ set
  pub column_is : bound_column l ≡ column
  pub text_is : bound_text l ≡ text

-- what a bound of a kind and a number says as a lower side, where it is one for that side
abbrev pub lower_of : List ℕ → Number → Option (Option ℤ)
lower_of kind n =
    where_true (is_among kind (codes "LO" ∷ codes "LI" ∷ codes "FX" ∷ codes "FR" ∷ codes "MI" ∷ codes "BV" ∷ []))
    (if is_among kind (codes "BV" ∷ []) then Some (pos 0)
    else (where_true (is_among kind numbered_words && not (is_large n && is_negative_number n)) (rounded_up n)))

-- the same as an upper side, and whether it is UP or UI with a negative number
abbrev pub upper_of : List ℕ → Number → Option UpperBound
upper_of kind n =
    where_true (is_among kind (codes "UP" ∷ codes "UI" ∷ codes "FX" ∷ codes "FR" ∷ codes "PL" ∷ codes "BV" ∷ []))
    (record {
      side = if is_among kind (codes "BV" ∷ []) then Some (pos 1)
          else (where_true (is_among kind numbered_words && not (is_large n && not (is_negative_number n))) (rounded_down n));
      is_negative = is_among kind (codes "UP" ∷ codes "UI" ∷ []) && is_negative_number n;
    })

-- what a bound of a kind and a number says of its column
pub record Says (kind : List ℕ) (n : Number) (s : ColumnDraft) : Type 0 where
  pub integer : s.is_integer ≡ is_among kind integer_words
  pub lower : s.lower ≡ lower_of kind n
  pub upper : s.upper ≡ upper_of kind n

-- what is known of a column after one more bound
abbrev pub after_bound : ColumnDraft → ColumnDraft → ColumnDraft
after_bound c s = record { is_integer = c.is_integer || s.is_integer; lower = option_or s.lower c.lower; upper = option_or s.upper c.upper }
