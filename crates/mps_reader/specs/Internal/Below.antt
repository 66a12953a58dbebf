-- Numbers of a draft that are Large or of an absolute value below 10^20, as all numbers that are read.
use Rattle.std.specs.Prelude.{◌≡◌, ◌<◌, ◌≤◌, ℕ, List, slice_get, Some}
use Rattle.std.specs.Option.{ForSome}
use Rattle.decimals.specs.Decimals.{IsBelowLarge}
use Rattle.mps_defs.specs.declared.reading.Number.{Number}
use Rattle.mps_reader.specs.declared.draft.RowDraft.{RowDraft}

-- each number of the entries is so
abbrev pub AreBelowLarge : List (ℕ × Number) → Type 0
AreBelowLarge entries = (i : ℕ) (p : ℕ × Number) → slice_get entries i ≡ Some p → IsBelowLarge p.1

-- each column number is below n
abbrev pub AreWithin : ℕ → List (ℕ × Number) → Type 0
AreWithin n entries = (i : ℕ) (p : ℕ × Number) → slice_get entries i ≡ Some p → p.0 < n

-- each number of a row is so, its columns are few, and it has at most nine decimals
pub record IsRowBelow (r : RowDraft) : Type 0 where
  pub entries : AreBelowLarge r.entries.items
  pub columns : AreWithin 4096 r.entries.items
  pub right_side : ForSome r.right_side IsBelowLarge
  pub range : ForSome r.range IsBelowLarge
  pub decimals : r.decimals ≤ 9

-- each row is so
abbrev pub AreRowsBelow : List RowDraft → Type 0
AreRowsBelow rows = (i : ℕ) (r : RowDraft) → slice_get rows i ≡ Some r → IsRowBelow r
