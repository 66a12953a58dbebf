-- Counts of failures, and what the answer of a call says of its count.
use Rattle.std.specs.Prelude.{◌≡◌, ℕ, ◌+◌, ◌-◌, ◌^◌, min, OnOk, OnErr, Result}

-- what a count shows: at most 2^64 - 1
abbrev pub shown_count : ℕ → ℕ
shown_count n = min n (2 ^ 64 - 1)

-- a count with one more, which stands still at 2^64 - 1
abbrev pub counted : ℕ → ℕ
counted before = shown_count (before + 1)

-- one failure was counted: the count is greater by one, or stands at its end
abbrev pub Rose : ℕ → ℕ → Type 0
Rose before now = now ≡ counted before

-- a call that succeeded counted no failure, and one that failed counted one
pub record HasCause {T E : Type 0} (before now : ℕ) (result : Result T E) : Type 0 where
  pub stands : OnOk result (now ≡ before)
  pub failed : OnErr result (Rose before now)
