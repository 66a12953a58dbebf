-- What is owed to a file that was read, and to the files after it.
use Rattle.std.specs.Prelude.{◌≡◌, ℕ, ◌<◌, ◌≤◌, nat_lt, Bool, true, false, List, [], ◌∷◌, length, Option, Result, Ok, Err}
use Rattle.std.specs.Bool.{MatchBool}
use Rattle.std.proofs.Common.{refl, arith, ap, sym, ◌∙◌, subst}
use Rattle.std.proofs.lemmas.Bool.Decides.{nat_tests}
use Rattle.ips_io.specs.Files.{Files, Keeps}
use Rattle.ips_io.specs.Shelves.{BecomesUnknown, IsTooLong}
use Rattle.ipsens_core.specs.Answers.{Answer, says, ReadsFile}
use Rattle.ipsens_core.specs.Internal.Files.{IsFile, IsFileRead, IsFileTooLong, IsLineOf, IsRefusedText}
use Rattle.ipsens_core.specs.Reads.{Reads}
use Rattle.ipsens_core.specs.Runs.{IsOwed}
use Rattle.ipsens_core.specs.declared.files.Unread.{Unread}
use Rattle.ipsens_core.specs.declared.files.Unread.TheVariants as Un
use Rattle.ipsens_core.specs.declared.statuses.Status.TheVariants.{Refused}
use Rattle.ipsens_core.proofs.ReadLaws.{agrees_more, long_read}

pub is_above : (n m : ℕ) → n < m → nat_lt n m ≡ true
is_above n m h = grind (arith, nat_tests)

pub is_within : (n m : ℕ) → m ≤ n → nat_lt n m ≡ false
is_within n m h = grind (arith, nat_tests)

-- what is owed to the bytes of a file and to the files after it is owed to the file and those
pub file_owed : (name bytes : List ℕ) (longest : ℕ) (too_long : Answer) (Rest : List ℕ → Reads → Answer → Type 0)
    (before mid after : Option Files) (a : Answer)
    → IsFileRead before mid name longest bytes → IsOwed (Rest bytes) mid after a
    → IsOwed (ReadsFile name longest too_long Rest) before after a
file_owed name bytes longest too_long Rest before mid after a read owed = record {
  reads = (name, bytes) ∷ owed.reads;
  agrees = agrees_more before mid after (name, bytes) owed.reads read.agrees owed.agrees;
  run = (refl, rw (is_within longest (length bytes) read.short) owed.run);
}

-- what is owed to the bytes of the last file
pub last_owed : (name bytes : List ℕ) (longest : ℕ) (too_long : Answer) (Rest : List ℕ → Reads → Answer → Type 0)
    (before after : Option Files) (a : Answer) → IsFileRead before after name longest bytes → Rest bytes [] a
    → IsOwed (ReadsFile name longest too_long Rest) before after a
last_owed name bytes longest too_long Rest before after a read owed = record {
  reads = (name, bytes) ∷ [];
  agrees = read.agrees;
  run = (refl, rw (is_within longest (length bytes) read.short) owed);
}

-- the refusal of a file that is too long is owed to it
pub long_owed : (name : List ℕ) (longest : ℕ) (line text : List ℕ) (Rest : List ℕ → Reads → Answer → Type 0) (before after : Option Files)
    → IsFileTooLong before after name longest → text ≡ line
    → IsOwed (ReadsFile name longest (says Refused line) Rest) before after (says Refused text)
long_owed name longest line text Rest before after long is = record {
  reads = (name, long.bytes) ∷ [];
  agrees = long.agrees;
  run = (refl, rw (is_above longest (length long.bytes) long.long) (refl, ap (says Refused) is));
}

-- what is owed to the bytes of a file may be weakened
pub file_more : (name : List ℕ) (longest : ℕ) (too_long : Answer) (P Q : List ℕ → Reads → Answer → Type 0)
    → ((bytes : List ℕ) (rs : Reads) (a : Answer) → P bytes rs a → Q bytes rs a) → (rs : Reads) (a : Answer)
    → ReadsFile name longest too_long P rs a → ReadsFile name longest too_long Q rs a
file_more name longest too_long P Q more [] a h = h
file_more name longest too_long P Q more (r ∷ rs) a h = (h.0, by (nat_lt longest (length r.1)) h.1)
  where
    by : (t : Bool) → MatchBool t ((rs ≡ []) × (a ≡ too_long)) (P r.1 rs a) → MatchBool t ((rs ≡ []) × (a ≡ too_long)) (Q r.1 rs a)
    by true g = g
    by false g = more r.1 rs a g

-- a text is refused with the line that is owed
pub line_owed : (Owed : Answer → Type 0) (line : List ℕ) (unread : Unread) → Owed (says Refused line) → IsLineOf line unread
    → IsRefusedText Owed unread
line_owed Owed line (Un.Refused text) owed is = subst (λ bs. Owed (says Refused bs)) (sym is) owed
line_owed Owed line Un.ReadFault owed is = is
line_owed Owed line Un.Memory owed is = is

-- reading ended at a file that is too long
pub long_file : (before after : Option Files) (name : List ℕ) (longest : ℕ) (line : List ℕ) (unread : Unread) → Keeps before after
    → BecomesUnknown before after name → IsTooLong after name longest → IsLineOf line unread
    → IsFile before after name longest line (Err unread)
long_file before after name longest line (Un.Refused text) keeps unknown long is =
    (long_read before after name longest keeps unknown long, is)
long_file before after name longest line Un.ReadFault keeps unknown long is = tt
long_file before after name longest line Un.Memory keeps unknown long is = tt

-- a refusal of the file that is owed
abbrev pub IsRefusalOwed : (Reads → Answer → Type 0) → Option Files → Option Files → Unread → Type 0
IsRefusalOwed Whole before after (Un.Refused text) = IsOwed Whole before after (says Refused text.items)
IsRefusalOwed Whole before after Un.ReadFault = Unit {0}
IsRefusalOwed Whole before after Un.Memory = Unit {0}
