-- A tree file that is fed to a check piece by piece.
use Rattle.std.specs.Prelude.{◌≡◌, ℕ, ◌+◌, ◌<◌, ◌≤◌, List, ◌++◌, length, take, Option, Result, Err}
use Rattle.std.proofs.Common.{refl, arith, subst, length-append}
use Rattle.std.proofs.lemmas.List.{length-take-le}
use Rattle.ip_defs.specs.declared.programs.Parts.{Parts}
use Rattle.ips_io.specs.Files.{Files, Keeps}
use Rattle.ips_io.specs.Shelves.{BecomesUnknown, IsTooLong, Moves}
use Rattle.ips_io.specs.declared.reading.ReadError.{ReadError}
use Rattle.ips_io.specs.declared.reading.ReadError.TheVariants as Reading
use Rattle.ips_io.proofs.PieceLaws.{Reads, reads_beyond, reads_end, reads_next}
use Rattle.tree_checker.specs.Streams.{HasStreamed, IsStreamAnswer}
use Rattle.proof_tree.specs.declared.verdicts.Verdict.{Verdict}
use Rattle.tree_checker.specs.declared.streams.StreamError.{StreamError}
use Rattle.tree_checker.specs.declared.streams.Streaming.{Streaming}
use Rattle.ipsens_core.specs.Internal.TreeFiles.{HasFedFile, IsTreeFile, IsTreeRead, IsTreeTooLong}
use Rattle.ipsens_core.specs.Trees.{longest_tree}
use Rattle.ipsens_core.proofs.ReadLaws.{long_read, one_read}

-- a check was fed the first bytes of the named file, and the rest is left
pub record IsFed (m : Parts) (check : Parts × Streaming) (files : Option Files) (left : Option (List ℕ)) (name : List ℕ)
    (taken : ℕ) : Type 0 where
  pub bytes : List ℕ
  pub size : length bytes ≡ taken
  pub streamed : HasStreamed m check bytes
  pub content : Reads files left name bytes

-- a piece more
pub fed_next : (m : Parts) (check check' : Parts × Streaming) (files files' : Option Files) (left left' : Option (List ℕ))
    (name into piece : List ℕ) (n taken : ℕ) → files' ≡ files → Moves left left' n into → n ≤ length into → piece ≡ take n into
    → ((bytes : List ℕ) → HasStreamed m check bytes → HasStreamed m check' (bytes ++ piece)) → IsFed m check files left name taken
    → IsFed m check' files' left' name (taken + n)
fed_next m check check' files files' left left' name into piece n taken same moves within is feeds fed =
    let all : length (fed.bytes ++ take n into) ≡ length fed.bytes + length (take n into) = length-append fed.bytes (take n into) in
    let cut = length-take-le n into within in
    let size = fed.size in
    record {
      bytes = fed.bytes ++ take n into;
      size = omega arith;
      streamed = subst (λ bs. HasStreamed m check' (fed.bytes ++ bs)) is (feeds fed.bytes fed.streamed);
      content = reads_next files files' left left' name fed.bytes into n same fed.content moves;
    }

-- the end of the file
pub fed_end : (m : Parts) (check : Parts × Streaming) (files files' : Option Files) (left left' : Option (List ℕ)) (name into : List ℕ)
    (n taken : ℕ) → n ≡ 0 → files' ≡ files → Moves left left' n into → taken ≤ longest_tree → IsFed m check files left name taken
    → HasFedFile m check files' name
fed_end m check files files' left left' name into n taken none same moves short fed = record {
  bytes = fed.bytes;
  whole = reads_end files files' left left' name fed.bytes into n none same fed.content moves;
  short = let size = fed.size in omega arith;
  streamed = fed.streamed;
}

-- a piece that is too much
pub fed_beyond : (m : Parts) (check : Parts × Streaming) (files files' : Option Files) (left left' : Option (List ℕ)) (name into : List ℕ)
    (n taken : ℕ) → n ≤ length into → longest_tree < taken + n → files' ≡ files → Moves left left' n into
    → IsFed m check files left name taken → IsTooLong files' name longest_tree
fed_beyond m check files files' left left' name into n taken within beyond same moves fed =
    let size = fed.size in
    reads_beyond files files' left left' name fed.bytes into n longest_tree within (omega arith) same fed.content moves

-- the answer to a file that was fed whole
pub tree_read : (m : Parts) (check : Parts × Streaming) (before after : Option Files) (name : List ℕ) (result : Result Verdict StreamError)
    → Keeps before after → BecomesUnknown before after name → HasFedFile m check after name
    → ((bytes : List ℕ) → HasStreamed m check bytes → IsStreamAnswer m bytes result) → IsTreeRead m before after name result
tree_read m check before after name result keeps unknown fed answer = record {
  bytes = fed.bytes;
  agrees = one_read before after name fed.bytes keeps unknown fed.whole;
  short = fed.short;
  answer = answer fed.bytes fed.streamed;
}

-- a file that is too long
pub tree_too_long : (before after : Option Files) (name : List ℕ) → Keeps before after → BecomesUnknown before after name
    → IsTooLong after name longest_tree → IsTreeTooLong before after name
tree_too_long before after name keeps unknown long =
    let read = long_read before after name longest_tree keeps unknown long in
    record { bytes = read.bytes; long = read.long; agrees = read.agrees }

-- how reading ends without an answer
pub tree_unread : (m : Parts) (before after : Option Files) (name : List ℕ) (error : ReadError) → Keeps before after
    → BecomesUnknown before after name → (error ≡ Reading.TooLong → IsTooLong after name longest_tree)
    → IsTreeFile m before after name (Err error)
tree_unread m before after name Reading.TooLong keeps unknown long = tree_too_long before after name keeps unknown (long refl)
tree_unread m before after name Reading.Fault keeps unknown long = tt
tree_unread m before after name Reading.Memory keeps unknown long = tt
