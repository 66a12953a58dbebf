-- How reading a tree file ends.
use Rattle.std.specs.Prelude.{◌<◌, ◌≤◌, ℕ, List, [], ◌∷◌, length, Option, Result, Ok, Err}
use Rattle.ip_defs.specs.declared.programs.Parts.{Parts}
use Rattle.ips_io.specs.Files.{Files}
use Rattle.ips_io.specs.Shelves.{IsWhole}
use Rattle.ips_io.specs.declared.reading.ReadError.{ReadError}
use Rattle.ips_io.specs.declared.reading.ReadError.TheVariants as Reading
use Rattle.proof_tree.specs.declared.verdicts.Verdict.{Verdict}
use Rattle.tree_checker.specs.Streams.{HasStreamed, IsStreamAnswer}
use Rattle.tree_checker.specs.declared.streams.StreamError.{StreamError}
use Rattle.tree_checker.specs.declared.streams.StreamError.TheVariants as Errors
use Rattle.tree_checker.specs.declared.streams.Streaming.{Streaming}
use Rattle.ipsens_core.specs.Answers.{Answer}
use Rattle.ipsens_core.specs.Check.{verdict_answer}
use Rattle.ipsens_core.specs.Reads.{Agrees}
use Rattle.ipsens_core.specs.TreeRefusals.{fault_text, misfit_text}
use Rattle.ipsens_core.specs.Trees.{longest_tree, refuses_tree}

-- a check has taken all bytes of the named file, which is within its length
pub record HasFedFile (m : Parts) (check : Parts × Streaming) (files : Option Files) (name : List ℕ) : Type 0 where
  pub bytes : List ℕ
  pub whole : IsWhole files name bytes
  pub short : length bytes ≤ longest_tree
  pub streamed : HasStreamed m check bytes

-- the tree file was read, is within its length, and this is the answer to its bytes
pub record IsTreeRead (m : Parts) (before after : Option Files) (name : List ℕ) (result : Result Verdict StreamError) : Type 0 where
  pub bytes : List ℕ
  pub agrees : Agrees before after ((name, bytes) ∷ [])
  pub short : length bytes ≤ longest_tree
  pub answer : IsStreamAnswer m bytes result

-- the tree file is longer than the limit
pub record IsTreeTooLong (before after : Option Files) (name : List ℕ) : Type 0 where
  pub bytes : List ℕ
  pub long : longest_tree < length bytes
  pub agrees : Agrees before after ((name, bytes) ∷ [])

-- how reading a tree file ends
abbrev pub IsTreeFile : Parts → Option Files → Option Files → List ℕ → Result (Result Verdict StreamError) ReadError → Type 0
IsTreeFile m before after name (Ok result) = IsTreeRead m before after name result
IsTreeFile m before after name (Err Reading.TooLong) = IsTreeTooLong before after name
IsTreeFile m before after name (Err Reading.Fault) = Unit {0}
IsTreeFile m before after name (Err Reading.Memory) = Unit {0}

-- the answer to a tree file that spells no proof, or none that fits
abbrev pub refuses_proof : StreamError → Answer
refuses_proof (Errors.Tree e) = refuses_tree (fault_text e)
refuses_proof (Errors.Shape s) = refuses_tree (misfit_text s)

-- the answer to what the bytes of a tree file come to
abbrev pub answer_to_tree : Parts → Result Verdict StreamError → Answer
answer_to_tree m (Ok v) = verdict_answer m v
answer_to_tree m (Err error) = refuses_proof error
