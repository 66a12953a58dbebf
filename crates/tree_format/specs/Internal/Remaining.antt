-- How far a tree file is read, and what is left of it.
use Rattle.std.specs.Prelude.{◌≡◌, ℕ, suc, ◌+◌, ◌*◌, ◌^◌, ◌<◌, ◌≤◌, false, List, [], ◌∷◌, ◌++◌, Option, Some, None, Result, Ok, Err, Bool}
use Rattle.tree_format.specs.Readings.{Reading, complete, stopped, parts_then}
use Rattle.tree_format.specs.Grammar.{tree_at, end_at, reading, parts_so_far, claims_point, unless_cut}
use Rattle.tree_format.specs.Internal.Fields.{field_from, token_then, greatest_of, IsFieldSound, most_left, claim_from, IsUnclaimed}
use Rattle.tree_format.specs.declared.errors.TreeError.{TreeError}
use Rattle.tree_format.specs.declared.fields.Field.{Field}
use Rattle.tree_format.specs.declared.fields.Field.TheVariants as fields
use Rattle.tree_format.specs.declared.numbers.Digit.{Digit}
use Rattle.tree_format.specs.declared.numbers.Digit.TheVariants.{Fails}
use Rattle.tree_format.specs.declared.progress.Progress.{Progress}
use Rattle.tree_format.specs.declared.tokens.Token.{Token}

-- the trees that are still to be read, by the levels that each may have, then the end
abbrev pub trees_at : List ℕ → ℕ → ℕ → List ℕ → Reading Token
trees_at [] nodes place bytes = end_at place bytes
trees_at (levels ∷ more) nodes place bytes = tree_at levels nodes place bytes (trees_at more)

-- what is left of a file of which no byte had a fault
abbrev pub left_of : Progress → List ℕ → Reading Token
left_of s bytes = field_from s.field s.read s.low s.start (trees_at s.pending s.nodes) bytes

abbrev pub unless_fault : Option TreeError → Reading Token → Reading Token
unless_fault None r = r
unless_fault (Some e) r = stopped e

-- what is left of a file
abbrev pub remaining : Progress → List ℕ → Reading Token
remaining s bytes = unless_fault s.fault (left_of s bytes)

-- an answer to a byte, then what is left after it
abbrev pub answer_then : Result Token TreeError → Reading Token → Reading Token
answer_then (Ok token) r = token_then token r
answer_then (Err e) r = stopped e

-- a node is counted, and its first field is next
abbrev pub begun : Progress → Field → Progress
begun s f = record {
  field = f;
  start = s.start + 1;
  read = s.read;
  low = s.low;
  nodes = s.nodes + 1;
  pending = s.pending;
  claims_point = s.claims_point;
  fault = s.fault;
}

-- levels are below 801 and rise, the first of them from some number on
abbrev pub RiseFrom : ℕ → List ℕ → Type 0
RiseFrom least [] = least ≤ 801
RiseFrom least (k ∷ more) = (least ≤ k) × RiseFrom (suc k) more

-- the levels of pending trees: those after the first rise from it on
abbrev pub ArePending : List ℕ → Type 0
ArePending [] = Unit {0}
ArePending (k ∷ more) = RiseFrom k more

-- no byte of a file had a fault, and what is kept of it is within its limits
pub record IsSound (s : Progress) : Type 0 where
  pub read : s.read < 6
  pub low : s.low < 128 ^ s.read
  pub bare : greatest_of s.field ≡ None → s.read ≡ 0
  pub field : IsFieldSound s.field
  pub place : s.start + most_left s.field ≤ 24600 + 12400 * s.nodes
  pub nodes : s.nodes ≤ 1000000
  pub pending : ArePending s.pending
  pub claim : IsUnclaimed s.field s.claims_point

-- a fault that stands whatever follows
abbrev pub IsFinal : TreeError → Type 0
IsFinal e = unless_cut (Some e) ≡ Some e

-- a byte of a number ends it with no other fault
abbrev pub IsFinalDigit : Digit → Type 0
IsFinalDigit (Fails e) = IsFinal e
IsFinalDigit other = Unit {0}

-- where no byte had a fault, it is sound
abbrev pub IsSoundUnless : Option TreeError → Progress → Type 0
IsSoundUnless None s = IsSound s
IsSoundUnless (Some e) s = IsFinal e

-- the fault of an answer, or none
abbrev pub fault_of : {A : Type 0} → Result A TreeError → Option TreeError
fault_of (Ok x) = None
fault_of (Err e) = Some e

-- whether the claim is of a point, by what is left after an answer
abbrev pub claim_after : Result Token TreeError → Progress → List ℕ → Bool
claim_after (Ok token) s bytes = claim_from s.field s.claims_point bytes
claim_after (Err e) s bytes = s.claims_point

abbrev pub claim_unless : Option TreeError → Progress → List ℕ → Bool
claim_unless None s bytes = claim_from s.field s.claims_point bytes
claim_unless (Some e) s bytes = s.claims_point

-- a reader has read some bytes: whatever comes after them, what the whole comes to is what they came to and what is left of it
pub record HasRead (s : Progress) (bytes : List ℕ) : Type 0 where
  pub left : (more : List ℕ) → reading (bytes ++ more) ≡ parts_then (parts_so_far bytes) (remaining s more)
  pub claim : (more : List ℕ) → claims_point (bytes ++ more) ≡ claim_unless s.fault s more

-- a byte of a reader had a fault
abbrev pub HasFailed : Progress → TreeError → Type 0
HasFailed s e = s.fault ≡ Some e

-- a reader before the first byte, with trees pending
abbrev pub start_with : List ℕ → Progress
start_with pending = record {
  field = fields.Opening 0;
  start = 0;
  read = 0;
  low = 0;
  nodes = 0;
  pending = pending;
  claims_point = false;
  fault = None;
}

-- a step of a reader by a byte and its answer
pub record IsStep (s t : Progress) (b : ℕ) (answer : Result Token TreeError) : Type 0 where
  pub left : (more : List ℕ) → answer_then answer (remaining t more) ≡ remaining s (b ∷ more)
  pub sound : IsSoundUnless t.fault t
  pub fault : t.fault ≡ fault_of answer
  pub claim : (more : List ℕ) → claim_unless t.fault t more ≡ claim_unless s.fault s (b ∷ more)

-- what is left where no byte follows: nothing, or a fault
abbrev pub ended_by : Result (Unit {0}) TreeError → Reading Token
ended_by (Ok done) = complete
ended_by (Err e) = stopped e
