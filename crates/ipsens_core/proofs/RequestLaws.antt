-- A request that is carried out: its model file, its numbers, and the files that it begins.
use Rattle.std.specs.Prelude.{◌≡◌, ℕ, suc, List, [], ◌∷◌, Option, Some, Result, Ok, Err, IfOk}
use Rattle.std.proofs.Common.{subst}
use Rattle.ips_io.specs.Files.{Began, BeganFirst, Files, Names}
use Rattle.ips_words.specs.Commands.{Word, request_of}
use Rattle.ips_words.specs.Requests.{AreInRange, IsBuilt}
use Rattle.ips_words.specs.declared.requests.Request.{Request}
use Rattle.ips_words.specs.declared.requests.Request.TheVariants.{Solve, Check, Ask, Sweep, Recheck, Show, Trial}
use Rattle.mps_defs.specs.TextModels.{IsHow}
use Rattle.mps_defs.specs.declared.reading.How.{How}
use Rattle.ipsens_core.specs.Answers.{Answer}
use Rattle.ipsens_core.specs.Internal.Made.{IsMade, IsPrepared, answer_of}
use Rattle.ipsens_core.specs.Models.{ReadsModel, reading}
use Rattle.ipsens_core.specs.Reads.{Reads}
use Rattle.ipsens_core.specs.Runs.{AnswersModel, AnswersRequest, HasBegun, IsReady, files_after, files_asked, files_named, model_file}
use Rattle.ipsens_core.specs.declared.answers.Made.{Made}
use Rattle.ipsens_core.specs.declared.answers.Stop.{Stop}
use Rattle.ipsens_core.proofs.ReadLaws.{began_then}
use Rattle.ipsens_core.proofs.RunLaws.{owed_more}

-- ---- the numbers of a request

-- words that are a request ask for a command that is built, with numbers in their ranges
pub request_ready : (q : Request) → AreInRange q → IsBuilt q → IsReady q
request_ready (Solve model tree nodes depth pivots digits box_side) ranges built = (ranges.2, ranges.3)
request_ready (Check model tree digits box_side) ranges built = ranges.2
request_ready (Ask model tree questions digits box_side) ranges built = ranges.3
request_ready (Sweep model sweep proof nodes depth pivots digits box_side) ranges built = (ranges.3, ranges.4)
request_ready (Recheck model sweep proof digits box_side) ranges built = ranges.3
request_ready (Show model digits box_side) ranges built = ranges.1
request_ready (Trial number) ranges built = absurd (cc built)

-- so its model file may be read
same_file : (file other : List ℕ × How) → Some file ≡ Some other → IsHow file.1 → IsHow other.1
same_file file other is may =
    let pair : file ≡ other = cc in
    subst (λ (f : List ℕ × How). IsHow f.1) pair may

pub how_ready : (q : Request) (name : List ℕ) (how : How) → IsReady q → model_file q ≡ Some (name, how) → IsHow how
how_ready (Solve model tree nodes depth pivots digits box_side) name how ready is =
    same_file (model, reading digits box_side) (name, how) is ready.1
how_ready (Check model tree digits box_side) name how ready is = same_file (model, reading digits box_side) (name, how) is ready
how_ready (Ask model tree questions digits box_side) name how ready is =
    same_file (model, reading digits box_side) (name, how) is ready
how_ready (Sweep model sweep proof nodes depth pivots digits box_side) name how ready is =
    same_file (model, reading digits box_side) (name, how) is ready.1
how_ready (Recheck model sweep proof digits box_side) name how ready is =
    same_file (model, reading digits box_side) (name, how) is ready
how_ready (Show model digits box_side) name how ready is = same_file (model, reading digits box_side) (name, how) is ready
how_ready (Trial number) name how ready is = absurd ready

-- ---- what is owed to a request

request_owed : (q : Request) (name : List ℕ) (how : How) → model_file q ≡ Some (name, how) → (rs : Reads) (a : Answer)
    → ReadsModel name how (AnswersModel q) rs a → AnswersRequest q rs a
request_owed q name how is rs a owed = rw is owed

-- an answer that is owed to the model file of a request and the files after it is owed to the request
pub request_prepared : (q : Request) (name : List ℕ) (how : How) (before after : Option Files) (f f' s s' : ℕ) (result : Result Made Stop)
    → model_file q ≡ Some (name, how) → IsPrepared (ReadsModel name how (AnswersModel q)) before after f f' s s' result
    → IsPrepared (AnswersRequest q) before after f f' s s' result
request_prepared q name how before after f f' s s' result is ready = record {
  made = by result ready.made;
  keeps = ready.keeps;
  fault = ready.fault;
  no_fault = ready.no_fault;
  saves = ready.saves;
}
  where
    by : (r : Result Made Stop) → IfOk r (IsMade (ReadsModel name how (AnswersModel q)) before after)
        → IfOk r (IsMade (AnswersRequest q) before after)
    by (Ok made) h = record {
      written = h.written;
      owed = owed_more (ReadsModel name how (AnswersModel q)) (AnswersRequest q) before after (answer_of made)
          (request_owed q name how is) h.owed;
    }
    by (Err e) h = tt

-- ---- the files that are begun

-- one file, then the first of others
begun_more : (before mid after : Option Names) (name : List ℕ) (names : Names) → Began before mid (name ∷ [])
    → BeganFirst mid after names → HasBegun before after (name ∷ names)
begun_more before mid after name names one more = (more.0, began_then before mid after name names one more)

-- the model file of a request, then the first of the files after it
pub request_begun : (q : Request) (name : List ℕ) (how : How) (before mid after : Option Names) → model_file q ≡ Some (name, how)
    → Began before mid (name ∷ []) → BeganFirst mid after (files_after q) → HasBegun before after (files_named q)
request_begun q name how before mid after is one more = rw is (begun_more before mid after name (files_after q) one more)

-- its model file alone
pub model_begun : (q : Request) (name : List ℕ) (how : How) (before after : Option Names) → model_file q ≡ Some (name, how)
    → Began before after (name ∷ []) → HasBegun before after (files_named q)
model_begun q name how before after is one = rw is (0, one)

-- the first files of a request are those of its words
pub asked_begun : (words : List Word) (q : Request) (before after : Option Names) → request_of words ≡ Some q
    → HasBegun before after (files_named q) → BeganFirst before after (files_asked words)
asked_begun words q before after is begun = rw is (suc begun.0, begun.1)
