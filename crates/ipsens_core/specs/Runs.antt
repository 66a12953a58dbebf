-- The run relation, between words, the files that are read and the answer; and what the shelf and the sink show of it.
use Rattle.std.specs.Prelude.{◌≡◌, ◌≢◌, ◌⊎◌, ℕ, suc, List, [], ◌∷◌, codes, take, Option, None, Some}
use Rattle.std.specs.Option.{MatchOption, ForSome, option_map_or}
use Rattle.ip_defs.specs.declared.programs.Parts.{Parts}
use Rattle.ips_io.specs.Causes.{Rose}
use Rattle.ips_io.specs.Files.{Began, Files, Names, file_of, Keeps, Takes, KeepsOthers}
use Rattle.mps_defs.specs.declared.reading.How.{How}
use Rattle.ipsens_core.specs.Answers.{Answer, says, ReadsNoMore}
use Rattle.ipsens_core.specs.Reads.{Reads, Agrees}
use Rattle.ipsens_core.specs.Ask.{AnswersAsk}
use Rattle.ipsens_core.specs.Check.{AnswersCheck}
use Rattle.ipsens_core.specs.Models.{ReadsModel, reading}
use Rattle.ipsens_core.specs.Recheck.{AnswersRecheck}
use Rattle.ipsens_core.specs.Show.{AnswersShow}
use Rattle.ipsens_core.specs.Solve.{AnswersSolve}
use Rattle.ipsens_core.specs.Sweep.{AnswersSweep}
use Rattle.ips_words.specs.Commands.{Word, request_of}
use Rattle.ips_words.specs.Requests.{AreLimits, IsReading, usage_text}
use Rattle.ips_words.specs.declared.requests.Request.{Request}
use Rattle.ips_words.specs.declared.requests.Request.TheVariants.{Solve, Check, Ask, Sweep, Recheck, Show, Trial}
use Rattle.ipsens_core.specs.declared.statuses.Status.{Status}
use Rattle.ipsens_core.specs.declared.statuses.Status.TheVariants.{Answered, NotProved, Usage, Refused, Budget, Wide, ReadFault}
use Rattle.ipsens_core.specs.declared.statuses.Status.TheVariants.{WriteFault, Memory}

-- ---- the run relation

-- the model file of a request, and how its text is read
abbrev pub model_file : Request → Option (List ℕ × How)
model_file (Solve model tree nodes depth pivots digits box_side) = Some (model, reading digits box_side)
model_file (Check model tree digits box_side) = Some (model, reading digits box_side)
model_file (Ask model tree questions digits box_side) = Some (model, reading digits box_side)
model_file (Sweep model sweep proof nodes depth pivots digits box_side) = Some (model, reading digits box_side)
model_file (Recheck model sweep proof digits box_side) = Some (model, reading digits box_side)
model_file (Show model digits box_side) = Some (model, reading digits box_side)
model_file (Trial number) = None

-- what a command owes to its model and to the files after it: a line for each command that is built. No words ask for the other
abbrev pub AnswersModel : Request → Parts → Reads → Answer → Type 0
AnswersModel (Solve model tree nodes depth pivots digits box_side) m = AnswersSolve tree nodes depth pivots m
AnswersModel (Check model tree digits box_side) m = AnswersCheck tree m
AnswersModel (Ask model tree questions digits box_side) m = AnswersAsk tree questions m
AnswersModel (Sweep model sweep proof nodes depth pivots digits box_side) m = AnswersSweep sweep proof nodes depth pivots m
AnswersModel (Recheck model sweep proof digits box_side) m = AnswersRecheck sweep proof m
AnswersModel (Show model digits box_side) m = AnswersShow m
AnswersModel (Trial number) m = λ rs a. ⊥

-- what is owed to a request: its model file is read, and then its command answers
abbrev pub AnswersRequest : Request → Reads → Answer → Type 0
AnswersRequest q rs a = MatchOption (model_file q) ⊥ (λ file. ReadsModel file.0 file.1 (AnswersModel q) rs a)

-- the word of the command of a request
abbrev pub command_word : Request → Word
command_word (Solve model tree nodes depth pivots digits box_side) = codes "solve"
command_word (Check model tree digits box_side) = codes "check"
command_word (Ask model tree questions digits box_side) = codes "ask"
command_word (Sweep model sweep proof nodes depth pivots digits box_side) = codes "sweep"
command_word (Recheck model sweep proof digits box_side) = codes "recheck"
command_word (Show model digits box_side) = codes "show"
command_word (Trial number) = codes "trial"

-- the command of a request is built, and its numbers are in their ranges
abbrev pub IsReady : Request → Type 0
IsReady (Solve model tree nodes depth pivots digits box_side) = AreLimits nodes depth pivots × IsReading digits box_side
IsReady (Check model tree digits box_side) = IsReading digits box_side
IsReady (Ask model tree questions digits box_side) = IsReading digits box_side
IsReady (Sweep model sweep proof nodes depth pivots digits box_side) = AreLimits nodes depth pivots × IsReading digits box_side
IsReady (Recheck model sweep proof digits box_side) = IsReading digits box_side
IsReady (Show model digits box_side) = IsReading digits box_side
IsReady (Trial number) = ⊥

-- the usage line where the words are no request, else an answer to the request
abbrev pub IsRunOf : List Word → Reads → Answer → Type 0
IsRunOf words rs a = MatchOption (request_of words) (ReadsNoMore (λ b. b ≡ says Usage usage_text) rs a) (λ q. AnswersRequest q rs a)

-- ---- the files of a request

-- the files that a command reads after its model file, in their order
abbrev pub files_after : Request → Names
files_after (Solve model tree nodes depth pivots digits box_side) = []
files_after (Check model tree digits box_side) = tree ∷ []
files_after (Ask model tree questions digits box_side) = tree ∷ questions ∷ []
files_after (Sweep model sweep proof nodes depth pivots digits box_side) = sweep ∷ []
files_after (Recheck model sweep proof digits box_side) = sweep ∷ proof ∷ []
files_after (Show model digits box_side) = []
files_after (Trial number) = []

-- the files that a request names, in the order in which they are read
abbrev pub files_named : Request → Names
files_named q = option_map_or (λ file. file.0 ∷ files_after q) (model_file q) []

-- those that words name: none where they are no request
abbrev pub files_asked : List Word → Names
files_asked words = option_map_or files_named (request_of words) []

-- the first of these files was begun, and then no more than the first of the others
abbrev pub HasBegun : Option Names → Option Names → Names → Type 0
HasBegun before after names = (more : ℕ) × Began before after (take (suc more) names)

-- one failure was counted: of a file that was saved, or of the output
abbrev pub OneRose : ℕ → ℕ → ℕ → ℕ → Type 0
OneRose saves saves_after faults faults_after = (Rose saves saves_after × (faults_after ≡ faults))
    ⊎ ((saves_after ≡ saves) × Rose faults faults_after)

-- a failure ends a run exactly where one was counted: of reading by the shelf, of writing by the shelf as it saved or by the sink
pub record HasCauses (faults faults_after saves saves_after writes writes_after : ℕ) (status : Status) : Type 0 where
  pub read_fault : status ≡ ReadFault → Rose faults faults_after
  pub no_read_fault : status ≢ ReadFault → faults_after ≡ faults
  pub write_fault : status ≡ WriteFault → OneRose saves saves_after writes writes_after
  pub no_write_fault : status ≢ WriteFault → (saves_after ≡ saves) × (writes_after ≡ writes)

-- ---- what the outside shows

-- the shelf's table of files and the bytes that the sink took, before and after a run
pub record Outside : Type 0 where
  pub files : Option Files
  pub files_after : Option Files
  pub taken : Option (List ℕ)
  pub taken_after : Option (List ℕ)

-- the outside of a call, by what is known of it
abbrev pub shows : Option Files → Option Files → Option (List ℕ) → Option (List ℕ) → Outside
shows files files_after taken taken_after = record { files = files; files_after = files_after; taken = taken; taken_after = taken_after }

-- the named file is saved, and the others are as before
abbrev pub Saves : Option Files → Option Files → Option (List ℕ × List ℕ) → Type 0
Saves before after None = after ≡ before
Saves before after (Some s) = KeepsOthers before after s.0 × ForSome after (λ new. file_of new s.0 ≡ Some s.1)

-- the same, where nothing is known of the named file
abbrev pub MaySave : Option Files → Option Files → Option (List ℕ × List ℕ) → Type 0
MaySave before after None = after ≡ before
MaySave before after (Some s) = KeepsOthers before after s.0

-- files were read, and this is owed to them
pub record IsOwed (IsRun : Reads → Answer → Type 0) (before after : Option Files) (answer : Answer) : Type 0 where
  pub reads : Reads
  pub agrees : Agrees before after reads
  pub run : IsRun reads answer

-- statuses 0 to 5: the whole text of an answer with that status is taken, and its file is saved
pub record IsAnswered (IsRun : Reads → Answer → Type 0) (o : Outside) (status : Status) : Type 0 where
  pub answer : Answer
  pub read : Option Files
  pub owed : IsOwed IsRun o.files read answer
  pub status_is : answer.status ≡ status
  pub text : Takes o.taken o.taken_after answer.text
  pub saved : Saves read o.files_after answer.saved

-- status 7: a prefix of the text of an answer is taken
pub record IsCutOff (IsRun : Reads → Answer → Type 0) (o : Outside) : Type 0 where
  pub answer : Answer
  pub read : Option Files
  pub owed : IsOwed IsRun o.files read answer
  pub most : ℕ
  pub text : Takes o.taken o.taken_after (take most answer.text)
  pub saved : MaySave read o.files_after answer.saved

-- statuses 6 and 8: nothing is taken or saved
pub record IsUntouched (o : Outside) : Type 0 where
  pub files : Keeps o.files o.files_after
  pub taken : o.taken_after ≡ o.taken

-- what a run shows at each status
abbrev pub RunMeets : (Reads → Answer → Type 0) → Outside → Status → Type 0
RunMeets IsRun o ReadFault = IsUntouched o
RunMeets IsRun o Memory = IsUntouched o
RunMeets IsRun o WriteFault = IsCutOff IsRun o
RunMeets IsRun o Answered = IsAnswered IsRun o Answered
RunMeets IsRun o NotProved = IsAnswered IsRun o NotProved
RunMeets IsRun o Usage = IsAnswered IsRun o Usage
RunMeets IsRun o Refused = IsAnswered IsRun o Refused
RunMeets IsRun o Budget = IsAnswered IsRun o Budget
RunMeets IsRun o Wide = IsAnswered IsRun o Wide

-- what a call for a request shows, and what of the outside it leaves as it was: where saving failed nothing is written, and no file is
-- begun but the first of those that the request names
pub record MeetsRequest (q : Request) (o : Outside) (faults faults_after saves saves_after writes writes_after : ℕ)
    (names names_after : Option Names) (status : Status) : Type 0 where
  pub answer : RunMeets (AnswersRequest q) o status
  pub causes : HasCauses faults faults_after saves saves_after writes writes_after status
  pub unsaved : saves_after ≢ saves → o.taken_after ≡ o.taken
  pub begun : HasBegun names names_after (files_named q)
  pub no_usage : status ≢ Usage
