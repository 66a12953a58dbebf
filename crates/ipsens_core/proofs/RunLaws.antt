-- What the outside of a call shows, from what reading, answering and writing say.
use Rattle.std.specs.Prelude.{◌≡◌, ◌≢◌, ◌⊎◌, ℕ, List, [], Option, Some, None, Result, Ok, Err, IfOk}
use Rattle.std.proofs.Common.{refl, sym, ◌∙◌, subst, inl, inr}
use Rattle.ips_io.specs.Causes.{Rose}
use Rattle.ips_io.specs.Files.{Files, Keeps}
use Rattle.ips_words.specs.Commands.{Word, request_of}
use Rattle.ips_words.specs.Requests.{usage_text}
use Rattle.ips_words.specs.declared.requests.Request.{Request}
use Rattle.ipsens_core.specs.Answers.{Answer, says, ReadsNoMore}
use Rattle.ipsens_core.specs.Reads.{Reads}
use Rattle.ipsens_core.specs.Runs.{Outside, shows, IsOwed, IsAnswered, IsCutOff, IsRunOf, RunMeets, AnswersRequest}
use Rattle.ipsens_core.specs.Runs.{HasCauses, IsUntouched, OneRose}
use Rattle.ipsens_core.specs.Internal.Made.{IsMade, IsPrepared, IsWritten, answer_of}
use Rattle.ipsens_core.specs.Internal.Writes.{Delivers, IsSent, IsStill, Writes}
use Rattle.ipsens_core.specs.declared.answers.Made.{Made}
use Rattle.ipsens_core.specs.declared.answers.Stop.{Stop}
use Rattle.ipsens_core.specs.declared.answers.Stop.TheVariants as Stops
use Rattle.ipsens_core.specs.declared.statuses.Status.{Status}
use Rattle.ipsens_core.specs.declared.statuses.Status.TheVariants.{Answered, NotProved, Usage, Refused, Budget, Wide, ReadFault}
use Rattle.ipsens_core.specs.declared.statuses.Status.TheVariants.{WriteFault, Memory}
use Rattle.ipsens_core.proofs.ReadLaws.{none_read}

-- what is owed where no further file is read
pub no_more_owed : (Owed : Answer → Type 0) (table : Option Files) (a : Answer) → Owed a → IsOwed (ReadsNoMore Owed) table table a
no_more_owed Owed table a owed = record { reads = []; agrees = none_read table; run = (refl, owed) }

-- ---- delivered answers

-- statuses at which a whole answer is shown
abbrev IsShownAt : Status → Type 0
IsShownAt status = (status ≡ Usage) ⊎ IsWritten status

shown_whole : (P : Reads → Answer → Type 0) (o : Outside) (status : Status) → IsShownAt status → IsAnswered P o status → RunMeets P o status
shown_whole P o Answered shown all = all
shown_whole P o NotProved shown all = all
shown_whole P o Usage shown all = all
shown_whole P o Refused shown all = all
shown_whole P o Budget shown all = all
shown_whole P o Wide shown all = all
shown_whole P o ReadFault (inl e) all = absurd (cc e)
shown_whole P o ReadFault (inr w) all = absurd w
shown_whole P o WriteFault (inl e) all = absurd (cc e)
shown_whole P o WriteFault (inr w) all = absurd w
shown_whole P o Memory (inl e) all = absurd (cc e)
shown_whole P o Memory (inr w) all = absurd w

-- an answer that is delivered, whole or cut off
meets : (P : Reads → Answer → Type 0) (before read after : Option Files) (taken taken' : Option (List ℕ)) (a : Answer) (result : Status)
    → IsShownAt a.status → IsOwed P before read a → Delivers (shows read after taken taken') a result →
    RunMeets P (shows before after taken taken') result
meets P before read after taken taken' a result shown owed' (inl d) =
    let o = shows before after taken taken' in
    subst (RunMeets P o) (sym d.0) (shown_whole P o a.status shown (record {
      answer = a;
      read = read;
      owed = owed';
      status_is = refl;
      text = d.1;
      saved = d.2;
    }))
meets P before read after taken taken' a result shown owed' (inr d) =
    subst (RunMeets P (shows before after taken taken')) (sym d.0) (record {
      answer = a;
      read = read;
      owed = owed';
      most = d.1.0;
      text = d.1.1;
      saved = d.2;
    })

-- nothing is delivered
still_meets : (P : Reads → Answer → Type 0) (before read after : Option Files) (taken taken' : Option (List ℕ)) (why result : Status)
    → Keeps before read → IsStill (shows read after taken taken') why result
    → (IsUntouched (shows before after taken taken') → RunMeets P (shows before after taken taken') why)
    → RunMeets P (shows before after taken taken') result
still_meets P before read after taken taken' why result keeps still as_untouched =
    subst (RunMeets P (shows before after taken taken')) (sym still.status_is) (as_untouched (record {
      files = subst (Keeps before) (sym still.files) keeps;
      taken = still.taken;
    }))

pub sent_meets : (P : Reads → Answer → Type 0) (before read after : Option Files) (taken taken' : Option (List ℕ)) (f f' s s' : ℕ)
    (made : Result Made Stop) (result : Status)
    → IsPrepared P before read f f' s s' made → IsSent (shows read after taken taken') made result →
    RunMeets P (shows before after taken taken') result
sent_meets P before read after taken taken' f f' s s' (Ok r) result ready sent =
    meets P before read after taken taken' (answer_of r) result (inr ready.made.written) ready.made.owed sent
sent_meets P before read after taken taken' f f' s s' (Err Stops.ReadFault) result ready sent =
    still_meets P before read after taken taken' ReadFault result ready.keeps sent (λ u. u)
sent_meets P before read after taken taken' f f' s s' (Err Stops.Memory) result ready sent =
    still_meets P before read after taken taken' Memory result ready.keeps sent (λ u. u)

-- an answer that was made has a written status
pub made_written : (P : Reads → Answer → Type 0) (before read : Option Files) (f f' s s' : ℕ) (made : Result Made Stop)
    → IsPrepared P before read f f' s s' made → IfOk made (λ r. IsWritten r.status)
made_written P before read f f' s s' (Ok r) ready = ready.made.written
made_written P before read f f' s s' (Err e) ready = tt

-- the failures of making an answer and of sending it
pub sent_causes : (P : Reads → Answer → Type 0) (before read : Option Files) (f f' f'' s s' s'' w w' : ℕ) (made : Result Made Stop)
    (result : Status)
    → IsPrepared P before read f f' s s' made → (result ≡ ReadFault → made ≡ Err Stops.ReadFault)
    → (result ≢ ReadFault → made ≢ Err Stops.ReadFault) → (result ≡ WriteFault → OneRose s' s'' w w')
    → (result ≢ WriteFault → (s'' ≡ s') × (w' ≡ w)) → f'' ≡ f' → HasCauses f f'' s s'' w w' result
sent_causes P before read f f' f'' s s' s'' w w' made result ready fault no_fault write_fault no_write_fault same = record {
  read_fault = λ is. same ∙ ready.fault (fault is);
  no_read_fault = λ not. same ∙ ready.no_fault (no_fault not);
  write_fault = λ is. subst (λ n. OneRose n s'' w w') ready.saves (write_fault is);
  no_write_fault = λ not. let n = no_write_fault not in (n.0 ∙ ready.saves, n.1);
}

-- ---- prepared answers

-- the answer that a file is owed
pub made_prepared : (P : Reads → Answer → Type 0) (before after : Option Files) (f f' s s' : ℕ) (made : Made) → IsWritten made.status
    → IsOwed P before after (answer_of made) → Keeps before after → f' ≡ f → s' ≡ s → IsPrepared P before after f f' s s' (Ok made)
made_prepared P before after f f' s s' made written owed keeps same saves = record {
  made = record { written = written; owed = owed };
  keeps = keeps;
  fault = λ is. absurd (cc is);
  no_fault = λ not. same;
  saves = saves;
}

-- the answer that a command owes without a further file
pub made_at_once : (Owed : Answer → Type 0) (table : Option Files) (f s : ℕ) (made : Made) → IsWritten made.status → Owed (answer_of made)
    → IsPrepared (ReadsNoMore Owed) table table f f s s (Ok made)
made_at_once Owed table f s made written owed =
    made_prepared (ReadsNoMore Owed) table table f f s s made written (no_more_owed Owed table (answer_of made) owed) (λ t known. known)
    refl refl

-- what was prepared for the files after one is prepared for all of them
pub prepared_then : (Rest Whole : Reads → Answer → Type 0) (before mid after : Option Files) (f f' f'' s s' s'' : ℕ)
    (result : Result Made Stop)
    → ((a : Answer) → IsOwed Rest mid after a → IsOwed Whole before after a) → Keeps before mid → f' ≡ f → s' ≡ s
    → IsPrepared Rest mid after f' f'' s' s'' result → IsPrepared Whole before after f f'' s s'' result
prepared_then Rest Whole before mid after f f' f'' s s' s'' result more keeps same saves ready = record {
  made = by result ready.made;
  keeps = λ t known. keeps t (ready.keeps t known);
  fault = λ is. subst (λ n. Rose n f'') same (ready.fault is);
  no_fault = λ not. ready.no_fault not ∙ same;
  saves = ready.saves ∙ saves;
}
  where
    by : (r : Result Made Stop) → IfOk r (IsMade Rest mid after) → IfOk r (IsMade Whole before after)
    by (Ok made) is = record { written = is.written; owed = more (answer_of made) is.owed }
    by (Err e) is = tt

-- ---- from a request to the words of it

pub owed_more : (P Q : Reads → Answer → Type 0) (before after : Option Files) (a : Answer) → ((rs : Reads) (b : Answer) → P rs b → Q rs b) →
    IsOwed P before after a → IsOwed Q before after a
owed_more P Q before after a h o = record { reads = o.reads; agrees = o.agrees; run = h o.reads a o.run }

answered_more : (P Q : Reads → Answer → Type 0) (o : Outside) (s : Status) → ((rs : Reads) (a : Answer) → P rs a → Q rs a) →
    IsAnswered P o s → IsAnswered Q o s
answered_more P Q o s h a = record {
  answer = a.answer;
  read = a.read;
  owed = owed_more P Q o.files a.read a.answer h a.owed;
  status_is = a.status_is;
  text = a.text;
  saved = a.saved;
}

cut_more : (P Q : Reads → Answer → Type 0) (o : Outside) → ((rs : Reads) (a : Answer) → P rs a → Q rs a) → IsCutOff P o → IsCutOff Q o
cut_more P Q o h a = record {
  answer = a.answer;
  read = a.read;
  owed = owed_more P Q o.files a.read a.answer h a.owed;
  most = a.most;
  text = a.text;
  saved = a.saved;
}

meets_more : (P Q : Reads → Answer → Type 0) (o : Outside) (s : Status) → ((rs : Reads) (a : Answer) → P rs a → Q rs a) →
    RunMeets P o s → RunMeets Q o s
meets_more P Q o Answered h m = answered_more P Q o Answered h m
meets_more P Q o NotProved h m = answered_more P Q o NotProved h m
meets_more P Q o Usage h m = answered_more P Q o Usage h m
meets_more P Q o Refused h m = answered_more P Q o Refused h m
meets_more P Q o Budget h m = answered_more P Q o Budget h m
meets_more P Q o Wide h m = answered_more P Q o Wide h m
meets_more P Q o ReadFault h m = m
meets_more P Q o WriteFault h m = cut_more P Q o h m
meets_more P Q o Memory h m = m

-- the run of words with this request
request_run : (words : List Word) (q : Request) (rs : Reads) (a : Answer) → request_of words ≡ Some q → AnswersRequest q rs a →
    IsRunOf words rs a
request_run words q rs a e h = rw e h

-- what a command shows for its request it shows for the words of it
pub asked_meets : (words : List Word) (q : Request) (o : Outside) (s : Status) → request_of words ≡ Some q → RunMeets (AnswersRequest q) o s
    → RunMeets (IsRunOf words) o s
asked_meets words q o s e = meets_more (AnswersRequest q) (IsRunOf words) o s (λ rs a h. request_run words q rs a e h)

-- words that are no request
pub usage_meets : (words : List Word) (files : Option Files) (taken taken' : Option (List ℕ)) (f f' : ℕ) (result : Status) →
    request_of words ≡ None
    → Writes taken taken' f f' Usage usage_text result → RunMeets (IsRunOf words) (shows files files taken taken') result
usage_meets words files taken taken' f f' result none writes =
    meets (IsRunOf words) files files files taken taken' (says Usage usage_text) result (inl refl) (record {
      reads = [];
      agrees = none_read files;
      run = rw none (refl, refl);
    }) (by writes)
  where
    by : Writes taken taken' f f' Usage usage_text result → Delivers (shows files files taken taken') (says Usage usage_text) result
    by (inl w) = inl (w.0, w.2, refl)
    by (inr w) = inr (w.0, w.2, refl)
