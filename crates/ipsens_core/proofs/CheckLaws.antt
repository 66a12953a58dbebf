-- What is owed to a tree file that was read.
use Rattle.std.specs.Prelude.{◌≡◌, ℕ, List, [], ◌∷◌, length, Option, None, Result, Ok, Err, codes}
use Rattle.std.proofs.Common.{refl, sym, subst}
use Rattle.ip_defs.specs.declared.programs.Parts.{Parts}
use Rattle.ips_io.specs.Files.{Files}
use Rattle.proof_tree.specs.Trees.{PlainTree, tree_bound}
use Rattle.proof_tree.specs.Verdicts.{IsProvedVerdict, judged}
use Rattle.proof_tree.specs.declared.claims.Claim.{Claim}
use Rattle.proof_tree.specs.declared.verdicts.Verdict.{Verdict}
use Rattle.proof_tree.specs.declared.verdicts.Verdict.TheVariants.{Proved, NotFeasible, Short}
use Rattle.proof_tree.proofs.VerdictLaws.{claims_are_true, verdict_exact}
use Rattle.proof_tree.proofs.WithinLaws.{fits_of}
use Rattle.tree_checker.specs.Streams.{first_misfit}
use Rattle.tree_checker.specs.declared.streams.StreamError.{StreamError}
use Rattle.tree_checker.specs.declared.streams.StreamError.TheVariants as Errors
use Rattle.tree_format.proofs.SpellingLaws.{spellings_are_read}
use Rattle.ipsens_core.specs.Check.{AnswersCheck, IsJudged, verdict_answer, verdict_status}
use Rattle.ipsens_core.specs.Internal.Made.{IsWritten}
use Rattle.ipsens_core.specs.Internal.TreeFiles.{IsTreeRead, IsTreeTooLong, answer_to_tree}
use Rattle.ipsens_core.specs.Runs.{IsOwed}
use Rattle.ipsens_core.specs.Trees.{longest_tree, refuses_tree}
use Rattle.ipsens_core.specs.declared.statuses.Status.TheVariants.{Answered}
use Rattle.ipsens_core.proofs.FileLaws.{is_above, is_within}

-- status 0 is that of a verdict which says proved
status_says : (v : Verdict) → verdict_status v ≡ Answered → IsProvedVerdict v
status_says (Proved w) e = tt
status_says (NotFeasible breach) e = absurd (cc e)
status_says (Short bound w) e = absurd (cc e)

says_status : (v : Verdict) → IsProvedVerdict v → verdict_status v ≡ Answered
says_status (Proved w) h = refl
says_status (NotFeasible breach) h = absurd h
says_status (Short bound w) h = absurd h

-- the verdict on a proof that fits is what is owed to it
pub judged_is : (m : Parts) (c : Claim) (t : PlainTree) → first_misfit m c t ≡ None
    → IsJudged m c t (verdict_answer m (judged m c (tree_bound m t)))
judged_is m c t none =
    let fits = fits_of m c t none in
    let exact = verdict_exact m c (tree_bound m t) fits.0 in
    let v = judged m c (tree_bound m t) in
    record {
      verdict = refl;
      proved = (λ e. exact.0 (status_says v e), λ p. says_status v (exact.1 p));
      holds = λ e. claims_are_true m t c fits.1.columns (exact.0 (status_says v e));
    }

-- the answer to what the bytes of a tree file come to is owed to the file
pub tree_owed : (m : Parts) (name : List ℕ) (before after : Option Files) (result : Result Verdict StreamError) →
    IsTreeRead m before after name result → IsOwed (AnswersCheck name m) before after (answer_to_tree m result)
tree_owed m name before after (Ok v) read =
    let short = is_within longest_tree (length read.bytes) read.short in
    let a = read.answer in
    let sound = (spellings_are_read read.bytes a.0 a.1 a.2).0 in
    let owed = subst (λ u. IsJudged m a.0 a.1 (verdict_answer m u)) (sym a.4) (judged_is m a.0 a.1 a.3) in
    record {
      reads = (name, read.bytes) ∷ [];
      agrees = read.agrees;
      run = (refl, rw short (rw sound (a.0, a.1, a.2, rw a.3 (refl, owed))));
    }
tree_owed m name before after (Err (Errors.Tree e)) read =
    let short = is_within longest_tree (length read.bytes) read.short in
    record { reads = (name, read.bytes) ∷ []; agrees = read.agrees; run = (refl, rw short (rw read.answer (refl, refl))) }
tree_owed m name before after (Err (Errors.Shape s)) read =
    let short = is_within longest_tree (length read.bytes) read.short in
    let a = read.answer in
    let sound = (spellings_are_read read.bytes a.0 a.1 a.2).0 in
    record {
      reads = (name, read.bytes) ∷ [];
      agrees = read.agrees;
      run = (refl, rw short (rw sound (a.0, a.1, a.2, rw a.3 (refl, refl))));
    }

-- the refusal of a tree file that is too long is owed to it
pub long_tree_owed : (m : Parts) (name : List ℕ) (before after : Option Files) → IsTreeTooLong before after name
    → IsOwed (AnswersCheck name m) before after (refuses_tree (codes "too long"))
long_tree_owed m name before after long =
    record {
      reads = (name, long.bytes) ∷ [];
      agrees = long.agrees;
      run = (refl, rw (is_above longest_tree (length long.bytes) long.long) (refl, refl));
    }

-- the answer to a tree file is a verdict or a refusal
pub tree_written : (m : Parts) (result : Result Verdict StreamError) → IsWritten (answer_to_tree m result).status
tree_written m (Ok (Proved w)) = tt
tree_written m (Ok (NotFeasible breach)) = tt
tree_written m (Ok (Short bound w)) = tt
tree_written m (Err (Errors.Tree e)) = tt
tree_written m (Err (Errors.Shape s)) = tt
