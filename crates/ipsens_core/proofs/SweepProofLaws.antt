-- What is owed to the file of a sweep's proof, and to a sweep that it spells.
use Rattle.std.specs.Prelude.{◌≡◌, ◌≢◌, ◌↔◌, ◌⊎◌, ℕ, List, [], map, Option, Some, None, Result, Ok, Err, codes, ℤ}
use Rattle.std.specs.Option.{MatchOption}
use Rattle.std.proofs.Common.{refl, ap, sym, ◌∙◌, subst, inl, inr}
use Rattle.ip_defs.specs.declared.programs.Parts.{Parts}
use Rattle.ip_model.specs.declared.places.Place.{Place}
use Rattle.ips_io.specs.Files.{Files, Keeps}
use Rattle.sweep_proof.specs.RowRules.{row_rules}
use Rattle.sweep_proof.specs.RowSweeps.{FitsPieces, IsExactRowSweep}
use Rattle.sweep_proof.specs.declared.row_sweeps.RowPiece.{RowPiece}
use Rattle.sweep_proof.specs.declared.row_sweeps.RowSweep.{RowSweep}
use Rattle.sweep_proof.specs.declared.verdicts.SweepVerdict.{SweepVerdict}
use Rattle.sweep_proof.specs.declared.verdicts.SweepVerdict.TheVariants.{Proved, Cover, Breach, Fall, Meet, Short}
use Rattle.tree_format.proofs.RowSpellingLaws.{row_spellings_are_read}
use Rattle.tree_format.specs.RowGrammar.{IsRowRefusal, first_row_fault}
use Rattle.tree_format.specs.RowSpellings.{SpellsRows, plain_piece}
use Rattle.tree_format.specs.declared.errors.TreeError.{TreeError}
use Rattle.tree_format.specs.declared.errors.TreeError.TheVariants as Faults
use Rattle.ipsens_core.specs.Answers.{Answer, says, ReadsNoMore}
use Rattle.ipsens_core.specs.Internal.Files.{IsFile, IsFileRead, IsLineOf}
use Rattle.ipsens_core.specs.Internal.Made.{IsPrepared, IsWritten, answer_of}
use Rattle.ipsens_core.specs.Internal.SweepProofFiles.{AreRowsRead, AreRowsRefused, IsRowsFile, IsRowsText}
use Rattle.ipsens_core.specs.Reads.{Reads}
use Rattle.ipsens_core.specs.Recheck.{IsRechecked, sweep_verdict_answer, sweep_verdict_status}
use Rattle.ipsens_core.specs.Refusals.{refused}
use Rattle.ipsens_core.specs.Runs.{IsOwed}
use Rattle.ipsens_core.specs.SweepProofFiles.{OwedToPieces, OwedToRows, ReadsRows, SpellsOwed, refuses_rows}
use Rattle.ipsens_core.specs.TreeRefusals.{fault_text}
use Rattle.ipsens_core.specs.Trees.{longest_tree}
use Rattle.ipsens_core.specs.declared.answers.Made.{Made}
use Rattle.ipsens_core.specs.declared.answers.Stop.{Stop}
use Rattle.ipsens_core.specs.declared.files.Unread.{Unread}
use Rattle.ipsens_core.specs.declared.files.Unread.TheVariants as Un
use Rattle.ipsens_core.specs.declared.statuses.Status.TheVariants.{Answered, NotProved, Refused}
use Rattle.ipsens_core.proofs.AskLaws.{fault_named}
use Rattle.ipsens_core.proofs.FileLaws.{IsRefusalOwed, file_more, last_owed, line_owed, long_owed}
use Rattle.ipsens_core.proofs.RunLaws.{made_prepared}

-- what a command owes to pieces, where it owes nothing
abbrev NoPieces : List RowPiece → Answer → Type 0
NoPieces ps a = ⊥

-- ---- the bytes

-- the refusal of the first fault is owed
pub fault_owed : (m : Parts) (bytes : List ℕ) (e : TreeError) (unread : Unread) → e ≢ Faults.Memory → IsRowRefusal bytes e
    → IsLineOf (refused (codes "proof") (fault_text e)) unread → IsRowsText m bytes (Err unread)
fault_owed m bytes e unread not is line =
    line_owed (OwedToRows m NoPieces bytes) (refused (codes "proof") (fault_text e)) unread
    (rw (fault_named (first_row_fault bytes) e not is) refl) line

-- so is that of a sweep that does not fit
pub misfit_owed : (m : Parts) (bytes : List ℕ) (s : RowSweep) (unread : Unread) → SpellsRows bytes (map plain_piece s.pieces)
    → (FitsPieces m s.pieces → ⊥) → IsLineOf (refused (codes "proof") (codes "shape")) unread → IsRowsText m bytes (Err unread)
misfit_owed m bytes s unread spelled not line =
    line_owed (OwedToRows m NoPieces bytes) (refused (codes "proof") (codes "shape")) unread
    (rw (row_spellings_are_read bytes (map plain_piece s.pieces) spelled) (record {
      pieces = s.pieces;
      spelled = spelled;
      owed = inr (not, refl);
    })) line

-- ---- the file

-- a refusal of the file is owed, whatever a command owes to pieces
refused_pieces : (m : Parts) (Owed : List RowPiece → Answer → Type 0) (ps : List RowPiece) (a : Answer) → OwedToPieces m NoPieces ps a
    → OwedToPieces m Owed ps a
refused_pieces m Owed ps a (inl h) = absurd h.1
refused_pieces m Owed ps a (inr h) = inr h

refused_rows : (m : Parts) (Owed : List RowPiece → Answer → Type 0) (bytes : List ℕ) (a : Answer) (o : Option TreeError)
    → MatchOption o (SpellsOwed m NoPieces bytes a) (λ e. a ≡ refuses_rows (fault_text e))
    → MatchOption o (SpellsOwed m Owed bytes a) (λ e. a ≡ refuses_rows (fault_text e))
refused_rows m Owed bytes a None h = record {
  pieces = h.pieces;
  spelled = h.spelled;
  owed = refused_pieces m Owed h.pieces a h.owed;
}
refused_rows m Owed bytes a (Some e) h = h

pub refused_more : (m : Parts) (name : List ℕ) (Owed : List RowPiece → Answer → Type 0) (before after : Option Files) (text : List ℕ)
    → AreRowsRefused m before after name text → IsOwed (ReadsRows name m Owed) before after (says Refused text)
refused_more m name Owed before after text owed = record {
  reads = owed.reads;
  agrees = owed.agrees;
  run = file_more name longest_tree (refuses_rows (codes "too long")) (λ bytes. ReadsNoMore (OwedToRows m NoPieces bytes))
      (λ bytes. ReadsNoMore (OwedToRows m Owed bytes))
      (λ bytes rs a h. (h.0, refused_rows m Owed bytes a (first_row_fault bytes) h.1)) owed.reads (says Refused text) owed.run;
}

pub rows_refusal : (m : Parts) (name : List ℕ) (Owed : List RowPiece → Answer → Type 0) (before after : Option Files) (unread : Unread)
    → IsRowsFile m before after name (Err unread) → IsRefusalOwed (ReadsRows name m Owed) before after unread
rows_refusal m name Owed before after (Un.Refused text) is = refused_more m name Owed before after text.items is
rows_refusal m name Owed before after Un.ReadFault is = tt
rows_refusal m name Owed before after Un.Memory is = tt

-- the file was read, and its bytes spell a sweep that fits or are refused
pub rows_read : (m : Parts) (name bytes : List ℕ) (before after : Option Files) (result : Result RowSweep Unread)
    → IsFileRead before after name longest_tree bytes → IsRowsText m bytes result → IsRowsFile m before after name result
rows_read m name bytes before after (Ok s) read is = record { bytes = bytes; read = read; rows = is }
rows_read m name bytes before after (Err (Un.Refused line)) read is =
    last_owed name bytes longest_tree (refuses_rows (codes "too long")) (λ bs. ReadsNoMore (OwedToRows m NoPieces bs)) before after
    (says Refused line.items) read (refl, is)
rows_read m name bytes before after (Err Un.ReadFault) read is = tt
rows_read m name bytes before after (Err Un.Memory) read is = tt

-- the file was not read, or is too long
pub rows_unread : (m : Parts) (name line : List ℕ) (before after : Option Files) (unread : Unread)
    → line ≡ refused (codes "proof") (codes "too long") → IsFile before after name longest_tree line (Err unread)
    → IsRowsFile m before after name (Err unread)
rows_unread m name line before after (Un.Refused text) same is =
    long_owed name longest_tree (refused (codes "proof") (codes "too long")) text.items
    (λ bs. ReadsNoMore (OwedToRows m NoPieces bs)) before after is.0 (is.1 ∙ same)
rows_unread m name line before after Un.ReadFault same is = tt
rows_unread m name line before after Un.Memory same is = tt

-- what a command owes to pieces is owed to their file
pub rows_owed : (m : Parts) (name : List ℕ) (Owed : List RowPiece → Answer → Type 0) (before after : Option Files) (s : RowSweep)
    (a : Answer) → AreRowsRead m before after name s → Owed s.pieces a → IsOwed (ReadsRows name m Owed) before after a
rows_owed m name Owed before after s a read owed =
    last_owed name read.bytes longest_tree (refuses_rows (codes "too long")) (λ bs. ReadsNoMore (OwedToRows m Owed bs)) before after a
    read.read (
      refl,
      rw (row_spellings_are_read read.bytes (map plain_piece s.pieces) read.rows.spelled) (record {
        pieces = s.pieces;
        spelled = read.rows.spelled;
        owed = inl (read.rows.fits, owed);
      }),
    )

-- ---- the verdict

verdict_says : (v : SweepVerdict) → sweep_verdict_status v ≡ Answered → v ≡ Proved
verdict_says Proved e = refl
verdict_says (Cover k) e = absurd (cc e)
verdict_says (Breach k place) e = absurd (cc e)
verdict_says (Fall k left right) e = absurd (cc e)
verdict_says (Meet k left right) e = absurd (cc e)
verdict_says (Short k bound claim) e = absurd (cc e)

-- the verdict of the rules is what is owed to pieces
pub rechecked_owed : (m : Parts) (d : List (Place × ℤ)) (steps : ℕ) (ps : List RowPiece) (a : Answer)
    → (row_rules m d steps ps ≡ Proved → IsExactRowSweep m d steps ps) → a ≡ sweep_verdict_answer m (row_rules m d steps ps)
    → IsRechecked m d steps ps a
rechecked_owed m d steps ps a exact is =
    let status : a.status ≡ sweep_verdict_status (row_rules m d steps ps) = ap (λ (b : Answer). b.status) is in
    record {
      verdict = is;
      proved = (λ e. verdict_says (row_rules m d steps ps) (sym status ∙ e), λ e. status ∙ ap sweep_verdict_status e);
      exact = λ e. exact (verdict_says (row_rules m d steps ps) (sym status ∙ e));
    }

pub rechecked_written : (m : Parts) (v : SweepVerdict) → IsWritten (sweep_verdict_answer m v).status
rechecked_written m Proved = tt
rechecked_written m (Cover k) = tt
rechecked_written m (Breach k place) = tt
rechecked_written m (Fall k left right) = tt
rechecked_written m (Meet k left right) = tt
rechecked_written m (Short k bound claim) = tt

-- the answer to the pieces of a file is prepared for the file
pub rows_prepared : (m : Parts) (d : List (Place × ℤ)) (steps : ℕ) (name : List ℕ) (before after : Option Files) (f f' s s' : ℕ)
    (sweep : RowSweep) (made : Made) → AreRowsRead m before after name sweep
    → (row_rules m d steps sweep.pieces ≡ Proved → IsExactRowSweep m d steps sweep.pieces)
    → answer_of made ≡ sweep_verdict_answer m (row_rules m d steps sweep.pieces) → Keeps before after → f' ≡ f → s' ≡ s
    → IsPrepared (ReadsRows name m (IsRechecked m d steps)) before after f f' s s' (Ok made)
rows_prepared m d steps name before after f f' s s' sweep made read exact is keeps same saves =
    let written = subst (λ (a : Answer). IsWritten a.status) (sym is) (rechecked_written m (row_rules m d steps sweep.pieces)) in
    let owed = rechecked_owed m d steps sweep.pieces (answer_of made) exact is in
    made_prepared (ReadsRows name m (IsRechecked m d steps)) before after f f' s s' made written
    (rows_owed m name (IsRechecked m d steps) before after sweep (answer_of made) read owed) keeps same saves
