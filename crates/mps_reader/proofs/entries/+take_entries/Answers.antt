use Rattle.std.proofs.Common.{sym, ap, ◌++◌, ◌∷◌, [], ◌-◌, length, take, drop, get_or, subst}
use Rattle.mps_defs.specs.Records.{entries_from, entry_of}
use Rattle.mps_defs.specs.Faults.{entry_faults}
use Rattle.mps_reader.specs.Internal.Taking.{owner_word, RowsHave, AreEntriesTaken, entry_faults_after}
use Rattle.mps_reader.proofs.TakingLaws.{passed_on, stopped}
use Rattle.mps_reader.proofs.TableLaws.{words, one_entry, no_entry, go_on}
use Rattle.mps_reader.proofs.entries.+take_entries.Goals as goal
use Rattle.std.proofs.lemmas.List.{append-nil}

pub returns-in_err-take_entry-in-len2-up : goal.returns-in_err-take_entry-in-len2-up
returns-in_err-take_entry-in-len2-up t c =
    let a = c.from_residual.ensures in
    let error = c.in_err-take_entry-in-len2-up.field-0.0 in
    let is = passed_on c.from_residual.result error _ a.0 a.1 (λ x g. g) in
    let fields = c.args.fields.now in
    let rest = take (length fields - 2) (drop 2 fields) in
    λ ls es name have owns.
    let e = entry_of c.args.line name (get_or fields 0 _).now (get_or fields 1 _).now in
    let more = entries_from c.args.line name (words rest) in
    subst (λ l. AreEntriesTaken ls c.args.owner es c.take_entry.new.rows l c.from_residual.result)
    (sym (one_entry c.args.line name fields _ c.in-len2-up.len_at_least))
    (stopped (entry_faults (owner_word c.args.owner) ls es e) (entry_faults_after ls c.args.owner (es ++ e ∷ []) more)
    (λ (u : Unit {0}). RowsHave ls c.args.owner (es ++ e ∷ []) c.take_entry.new.rows) _ c.from_residual.result error is
    (c.in_err-take_entry-in-len2-up.ensures ls es name have owns))

pub returns-in_default : goal.returns-in_default
returns-in_default t c = λ ls es name have owns.
    let none = sym (no_entry c.args.line name c.args.fields.now c.in_default.len_below) in (
      ap (entry_faults_after ls c.args.owner es) (sym none),
      subst (λ l. RowsHave ls c.args.owner (es ++ l) c.args.rows.now) none
          (subst (λ l. RowsHave ls c.args.owner l c.args.rows.now) (sym (append-nil es)) have),
    )

pub returns-in_ok-take_entry-in-len2-up : goal.returns-in_ok-take_entry-in-len2-up
returns-in_ok-take_entry-in-len2-up t c =
    let fields = c.args.fields.now in
    let rest = take (length fields - 2) (drop 2 fields) in
    λ ls es name have owns.
    let e = entry_of c.args.line name (get_or fields 0 _).now (get_or fields 1 _).now in
    let more = entries_from c.args.line name (words rest) in
    let first = c.in_ok-take_entry-in-len2-up.ensures ls es name have owns in
    subst (λ l. AreEntriesTaken ls c.args.owner es c.take_entries.new.rows l c.take_entries.result)
    (sym (one_entry c.args.line name fields _ c.in-len2-up.len_at_least))
    (go_on ls c.args.owner es more e c.take_entries.new.rows c.take_entries.result first.0
    (c.take_entries.ensures ls (es ++ e ∷ []) name first.1 owns))
