use Rattle.std.proofs.Common.{arith, rules, ◌≡◌, ◌+◌, ◌-◌, ◌∙◌, sym, ap, subst, length, List, Ok}
use Rattle.frac128.specs.Fractions.{Fraction}
use Rattle.tableau.specs.Tables.{at}
use Rattle.simplex_exact.specs.Answers.{IsLpAnswer}
use Rattle.simplex_exact.specs.Internal.Numbers.{IsNumber}
use Rattle.simplex_exact.specs.Internal.Reads.{IsRead}
use Rattle.simplex_exact.proofs.ScanLaws.{written_back}
use Rattle.ip_defs.specs.declared.programs.Parts.{Parts}
use Rattle.ip_defs.specs.declared.programs.Column.{Column}
use Rattle.ip_defs.specs.declared.programs.Row.{Row}
use Rattle.simplex_laws.specs.Laws.{CanStep, IsTableOf}
use Rattle.simplex_laws.specs.Runs.{after, step}
use Rattle.simplex_laws.specs.Wides.{IsWideAfter, wide_step, wide_number}
use Rattle.simplex_laws.proofs.RunLaws.{runs_stand, reached_one_more}
use Rattle.simplex_laws.proofs.StepLaws.{steps_can_be_made}
use Rattle.simplex_exact.proofs.AnswerLaws.{read_is}
use Rattle.simplex_laws.proofs.UncrossedLaws.{uncrossed}
use Rattle.simplex_exact.proofs.solving.solve.Goals as goal

pub loop-next-init : goal.loop-next-init
unfolding after
loop-next-init g c =
    let reached = ap Ok (sym c.in_ok-tableau.ensures.start) in
    let node : IsTableOf c.args.model.now c.args.area.now c.in_ok-tableau.tableau =
    runs_stand c.args.model.now c.args.area.now 0 c.in_ok-tableau.tableau c.parts-parts.ensures.limits c.requires.size reached in
    let size = node.stands.size in
    let rows = ap (λ (xs : List Row). length xs) c.as_slice-2.ensures in
    let columns = ap (λ (xs : List Column). length xs) c.as_slice.ensures in
    let own_rows = ap (λ (m : Parts). length m.rows) c.parts-parts.ensures.parts in
    let own_columns = ap (λ (m : Parts). length m.columns) c.parts-parts.ensures.parts in
    record {
      within = omega arith;
      steps = omega arith;
      reached = record { after = reached; unfinished = λ k l. absurd (omega arith) };
      node = node;
      basic_rows = search rules;
      values = search rules;
    }

pub choose-requires-clause-rows : goal.choose-requires-clause-rows
choose-requires-clause-rows g c =
    let rows = c.loop-next.invariant.node.stands.rows in
    let is = ap (λ (xs : List Row). length xs) c.as_slice-2.ensures in
    let model = ap (λ (m : Parts). length m.rows) c.parts-parts.ensures.parts in
    omega arith

pub choose-requires-clause-small : goal.choose-requires-clause-small
choose-requires-clause-small g c =
    let size = c.loop-next.invariant.node.stands.size in
    let columns = c.parts-parts.ensures.limits.column_count in
    let rows = c.parts-parts.ensures.limits.row_count in
    let basic_rows = c.loop-next.invariant.basic_rows in
    omega arith

pub returns-in-Err-clause-answer : goal.returns-in-Err-clause-answer
returns-in-Err-clause-answer g c =
    let rose : c.loop-next.taken ≡ c.loop-next.steps - c.args.steps.now = omega arith in
    subst (IsWideAfter c.args.model.now c.args.area.now) rose
    (wide_number c.loop-next.tableau c.loop-next.invariant.reached c.in-Err.ensures.wide)

pub read-requires-clause-sizes : goal.read-requires-clause-sizes
read-requires-clause-sizes g c =
    let size = c.loop-next.invariant.node.stands.size in
    let few_columns = c.parts-parts.ensures.limits.column_count in
    let few_rows = c.parts-parts.ensures.limits.row_count in
    let rows = ap (λ (xs : List Row). length xs) c.as_slice-2.ensures in
    let columns = ap (λ (xs : List Column). length xs) c.as_slice.ensures in
    let own_rows = ap (λ (m : Parts). length m.rows) c.parts-parts.ensures.parts in
    let own_columns = ap (λ (m : Parts). length m.columns) c.parts-parts.ensures.parts in
    record { small = omega arith; count = omega arith }

pub read-requires-clause-step : goal.read-requires-clause-step
read-requires-clause-step g c =
    let T = c.loop-next.tableau in
    subst (CanStep T) (sym c.in-Ok.ensures.next) (steps_can_be_made c.args.model.now c.args.area.now T c.loop-next.invariant.node.table
    c.loop-next.invariant.node.stands)

pub read-requires-clause-values : goal.read-requires-clause-values
read-requires-clause-values g c = λ e v l.
    let T = c.loop-next.tableau in
    let whole : c.loop-next.values.len ≡ length c.choose.new.values = omega arith in
    let is : c.as_slice-then-is_last.result.now ≡ c.choose.new.values = c.as_slice-then-is_last.ensures.value
    ∙ written_back c.loop-next.values.len c.choose.new.values c.loop-next.values.items whole in
    subst (λ (xs : List Fraction). IsNumber T v (at xs v)) (sym is) (c.in-Ok.ensures.numbers (ap Ok e) v l)

pub returns-then-is_last-clause-answer : goal.returns-then-is_last-clause-answer
returns-then-is_last-clause-answer g c =
    let m = c.args.model.now in
    let b = c.args.area.now in
    let rows : length c.as_slice-2.result.now ≡ length m.rows = ap (λ (xs : List Row). length xs) c.as_slice-2.ensures
    ∙ ap (λ (m : Parts). length m.rows) c.parts-parts.ensures.parts in
    let columns : length c.as_slice.result.now ≡ length m.columns = ap (λ (xs : List Column). length xs) c.as_slice.ensures
    ∙ ap (λ (m : Parts). length m.columns) c.parts-parts.ensures.parts in
    let read = subst (λ n. IsRead c.loop-next.tableau (length m.columns) n c.in-Ok.next c.in_ok-answer.answer) rows
    (subst (λ n. IsRead c.loop-next.tableau n (length c.as_slice-2.result.now) c.in-Ok.next c.in_ok-answer.answer) columns
    c.in_ok-answer.ensures) in
    let answer = read_is m b c.loop-next.taken c.loop-next.tableau c.parts-parts.ensures.limits c.requires.size
    (uncrossed m b c.requires.size c.requires.proper c.requires.uncrossed) c.loop-next.invariant.reached c.in-Ok.next
    c.in_ok-answer.answer c.in-Ok.ensures.next read in
    let rose : c.loop-next.taken ≡ c.loop-next.steps - c.args.steps.now = omega arith in
    subst (λ n. IsLpAnswer m b n c.in_ok-answer.answer) rose answer

pub take-requires-clause-step : goal.take-requires-clause-step
take-requires-clause-step g c =
    let T = c.loop-next.tableau in
    subst (CanStep T) (sym c.in-Ok.ensures.next) (steps_can_be_made c.args.model.now c.args.area.now T c.loop-next.invariant.node.table
    c.loop-next.invariant.node.stands)

pub loop-next-preserved : goal.loop-next-preserved
loop-next-preserved g c =
    let m = c.args.model.now in
    let b = c.args.area.now in
    let T = c.loop-next.tableau in
    let reached = reached_one_more m b c.loop-next.taken T c.take.new.tableau c.in-Ok.next c.loop-next.invariant.reached
    (sym c.in-Ok.ensures.next) (sym c.if-is_last.ensures) c.in-Ok-take.ensures.taken in
    let node : IsTableOf m b c.take.new.tableau = runs_stand m b (c.loop-next.taken + 1) c.take.new.tableau
    c.parts-parts.ensures.limits c.requires.size reached.after in
    let size = node.stands.size in
    let size_before = c.loop-next.invariant.node.stands.size in
    record {
      within = omega arith;
      steps = omega (arith, c.in-Ok-take.ensures.steps);
      reached = reached;
      node = node;
      basic_rows = ap length (written_back c.loop-next.basic_rows.len c.choose.new.basic_rows c.loop-next.basic_rows.items (omega arith))
          ∙ omega arith;
      values = ap length (written_back c.loop-next.values.len c.choose.new.values c.loop-next.values.items (omega arith)) ∙ omega arith;
    }

pub returns-in-Err-take-clause-answer : goal.returns-in-Err-take-clause-answer
returns-in-Err-take-clause-answer g c =
    let rose : c.take.new.steps - c.args.steps.now ≡ c.loop-next.taken + 1 = omega (arith, c.in-Err-take.ensures.steps) in
    wide_step c.loop-next.taken c.loop-next.tableau rose c.loop-next.invariant.reached
    (ap (step c.loop-next.tableau) (sym c.in-Ok.ensures.next) ∙ c.in-Err-take.ensures.wide)
