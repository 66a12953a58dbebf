use Rattle.std.proofs.Common.{◌∙◌, ◌+◌, [], List, ap, subst, get_or, Ok, Result}
use Rattle.tree_format.specs.Internal.Remaining.{IsStep}
use Rattle.tree_format.specs.Internal.Stretches.{ReadsOn}
use Rattle.tree_format.specs.declared.errors.TreeError.{TreeError}
use Rattle.tree_format.specs.declared.tokens.Token.{Token}
use Rattle.tree_format.specs.declared.tokens.Token.TheVariants.{Nothing}
use Rattle.tree_format.proofs.StretchLaws.{both_read, byte_read, error_before, error_at_end, shown_part}
use Rattle.tree_format.proofs.decoding.next_part.Goals as goal

pub loop-at-preserved : goal.loop-at-preserved
loop-at-preserved c =
    let step = subst (λ (a : Result Token TreeError). IsStep c.loop-at.reader c.take.new.self (get_or c.args.bytes.now c.loop-at.at 0) a)
    (c.in-Ok.is ∙ ap (λ (t : Token). Ok t) c.in-Nothing.is) c.take.ensures.step in
    both_read c.args.bytes.now c.args.reader.now c.loop-at.reader c.take.new.self c.args.at.now c.loop-at.at (c.loop-at.at + 1) [] []
    c.loop-at.invariant (byte_read c.args.bytes.now c.loop-at.reader c.take.new.self c.loop-at.at Nothing c.loop-at-test.true step)

pub returns-in_default : goal.returns-in_default
returns-in_default c =
    let step = subst (λ (a : Result Token TreeError). IsStep c.loop-at.reader c.take.new.self (get_or c.args.bytes.now c.loop-at.at 0) a)
    c.in-Ok.is c.take.ensures.step in
    let one = byte_read c.args.bytes.now c.loop-at.reader c.take.new.self c.loop-at.at c.in-Ok.token c.loop-at-test.true step in
    record {
      on = subst (λ (ps : List Token). ReadsOn c.args.bytes.now c.args.reader.now c.args.at.now c.take.new.self (c.loop-at.at + 1) ps)
          (shown_part c.in-Ok.token c.in_default.not-Nothing)
          (both_read c.args.bytes.now c.args.reader.now c.loop-at.reader c.take.new.self c.args.at.now c.loop-at.at (c.loop-at.at + 1) [] _
          c.loop-at.invariant one);
      fault = tt;
    }

pub returns-clause-fault : goal.returns-clause-fault
returns-clause-fault c =
    error_before c.args.bytes.now c.args.reader.now c.loop-at.reader c.args.at.now c.loop-at.at [] c.in-Err-ending.fault
    c.loop-at.invariant
    (error_at_end c.args.bytes.now c.loop-at.reader c.loop-at.at c.in-Err-ending.fault c.loop-at-test.false c.in-Err-ending.ensures.left)
