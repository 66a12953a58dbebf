use Rattle.std.proofs.Common.{◌∙◌, ◌++◌, ◌+◌, sym, subst, get_or, Result}
use Rattle.tree_format.specs.Grammar.{shown}
use Rattle.tree_format.specs.Internal.Remaining.{IsStep}
use Rattle.tree_format.specs.declared.errors.TreeError.{TreeError}
use Rattle.tree_format.specs.declared.tokens.Token.{Token}
use Rattle.tree_format.proofs.StretchLaws.{both_read, byte_read, byte_stops, end_stops, fault_before}
use Rattle.tree_format.proofs.decoding.finish.Goals as goal

pub returns-in-Err-clause-fault : goal.returns-in-Err-clause-fault
returns-in-Err-clause-fault c =
    let i = c.loop-i.invariant in
    let bytes = c.args.bytes.now in
    let step = subst (λ (a : Result Token TreeError). IsStep c.loop-i.reader c.take.new.self (get_or bytes c.loop-i.i 0) a)
    c.in-Err.is c.take.ensures.step in
    sym (fault_before bytes c.args.reader.now c.loop-i.reader c.args.at c.loop-i.i i.0 i.1
    ∙ byte_stops bytes c.loop-i.reader c.take.new.self c.loop-i.i c.in-Err.fault c.loop-i-test.true step)

pub loop-i-preserved : goal.loop-i-preserved
loop-i-preserved c =
    let i = c.loop-i.invariant in
    let bytes = c.args.bytes.now in
    let step = subst (λ (a : Result Token TreeError). IsStep c.loop-i.reader c.take.new.self (get_or bytes c.loop-i.i 0) a)
    c.in-Ok.is c.take.ensures.step in (
      i.0 ++ shown c.in-Ok.field-0,
      both_read bytes c.args.reader.now c.loop-i.reader c.take.new.self c.args.at c.loop-i.i (c.loop-i.i + 1) i.0 (shown c.in-Ok.field-0)
          i.1 (byte_read bytes c.loop-i.reader c.take.new.self c.loop-i.i c.in-Ok.field-0 c.loop-i-test.true step),
    )

pub returns-clause-fault : goal.returns-clause-fault
returns-clause-fault c =
    let i = c.loop-i.invariant in
    let bytes = c.args.bytes.now in
    sym (fault_before bytes c.args.reader.now c.loop-i.reader c.args.at c.loop-i.i i.0 i.1
    ∙ end_stops bytes c.loop-i.reader c.loop-i.i c.ending.result c.loop-i-test.false c.ending.ensures.left)
