use Rattle.std.proofs.Common.{◌<◌, ◌∙◌, arith, sym}
use Rattle.ip_defs.specs.Lists.{Each}
use Rattle.tree_format.proofs.DecodingLaws.{are_bytes}
use Rattle.tree_format.proofs.NumberStepLaws.{number_stands, number_fails, number_cut, on_by_byte, goes_on}
use Rattle.tree_format.proofs.number_steps.read_number.Goals as goal

pub returns-in-Ends-clause-on : goal.returns-in-Ends-clause-on
returns-in-Ends-clause-on c =
    let each : Each (λ b. b < 256) c.args.bytes.now =
    are_bytes c.args.bytes.now (λ i. (let fits = c.type_inv.bytes i in omega (arith, fits))) in
    let i = c.loop-at.invariant in
    number_stands c.args.greatest c.args.bytes.now c.args.at.now c.loop-at.read c.loop-at.low c.loop-at.at c.in-Ends.value
    c.requires.greatest each c.loop-at-test.true i.place i.left (sym c.next_digit.ensures ∙ c.in-Ends.is)

pub loop-at-preserved : goal.loop-at-preserved
loop-at-preserved c =
    let i = c.loop-at.invariant in
    let digit = sym c.next_digit.ensures ∙ c.in-GoesOn.is in
    let byte = (c.type_inv.bytes c.loop-at.at).fits in
    let on = goes_on c.args.greatest c.loop-at.read c.loop-at.low c.args.at.now _ c.in-GoesOn.value (omega (arith, byte)) i.few i.low
    digit in
    let l = c.loop-at-test.true in
    let place = i.place in
    record {
      place = omega arith;
      within = omega arith;
      few = on.0;
      low = on.1;
      left = on_by_byte c.args.greatest c.args.bytes.now c.args.at.now c.loop-at.read c.loop-at.low c.loop-at.at c.in-GoesOn.value l i.left
          digit;
    }

pub returns-in-Fails-clause-fault : goal.returns-in-Fails-clause-fault
returns-in-Fails-clause-fault c =
    number_fails c.args.greatest c.args.bytes.now c.args.at.now c.loop-at.read c.loop-at.low c.loop-at.at c.in-Fails.fault
    c.loop-at-test.true c.loop-at.invariant.left (sym c.next_digit.ensures ∙ c.in-Fails.is)

pub returns-clause-fault : goal.returns-clause-fault
returns-clause-fault c =
    number_cut c.args.greatest c.args.bytes.now c.args.at.now c.loop-at.read c.loop-at.low c.loop-at.at c.loop-at-test.false
    c.loop-at.invariant.place c.loop-at.invariant.left
