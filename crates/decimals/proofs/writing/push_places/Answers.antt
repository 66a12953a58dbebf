use Rattle.std.proofs.Common.{string_bytes}
use Rattle.decimals.proofs.NumberLaws.{place_written}
use Rattle.decimals.proofs.writing.push_places.Goals as goal

pub loop-remaining-preserved : goal.loop-remaining-preserved
loop-remaining-preserved c =
    let digit = c.quotient_and_remainder-digit in
    let done =
    place_written _ (string_bytes c.loop-remaining.text)
    (string_bytes c.push.new.self) _ c.loop-remaining.left c.loop-remaining.remaining c.from.result digit.result.0 digit.result.1
    c.from-in-loop-remaining.result c.loop-remaining.invariant.written c.loop-remaining-test.true
    c.loop-remaining.invariant.below c.from.ensures digit.ensures.quotient digit.ensures.remainder
    c.from-in-loop-remaining.ensures c.in_ok-push.ensures.ascii c.in_ok-push.ensures.bytes in
    record { written = done.0; below = done.1 }
