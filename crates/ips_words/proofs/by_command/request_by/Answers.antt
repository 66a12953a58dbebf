use Rattle.std.proofs.Common.{refl}
use Rattle.ips_words.proofs.by_command.request_by.Goals as goal

pub returns-in-Check : goal.returns-in-Check
returns-in-Check c =
    rw (
      c.in-Check.is,
      c.in_ok-first.ensures,
      c.in_ok-second.ensures,
      c.how_by-digits.ensures.digits,
      c.how_by-digits.ensures.box_side,
    ) refl

pub returns-in-Ask : goal.returns-in-Ask
returns-in-Ask c =
    rw (
      c.in-Ask.is,
      c.in_ok-first.ensures,
      c.in_ok-second.ensures,
      c.in_ok-third.ensures,
      c.how_by-digits.ensures.digits,
      c.how_by-digits.ensures.box_side,
    ) refl

pub returns-in-Recheck : goal.returns-in-Recheck
returns-in-Recheck c =
    rw (
      c.in-Recheck.is,
      c.in_ok-first.ensures,
      c.in_ok-second.ensures,
      c.in_ok-third.ensures,
      c.how_by-digits.ensures.digits,
      c.how_by-digits.ensures.box_side,
    ) refl

pub returns-in-Show : goal.returns-in-Show
returns-in-Show c =
    rw (
      c.in-Show.is,
      c.in_ok-first.ensures,
      c.how_by-digits.ensures.digits,
      c.how_by-digits.ensures.box_side,
    ) refl
