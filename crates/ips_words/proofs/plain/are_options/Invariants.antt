use Rattle.std.proofs.Common.{◌≡◌, length, map, string_bytes}
use Rattle.ips_words.specs.Commands.{are_options}
use Rattle.ips_words.specs.Internal.Rows.{choice_row}
use Rattle.ips_words.proofs.plain.are_options.Given as goal

abbrev pub invariant-loop-rest : goal.invariant-loop-rest
invariant-loop-rest l =
    are_options (map choice_row l.choices) (map string_bytes l.words)
    ≡ are_options (map choice_row l.choices) (map string_bytes l.rest)

abbrev pub decreases-loop-rest : goal.decreases-loop-rest
decreases-loop-rest l = length l.rest
