use Rattle.std.proofs.Common.{◌≡◌, length, map, string_bytes}
use Rattle.mps_defs.specs.Lists.{is_among}
use Rattle.ips_words.specs.Commands.{twos}
use Rattle.ips_words.proofs.plain.is_given.Given as goal

abbrev pub invariant-loop-rest : goal.invariant-loop-rest
invariant-loop-rest l =
    is_among l.option (map (λ p. p.0) (twos (map string_bytes l.words)))
    ≡ is_among l.option (map (λ p. p.0) (twos (map string_bytes l.rest)))

abbrev pub decreases-loop-rest : goal.decreases-loop-rest
decreases-loop-rest l = length l.rest
