use Rattle.std.proofs.Common.{List}
use Rattle.tree_format.specs.Internal.Stretches.{ReadsOn}
use Rattle.tree_format.specs.declared.tokens.Token.{Token}
use Rattle.tree_format.proofs.decoding.finish.Given as goal

abbrev pub invariant-loop-i : goal.invariant-loop-i
invariant-loop-i l = (parts : List Token) × ReadsOn l.bytes l.fn.reader l.fn.at l.reader l.i parts
