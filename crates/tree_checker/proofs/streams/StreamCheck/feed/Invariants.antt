use Rattle.std.proofs.Common.{◌≡◌, ◌++◌, ℕ, List, None, take}
use Rattle.ip_defs.specs.declared.programs.Parts.{Parts}
use Rattle.tree_checker.specs.Streams.{HasStreamed}
use Rattle.tree_checker.proofs.streams.StreamCheck.feed.Given as goal

abbrev pub invariant-loop-byte : goal.invariant-loop-byte
invariant-loop-byte l = record {
  none : l.self.1.fault ≡ None;
  read : (m : Parts) (bytes : List ℕ) → HasStreamed m l.fn.self bytes → HasStreamed m l.self (bytes ++ take l.byte-index l.piece);
}
