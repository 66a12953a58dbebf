use Rattle.std.proofs.Common.{◌∷◌, [], ◌≡◌, ◌≤◌, ◌-◌, true}
use Rattle.ips_io.specs.Files.{Began, Keeps}
use Rattle.ips_io.specs.Shelves.{BecomesUnknown}
use Rattle.ipsens_core.proofs.FeedLaws.{IsFed}
use Rattle.ipsens_core.proofs.trees.feed_file.Given as goal

abbrev pub invariant-loop-n : goal.invariant-loop-n
invariant-loop-n g l = record {
  begun : g.S.Shelf.begun l.shelf ≡ true;
  names : Began (g.S.Shelf.begun_names l.fn.shelf) (g.S.Shelf.begun_names l.shelf) (l.name ∷ []);
  faults : g.S.Shelf.faults l.shelf ≡ g.S.Shelf.faults l.fn.shelf;
  saves : g.S.Shelf.save_faults l.shelf ≡ g.S.Shelf.save_faults l.fn.shelf;
  files : Keeps (g.S.Shelf.files l.fn.shelf) (g.S.Shelf.files l.shelf);
  unknown : BecomesUnknown (g.S.Shelf.files l.fn.shelf) (g.S.Shelf.files l.shelf) l.name;
  room : l.taken ≤ 268435456;
  fed : IsFed l.fn.check.0 l.check (g.S.Shelf.files l.shelf) (g.S.Shelf.left l.shelf) l.name l.taken;
}

abbrev pub decreases-loop-n : goal.decreases-loop-n
decreases-loop-n g l = 268435456 - l.taken
