use Rattle.std.proofs.Common.{◌∷◌, [], ◌≡◌, ◌≤◌, ◌-◌, ◌++◌, ℕ, true, vec_len, List, Some}
use Rattle.std.specs.Option.{ForSome}
use Rattle.ips_io.specs.Files.{Began, Keeps, file_of}
use Rattle.ips_io.specs.Shelves.{BecomesUnknown}
use Rattle.ips_io.proofs.reading.read_all.Given as goal

abbrev pub invariant-loop-bytes : goal.invariant-loop-bytes
invariant-loop-bytes g l = record {
  begun : g.S.Shelf.begun l.shelf ≡ true;
  names : Began (g.S.Shelf.begun_names l.fn.shelf) (g.S.Shelf.begun_names l.shelf) (l.name ∷ []);
  faults : g.S.Shelf.faults l.shelf ≡ g.S.Shelf.faults l.fn.shelf;
  saves : g.S.Shelf.save_faults l.shelf ≡ g.S.Shelf.save_faults l.fn.shelf;
  files : Keeps (g.S.Shelf.files l.fn.shelf) (g.S.Shelf.files l.shelf);
  unknown : BecomesUnknown (g.S.Shelf.files l.fn.shelf) (g.S.Shelf.files l.shelf) l.name;
  room : vec_len l.bytes ≤ l.most;
  content : ForSome (g.S.Shelf.files l.shelf) (λ t. (rest : List ℕ) × (g.S.Shelf.left l.shelf ≡ Some rest)
      × (file_of t l.name ≡ Some (l.bytes.items ++ rest)));
}

abbrev pub decreases-loop-bytes : goal.decreases-loop-bytes
decreases-loop-bytes g l = l.most - vec_len l.bytes
