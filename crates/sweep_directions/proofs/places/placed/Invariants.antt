use Rattle.std.specs.Prelude.{◌≡◌, ◌+◌, ◌++◌, drop, length}
use Rattle.perturbation.specs.Edits.{located}
use Rattle.sweep_directions.specs.Directions.{first_fault, no_place, place_fault, placed_of}
use Rattle.sweep_directions.proofs.places.placed.Given as goal

abbrev pub invariant-loop-dir : goal.invariant-loop-dir
invariant-loop-dir l = record {
  counted : l.edit ≡ l.dir-index;
  size : length l.places ≡ l.dir-index;
  left : no_place l.model l.dirs ≡ first_fault (λ k d. place_fault k (located l.model d.0)) (l.edit + 1) (drop l.dir-index l.dirs);
  placed : l.places ++ placed_of l.model (drop l.dir-index l.dirs) ≡ placed_of l.model l.dirs;
}
