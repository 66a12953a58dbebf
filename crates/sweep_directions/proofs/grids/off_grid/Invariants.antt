use Rattle.std.specs.Prelude.{◌≡◌, ◌+◌, drop}
use Rattle.sweep_directions.specs.Directions.{first_fault, grid_fault, off_grid, units_at}
use Rattle.sweep_directions.proofs.grids.off_grid.Given as goal

abbrev pub invariant-loop-place : goal.invariant-loop-place
invariant-loop-place l = record {
  counted : l.edit ≡ l.place-index;
  left : off_grid l.model l.places
      ≡ first_fault (λ k s. grid_fault k s.1 (units_at l.model s)) (l.edit + 1) (drop l.place-index l.places);
}
