use Rattle.std.specs.Prelude.{◌≡◌, ◌+◌, ◌++◌, drop}
use Rattle.sweep_directions.specs.Directions.{first_fault, limit_fault, moves_at, past_limit, units_at}
use Rattle.sweep_directions.proofs.bounds.moves.Given as goal

abbrev pub invariant-loop-place : goal.invariant-loop-place
invariant-loop-place l = record {
  counted : l.edit ≡ l.place-index;
  left : past_limit l.model l.steps l.places
      ≡ first_fault (λ k s. limit_fault l.model l.steps k s.0 (units_at l.model s)) (l.edit + 1) (drop l.place-index l.places);
  moved : l.moves ++ moves_at l.model (drop l.place-index l.places) ≡ moves_at l.model l.places;
}
