use Rattle.std.proofs.Common.{◌≡◌, ◌+◌, length, drop, option_map}
use Rattle.ips_io.specs.Places.{place_of, shifted, total}
use Rattle.ips_io.proofs.places.find_place.Given as goal

abbrev pub invariant-loop-index : goal.invariant-loop-index
invariant-loop-index l = record {
  filled : l.at + total (drop l.index l.files) ≡ length l.buffer;
  found : place_of l.files l.buffer l.name ≡ option_map (shifted l.index l.at) (place_of (drop l.index l.files) (drop l.at l.buffer)
      l.name);
}
