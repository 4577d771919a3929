-- The rows so far have their places, and are counted.
use Rattle.std.proofs.Common.{◌≡◌, [], length, take}
use Rattle.vx_interleave.specs.Tags.{AreCounts, places_after}
use Rattle.vx_interleave.proofs.tags.gather_places.Given as goal

abbrev pub invariant-loop-tag : goal.invariant-loop-tag
invariant-loop-tag l = record {
  places : l.places.numbers ≡ places_after [] (take l.tag-index l.tags);
  counts : AreCounts (take l.tag-index l.tags) l.counts;
  long : length l.counts ≡ 256;
}
