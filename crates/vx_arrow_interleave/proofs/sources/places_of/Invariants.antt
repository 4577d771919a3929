-- The places of the rows of the spans so far.
use Rattle.std.proofs.Common.{◌≡◌, take}
use Rattle.vx_arrow_image.specs.Image.{parts_of}
use Rattle.vx_arrow_interleave.specs.Given.{places}
use Rattle.vx_arrow_interleave.specs.Sources.{AreRows}
use Rattle.vx_arrow_interleave.specs.Spots.{spots}
use Rattle.vx_arrow_interleave.proofs.sources.places_of.Given as goal

abbrev pub invariant-loop-k : goal.invariant-loop-k
invariant-loop-k l = record {
  places : spots l.own.items ≡ places (parts_of l.sources) (spots (take l.k l.spans));
  rows : AreRows (parts_of l.sources) (spots (take l.k l.spans));
}
