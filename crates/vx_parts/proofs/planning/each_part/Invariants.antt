-- So many parts so far.
use Rattle.std.proofs.Common.{◌≡◌, length, map}
use Rattle.vx_parts.specs.Cuts.{cut_value}
use Rattle.vx_parts.specs.Plan.{ArePartsOf, own_in}
use Rattle.vx_parts.proofs.planning.each_part.Given as goal

abbrev pub invariant-loop-k : goal.invariant-loop-k
invariant-loop-k l = record {
  many : length l.parts.items ≡ l.k;
  parts : ArePartsOf (map cut_value l.cuts) l.bounds l.left (own_in l.rest) l.parts.items;
}
