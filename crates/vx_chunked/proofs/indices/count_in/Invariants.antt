use Rattle.std.proofs.Common.{length, ◌-◌, ◌+◌, map, ◌*◌, ◌≤◌, take, drop}
use Rattle.std.specs.List.{All}
use Rattle.vx_chunked.specs.Positions.{IsInChunk}
use Rattle.vx_chunked.proofs.indices.count_in.Given as goal

abbrev pub invariant-half : goal.invariant-half
invariant-half l = record {
  ordered : l.low ≤ l.high;
  within : l.high ≤ length l.indices;
  inside : All (λ i. IsInChunk (1024 * l.chunk) (l.offset + i)) (take l.low l.indices);
  past : All (λ p. 1024 * (l.chunk + 1) ≤ p) (map (λ i. l.offset + i) (drop l.high l.indices));
}

abbrev pub decreases-half : goal.decreases-half
decreases-half l = l.high - l.low
