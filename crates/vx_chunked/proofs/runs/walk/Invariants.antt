use Rattle.std.proofs.Common.{length, ◌-◌, ◌≡◌, ◌+◌, ◌*◌, ◌^◌, ◌≤◌, map, take, drop}
use Rattle.std.specs.List.{All}
use Rattle.vx_chunked.specs.Positions.{AscendFrom, IsInChunk, with_runs}
use Rattle.vx_chunked.proofs.runs.walk.Given as goal

abbrev pub invariant-run : goal.invariant-run
invariant-run l =
    let all = with_runs l.runs.start l.runs.end l.runs.later.now in
    let left = with_runs l.start l.end (drop l.used l.later) in
    record {
      within : l.used ≤ length l.later;
      enough : l.count ≤ length all;
      few : l.count ≤ 1024;
      behind : drop l.count all ≡ left;
      inside : All (λ i. IsInChunk (1024 * l.chunk) (l.offset + i)) (take l.count all);
      ahead : AscendFrom (1024 * l.chunk + l.count) (2 ^ 64) (map (λ i. l.offset + i) left);
    }

abbrev pub decreases-run : goal.decreases-run
decreases-run l = length l.later - l.used
