use Rattle.std.proofs.Common.{◌≡◌, ◌-◌, ◌+◌, ◌≤◌, length, map, take, drop, Some}
use Rattle.std.specs.Prelude.{slice_get}
use Rattle.vx_chunked.specs.Positions.{places_of, with_runs}
use Rattle.vx_chunked.proofs.runs.copy_runs.Given as goal

abbrev pub invariant-part : goal.invariant-part
invariant-part g l =
    let all = with_runs l.front.runs.start l.front.runs.end l.front.runs.later.now in
    record {
      within : l.used ≤ length l.later;
      few : l.filled ≤ l.count;
      behind : drop l.filled all ≡ with_runs l.start l.end (drop l.used l.later);
      put : map Some (take l.filled l.dst) ≡ map (slice_get l.values) (places_of l.offset l.base (take l.filled all));
    }

abbrev pub decreases-part : goal.decreases-part
decreases-part g l = (l.count - l.filled) + (length l.later - l.used)
