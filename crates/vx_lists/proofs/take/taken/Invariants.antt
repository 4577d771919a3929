use Rattle.std.proofs.Common.{◌≡◌, ◌+◌, ◌≤◌, take}
use Rattle.std.specs.Option.{option_copied}
use Rattle.std.specs.Prelude.{vec_len}
use Rattle.std.specs.Vec.{vec_capacity}
use Rattle.vx_lists.specs.Takes.{shown_by}
use Rattle.vx_lists.proofs.TakenLists.{AreTaken}
use Rattle.vx_lists.proofs.take.taken.Given as goal

abbrev pub invariant-loop-k : goal.invariant-loop-k
invariant-loop-k l = record {
  taken : AreTaken l.offsets (take l.k (shown_by (option_copied l.present) l.picks.picks)) l.sums.items l.total l.runs.items l.last;
  count : vec_len l.sums ≡ l.k + 1;
  room : vec_capacity l.sums ≡ l.room;
  run_count : vec_len l.runs ≤ l.k;
  run_room : vec_capacity l.runs ≡ l.room;
}
