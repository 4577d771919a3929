-- The rooms so far are written.
use Rattle.std.proofs.Common.{[], ◌∷◌}
use Rattle.vx_arrow_columns.specs.Written.{KeepLists}
use Rattle.vx_arrow_interleave.specs.Given.{given}
use Rattle.vx_arrow_interleave.specs.Planned.{groups_of}
use Rattle.vx_arrow_interleave.specs.Spots.{spots}
use Rattle.vx_arrow_interleave.proofs.RoomBytes.{BytesTo}
use Rattle.vx_arrow_interleave.proofs.interleaving.write_all.Given as goal

abbrev pub invariant-loop-i : goal.invariant-loop-i
invariant-loop-i l = record {
  bytes : BytesTo (groups_of l.groups) (given (groups_of l.groups) (spots l.spans ∷ [])) l.i l.initial.rooms l.rooms;
  lists : KeepLists l.initial.rooms l.rooms;
}
