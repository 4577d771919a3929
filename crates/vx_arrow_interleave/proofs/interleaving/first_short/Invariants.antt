-- The rooms so far are large enough.
use Rattle.std.proofs.Common.{◌≡◌, ℕ, ◌<◌, true, get_or}
use Rattle.vx_arrow_image.specs.declared.image.Need.{Need}
use Rattle.vx_arrow_image.specs.declared.image.Room.{Room}
use Rattle.vx_arrow_columns.specs.Written.{has_room}
use Rattle.vx_arrow_interleave.proofs.interleaving.first_short.Given as goal

abbrev pub invariant-loop-i : goal.invariant-loop-i
invariant-loop-i l = (k : ℕ) (d : Need) (e : Room) → k < l.i → has_room (get_or l.needs k d) (get_or l.rooms k e) ≡ true
