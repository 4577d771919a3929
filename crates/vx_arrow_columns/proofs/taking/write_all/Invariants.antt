-- The rooms so far are written.
use Rattle.vx_arrow_image.specs.Image.{parts_of}
use Rattle.vx_arrow_columns.specs.Picks.{picking_of, pickings}
use Rattle.std.proofs.Common.{[], ◌∷◌}
use Rattle.vx_arrow_columns.proofs.Takings.{TakenTo}
use Rattle.vx_arrow_columns.proofs.RoomBytes.{BytesTo}
use Rattle.vx_arrow_columns.specs.Written.{KeepLists}
use Rattle.vx_arrow_columns.proofs.taking.write_all.Given as goal

abbrev pub invariant-loop-i : goal.invariant-loop-i
invariant-loop-i l = record {
  taken : TakenTo (parts_of l.nodes) (pickings (parts_of l.nodes) (picking_of l.places l.valid 0 ∷ [])) l.plan.needs.items l.i l.rooms;
  bytes : BytesTo (parts_of l.nodes) (pickings (parts_of l.nodes) (picking_of l.places l.valid 0 ∷ [])) l.i l.initial.rooms l.rooms;
  lists : KeepLists l.initial.rooms l.rooms;
}
