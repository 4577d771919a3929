-- Four bytes or eight.
use Rattle.std.proofs.Common.{◌<◌, ◌^◌, ◌≤◌, ◌*◌, ◌+◌, length, subst, sym, arith}
use Rattle.vx_arrow_image.specs.declared.format.Offsets.{Offsets}
use Rattle.vx_arrow_image.specs.Image.{limit_of, size_of}
use Rattle.vx_arrow_columns.specs.Written.{PutsOffset}
use Rattle.vx_arrow_columns.proofs.OffsetPuts.{puts_long, puts_short}
use Rattle.vx_arrow_columns.proofs.puts.put_offset.Goals as goal

pub returns-in-Short : goal.returns-in-Short
returns-in-Short c =
    let small : c.args.value < 2 ^ 31 = subst (λ (z : Offsets). c.args.value < limit_of z) c.in-Short.is c.requires.small in
    let room : 4 * c.args.j + 4 ≤ length c.args.offsets.now = subst (λ (z : Offsets). size_of z * c.args.j + size_of z ≤ length c.args.offsets.now) c.in-Short.is c.requires.room in
    subst (λ (z : Offsets). PutsOffset z c.args.offsets.now c.put_array.new.bytes c.args.j c.args.value) (sym c.in-Short.is)
    (puts_short c.args.offsets.now _ _ c.args.j c.args.value (omega arith) room c.to_le_bytes.ensures c.put_array.ensures)

pub returns-in-Long : goal.returns-in-Long
returns-in-Long c =
    let small : c.args.value < 2 ^ 60 = subst (λ (z : Offsets). c.args.value < limit_of z) c.in-Long.is c.requires.small in
    let room : 8 * c.args.j + 8 ≤ length c.args.offsets.now = subst (λ (z : Offsets). size_of z * c.args.j + size_of z ≤ length c.args.offsets.now) c.in-Long.is c.requires.room in
    subst (λ (z : Offsets). PutsOffset z c.args.offsets.now c.put_array-in-Long.new.bytes c.args.j c.args.value) (sym c.in-Long.is)
    (puts_long c.args.offsets.now _ _ c.args.j c.args.value (omega arith) room c.to_le_bytes-in-Long.ensures c.put_array-in-Long.ensures)
