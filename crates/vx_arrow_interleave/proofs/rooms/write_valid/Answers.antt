-- There is a bit for each row.
use Rattle.std.proofs.Common.{◌∙◌, sym, arith}
use Rattle.vx_arrow_image.specs.Image.{parts_of}
use Rattle.vx_arrow_interleave.proofs.RoomRows.{bits_room, job_len, job_places, job_rows}
use Rattle.vx_arrow_interleave.proofs.rooms.write_valid.Goals as goal

pub write_bits-requires-clause-places : goal.write_bits-requires-clause-places
write_bits-requires-clause-places c =
    let ps = parts_of c.args.sources.now in
    job_places ps c.args.job.now _ (job_rows ps c.args.job.now _ _ c.deref-then-shows_valid.ensures.value c.deref.ensures c.requires.done) c.requires.done

pub write_bits-requires-clause-few : goal.write_bits-requires-clause-few
write_bits-requires-clause-few c =
    let ps = parts_of c.args.sources.now in
    let same = job_len ps c.args.job.now _ (job_rows ps c.args.job.now _ _ c.deref-then-shows_valid.ensures.value c.deref.ensures c.requires.done) in
    omega (arith, same, c.requires.done.readable.few)

pub write_bits-requires-clause-room : goal.write_bits-requires-clause-room
write_bits-requires-clause-room c =
    let ps = parts_of c.args.sources.now in
    let same = job_len ps c.args.job.now _ (job_rows ps c.args.job.now _ _ c.deref-then-shows_valid.ensures.value c.deref.ensures c.requires.done) in
    bits_room ps _ _ _ (sym c.shows_valid.ensures ∙ c.if-shows_valid.true) c.requires.room same
