-- List views have a size for each row.
use Rattle.vx_arrow_image.specs.Image.{parts_of}
use Rattle.vx_arrow_interleave.proofs.RoomRows.{job_len, job_places, job_rows}
use Rattle.vx_arrow_interleave.proofs.RoomViews.{job_views, sizes_room}
use Rattle.vx_arrow_interleave.proofs.rooms.write_sizes_of.Goals as goal

pub write_sizes-requires-clause-places : goal.write_sizes-requires-clause-places
write_sizes-requires-clause-places c =
    let ps = parts_of c.args.sources.now in
    job_places ps c.args.job.now _ (job_rows ps c.args.job.now _ _ c.deref-in-ListView.ensures.value c.deref.ensures c.requires.done) c.requires.done

pub write_sizes-requires-clause-held : goal.write_sizes-requires-clause-held
write_sizes-requires-clause-held c =
    let ps = parts_of c.args.sources.now in
    (job_views ps c.args.job.now _ _ _ c.in-ListView.is c.requires.format (job_rows ps c.args.job.now _ _ c.deref-in-ListView.ensures.value c.deref.ensures c.requires.done) c.requires.done).sizes

pub write_sizes-requires-clause-counted : goal.write_sizes-requires-clause-counted
write_sizes-requires-clause-counted c =
    let ps = parts_of c.args.sources.now in
    (job_views ps c.args.job.now _ _ _ c.in-ListView.is c.requires.format (job_rows ps c.args.job.now _ _ c.deref-in-ListView.ensures.value c.deref.ensures c.requires.done) c.requires.done).counted

pub write_sizes-requires-clause-room : goal.write_sizes-requires-clause-room
write_sizes-requires-clause-room c =
    let ps = parts_of c.args.sources.now in
    sizes_room ps _ _ _ _ _ c.in-ListView.is c.requires.format c.requires.room
    (job_len ps c.args.job.now _ (job_rows ps c.args.job.now _ _ c.deref-in-ListView.ensures.value c.deref.ensures c.requires.done))
