-- The items of the rows stand in order, and there is room for where they end.
use Rattle.vx_arrow_image.specs.Image.{parts_of}
use Rattle.vx_arrow_interleave.proofs.RoomRows.{job_len, job_ordered, job_places, job_rows, offsets_room}
use Rattle.vx_arrow_interleave.proofs.RoomViews.{job_views, starts_room}
use Rattle.vx_arrow_interleave.proofs.rooms.write_offsets_of.Goals as goal

pub write_offsets-requires-clause-places : goal.write_offsets-requires-clause-places
write_offsets-requires-clause-places c =
    let ps = parts_of c.args.sources.now in
    job_places ps c.args.job.now _ (job_rows ps c.args.job.now _ _ c.deref-in-Text-2.ensures.value c.deref-in-Text.ensures c.requires.done) c.requires.done

pub write_offsets-requires-clause-cut : goal.write_offsets-requires-clause-cut
write_offsets-requires-clause-cut c =
    let ps = parts_of c.args.sources.now in
    job_ordered ps c.args.job.now _ _ _ c.in-Text.is c.requires.format (job_rows ps c.args.job.now _ _ c.deref-in-Text-2.ensures.value c.deref-in-Text.ensures c.requires.done) c.requires.done

pub write_offsets-requires-clause-room : goal.write_offsets-requires-clause-room
write_offsets-requires-clause-room c =
    let ps = parts_of c.args.sources.now in
    offsets_room ps _ _ _ _ _ c.in-Text.is c.requires.format c.requires.room
    (job_len ps c.args.job.now _ (job_rows ps c.args.job.now _ _ c.deref-in-Text-2.ensures.value c.deref-in-Text.ensures c.requires.done))

pub write_starts-requires-clause-places : goal.write_starts-requires-clause-places
write_starts-requires-clause-places c =
    let ps = parts_of c.args.sources.now in
    job_places ps c.args.job.now _ (job_rows ps c.args.job.now _ _ c.deref-in-ListView.ensures.value c.deref.ensures c.requires.done) c.requires.done

pub write_starts-requires-clause-held : goal.write_starts-requires-clause-held
write_starts-requires-clause-held c =
    let ps = parts_of c.args.sources.now in
    (job_views ps c.args.job.now _ _ _ c.in-ListView.is c.requires.format (job_rows ps c.args.job.now _ _ c.deref-in-ListView.ensures.value c.deref.ensures c.requires.done) c.requires.done).sizes

pub write_starts-requires-clause-counted : goal.write_starts-requires-clause-counted
write_starts-requires-clause-counted c =
    let ps = parts_of c.args.sources.now in
    (job_views ps c.args.job.now _ _ _ c.in-ListView.is c.requires.format (job_rows ps c.args.job.now _ _ c.deref-in-ListView.ensures.value c.deref.ensures c.requires.done) c.requires.done).counted

pub write_starts-requires-clause-room : goal.write_starts-requires-clause-room
write_starts-requires-clause-room c =
    let ps = parts_of c.args.sources.now in
    starts_room ps _ _ _ _ _ c.in-ListView.is c.requires.format c.requires.room
    (job_len ps c.args.job.now _ (job_rows ps c.args.job.now _ _ c.deref-in-ListView.ensures.value c.deref.ensures c.requires.done))
