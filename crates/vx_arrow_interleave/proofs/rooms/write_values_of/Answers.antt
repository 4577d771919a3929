-- The lists hold the values of the rows.
use Rattle.std.proofs.Common.{Some, ◌∙◌, ap, arith}
use Rattle.vx_arrow_image.specs.Image.{parts_of}
use Rattle.vx_arrow_interleave.proofs.RoomRows.{job_ids, job_len, job_places, job_rows, job_texts}
use Rattle.vx_arrow_interleave.proofs.rooms.write_values_of.Goals as goal

pub write_bits-requires-clause-places : goal.write_bits-requires-clause-places
write_bits-requires-clause-places c =
    let ps = parts_of c.args.sources.now in
    job_places ps c.args.job.now _ (job_rows ps c.args.job.now _ _ c.deref-in-Bits.ensures.value c.deref.ensures c.requires.done) c.requires.done

pub write_bits-requires-clause-few : goal.write_bits-requires-clause-few
write_bits-requires-clause-few c =
    let ps = parts_of c.args.sources.now in
    let same = job_len ps c.args.job.now _ (job_rows ps c.args.job.now _ _ c.deref-in-Bits.ensures.value c.deref.ensures c.requires.done) in
    omega (arith, same, c.requires.done.readable.few)

pub write_records-requires-in-Text-clause-held : goal.write_records-requires-in-Text-clause-held
write_records-requires-in-Text-clause-held c =
    job_texts (parts_of c.args.sources.now) c.args.job.now _ _ _ (c.requires.format ∙ ap Some c.in-Text.is) c.deref-in-Text-2.ensures.value c.deref-in-Text.ensures c.requires.done

pub write_records-requires-in-Union-clause-held : goal.write_records-requires-in-Union-clause-held
write_records-requires-in-Union-clause-held c =
    let ps = parts_of c.args.sources.now in
    job_ids ps c.args.job.now _ (c.requires.format ∙ ap Some c.in-Union.is) (job_rows ps c.args.job.now _ _ c.deref-in-Union-2.ensures.value c.deref-in-Union.ensures c.requires.done) c.requires.done
