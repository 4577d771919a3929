use Rattle.std.proofs.Common.{Some, ap, map, ◌∙◌, arith}
use Rattle.std.specs.Prelude.{slice_get}
use Rattle.vx_chunked.specs.Asked.{chunks_for}
use Rattle.vx_chunked.proofs.Counts.{read_of_none, told_of_none}
use Rattle.vx_chunked.proofs.driver.filter_at.Goals as goal

pub returns-then-total-eq0-clause-value : goal.returns-then-total-eq0-clause-value
returns-then-total-eq0-clause-value g c =
    ap (map Some) c.new.ensures.items ∙ read_of_none (slice_get (g.D.ChunkDecoder.values c.args.decoder.now)) (g.C.Cursor.rest c.args.cursor.now) (omega arith)

pub returns-then-total-eq0-clause-told : goal.returns-then-total-eq0-clause-told
returns-then-total-eq0-clause-told g c =
    told_of_none (g.D.ChunkDecoder.calls c.args.decoder.now) c.args.limit (g.C.Cursor.rest c.args.cursor.now) (chunks_for c.args.end) (omega arith)

pub take_chunks-requires-clause-places : goal.take_chunks-requires-clause-places
take_chunks-requires-clause-places g c = omega (arith, c.as_mut_slice.ensures.len, c.in_ok-places.ensures.len)

pub returns-clause-told : goal.returns-clause-told
returns-clause-told g c = c.take_chunks.ensures.told

pub returns-clause-cost : goal.returns-clause-cost
returns-clause-cost g c = c.take_chunks.ensures.cost

pub returns-clause-same : goal.returns-clause-same
returns-clause-same g c = c.take_chunks.ensures.same
