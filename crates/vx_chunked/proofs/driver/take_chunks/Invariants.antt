use Rattle.std.proofs.Common.{◌≡◌, ◌+◌, ◌*◌, ◌-◌, ◌≤◌, ◌++◌, length, map, Some}
use Rattle.std.specs.Prelude.{slice_get}
use Rattle.std.specs.Vec.{vec_capacity}
use Rattle.vx_chunked.specs.Positions.{AscendFrom}
use Rattle.vx_bits.specs.WordReader.{then_told}
use Rattle.vx_chunked.specs.Asked.{calls_from}
use Rattle.vx_chunked.proofs.driver.take_chunks.Given as goal

abbrev pub invariant-walk : goal.invariant-walk
invariant-walk g l =
    let values = g.D.ChunkDecoder.values l.fn.decoder in
    let all = g.C.Cursor.rest l.fn.cursor in
    let rest = g.C.Cursor.rest l.cursor in
    record {
      within : l.chunk ≤ l.chunks;
      room : length l.out.items + length rest ≤ vec_capacity l.out;
      value : map Some l.out.items ++ map (slice_get values) rest ≡ map (slice_get values) all;
      told : then_told (g.D.ChunkDecoder.calls l.decoder) (calls_from l.limit rest l.chunk (l.chunks - l.chunk)) ≡ then_told (g.D.ChunkDecoder.calls l.fn.decoder) (calls_from l.limit all 0 l.chunks);
      ahead : AscendFrom (1024 * l.chunk) l.end rest;
      same : g.D.ChunkDecoder.values l.decoder ≡ values;
      cost : g.D.ChunkDecoder.spare l.fn.decoder ≤ g.D.ChunkDecoder.spare l.decoder + l.chunk;
    }

abbrev pub decreases-walk : goal.decreases-walk
decreases-walk g l = l.chunks - l.chunk
