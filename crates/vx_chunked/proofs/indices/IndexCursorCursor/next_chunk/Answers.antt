use Rattle.std.proofs.Common.{◌+◌, ◌*◌, ◌/◌, ◌^◌, arith}
use Rattle.vx_chunked.proofs.Ascends.{ascend_first}
use Rattle.vx_chunked.proofs.indices.IndexCursorCursor.next_chunk.Goals as goal

pub returns-in-Some-clause-passed : goal.returns-in-Some-clause-passed
returns-in-Some-clause-passed g c =
    let offset = c.args.self.now.offset in
    ascend_first (λ i. offset + i) (1024 * c.args.chunk) (2 ^ 64) (1024 * ((offset + c.in-Some.first.now) / 1024)) c.args.self.now.indices.now c.in-Some.first.now c.in-Some.ensures.value c.requires.ahead (omega arith)
