use Rattle.std.proofs.Common.{◌*◌, ◌^◌, arith}
use Rattle.vx_chunked.proofs.Ascends.{ascend_all}
use Rattle.vx_chunked.proofs.bits.BitCursorCursor.next_chunk.Goals as goal

pub returns-clause-passed : goal.returns-clause-passed
returns-clause-passed g c = ascend_all (1024 * c.args.chunk) (2 ^ 64) (1024 * c.args.chunk) _ c.requires.ahead (omega arith)
