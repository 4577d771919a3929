use Rattle.std.proofs.Common.{drop, arith}
use Rattle.vx_chunked.proofs.ValuesAt.{part_of_block}
use Rattle.vx_chunked.proofs.runs.copy_part.Goals as goal

pub returns-then-room-ge4 : goal.returns-then-room-ge4
returns-then-room-ge4 g c = part_of_block c.args.dst.now _ (drop c.args.from c.args.values.now) c.args.at c.args.count 4 (omega arith) (omega arith) c.copy_block.ensures

pub returns-then-room-ge16 : goal.returns-then-room-ge16
returns-then-room-ge16 g c = part_of_block c.args.dst.now _ (drop c.args.from c.args.values.now) c.args.at c.args.count 16 (omega arith) (omega arith) c.copy_block-then-room-ge16.ensures
