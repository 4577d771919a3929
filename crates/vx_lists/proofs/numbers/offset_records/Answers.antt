-- The offsets fit the records.
use Rattle.std.proofs.Common.{arith}
use Rattle.vx_lists.proofs.ReadNumbers.{below_limit}
use Rattle.vx_lists.proofs.numbers.offset_records.Goals as goal

pub written-requires : goal.written-requires
written-requires c = below_limit 255 256 c.args.offsets.now (omega arith) (rw c.in-U8.is at c.requires.small)

pub written-requires-in-U16 : goal.written-requires-in-U16
written-requires-in-U16 c = below_limit 65535 65536 c.args.offsets.now (omega arith) (rw c.in-U16.is at c.requires.small)

pub written-requires-in-U32 : goal.written-requires-in-U32
written-requires-in-U32 c = below_limit 4294967295 4294967296 c.args.offsets.now (omega arith) (rw c.in-U32.is at c.requires.small)

pub written-requires-in-I8 : goal.written-requires-in-I8
written-requires-in-I8 c = below_limit 127 256 c.args.offsets.now (omega arith) (rw c.in-I8.is at c.requires.small)

pub written-requires-in-I16 : goal.written-requires-in-I16
written-requires-in-I16 c = below_limit 32767 65536 c.args.offsets.now (omega arith) (rw c.in-I16.is at c.requires.small)

pub written-requires-in-I32 : goal.written-requires-in-I32
written-requires-in-I32 c = below_limit 2147483647 4294967296 c.args.offsets.now (omega arith) (rw c.in-I32.is at c.requires.small)
