-- A bit of the byte is one of the word.
use Rattle.std.proofs.Common.{◌*◌, arith}
use Rattle.vx_arrow_zeros.proofs.WordBits.{byte_bit}
use Rattle.vx_arrow_zeros.proofs.rows.byte_of.Goals as goal

pub returns : goal.returns
returns c k h = byte_bit c.args.word (8 * c.args.b) _ k (omega arith) h
