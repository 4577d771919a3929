-- What errors say.
use Rattle.std.specs.Prelude.{ℕ, List, codes}
use Rattle.vx_bits.specs.declared.bit_buffer.BitError.{BitError}
use Rattle.vx_bits.specs.declared.bit_buffer.BitError.TheVariants as cases

abbrev pub bit_error_text : BitError → List ℕ
bit_error_text cases.Offset = codes "the offset of the first bit is above 7"
bit_error_text cases.Short = codes "the bytes have fewer bits than were asked for"
