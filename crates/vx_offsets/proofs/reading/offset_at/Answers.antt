-- The number is a position of the items, or their end.
use Rattle.std.proofs.Common.{◌≡◌, get_or, sym, ap, ◌∙◌, arith}
use Rattle.std.specs.Prelude.{pos}
use Rattle.std.proofs.lemmas.Int.{ints}
use Rattle.vx_types.specs.PType.{number}
use Rattle.vx_offsets.specs.Offsets.{offset_positions, record_numbers}
use Rattle.vx_offsets.proofs.ReadOffsets.{offset_read, read_within}
use Rattle.vx_offsets.proofs.reading.offset_at.Goals as goal

pub overflow_cast-result : goal.overflow_cast-result
overflow_cast-result g c =
    let p = c.args.ptype in let xs = c.args.records.now in let i = c.args.i in let n = c.args.len in
    let is : c.number-number.result ≡ pos (get_or (offset_positions (record_numbers p xs)) i 0) =
    c.number-number.ensures ∙ ap (number p) c.index-records-i.is ∙ sym (offset_read p xs i n c.index-records-i.result c.requires.offsets c.requires.row) in
    let within = read_within p xs i n c.requires.offsets c.requires.row in
    grind (arith, ints, is, within, c.ranges.len)

pub returns-clause-within : goal.returns-clause-within
returns-clause-within g c =
    let p = c.args.ptype in let xs = c.args.records.now in let i = c.args.i in let n = c.args.len in
    let is : c.number-number.result ≡ pos (get_or (offset_positions (record_numbers p xs)) i 0) =
    c.number-number.ensures ∙ ap (number p) c.index-records-i.is ∙ sym (offset_read p xs i n c.index-records-i.result c.requires.offsets c.requires.row) in
    let within = read_within p xs i n c.requires.offsets c.requires.row in
    grind (arith, ints, is, within, c.ranges.len)
