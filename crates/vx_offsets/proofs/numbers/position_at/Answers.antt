-- A natural that isn't past a length is cast to itself.
use Rattle.std.proofs.Common.{rules, ◌≡◌, ◌<◌, ◌^◌, arith, get_or, sym, ◌∙◌}
use Rattle.std.specs.Prelude.{pos}
use Rattle.std.proofs.lemmas.Int.{ints, to_z-of_z}
use Rattle.vx_bits.specs.Records.{records_of}
use Rattle.vx_offsets.specs.Offsets.{offset_positions, record_numbers}
use Rattle.vx_offsets.proofs.numbers.position_at.Goals as goal

pub overflow_cast-result : goal.overflow_cast-result
overflow_cast-result c =
    let n = get_or (offset_positions (record_numbers c.args.ptype (records_of c.args.values.now))) c.args.i 0 in
    let is : c.integer_at.result ≡ pos n = c.integer_at.ensures ∙ sym c.requires.natural in
    let long : c.args.len < 2 ^ 64 = search rules in
    let small : n < 2 ^ 64 = omega (arith, c.requires.within, long) in
    grind (arith, ints, to_z-of_z, is, small)
