-- Both numbers are naturals.
use Rattle.std.proofs.Common.{◌≡◌, arith, ◌∙◌, get_or}
use Rattle.std.specs.Prelude.{pos}
use Rattle.std.proofs.lemmas.Bool.Decides.{nat_tests}
use Rattle.std.proofs.lemmas.Int.{ints, to_z-of_z}
use Rattle.vx_bits.specs.Records.{records_of}
use Rattle.vx_offsets.specs.Offsets.{offset_positions, record_numbers}
use Rattle.vx_offsets.proofs.Naturals.{natural_at}
use Rattle.vx_offsets.proofs.numbers.is_within.Goals as goal

pub returns : goal.returns
returns c =
    let p = c.args.offset_type in let q = c.args.size_type in
    let os = records_of c.args.offsets.now in let ss = records_of c.args.sizes.now in
    let a = get_or (offset_positions (record_numbers p os)) c.args.i 0 in
    let b = get_or (offset_positions (record_numbers q ss)) c.args.i 0 in
    let start : c.integer_at.result ≡ pos a = c.integer_at.ensures ∙ natural_at p os c.args.i c.requires.offsets c.requires.offset in
    let size : c.integer_at-2.result ≡ pos b = c.integer_at-2.ensures ∙ natural_at q ss c.args.i c.requires.sizes c.requires.size in
    grind (arith, ints, nat_tests, to_z-of_z, start, size)
