-- A header, and a block for each 1024 numbers.
use Rattle.std.proofs.Common.{length, ap, arith}
use Rattle.std.proofs.lemmas.List.FromFn.{length-map-range_with_len}
use Rattle.vx_packed.specs.Chunk.{chunk_at, spell}
use Rattle.vx_file.specs.File.{whole_block}
use Rattle.vx_file.specs.Touched.{blocks_for}
use Rattle.filing.proofs.numbers.file_of.Goals as goal

pub returns-clause-count : goal.returns-clause-count
returns-clause-count c =
    let numbers = c.args.numbers.now in
    let counted = length-map-range_with_len (λ k. spell (whole_block (chunk_at numbers k))) 0 (blocks_for (length numbers)) in
    omega (arith, ap length c.in-Ok.ensures, counted, c.div_ceil.ensures)
