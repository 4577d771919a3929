use Rattle.std.proofs.Common.{◌≡◌, ◌+◌, length, take, drop, refl, ap, subst, ◌∙◌, arith}
use Rattle.std.proofs.lemmas.List.{drop_at, take_all}
use Rattle.vx_packed.specs.Chunk.{IsSpelling}
use Rattle.vx_packed.specs.Faults.{numbers_in}
use Rattle.vx_file.specs.Blocks.{block_at}
use Rattle.vx_file.specs.Reading.{IsHeld}
use Rattle.vx_file.proofs.Options.{if_some}
use Rattle.vx_file.proofs.reading.keep_block.Goals as goal

pub returns-clause-held : goal.returns-clause-held
returns-clause-held g c = λ yes.
    let old = c.args.numbers.now.items in
    let chunk = c.read_chunk.new.dst in
    let bytes = take c.in-Ok.n c.read_block.new.dst in
    let spelling : IsSpelling c.args.width bytes = record { numbers = chunk; chunk = c.in-Ok-read_chunk.ensures.chunk; spelled = c.in-Ok-read_chunk.ensures.spelled } in
    let values : take 1024 (drop (length old) c.extend_from_slice.new.self.items) ≡ numbers_in bytes =
    ap (λ l. take 1024 (drop (length old) l)) c.in-Ok-extend_from_slice.ensures.items
    ∙ ap (take 1024) (drop_at old chunk (length old) refl)
    ∙ take_all 1024 chunk (omega (arith, c.in-Ok-read_chunk.ensures.chunk.count))
    ∙ c.in-Ok-read_chunk.ensures.numbers in
    if_some (g.R.BlockReader.blocks c.args.reader.now)
    (λ all. bytes ≡ block_at all (c.args.rows + 1))
    (λ all. IsHeld c.args.width c.extend_from_slice.new.self.items (length old) (block_at all (c.args.rows + 1)))
    c.in-Ok.ensures.value
    (λ all e. record { spelled = subst (IsSpelling c.args.width) e spelling; values = values ∙ ap numbers_in e })
