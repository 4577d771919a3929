use Rattle.std.proofs.Common.{◌≡◌, ◌+◌, None, map, ap, ap₂, sym, subst, ◌∙◌, arith}
use Rattle.vx_packed.specs.Chunk.{IsChunk, greatest, spell}
use Rattle.vx_packed.specs.Faults.{chunk_fault}
use Rattle.vx_packed.proofs.Rules.{small_width}
use Rattle.vx_packed.proofs.Spellings.{bytes_spelled, no_fault_fits, numbers_chunk, spelled_no_fault}
use Rattle.vx_packed.proofs.reading.read_chunk.Goals as goal

pub returns-in_err-base-clause-each : goal.returns-in_err-base-clause-each
returns-in_err-base-clause-each c = λ s.
    let small = small_width c.args.width c.requires in
    let none : chunk_fault c.args.width c.args.bytes.now ≡ None = ap (chunk_fault c.args.width) s.spelled ∙ spelled_no_fault c.args.width s.numbers small.most s.chunk in
    let fault = c.in_err-base.ensures.fault in
    let no : ⊥ = cc in
    absurd no

pub put_added-requires : goal.put_added-requires
put_added-requires c =
    let small = small_width c.args.width c.requires in
    let fits = no_fault_fits c.args.width c.args.bytes.now small.most c.in_ok-base.ensures.fault in
    omega (arith, fits, c.in_ok-base.ensures.base, ap greatest c.in_ok-base.ensures.offsets)

pub returns-clause-spelled : goal.returns-clause-spelled
returns-clause-spelled c =
    let small = small_width c.args.width c.requires in
    let numbers = c.put_added.ensures ∙ ap₂ (λ b l. map (λ x. b + x) l) c.in_ok-base.ensures.base c.in_ok-base.ensures.offsets in
    bytes_spelled c.args.width c.args.bytes.now small.most (λ i. omega (arith, c.type_inv.bytes i)) c.in_ok-base.ensures.fault ∙ ap spell (sym numbers)

pub returns-clause-chunk : goal.returns-clause-chunk
returns-clause-chunk c =
    let numbers = c.put_added.ensures ∙ ap₂ (λ b l. map (λ x. b + x) l) c.in_ok-base.ensures.base c.in_ok-base.ensures.offsets in
    subst (IsChunk c.args.width) (sym numbers) (numbers_chunk c.args.width c.args.bytes.now c.in_ok-base.ensures.fault)
