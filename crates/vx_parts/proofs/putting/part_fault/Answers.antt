-- The type, and then the length.
use Rattle.std.proofs.Common.{sym, ◌∙◌}
use Rattle.vx_types.specs.DType.{type_of}
use Rattle.vx_parts.proofs.PutFaults.{no_part_fault, other_length, other_type, type_differs, type_fits}
use Rattle.vx_parts.proofs.putting.part_fault.Goals as goal

pub returns-then-ne : goal.returns-then-ne
returns-then-ne c =
    let t = type_of c.args.dtype.now in
    other_type c.args.k t c.args.len c.args.answer.now (type_differs (type_of c.dtype.result.now) c.args.answer.now.dtype t c.ne.result c.dtype.ensures.value c.ne.ensures c.if-ne.true)

pub returns-then-len : goal.returns-then-len
returns-then-len c =
    let t = type_of c.args.dtype.now in
    let same = type_fits (type_of c.dtype.result.now) c.args.answer.now.dtype t c.ne.result c.dtype.ensures.value c.ne.ensures c.if-ne.false in
    other_length c.args.k t c.args.len c.args.answer.now same (λ e. c.if-len.true (c.len.ensures ∙ e))

pub returns : goal.returns
returns c =
    let t = type_of c.args.dtype.now in
    let same = type_fits (type_of c.dtype.result.now) c.args.answer.now.dtype t c.ne.result c.dtype.ensures.value c.ne.ensures c.if-ne.false in
    no_part_fault c.args.k t c.args.len c.args.answer.now same (sym c.len.ensures ∙ c.if-len.false)
