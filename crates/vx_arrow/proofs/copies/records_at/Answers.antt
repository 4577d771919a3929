-- The chunks are the records.
use Rattle.std.proofs.Common.{◌+◌, ◌*◌, ◌/◌, ◌≤◌, length, ap, ◌∙◌, arith}
use Rattle.std.specs.Prelude.{slice_range}
use Rattle.std.proofs.lemmas.Bool.{leb-true}
use Rattle.std.proofs.lemmas.Nat.{le-div}
use Rattle.vx_arrow.proofs.Chunks.{chunks-range}
use Rattle.vx_arrow.proofs.copies.records_at.Goals as goal

pub slice_bounds-result-end : goal.slice_bounds-result-end
slice_bounds-result-end g c =
    let end = c.args.offset + c.args.len in
    let held : end * g.row.W ≤ length c.args.bytes.now = leb-true (end * g.row.W) (length c.args.bytes.now) c.requires.held in
    let fits : end ≤ length c.args.bytes.now / g.row.W = le-div end (length c.args.bytes.now) g.row.W c.requires.wide held in
    omega (arith, fits, c.as_chunks.ensures.front_len)

pub returns : goal.returns
returns g c =
    let bytes = c.args.bytes.now in let offset = c.args.offset in let len = c.args.len in
    let held : (offset + len) * g.row.W ≤ length bytes = leb-true ((offset + len) * g.row.W) (length bytes) c.requires.held in
    let fits : offset + len ≤ length bytes / g.row.W = le-div (offset + len) (length bytes) g.row.W c.requires.wide held in
    ap (λ l. slice_range l offset (offset + c.args.len)) c.as_chunks.ensures.front
    ∙ chunks-range g.row.W bytes (length bytes / g.row.W) offset c.args.len fits
