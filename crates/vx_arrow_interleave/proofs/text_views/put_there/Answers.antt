-- A short view as it is, a long one with a new start.
use Rattle.std.proofs.Common.{◌*◌, ◌<◌, length, take, drop, sym, ◌∙◌, arith, length-drop}
use Rattle.std.proofs.lemmas.List.{length-take-le}
use Rattle.vx_arrow_image.specs.Image.{part_of, view_len}
use Rattle.vx_arrow_interleave.proofs.ViewPuts.{counts_grow, row_short, whole_put}
use Rattle.vx_arrow_interleave.proofs.text_views.put_there.Goals as goal

pub returns-then-len-le12-clause-view : goal.returns-then-len-le12-clause-view
returns-then-len-le12-clause-view c =
    let p = part_of c.args.node.now in
    let i = c.args.i in
    let from = 16 * i in
    whole_put c.args.out.now (take 16 (drop from p.values)) c.put_block.new.bytes c.args.at (omega (arith, c.requires.room)) (length-take-le 16 (drop from p.values) (omega (arith, length-drop from p.values, c.requires.view.held))) c.put_block.ensures
    ∙ sym (row_short p i _ c.requires.there (omega (arith, c.number_at-len.ensures, c.if-len-le12.true)))

pub returns-clause-starts : goal.returns-clause-starts
returns-clause-starts c = λ j h.
    let p = part_of c.args.node.now in
    let long : 12 < view_len p c.args.i = omega (arith, c.number_at-len.ensures, c.if-len-le12.false) in
    let inside : c.number_at-buffer.result < length c.args.starts.now = omega (arith, c.number_at-buffer.ensures, c.requires.view.buffer c.requires.there long) in
    counts_grow c.args.starts.now p 0 c.args.i c.number_at-buffer.result c.number_at-len.result j c.requires.there (omega (arith, c.if-len-le12.false)) c.number_at-len.ensures c.number_at-buffer.ensures inside h
