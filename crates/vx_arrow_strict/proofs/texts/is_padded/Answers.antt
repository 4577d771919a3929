-- All bytes were tested, or one isn't 0.
use Rattle.std.proofs.Common.{◌-◌, arith, sym, eqb, ◌∙◌}
use Rattle.std.proofs.lemmas.Bool.{eq-eqb, ne_eqb}
use Rattle.vx_arrow_image.specs.Image.{part_of, view_len}
use Rattle.vx_arrow_image.proofs.CutRows.{range_all}
use Rattle.vx_arrow_image.proofs.Stacks.{range_falls}
use Rattle.vx_arrow_strict.specs.Texts.{is_padded, view_byte}
use Rattle.vx_arrow_strict.proofs.texts.is_padded.Goals as goal

pub returns-then-view_byte-ne0 : goal.returns-then-view_byte-ne0
unfolding is_padded
returns-then-view_byte-ne0 c =
    let p = part_of c.args.node.now in
    let n = view_len p c.args.i in
    range_falls (λ k. eqb (view_byte p c.args.i k) 0) n (12 - n) c.loop-k.k (omega (arith, c.requires.len, c.loop-k.auto.k)) (omega (arith, c.requires.len, c.requires.short)) (ne_eqb _ _ (λ e. c.if-view_byte-ne0.true (c.view_byte.ensures ∙ e)))

pub returns : goal.returns
unfolding is_padded
returns c =
    let p = part_of c.args.node.now in
    let n = view_len p c.args.i in
    sym (range_all (λ k. eqb (view_byte p c.args.i k) 0) n (12 - n) (λ j low high. eq-eqb _ _ (c.loop-k.invariant j (omega (arith, c.requires.len)) (omega (arith, c.requires.len, c.requires.short)))))
