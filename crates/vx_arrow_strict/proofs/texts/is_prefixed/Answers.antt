-- All bytes were tested, or one is another.
use Rattle.std.proofs.Common.{◌+◌, ℕ, arith, sym, eqb, get_or, ap, ◌∙◌}
use Rattle.std.proofs.lemmas.Bool.{eq-eqb, ne_eqb}
use Rattle.vx_arrow_image.specs.Image.{part_of, view_start}
use Rattle.vx_arrow_image.proofs.CutRows.{range_all}
use Rattle.vx_arrow_image.proofs.Stacks.{range_falls}
use Rattle.vx_arrow_strict.specs.Texts.{is_prefixed, view_byte}
use Rattle.vx_arrow_strict.proofs.texts.is_prefixed.Goals as goal

pub returns-then-view_byte-buffer : goal.returns-then-view_byte-buffer
unfolding is_prefixed
returns-then-view_byte-buffer c =
    let p = part_of c.args.node.now in
    let b = part_of c.args.buffer.now in
    range_falls (λ k. eqb (view_byte p c.args.i k) (get_or b.values (b.offset + view_start p c.args.i + k) 0)) 0 4 c.loop-k.k (omega arith) (omega arith)
    (ne_eqb _ _ (λ e. c.if-view_byte-buffer.true (c.view_byte.ensures ∙ e ∙ ap (λ (m : ℕ). get_or b.values (m + c.loop-k.k) 0) (sym c.requires.at))))

pub returns : goal.returns
unfolding is_prefixed
returns c =
    let p = part_of c.args.node.now in
    let b = part_of c.args.buffer.now in
    sym (range_all (λ k. eqb (view_byte p c.args.i k) (get_or b.values (b.offset + view_start p c.args.i + k) 0)) 0 4
    (λ j low high. eq-eqb _ _ (c.loop-k.invariant j (omega arith) ∙ ap (λ (m : ℕ). get_or b.values (m + j) 0) c.requires.at)))
