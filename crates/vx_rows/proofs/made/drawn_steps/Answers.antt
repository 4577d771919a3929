use Rattle.std.proofs.Common.{◌<◌, ap, sym, ◌∙◌, subst}
use Rattle.vx_bits.specs.BitBuffer.{true_count_of}
use Rattle.vx_rows.proofs.MadeRows.{some_kept}
use Rattle.vx_rows.proofs.made.drawn_steps.Goals as goal

pub drawn_indices-requires : goal.drawn_indices-requires
drawn_indices-requires c =
    let some = some_kept c.args.bits.now c.requires.some in
    subst (λ n. 0 < n) (sym (c.true_count.ensures ∙ ap true_count_of (c.from_buffer-mask.ensures.bits ∙ c.in_ok-drawn_bits.ensures))) some
