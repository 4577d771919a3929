use Rattle.std.proofs.Common.{◌+◌, ◌*◌, ◌≤◌, ◌++◌, length, sym, ap, ap₂, ◌∙◌, arith}
use Rattle.vx_bits.specs.Words.{word_at, word_count}
use Rattle.vx_bitfilter.proofs.FilteredWords.{busy_told, idle_told, next_told, no_word_kept, on_err, word_kept}
use Rattle.vx_bitfilter.proofs.PackedBits.{picked_bits}
use Rattle.vx_bitfilter.proofs.words.filter_words.Goals.{then-picks-ne0+in_ok-append_picked, else-picks-ne0}
use Rattle.vx_bitfilter.proofs.words.filter_words.Goals as goal

pub returns-in_err-append_picked-clause-prefix : goal.returns-in_err-append_picked-clause-prefix
returns-in_err-append_picked-clause-prefix g c =
    let i = c.loop-i.i in
    let v = c.loop-i.invariant in
    let mask = g.M.WordReader.bits c.args.mask.now in
    let picks = c.word-picks.ensures.value ∙ ap (λ b. word_at b i) v.mask_bits in
    let within : i + 1 ≤ word_count (length mask) = omega (arith, c.div_ceil-i-end.ensures, c.len.ensures, c.loop-i-test.true) in
    on_err c.from_residual-in_err-append_picked.result _ (
      i + 1,
      within,
      next_told _ _ _ i v.mask_reads c.word-picks.ensures.told,
      busy_told mask _ _ _ i (λ e. c.if-picks-ne0.true (picks ∙ e)) v.src_reads c.word-word.ensures.told,
    )

pub loop-i-preserved : goal.loop-i-preserved
loop-i-preserved g c =
    let i = c.loop-i.i in
    let v = c.loop-i.invariant in
    let mask = g.M.WordReader.bits c.args.mask.now in
    let src = g.S.WordReader.bits c.args.src.now in
    let picks = c.word-picks.ensures.value ∙ ap (λ b. word_at b i) v.mask_bits in
    let within : 64 * i ≤ length mask = omega (arith, c.div_ceil-i-end.ensures, c.len.ensures, c.loop-i-test.true) in
    let mask_told = next_told _ _ _ i v.mask_reads c.word-picks.ensures.told in
    elim c.if-picks-ne0.branch [
      | then-picks-ne0+in_ok-append_picked w ↦
          let word = w.word-word.ensures.value ∙ ap (λ b. word_at b i) v.src_bits in
          record {
            value = word_kept mask src _ _ i c.requires.same_len within v.value (w.kept-is ∙ w.in_ok-append_picked.ensures.ok ∙ ap (λ l. c.loop-i.kept ++ l) (ap₂ picked_bits word picks));
            mask_bits = c.word-picks.ensures.same ∙ v.mask_bits;
            src_bits = ap g.S.WordReader.bits w.src-is ∙ w.word-word.ensures.same ∙ v.src_bits;
            mask_reads = mask_told;
            src_reads = ap g.S.WordReader.reads w.src-is ∙ busy_told mask _ _ _ i (λ e. w.if-picks-ne0.true (picks ∙ e)) v.src_reads w.word-word.ensures.told;
            mask_cost = omega (arith, c.word-picks.ensures.cost, v.mask_cost);
            src_cost = omega (arith, ap g.S.WordReader.spare w.src-is, w.word-word.ensures.cost, v.src_cost);
          }
      | else-picks-ne0 w ↦
          let none = sym picks ∙ w.if-picks-ne0.false in
          record {
            value = w.kept-is ∙ no_word_kept mask src _ i within none v.value;
            mask_bits = c.word-picks.ensures.same ∙ v.mask_bits;
            src_bits = ap g.S.WordReader.bits w.src-is ∙ v.src_bits;
            mask_reads = mask_told;
            src_reads = ap g.S.WordReader.reads w.src-is ∙ idle_told mask _ _ i none v.src_reads;
            mask_cost = omega (arith, c.word-picks.ensures.cost, v.mask_cost);
            src_cost = omega (arith, ap g.S.WordReader.spare w.src-is, v.src_cost);
          }
    ]
