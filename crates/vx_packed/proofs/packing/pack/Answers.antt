use Rattle.std.proofs.Common.{◌+◌, ◌-◌, ◌/◌, ◌++◌, take, drop, ◌*◌, ◌≡◌, length, ap, ◌∙◌, sym, arith}
use Rattle.std.specs.List.{flat_map, range_with_len}
use Rattle.vx_packed.specs.Chunk.{chunk_at, spell, spell_list}
use Rattle.vx_packed.proofs.Spellings.{spell_more}
use Rattle.vx_packed.proofs.packing.pack.Goals as goal

pub loop-k-preserved : goal.loop-k-preserved
loop-k-preserved c =
    let xs = c.args.values.now in
    let k = c.loop-k.k in
    c.in_ok-put_chunk.ensures
    ∙ ap (λ l. l ++ spell (take (1024 * k + 1024 - 1024 * k) (drop (1024 * k) xs))) c.loop-k.invariant
    ∙ sym (spell_more xs k)

pub returns : goal.returns
unfolding spell_list
returns c =
    let xs = c.args.values.now in
    let ended : c.loop-k.k ≡ length xs / 1024 = omega arith in
    c.loop-k.invariant ∙ ap (λ n. flat_map (λ k. spell (chunk_at xs k)) (range_with_len 0 n)) ended
