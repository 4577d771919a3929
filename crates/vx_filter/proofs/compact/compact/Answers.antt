use Rattle.std.proofs.Common.{length, ap, ◌∙◌, arith}
use Rattle.std.proofs.lemmas.List.{take_all}
use Rattle.vx_bits.specs.BitBuffer.{true_count_of}
use Rattle.vx_filter.specs.Compact.{bits_of_words}
use Rattle.vx_filter.proofs.Copies.{compacted_all, compacted_more, compacted_room, word_clear}
use Rattle.vx_filter.proofs.compact.compact.Goals as goal

pub copy-kept-requires-clause-within : goal.copy-kept-requires-clause-within
copy-kept-requires-clause-within g c =
    word_clear c.args.words.now c.loop-w.w (length c.args.src.now) (omega arith) c.requires.clear

pub copy-kept-requires-clause-room : goal.copy-kept-requires-clause-room
copy-kept-requires-clause-room g c =
    omega (arith, compacted_room c.args.src.now c.args.dst.now c.loop-w.dst c.args.words.now c.loop-w.kept c.loop-w.w (omega arith) (omega arith) c.loop-w.invariant, c.requires.room)

pub loop-w-preserved : goal.loop-w-preserved
loop-w-preserved g c =
    let step = c.copy-kept.ensures in
    compacted_more c.args.src.now c.args.dst.now c.loop-w.dst _ c.args.words.now c.loop-w.kept _ c.loop-w.w (omega arith) (omega arith) step.count step.front step.rest c.loop-w.invariant

pub returns : goal.returns
returns g c =
    let v = c.loop-w.invariant in
    let words = c.args.words.now in
    record {
      count = v.count ∙ ap (λ l. true_count_of (bits_of_words l)) (take_all c.loop-w.w words (omega arith));
      front = compacted_all c.args.src.now c.args.dst.now _ words _ c.loop-w.w (omega arith) (omega (arith, c.requires.words)) c.requires.clear v;
      rest = v.rest;
    }
