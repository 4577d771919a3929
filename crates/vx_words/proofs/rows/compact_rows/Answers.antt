use Rattle.std.proofs.Common.{length, ap, refl, ◌∙◌, arith}
use Rattle.std.proofs.lemmas.List.{take_all}
use Rattle.vx_filter.proofs.Copies.{compacted_all, word_clear}
use Rattle.vx_filter.proofs.Moves.{same_further}
use Rattle.vx_words.specs.Masks.{count_of}
use Rattle.vx_words.proofs.MaskWords.{room_for_word}
use Rattle.vx_words.proofs.PutRows.{put_compacted, put_more}
use Rattle.vx_words.proofs.rows.compact_rows.Goals as goal

pub loop-w-init : goal.loop-w-init
loop-w-init g c = record { front = refl; rest = refl; count = refl }

pub copy_rows-kept-requires-clause-within : goal.copy_rows-kept-requires-clause-within
copy_rows-kept-requires-clause-within g c =
    word_clear c.args.words.now c.loop-w.w (length c.args.src.now) (omega arith) c.requires.clear

pub copy_rows-kept-requires-clause-room : goal.copy_rows-kept-requires-clause-room
copy_rows-kept-requires-clause-room g c =
    omega (arith, c.loop-w.invariant.count, room_for_word c.args.words.now c.loop-w.w (omega arith) (omega arith), c.requires.counted)

pub loop-w-preserved : goal.loop-w-preserved
loop-w-preserved g c =
    let step = c.copy_rows-kept.ensures in
    put_more c.args.src.now c.args.dst.now c.loop-w.dst _ c.args.words.now c.loop-w.kept _ c.args.count c.loop-w.w (omega arith) (omega arith) step.count step.front step.rest c.loop-w.invariant

pub returns : goal.returns
returns g c =
    let v = c.loop-w.invariant in
    let src = c.args.src.now in
    let old = c.args.dst.now in
    let words = c.args.words.now in
    let all = v.count ∙ ap count_of (take_all c.loop-w.w words (omega arith)) in
    record {
      count = all;
      front = compacted_all src c.loop-w.dst c.loop-w.dst words _ c.loop-w.w (omega arith) (omega (arith, c.requires.words)) c.requires.clear (put_compacted src old c.loop-w.dst words _ c.args.count c.loop-w.w v);
      rest = same_further old c.loop-w.dst c.args.count c.loop-w.kept (omega (arith, all, c.requires.counted)) v.rest;
    }
