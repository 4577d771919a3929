use Rattle.std.proofs.Common.{◌^◌, ◌<◌, refl, arith}
use Rattle.vx_bits.proofs.WordLists.{one_less}
use Rattle.vx_mask.proofs.LowestBit.{some_left}
use Rattle.vx_filter.proofs.Copies.{next_within, word_copied, word_all_copied}
use Rattle.vx_filter.proofs.compact.copy_word.Goals as goal

pub overflow_add-base : goal.overflow_add-base
overflow_add-base g c =
    let v = c.loop-k.invariant in
    let left = c.loop-k.left in
    let some : 0 < left = some_left left c.loop-k.k _ v.ones (omega arith) in
    omega (arith, next_within _ _ _ _ _ _ left some (omega arith) v.copying)

pub copy_one-requires-clause-from : goal.copy_one-requires-clause-from
copy_one-requires-clause-from g c =
    let v = c.loop-k.invariant in
    let left = c.loop-k.left in
    let some : 0 < left = some_left left c.loop-k.k _ v.ones (omega arith) in
    next_within _ _ _ _ _ _ left some (omega arith) v.copying

pub loop-k-preserved : goal.loop-k-preserved
loop-k-preserved g c =
    let v = c.loop-k.invariant in
    let left = c.loop-k.left in
    let some : 0 < left = some_left left c.loop-k.k _ v.ones (omega arith) in
    let fits : left < 2 ^ 64 = omega arith in
    record {
      copying = word_copied _ _ _ _ _ _ _ left _ some fits refl (omega (arith, v.ones, v.count, c.requires.room)) c.copy_one.ensures v.copying;
      count = omega (arith, v.count);
      ones = omega (arith, one_less 64 left some fits, v.ones);
    }

pub returns : goal.returns
returns g c =
    let v = c.loop-k.invariant in
    record {
      count = omega (arith, v.count, v.ones);
      front = word_all_copied _ _ _ _ _ c.loop-k.left (omega (arith, v.ones)) v.copying.whole;
      rest = v.copying.after;
    }
