use Rattle.std.proofs.Common.{◌^◌, ◌<◌, refl, arith}
use Rattle.vx_bits.proofs.WordLists.{one_less}
use Rattle.vx_mask.proofs.LowestBit.{some_left}
use Rattle.vx_filter.proofs.Moves.{next_place, word_moved, word_all_moved}
use Rattle.vx_filter.proofs.in_place.keep_word.Goals as goal

pub overflow_add-base : goal.overflow_add-base
overflow_add-base g c =
    let v = c.loop-k.invariant in
    let left = c.loop-k.left in
    let some : 0 < left = some_left left c.loop-k.k _ v.ones (omega arith) in
    let place = next_place _ _ _ _ left _ some (omega arith) v.word in
    omega (arith, place.within)

pub move_one-requires-clause-from : goal.move_one-requires-clause-from
move_one-requires-clause-from g c =
    let v = c.loop-k.invariant in
    let left = c.loop-k.left in
    let some : 0 < left = some_left left c.loop-k.k _ v.ones (omega arith) in
    (next_place _ _ _ _ left _ some (omega arith) v.word).within

pub move_one-requires-clause-to : goal.move_one-requires-clause-to
move_one-requires-clause-to g c =
    let v = c.loop-k.invariant in
    let left = c.loop-k.left in
    let some : 0 < left = some_left left c.loop-k.k _ v.ones (omega arith) in
    let place = next_place _ _ _ _ left _ some (omega arith) v.word in
    omega (arith, place.within, place.behind)

pub overflow_add-next : goal.overflow_add-next
overflow_add-next g c =
    let v = c.loop-k.invariant in
    let left = c.loop-k.left in
    let some : 0 < left = some_left left c.loop-k.k _ v.ones (omega arith) in
    let place = next_place _ _ _ _ left _ some (omega arith) v.word in
    omega (arith, place.within, place.behind)

pub loop-k-preserved : goal.loop-k-preserved
loop-k-preserved g c =
    let v = c.loop-k.invariant in
    let left = c.loop-k.left in
    let some : 0 < left = some_left left c.loop-k.k _ v.ones (omega arith) in
    let fits : left < 2 ^ 64 = omega arith in
    record {
      word = word_moved _ _ _ _ _ left _ _ some fits refl c.move_one.ensures v.word;
      count = omega (arith, v.count);
      ones = omega (arith, one_less 64 left some fits, v.ones);
    }

pub returns : goal.returns
returns g c =
    let v = c.loop-k.invariant in
    record {
      count = omega (arith, v.count, v.ones);
      front = word_all_moved _ _ _ _ c.loop-k.left _ (omega (arith, v.ones)) v.word;
      after = v.word.after;
    }
