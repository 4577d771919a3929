use Rattle.std.proofs.Common.{◌+◌, ◌^◌, ◌<◌, length, take, ◌∙◌, arith}
use Rattle.std.specs.Int.{w64}
use Rattle.std.proofs.lemmas.List.{drop-set-lt, take_more_set}
use Rattle.std.proofs.lemmas.Nat.Bits.{bit_at-trailing_zeros}
use Rattle.vx_bits.proofs.WordLists.{one_less}
use Rattle.vx_arrow.proofs.Writes.{same_further}
use Rattle.vx_mask.proofs.LowestBit.{position_pushed, positions_done, some_left}
use Rattle.vx_arrow.proofs.known.put_word.Goals as goal

pub overflow_add-places : goal.overflow_add-places
overflow_add-places c =
    let v = c.loop-k.invariant in
    let left = c.loop-k.left in
    let some : 0 < left = some_left left c.loop-k.k _ v.ones (omega arith) in
    omega (arith, (bit_at-trailing_zeros w64 left some (omega arith)).0, c.requires.counted)

pub loop-k-preserved : goal.loop-k-preserved
loop-k-preserved c =
    let v = c.loop-k.invariant in
    let left = c.loop-k.left in
    let next = c.loop-k.next in
    let some : 0 < left = some_left left c.loop-k.k _ v.ones (omega arith) in
    let fits : left < 2 ^ 64 = omega arith in
    let room : next < length c.loop-k.places = omega (arith, v.count, c.requires.room) in
    record {
      whole = position_pushed c.args.base (take next c.loop-k.places) _ left _ some fits (omega arith) (take_more_set c.loop-k.places next _ room) ∙ v.whole;
      rest = drop-set-lt (next + 1) c.loop-k.places next _ (omega arith) ∙ same_further c.args.places.now c.loop-k.places next (next + 1) (omega arith) v.rest;
      count = omega (arith, v.count);
      ones = omega (arith, one_less 64 left some fits, v.ones);
    }

pub returns-clause-front : goal.returns-clause-front
returns-clause-front c =
    let v = c.loop-k.invariant in
    positions_done c.args.base (take c.loop-k.next c.loop-k.places) _ c.loop-k.left (omega (arith, v.ones)) v.whole
