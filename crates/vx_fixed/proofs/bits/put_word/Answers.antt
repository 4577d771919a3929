use Rattle.std.proofs.Common.{◌≡◌, ◌+◌, ◌*◌, ◌^◌, ◌<◌, ◌≤◌, ◌++◌, ℕ, List, length, ◌-◌, bit_and, subst, sym, arith}
use lib.Count.{count_trailing_zeros}
use Rattle.std.specs.Int.RustNames.{count_ones}
use Rattle.vx_bits.specs.Words.{word_bits}
use Rattle.vx_bits.proofs.WordLists.{one_less}
use Rattle.vx_mask.specs.Positions.{positions}
use Rattle.vx_mask.proofs.LowestBit.{lowest_position, positions_done, some_left}
use Rattle.vx_fixed.specs.Rows.{ArePut}
use Rattle.vx_fixed.proofs.Rows.{IsPutting, next_there, one_more, putting_more, rows_in, times_mono}
use Rattle.vx_fixed.proofs.bits.put_word.Goals as goal

pub overflow_add-place : goal.overflow_add-place
overflow_add-place g c =
    let v = c.loop-k.invariant in
    let some : 0 < c.loop-k.left = some_left c.loop-k.left c.loop-k.k _ v.ones (omega arith) in
    omega (arith, rows_in g.row.W _ _ c.requires.wide (next_there g.row.W _ _ _ _ _ _ _ c.loop-k.left _ some (omega arith) c.requires.there v.putting))

pub overflow_add-from : goal.overflow_add-from
overflow_add-from g c =
    let v = c.loop-k.invariant in
    let some : 0 < c.loop-k.left = some_left c.loop-k.left c.loop-k.k _ v.ones (omega arith) in
    omega (arith, rows_in g.row.W _ _ c.requires.wide (next_there g.row.W _ _ _ _ _ _ _ c.loop-k.left _ some (omega arith) c.requires.there v.putting))

pub overflow_mul-from : goal.overflow_mul-from
overflow_mul-from g c =
    let v = c.loop-k.invariant in
    let some : 0 < c.loop-k.left = some_left c.loop-k.left c.loop-k.k _ v.ones (omega arith) in
    omega (arith, one_more (c.args.from + (c.args.base + count_trailing_zeros 64 c.loop-k.left)) g.row.W, next_there g.row.W _ _ _ _ _ _ _ c.loop-k.left _ some (omega arith) c.requires.there v.putting)

pub put_block-requires-clause-there : goal.put_block-requires-clause-there
put_block-requires-clause-there g c =
    let v = c.loop-k.invariant in
    let some : 0 < c.loop-k.left = some_left c.loop-k.left c.loop-k.k _ v.ones (omega arith) in
    omega (arith, one_more (c.args.from + (c.args.base + count_trailing_zeros 64 c.loop-k.left)) g.row.W, next_there g.row.W _ _ _ _ _ _ _ c.loop-k.left _ some (omega arith) c.requires.there v.putting)

pub overflow_add-next : goal.overflow_add-next
overflow_add-next g c =
    let v = c.loop-k.invariant in
    omega (arith, rows_in g.row.W (c.args.kept + count_ones c.args.word) (length c.args.out.now) c.requires.wide c.requires.room, v.count)

pub loop-k-preserved : goal.loop-k-preserved
loop-k-preserved g c =
    let v = c.loop-k.invariant in
    let w = g.row.W in
    let left = c.loop-k.left in
    let next = c.loop-k.next in
    let place = c.args.base + count_trailing_zeros 64 left in
    let some : 0 < left = some_left left c.loop-k.k _ v.ones (omega arith) in
    let fits : left < 2 ^ 64 = omega arith in
    let there : (c.args.from + place) * w + w ≤ length c.args.src.now = omega (arith, one_more (c.args.from + place) w, next_there w _ _ _ _ _ _ _ left _ some fits c.requires.there v.putting) in
    let room : next * w + w ≤ length c.args.out.now = omega (arith, one_more next w, times_mono (next + 1) (c.args.kept + count_ones c.args.word) w (omega (arith, v.count, v.ones)), c.requires.room) in
    record {
      putting = subst (λ (out : List ℕ). IsPutting w c.args.src.now c.args.from c.args.out.now out c.args.kept (next + 1) (positions c.args.base (word_bits c.args.word 64)) (positions c.args.base (word_bits (bit_and left (left - 1)) 64))) (sym c.put_block.ensures)
          (putting_more w c.args.src.now c.args.from c.args.out.now c.loop-k.out c.args.kept next place _ _ _ v.putting (lowest_position c.args.base left some fits) there room);
      count = omega (arith, v.count);
      ones = omega (arith, one_less 64 left some fits, v.ones);
    }

pub returns-clause-put : goal.returns-clause-put
returns-clause-put g c =
    let v = c.loop-k.invariant in
    let p = v.putting in
    let all = positions c.args.base (word_bits c.args.word 64) in
    let done : p.more ≡ all = positions_done c.args.base p.more all c.loop-k.left (omega (arith, v.ones)) p.whole in
    λ old places count put. subst (λ (l : List ℕ). ArePut g.row.W c.args.src.now c.args.from (places ++ l) old c.loop-k.out) done (p.put old places count put)
