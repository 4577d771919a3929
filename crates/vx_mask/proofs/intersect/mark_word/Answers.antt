use Rattle.std.proofs.Common.{◌≡◌, ◌+◌, ◌-◌, ◌^◌, ◌<◌, ◌++◌, length, drop, set, cond, true, refl, ap, sym, ◌∙◌, arith}
use Rattle.std.specs.Int.{w64}
use Rattle.std.proofs.lemmas.Nat.{zero_from_ones}
use Rattle.std.proofs.lemmas.Nat.Bits.{bit_at-trailing_zeros}
use Rattle.std.specs.List.{items_where_true}
use lib.Bits.{bit_and}
use lib.Count.{count_trailing_zeros}
use Rattle.vx_bits.specs.Words.{word_bits}
use Rattle.vx_mask.specs.Positions.{positions, set_of}
use Rattle.vx_mask.proofs.LowestBit.{counted_on, place_fits, some_left}
use Rattle.vx_mask.proofs.MarkedBits.{bit_marked, next_mark, word_marked, place_within}
use Rattle.vx_mask.proofs.intersect.mark_word.Goals as goal

pub loop-k-init : goal.loop-k-init
loop-k-init c =
    let at : c.args.from + 0 ≡ c.args.from = omega arith in
    record {
      set = ap (λ n. set_of c.args.kept.now ++ items_where_true (drop n c.args.by.now.bits) (positions c.args.base (word_bits c.args.word 64))) at;
      count = omega arith;
      long = refl;
      still = record { low = c.args.base; below = omega arith; clear = c.requires.clear; ascend = c.requires.within };
    }

pub overflow_add-place : goal.overflow_add-place
overflow_add-place c = omega (arith, place_fits _ c.loop-k.left c.loop-k.k _ _ c.loop-k.invariant.count (omega arith) (omega arith) c.requires.places)

pub set_where-requires : goal.set_where-requires
set_where-requires c =
    let left = c.loop-k.left in
    let v = c.loop-k.invariant in
    let some : 0 < left = some_left left c.loop-k.k _ v.count (omega arith) in
    let fits : left < 2 ^ 64 = omega arith in
    omega (arith, v.long, place_within c.loop-k.kept _ c.args.base left _ some fits refl v.still)

pub loop-k-preserved : goal.loop-k-preserved
loop-k-preserved c =
    let v = c.loop-k.invariant in
    let left = c.loop-k.left in
    let by = c.args.by.now.bits in
    let rank = c.args.from + c.loop-k.k in
    let some : 0 < left = some_left left c.loop-k.k _ v.count (omega arith) in
    let fits : left < 2 ^ 64 = omega arith in
    let within = (bit_at-trailing_zeros w64 left some fits).0 in
    let enough : rank < length by = omega (arith, c.requires.enough, c.loop-k-test.true) in
    let place = c.args.base + count_trailing_zeros 64 left in
    let next : c.args.from + c.loop-k.k + 1 ≡ c.args.from + (c.loop-k.k + 1) = omega arith in
    let mark = bit_marked c.loop-k.kept c.set_where.new.kept by _ c.args.base left rank _ some fits enough refl (omega (arith, within)) v.long v.still (c.set_where.ensures ∙ ap (λ b. cond b (set c.loop-k.kept place true) c.loop-k.kept) c.value.ensures) in
    record {
      set = sym (ap (λ n. set_of c.set_where.new.kept ++ items_where_true (drop n by) (positions c.args.base (word_bits (bit_and left (left - 1)) 64))) next)
          ∙ next_mark c.loop-k.kept c.set_where.new.kept by _ c.args.base left rank _ _ some fits enough refl mark v.set;
      count = counted_on left c.loop-k.k _ v.count (omega arith) fits;
      long = mark.long;
      still = mark.still;
    }

pub returns-clause-set : goal.returns-clause-set
returns-clause-set c =
    let v = c.loop-k.invariant in
    word_marked c.loop-k.kept c.args.by.now.bits c.args.base c.loop-k.left (c.args.from + c.loop-k.k) _ (zero_from_ones c.loop-k.left (omega (arith, v.count))) v.set
