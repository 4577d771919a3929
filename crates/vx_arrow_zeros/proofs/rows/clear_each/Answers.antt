-- The row at the lowest bit that is left is cleared.
use Rattle.std.proofs.Common.{◌+◌, ◌*◌, ◌<◌, ◌^◌, ◌||◌, eqb, refl, arith}
use Rattle.std.specs.Int.{bit_at, bit_not, w64}
use Rattle.std.proofs.lemmas.Nat.Bits.{bit_at-trailing_zeros}
use lib.Count.{count_trailing_zeros}
use Rattle.vx_arrow_zeros.proofs.RowLemmas.{all_kept, one_cleared}
use Rattle.vx_arrow_zeros.proofs.WordBits.{cleared_bit, fewer, not_apart, or_not, other_bits, rest, row_room, still_apart}
use Rattle.vx_arrow_zeros.proofs.rows.clear_each.Goals as goal

pub loop-left-init : goal.loop-left-init
loop-left-init c =
    let w = c.args.word in
    let fits : w < 2 ^ 64 = omega arith in
    record {
      cleared = all_kept (λ k. eqb (bit_at w k) 1 || eqb (bit_at (bit_not w64 w) k) 1) c.args.start 64 c.args.width c.args.values.now (λ k h. or_not w k fits h);
      apart = λ k h one. not_apart w k fits h one;
    }

pub zero-requires : goal.zero-requires
zero-requires c =
    let left = c.loop-left.left in
    let some : 0 < left = omega arith in
    let fits : left < 2 ^ 64 = omega arith in
    row_room c.args.start (count_trailing_zeros 64 left) c.args.width 64 _ (bit_at-trailing_zeros w64 left some fits).0 (omega arith)

pub loop-left-smaller : goal.loop-left-smaller
loop-left-smaller c =
    let left = c.loop-left.left in
    let some : 0 < left = omega arith in
    let fits : left < 2 ^ 64 = omega arith in
    let low = bit_at-trailing_zeros w64 left some fits in
    fewer c.args.word left (count_trailing_zeros 64 left) low.0 low.1 c.loop-left.invariant.apart

pub loop-left-preserved : goal.loop-left-preserved
loop-left-preserved c =
    let w = c.args.word in
    let left = c.loop-left.left in
    let v = c.loop-left.invariant in
    let t = count_trailing_zeros 64 left in
    let some : 0 < left = omega arith in
    let fits : left < 2 ^ 64 = omega arith in
    let low = bit_at-trailing_zeros w64 left some fits in
    record {
      cleared = one_cleared (λ k. eqb (bit_at w k) 1 || eqb (bit_at left k) 1) (λ k. eqb (bit_at w k) 1 || eqb (bit_at (rest w left t low.0 low.1 v.apart) k) 1) c.args.start 64 c.args.width t (c.args.start + t * c.args.width)
          c.args.values.now c.loop-left.values c.zero.new.values v.cleared low.0 c.requires refl c.zero.ensures
          (cleared_bit w left t low.0 low.1 v.apart) (other_bits w left t low.0 low.1 v.apart);
      apart = still_apart w left t low.0 low.1 v.apart;
    }
