use Rattle.std.proofs.Common.{◌<◌, ◌∙◌, refl, sym, ap, arith}
use Rattle.std.proofs.lemmas.List.{length-set}
use Rattle.std.proofs.lemmas.List.Elements.{All-replicate, All-set}
use Rattle.vx_bits.proofs.WordBits.{word_bits-none}
use Rattle.vx_mask.specs.Positions.{set_of}
use Rattle.vx_filter.proofs.Bytes.{digit_below, place_written, row_written}
use Rattle.vx_filter.proofs.compress.row_of.Goals as goal

pub loop-bit-init : goal.loop-bit-init
loop-bit-init c = record {
  front = sym (ap set_of (word_bits-none c.args.byte));
  behind = omega arith;
  eight = refl;
  small = All-replicate (λ place. place < 8) 8 0 (omega arith);
}

pub loop-bit-preserved : goal.loop-bit-preserved
loop-bit-preserved c =
    let v = c.loop-bit.invariant in
    let front = place_written c.args.byte c.loop-bit.bit c.loop-bit.count _ c.loop-bit.row refl (omega (arith, v.eight, v.behind)) v.front in
    record {
      front = front;
      behind = omega (arith, digit_below c.args.byte c.loop-bit.bit);
      eight = length-set c.loop-bit.row c.loop-bit.count c.loop-bit.bit ∙ v.eight;
      small = All-set (λ place. place < 8) c.loop-bit.row c.loop-bit.count c.loop-bit.bit (omega arith) v.small;
    }

pub returns : goal.returns
returns c =
    let v = c.loop-bit.invariant in
    row_written c.args.byte c.loop-bit.bit c.loop-bit.count c.loop-bit.row (omega arith) (omega arith) v.eight (omega (arith, v.behind)) v.small v.front
