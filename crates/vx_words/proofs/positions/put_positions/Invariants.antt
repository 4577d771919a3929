use Rattle.std.proofs.Common.{◌≡◌, take, drop}
use Rattle.vx_filter.specs.Compact.{bits_of_words}
use Rattle.vx_mask.specs.Positions.{set_of}
use Rattle.vx_words.specs.Masks.{count_of}
use Rattle.vx_words.proofs.positions.put_positions.Given as goal

abbrev pub invariant-loop-w : goal.invariant-loop-w
invariant-loop-w l = record {
  front : take l.kept l.dst ≡ set_of (bits_of_words (take l.w l.words));
  rest : drop l.kept l.dst ≡ drop l.kept l.initial.dst;
  count : l.kept ≡ count_of (take l.w l.words);
}
