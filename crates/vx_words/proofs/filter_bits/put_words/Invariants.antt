use Rattle.std.proofs.Common.{◌≡◌, ◌+◌, ◌*◌, ◌<◌, take, drop}
use Rattle.std.specs.List.{items_where_true}
use Rattle.vx_bits.specs.BitBuffer.{true_count_of}
use Rattle.vx_words.specs.Bits.{IsPacked}
use Rattle.vx_words.proofs.filter_bits.put_words.Given as goal

abbrev pub invariant-loop-i : goal.invariant-loop-i
invariant-loop-i l =
    let first = take (64 * l.i) l.mask in
    record {
      packed : IsPacked (items_where_true first l.src) l.dst l.kept.full l.kept.next l.kept.held;
      open_word : l.kept.held < 64;
      count : 64 * l.kept.full + l.kept.held ≡ true_count_of first;
      rest : drop l.kept.full l.dst ≡ drop l.kept.full l.initial.dst;
    }
