use Rattle.std.proofs.Common.{◌≡◌, ◌+◌, ◌*◌, ◌≤◌, take}
use Rattle.std.specs.List.{items_where_true}
use Rattle.vx_bits.specs.WordReader.{then_told}
use Rattle.vx_bitfilter.specs.Words.{busy_words, first_words}
use Rattle.vx_bitfilter.proofs.words.filter_words.Given as goal

abbrev pub invariant-loop-i : goal.invariant-loop-i
invariant-loop-i g l =
    let mask = g.M.WordReader.bits l.fn.mask in
    let src = g.S.WordReader.bits l.fn.src in
    record {
      value : l.kept ≡ items_where_true (take (64 * l.i) mask) src;
      mask_bits : g.M.WordReader.bits l.mask ≡ mask;
      src_bits : g.S.WordReader.bits l.src ≡ src;
      mask_reads : g.M.WordReader.reads l.mask ≡ then_told (g.M.WordReader.reads l.fn.mask) (first_words l.i);
      src_reads : g.S.WordReader.reads l.src ≡ then_told (g.S.WordReader.reads l.fn.src) (busy_words mask l.i);
      mask_cost : g.M.WordReader.spare l.fn.mask ≤ g.M.WordReader.spare l.mask + l.i;
      src_cost : g.S.WordReader.spare l.fn.src ≤ g.S.WordReader.spare l.src + l.i;
    }
