use Rattle.std.proofs.Common.{◌≡◌, ◌*◌, ◌/◌, ◌^◌}
use Rattle.vx_words.specs.Filters.{AreRowsPut}
use Rattle.vx_words.proofs.rows.put_rows.Given as goal

abbrev pub invariant-loop-eight : goal.invariant-loop-eight
invariant-loop-eight g l = record {
  rows : AreRowsPut l.src l.from l.word (8 * l.eight) l.initial.dst l.dst l.to l.next;
  left : l.left ≡ l.word / 2 ^ (8 * l.eight);
}
