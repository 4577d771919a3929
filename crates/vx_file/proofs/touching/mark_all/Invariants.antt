use Rattle.std.proofs.Common.{take}
use Rattle.vx_file.specs.Touched.{AreMarked, blocks_for}
use Rattle.vx_file.proofs.touching.mark_all.Given as goal

abbrev pub invariant-loop-i : goal.invariant-loop-i
invariant-loop-i l = AreMarked l.marks (take l.i l.picks.picks) (blocks_for l.picks.bound)
