use Rattle.std.proofs.Common.{List, Bool, sym, subst, take, ap, ◌∙◌, arith}
use Rattle.vx_file.specs.Touched.{AreMarked, blocks_for, with_mark}
use Rattle.vx_file.proofs.Marks.{marks_all, marks_more, no_marks}
use Rattle.vx_file.proofs.touching.mark_all.Goals as goal

pub loop-i-init : goal.loop-i-init
loop-i-init c =
    let p = c.args.picks.now in
    subst (λ (l : List Bool). AreMarked l (take 0 p.picks) (blocks_for p.bound)) (sym c.requires) (no_marks (blocks_for p.bound) p.picks)

pub loop-i-preserved : goal.loop-i-preserved
loop-i-preserved c =
    let p = c.args.picks.now in
    marks_more c.loop-i.marks c.mark.new.marks p.picks c.loop-i.i (blocks_for p.bound) (omega arith) c.loop-i.invariant (c.mark.ensures ∙ ap (with_mark c.loop-i.marks) c.get.ensures.value)

pub returns : goal.returns
returns c =
    let p = c.args.picks.now in
    marks_all c.loop-i.marks p.picks c.loop-i.i (blocks_for p.bound) (omega arith) c.loop-i.invariant
