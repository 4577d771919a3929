-- One zero more.
use Rattle.std.proofs.Common.{ℕ, ◌*◌, subst, arith}
use Rattle.std.proofs.Math.Nat.{add-mul}
use Rattle.vx_chunk_plan.proofs.RowPuts.{AreCleared, cleared_more, cleared_none, cleared_row}
use Rattle.vx_chunk_plan.proofs.copies.clear_row.Goals as goal

pub loop-i-init : goal.loop-i-init
loop-i-init c = cleared_none (c.args.j * c.args.width) c.args.out.now

pub loop-i-preserved : goal.loop-i-preserved
loop-i-preserved c =
    let both = add-mul c.args.j 1 c.args.width in
    cleared_more (c.args.j * c.args.width) c.loop-i.i c.args.out.now c.loop-i.out (omega (arith, both, c.requires.room)) c.loop-i.invariant

pub returns : goal.returns
returns c =
    let all : AreCleared (c.args.j * c.args.width) c.args.width c.args.out.now c.loop-i.out = subst (λ (n : ℕ). AreCleared (c.args.j * c.args.width) n c.args.out.now c.loop-i.out) (omega arith) c.loop-i.invariant in
    cleared_row c.args.width c.args.j c.args.out.now c.loop-i.out c.requires.some c.requires.room (omega arith) all
