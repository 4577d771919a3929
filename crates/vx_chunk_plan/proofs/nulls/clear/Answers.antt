-- One null more has its zeros, or one pick more is none.
use Rattle.std.proofs.Common.{ℕ, List, ◌+◌, sym, ◌∙◌, subst, arith}
use Rattle.std.proofs.Math.Nat.{mul-le-mul_right}
use Rattle.vx_chunk_plan.specs.Scattered.{AreNulled}
use Rattle.vx_chunk_plan.proofs.RowPuts.{nulled_kept, nulled_more, nulled_none}
use Rattle.vx_chunk_plan.proofs.nulls.clear.Goals as goal
use Rattle.vx_chunk_plan.proofs.nulls.clear.Goals.{then-not-is_there, else-not-is_there}

pub loop-j-init : goal.loop-j-init
loop-j-init c = nulled_none c.args.width c.args.valid.now c.args.out.now

pub clear_row-requires-clause-room : goal.clear_row-requires-clause-room
clear_row-requires-clause-room c =
    let end = mul-le-mul_right {m = c.loop-j.j + 1} {n = c.args.count} c.args.width (omega arith) in
    omega (arith, end, c.requires.room)

pub loop-j-preserved : goal.loop-j-preserved
loop-j-preserved c =
    let a = c.args in
    let j = c.loop-j.j in
    elim c.if-not-is_there.branch [
      | then-not-is_there w ↦ subst (λ (l : List ℕ). AreNulled a.width a.valid.now (j + 1) a.out.now l) (sym w.out-is)
          (nulled_more a.width a.valid.now j a.out.now c.loop-j.out w.clear_row.new.out (sym c.is_there.ensures ∙ w.if-not-is_there.true) w.clear_row.ensures c.loop-j.invariant)
      | else-not-is_there w ↦ subst (λ (l : List ℕ). AreNulled a.width a.valid.now (j + 1) a.out.now l) (sym w.out-is)
          (nulled_kept a.width a.valid.now j a.out.now c.loop-j.out (sym c.is_there.ensures ∙ w.if-not-is_there.false) c.loop-j.invariant)
    ]

pub returns : goal.returns
returns c = subst (λ (n : ℕ). AreNulled c.args.width c.args.valid.now n c.args.out.now c.loop-j.out) (omega arith) c.loop-j.invariant
