-- One row more.
use Rattle.std.proofs.Common.{◌∙◌, ◌≤◌, ◌*◌, ◌+◌, length, arith, subst, ℕ}
use Rattle.std.proofs.Math.Nat.{mul-le-mul_right}
use Rattle.vx_arrow_image.specs.Image.{part_of}
use Rattle.vx_arrow_columns.specs.Picks.{picks_of}
use Rattle.vx_arrow_columns.specs.Taken.{AreCopied}
use Rattle.vx_arrow_columns.proofs.Steps.{row_place, copied_kept, copied_put, next_place, none_copied}
use Rattle.vx_arrow_columns.proofs.copying.write_values.Goals as goal
use Rattle.vx_arrow_columns.proofs.copying.write_values.Goals.{in-Some, in_default}

pub slice_bounds-put_bytes-end : goal.slice_bounds-put_bytes-end
slice_bounds-put_bytes-end c =
    let node = c.args.node.now in
    omega (arith, next_place c.in-Some.i (node.offset + node.len) c.args.node.now.width c.in-Some.ensures.below, c.requires.values)

pub loop-k-init : goal.loop-k-init
loop-k-init c = none_copied _ _ _ _ _

pub loop-k-preserved : goal.loop-k-preserved
loop-k-preserved c =
    let p = part_of c.args.node.now in
    let ps = c.args.picks.now in
    let q = picks_of ps.places.now ps.valid.now ps.add in
    let k = c.loop-k.k in
    let before = mul-le-mul_right {m = k} {n = length ps.places.now} c.args.node.now.width (omega arith) in
    let room : k * c.args.node.now.width ≤ length c.loop-k.out = omega arith in
    elim c.match-row.branch [
      | in-Some w ↦ copied_put c.args.node.now.width c.args.node.now.values.now p q k w.in-Some.i _ c.loop-k.out _ (row_place p ps.places.now ps.valid.now ps.add k _ (omega arith) w.in-Some.ensures.row)
          w.in-Some.ensures.below (omega arith) c.requires.values room (w.out-is ∙ w.put_bytes.ensures) c.loop-k.invariant
      | in_default w ↦ copied_kept c.args.node.now.width c.args.node.now.values.now p q k c.loop-k.out _ (row_place p ps.places.now ps.valid.now ps.add k _ (omega arith) w.in_default.ensures.row) w.out-is c.loop-k.invariant
    ]

pub returns : goal.returns
returns c = subst (λ (n : ℕ). AreCopied c.args.node.now.width c.args.node.now.values.now (part_of c.args.node.now) (picks_of c.args.picks.now.places.now c.args.picks.now.valid.now c.args.picks.now.add) n c.loop-k.out) (omega arith) c.loop-k.invariant
