use Rattle.std.proofs.Common.{◌≡◌, ◌+◌, ◌-◌, ℕ, suc, take, drop, ap, arith}
use Rattle.vx_join.proofs.CellRows.{len_more}
use Rattle.vx_join.specs.Cells.{key_cells, key_parts, with_prefix}
use Rattle.vx_join.proofs.KeyPrefixes.{parts_more}
use Rattle.vx_join.proofs.prefixes.row_keys.Goals as goal

pub loop-preserved : goal.loop-preserved
loop-preserved c =
    let width = c.args.width in
    let start = c.loop.start in
    let left = c.args.count - (c.loop.counter + 1) in
    let e : c.args.count - c.loop.counter ≡ suc left = omega arith in
    let w : start + width - start ≡ width = omega arith in
    record {
      len = len_more start width _ left _ e c.loop.invariant.len;
      keys =
          rw c.in_ok-push.ensures.items
          (parts_more key_parts (λ row. with_prefix (key_cells row)) width start _ left c.args.cells.now _ c.loop.keys.items c.row_key.result _ e c.row_key.ensures
          (ap (λ (n : ℕ). take n (drop start c.args.cells.now)) w) c.loop.invariant.keys);
    }
