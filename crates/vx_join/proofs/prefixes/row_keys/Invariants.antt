use Rattle.std.proofs.Common.{◌≡◌, ◌+◌, ◌-◌, ◌*◌, ◌++◌, map, drop, length}
use Rattle.vx_join.specs.Cells.{key_cells, key_parts, pieces, with_prefix}
use Rattle.vx_join.proofs.prefixes.row_keys.Given as goal

abbrev pub invariant-loop : goal.invariant-loop
invariant-loop l =
    record {
      len : l.start + (l.count - l.counter) * l.width ≡ length l.cells;
      keys : map key_parts l.keys.items ++ map (λ row. with_prefix (key_cells row)) (pieces l.width (l.count - l.counter) (drop l.start l.cells)) ≡ map (λ row. with_prefix (key_cells row)) (pieces l.width l.count l.cells);
    }
