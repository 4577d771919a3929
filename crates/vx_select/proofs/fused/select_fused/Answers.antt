-- The rows at the composed picks.
use Rattle.std.proofs.Common.{rules, ◌∙◌, map, sym, ap}
use Rattle.vx_types.specs.TypeTree.{also_nullable}
use Rattle.vx_pieces.specs.Indices.{index_picks, index_value}
use Rattle.vx_steps.specs.Step.{step_value}
use Rattle.vx_select.proofs.ChunkRows.{answered_rows}
use Rattle.vx_select.proofs.fused.select_fused.Goals as goal

pub returns : goal.returns
returns c =
    let column = c.args.column.now in let a = c.in_ok-taken.field-0 in let now = c.in_ok-taken.ensures in let made = c.in_ok-indices.ensures in
    record {
      answer = answered_rows column.dtype column.rows (map step_value c.args.steps.now) c.len.result (sym c.len.ensures)
          (index_picks (index_value c.in_ok-indices.indices)) a.dtype a.rows made.picks (now.dtype ∙ ap (also_nullable column.dtype) made.nullability) now.rows;
      unwrapped = λ flat. now.unwrapped flat;
      direct = now.direct;
      no_memory_wanted = search rules;
    }
