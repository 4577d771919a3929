use Rattle.std.proofs.Common.{◌-◌, ◌++◌, ◌∙◌, replicate, take, ap, ap₂, arith}
use Rattle.vx_bitfilter.proofs.PackedBytes.{zero_row}
use Rattle.vx_bitfilter.proofs.table.PextTable.new.Goals as goal

pub loop-mask-init : goal.loop-mask-init
loop-mask-init c =
    record {
      items = c.in_ok-resize.ensures.items ∙ ap₂ ◌++◌ (ap (take 256) c.in_ok-entries.ensures.items) (ap (λ n. replicate (256 - n) 0) c.in_ok-entries.ensures.len) ∙ zero_row 256 (omega arith);
      len = c.in_ok-resize.ensures.len;
      room = omega (arith, c.in_ok-entries.ensures.capacity, c.in_ok-resize.ensures.capacity);
    }
