-- What is written, where no rule is broken.
use Rattle.std.proofs.Common.{ℕ, length, sym, subst}
use Rattle.vx_chunk_plan.specs.Faults.{first_row, rows_in}
use Rattle.vx_chunk_plan.specs.Scattered.{AreScattered, Fits}
use Rattle.vx_chunk_plan.proofs.Faultless.{can_write}
use Rattle.vx_chunk_plan.proofs.Filling.{chunk_done}
use Rattle.vx_chunk_plan.proofs.chunk.scatter.Goals as goal

pub write-requires : goal.write-requires
write-requires c =
    let a = c.args in
    can_write a.chunk.now a.k a.column.len a.column.chunk_len a.width a.places.now a.order.now a.out.now c.rows_of.result.first c.rows_of.result.rows c.rows_of.ensures.first c.rows_of.ensures.rows c.rows_of.ensures.small (sym c.in_default.ensures)

pub returns-clause-done : goal.returns-clause-done
returns-clause-done c =
    let a = c.args in
    let span = c.rows_of.result in
    let fit = can_write a.chunk.now a.k a.column.len a.column.chunk_len a.width a.places.now a.order.now a.out.now span.first span.rows c.rows_of.ensures.first c.rows_of.ensures.rows c.rows_of.ensures.small (sym c.in_default.ensures) in
    let fit_first : Fits a.width (first_row a.column.chunk_len a.k) span.rows a.chunk.now a.places.now a.order.now a.out.now = subst (λ (n : ℕ). Fits a.width n span.rows a.chunk.now a.places.now a.order.now a.out.now) c.rows_of.ensures.first fit in
    let fits : Fits a.width (first_row a.column.chunk_len a.k) (rows_in a.column.len a.column.chunk_len a.k) a.chunk.now a.places.now a.order.now a.out.now = subst (λ (n : ℕ). Fits a.width (first_row a.column.chunk_len a.k) n a.chunk.now a.places.now a.order.now a.out.now) c.rows_of.ensures.rows fit_first in
    let so : AreScattered a.width (first_row a.column.chunk_len a.k) a.chunk.now a.places.now a.order.now (length a.order.now) a.out.now c.write.new.out = subst (λ (n : ℕ). AreScattered a.width n a.chunk.now a.places.now a.order.now (length a.order.now) a.out.now c.write.new.out) c.rows_of.ensures.first c.write.ensures in
    chunk_done a.width a.column.len a.column.chunk_len a.k a.chunk.now a.places.now a.order.now a.out.now c.write.new.out fits so
