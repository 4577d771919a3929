-- The texts of the rows so far.
use Rattle.std.proofs.Common.{take}
use Rattle.vx_types.specs.Text.{text_kind}
use Rattle.vx_interleave.specs.Rows.{rows_in}
use Rattle.vx_interleave.specs.Texts.{AreJoined}
use Rattle.vx_interleave.proofs.texts.joined_texts.Given as goal

abbrev pub invariant-loop-cell : goal.invariant-loop-cell
invariant-loop-cell l = AreJoined (text_kind l.kind) (rows_in (take l.cell-index l.cells)) l.joined.offsets l.joined.bytes.items
