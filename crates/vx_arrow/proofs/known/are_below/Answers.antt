-- One record more.
use Rattle.std.proofs.Common.{ℕ, List, ap, ◌∙◌}
use Rattle.vx_types.specs.PType.{number}
use Rattle.vx_positions.specs.Positions.{is_position}
use Rattle.vx_positions.proofs.NumberLists.{test_more}
use Rattle.vx_arrow.proofs.known.are_below.Goals as goal

pub loop-record-preserved : goal.loop-record-preserved
loop-record-preserved g c =
    test_more c.args.rows c.args.ptype c.args.records.now c.loop-record.record-index c.record-item.result c.loop-record.are_below c.is_there-are_below.result c.loop-record-test.true c.loop-record.invariant
    (c.is_there-are_below.ensures ∙ ap (λ (r : List ℕ). is_position c.args.rows (number c.args.ptype r)) c.record-item.is)
