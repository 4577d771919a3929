-- The rows have places.
use Rattle.std.proofs.Common.{sym, arith}
use Rattle.vx_arrow_image.specs.Image.{part_of}
use Rattle.vx_arrow_columns.proofs.Columns.{placed_by}
use Rattle.vx_arrow_columns.proofs.Lacking.{not_placed}
use Rattle.vx_arrow_columns.proofs.PickReads.{placed_end}
use Rattle.vx_arrow_columns.proofs.needs.tested.Goals as goal

pub returns-clause-placed : goal.returns-clause-placed
returns-clause-placed c = placed_by (part_of c.args.node.now) c.in-Some-checked_add.last (omega (arith, c.in-Some-checked_add.ensures.1)) (omega arith) (sym c.if-not-holds_valid.ensures)

pub returns-in_default-checked_add-clause-fault : goal.returns-in_default-checked_add-clause-fault
returns-in_default-checked_add-clause-fault c q lens s low = let small = placed_end (part_of c.args.node.now) s.placed in omega (arith, c.in_default-checked_add.ensures)

pub returns-then-last-clause-fault : goal.returns-then-last-clause-fault
returns-then-last-clause-fault c q lens s low = let small = placed_end (part_of c.args.node.now) s.placed in omega (arith, c.in-Some-checked_add.ensures.1, c.if-last.true)

pub returns-then-not-holds_valid-clause-fault : goal.returns-then-not-holds_valid-clause-fault
returns-then-not-holds_valid-clause-fault c q lens s low = not_placed (part_of c.args.node.now) c.in-Some-checked_add.last (omega (arith, c.in-Some-checked_add.ensures.1)) (sym c.if-not-holds_valid.ensures) s.placed
