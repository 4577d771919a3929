-- Nulls alone, no null, or the clear bits.
use Rattle.std.proofs.Common.{sym}
use Rattle.std.proofs.lemmas.Bool.{eqb-true}
use Rattle.std.proofs.lemmas.List.{nil_from_length}
use Rattle.vx_arrow_image.specs.Image.{part_of}
use Rattle.vx_arrow_strict.proofs.Counts.{nulls_all, nulls_clear, nulls_none}
use Rattle.vx_arrow_strict.proofs.nulls.null_count.Goals as goal

pub returns-then-has_nulls_alone : goal.returns-then-has_nulls_alone
returns-then-has_nulls_alone c = nulls_all (part_of c.args.node.now) (sym c.if-has_nulls_alone.ensures)

pub returns-then-is_empty : goal.returns-then-is_empty
returns-then-is_empty c = nulls_none (part_of c.args.node.now) (sym c.if-has_nulls_alone.ensures) (nil_from_length _ (eqb-true _ _ (sym c.if-is_empty.ensures)))

pub returns : goal.returns
returns c = nulls_clear (part_of c.args.node.now) _ (sym c.if-has_nulls_alone.ensures) c.clear_bits.ensures
