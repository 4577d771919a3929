-- No rows, nulls alone, no null, or the bits.
use Rattle.std.proofs.Common.{sym, arith}
use Rattle.std.proofs.lemmas.Bool.{eqb-true}
use Rattle.std.proofs.lemmas.List.{nil_from_length}
use Rattle.vx_arrow_image.specs.Image.{part_of}
use Rattle.vx_arrow_strict.proofs.Counts.{all_null, no_rows, none_null, set_all}
use Rattle.vx_arrow_strict.proofs.nulls.has_no_nulls.Goals as goal

pub returns-then-count-eq0 : goal.returns-then-count-eq0
returns-then-count-eq0 c = no_rows (part_of c.args.node.now) c.args.start c.args.count c.if-count-eq0.true

pub returns-then-has_nulls_alone : goal.returns-then-has_nulls_alone
returns-then-has_nulls_alone c = all_null (part_of c.args.node.now) c.args.start c.args.count (sym c.if-has_nulls_alone.ensures) (omega (arith, c.if-count-eq0.false))

pub returns-then-is_empty : goal.returns-then-is_empty
returns-then-is_empty c = none_null (part_of c.args.node.now) c.args.start c.args.count (sym c.if-has_nulls_alone.ensures) (nil_from_length _ (eqb-true _ _ (sym c.if-is_empty.ensures)))

pub returns : goal.returns
returns c = set_all (part_of c.args.node.now) c.args.start c.args.count _ (sym c.if-has_nulls_alone.ensures) c.are_set.ensures
