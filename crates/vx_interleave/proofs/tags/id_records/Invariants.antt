-- A record for each row so far.
use Rattle.std.proofs.Common.{◌≡◌, length, map, take}
use Rattle.std.specs.Vec.{vec_capacity}
use Rattle.vx_types.specs.RowValue.{bytes}
use Rattle.vx_types.specs.TypeTree.{primitive_kind}
use Rattle.vx_types.specs.declared.ptype.PType.TheVariants.{U8}
use Rattle.vx_interleave.specs.Rows.{stored_as}
use Rattle.vx_interleave.specs.Tags.{id_row}
use Rattle.vx_interleave.proofs.tags.id_records.Given as goal

abbrev pub invariant-loop-tag : goal.invariant-loop-tag
invariant-loop-tag l = record {
  count : length l.records.items ≡ l.tag-index;
  room : vec_capacity l.records ≡ length l.tags;
  records : map bytes l.records.items ≡ map (stored_as (primitive_kind U8)) (map id_row (take l.tag-index l.tags));
}
