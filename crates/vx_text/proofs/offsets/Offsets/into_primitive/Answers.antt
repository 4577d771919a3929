-- The records spell the offsets, which their type has.
use Rattle.std.proofs.Common.{ℕ, List, map, sym, ap, ap₂, ◌∙◌}
use Rattle.std.specs.Prelude.{pos}
use Rattle.vx_types.specs.PType.{is_int}
use Rattle.vx_types.specs.TypeTree.{is_int_kind, primitive_kind}
use Rattle.vx_types.specs.declared.ptype.PType.{PType}
use Rattle.vx_model.specs.Numbers.{integer_by, integers_of}
use Rattle.vx_model.specs.Records.{RecordParts}
use Rattle.vx_text.specs.OffsetList.{OffsetList}
use Rattle.vx_text.proofs.OffsetLists.{int_type, read_back}
use Rattle.vx_text.proofs.offsets.Offsets.into_primitive.Goals as goal

pub returns-clause-int : goal.returns-clause-int
returns-clause-int c =
    ap (λ (q : RecordParts). is_int_kind q.kind) c.number_column.ensures
    ∙ ap is_int (c.ptype-ptype.ensures ∙ ap (λ (o : OffsetList). o.ptype) (sym c.self.view_is))
    ∙ int_type c.self.inside.signed c.self.inside.records

pub returns-clause-numbers : goal.returns-clause-numbers
returns-clause-numbers c =
    ap (λ (q : RecordParts). integers_of q) c.number_column.ensures
    ∙ ap₂ (λ (t : PType) (rs : List (List ℕ)). map (integer_by (primitive_kind t)) rs)
    (c.ptype-ptype.ensures ∙ ap (λ (o : OffsetList). o.ptype) (sym c.self.view_is)) c.in_ok-values.ensures.records
    ∙ read_back c.self.inside.signed c.self.inside.records c.self.invariant
    ∙ ap (λ (o : OffsetList). map pos o.numbers) c.self.view_is
