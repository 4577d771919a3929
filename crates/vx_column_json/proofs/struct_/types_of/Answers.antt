-- One column after another.
use Rattle.std.proofs.Common.{◌++◌, ◌∷◌, [], map, sym, ap, ap₂, ◌∙◌, arith}
use Rattle.std.proofs.lemmas.List.{map_push, map_more, take_all}
use Rattle.vx_types.specs.DType.{type_of}
use Rattle.vx_model.specs.Column.{Column}
use Rattle.vx_model.specs.Columns.{types_in}
use Rattle.vx_column_json.proofs.struct_.types_of.Goals as goal

pub loop-column-preserved : goal.loop-column-preserved
loop-column-preserved c =
    let cs = c.args.columns.now in let k = c.loop-column.column-index in let v = c.loop-column.invariant in
    let same = ap type_of c.share.ensures ∙ c.dtype.ensures.value ∙ ap (λ (x : Column). x.dtype) (c.deref.ensures ∙ c.column-item.is) in
    record {
      types = ap (map type_of) c.push_reserved.ensures.items ∙ map_push type_of c.loop-column.types.items c.share.result ∙ ap₂ (λ l x. l ++ x ∷ []) v.types same ∙ sym (map_more (λ (x : Column). x.dtype) cs k c.column-item.result c.loop-column-test.true);
      len = omega (arith, c.push_reserved.ensures.len, v.len);
      room = c.push_reserved.ensures.capacity ∙ v.room;
    }

pub returns : goal.returns
returns c =
    c.loop-column.invariant.types ∙ ap types_in (take_all c.loop-column.column-index c.args.columns.now c.loop-column-test.false)
