-- The names before the one at hand are others.
use Rattle.std.proofs.Common.{◌≡◌, ◌∙◌, ◌+◌, ◌<◌, suc, ap, length, true, false, get_or, arith}
use Rattle.std.specs.Prelude.{bytes_eq}
use Rattle.std.specs.Rc.{rc_str_bytes}
use Rattle.vx_types.specs.FieldTypes.{FieldTypes}
use Rattle.vx_types.specs.Fields.{names_of}
use Rattle.vx_shorthand.proofs.Names.{named_done, named_here, named_later}
use Rattle.vx_shorthand.proofs.named.field.Goals as goal

pub returns-then-eq : goal.returns-then-eq
returns-then-eq c =
    let names = c.names-names.result.now in
    let columns = c.as_slice-columns.result.now in
    let i = c.loop-i.i in
    let in_names : i < length names = omega arith in
    let in_columns : i < length columns = omega arith in
    let equal : bytes_eq (rc_str_bytes (get_or names i c.index-names-i.result)) c.args.name.now ≡ true = cc in
    let here = named_here (λ s. rc_str_bytes s) c.args.name.now names columns i c.index-names-i.result c.index-columns-i.result in_names in_columns equal in
    let same_names : names_of names ≡ c.args.structs.now.types.names = c.names-names.ensures.value ∙ ap (λ (t : FieldTypes). t.names) (c.as_ref.ensures ∙ c.struct_fields.ensures.value) in
    let same_columns : columns ≡ c.args.structs.now.columns = c.as_slice-columns.ensures ∙ c.fields.ensures.value in
    cc

pub loop-i-preserved : goal.loop-i-preserved
loop-i-preserved c =
    let names = c.names-names.result.now in
    let columns = c.as_slice-columns.result.now in
    let i = c.loop-i.i in
    let in_names : i < length names = omega arith in
    let in_columns : i < length columns = omega arith in
    let other : bytes_eq (rc_str_bytes (get_or names i c.index-names-i.result)) c.args.name.now ≡ false = cc in
    let next = named_later (λ s. rc_str_bytes s) c.args.name.now names columns i c.index-names-i.result in_names in_columns other in
    let e : i + 1 ≡ suc i = omega arith in
    cc

pub returns : goal.returns
returns c =
    let names = c.names-names.result.now in
    let columns = c.as_slice-columns.result.now in
    let done = named_done (λ s. rc_str_bytes s) c.args.name.now names columns c.loop-i.i (omega arith) in
    let same_names : names_of names ≡ c.args.structs.now.types.names = c.names-names.ensures.value ∙ ap (λ (t : FieldTypes). t.names) (c.as_ref.ensures ∙ c.struct_fields.ensures.value) in
    let same_columns : columns ≡ c.args.structs.now.columns = c.as_slice-columns.ensures ∙ c.fields.ensures.value in
    cc
