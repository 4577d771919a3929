-- The next type, which nests less deep.
use Rattle.std.proofs.Common.{◌<◌, [], ◌++◌, ◌∙◌, eqb, length, map, take, get_or, ap, refl, arith}
use Rattle.std.proofs.lemmas.List.{take_all}
use Rattle.vx_types.specs.DType.{type_of}
use Rattle.vx_types.specs.Fields.{names_of}
use Rattle.vx_types.specs.TypeTree.{type_size}
use Rattle.vx_types.specs.declared.dtype.DType.{DType}
use Rattle.vx_print.specs.Text.{gap, comma_list, id_label, name_label, type_text}
use Rattle.vx_print.proofs.Entries.{entries, entry_more, length-entries}
use Rattle.vx_print.proofs.types.+types.Goals as goal
use Rattle.vx_types.proofs.Carried.{shallow_get}

pub push_types-push_type-requires : goal.push_types-push_type-requires
push_types-push_type-requires t c =
    let ts = c.args.types.now in
    let i = c.loop-i.i in
    let u = c.index-types-i.result in
    let lt : i < length ts = omega arith in
    (omega (arith, shallow_get ts i u lt, ap (λ (v : DType). type_size (type_of v)) c.index-types-i.is), tt)

pub push_types-loop-i-preserved : goal.push_types-loop-i-preserved
push_types-loop-i-preserved t c =
    let ts = c.args.types.now in
    let ids = map id_label c.args.ids.now in
    let names = map name_label (names_of c.args.names.now) in
    let i = c.loop-i.i in
    let u = c.index-types-i.result in
    let lt : i < length ts = omega arith in
    let init = c.args.text.now.items in
    let front = (((init ++ comma_list (take i (entries ids names ts))) ++ gap (eqb i 0)) ++ get_or ids i []) ++ get_or names i [] in
    c.in_ok-push_type.ensures refl
    ∙ ap (λ l. l ++ type_text (type_of u)) (c.in_ok-push_name.ensures refl
    ∙ ap (λ l. l ++ get_or names i []) (c.in_ok-push_id.ensures refl
    ∙ ap (λ l. l ++ get_or ids i []) (c.in_ok-push_gap.ensures refl ∙ ap (λ l. l ++ gap (eqb i 0)) c.loop-i.invariant)))
    ∙ ap (λ (v : DType). front ++ type_text (type_of v)) c.index-types-i.is
    ∙ entry_more ids names ts init i u lt

pub push_types-returns : goal.push_types-returns
push_types-returns t c = λ _.
    let ts = c.args.types.now in
    let ids = map id_label c.args.ids.now in
    let names = map name_label (names_of c.args.names.now) in
    let i = c.loop-i.i in
    c.loop-i.invariant ∙ ap (λ l. c.args.text.now.items ++ comma_list l) (take_all i (entries ids names ts) (omega (arith, length-entries ids names ts)))
