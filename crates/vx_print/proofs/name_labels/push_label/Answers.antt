-- What was put together for field k stands in front of it.
use Rattle.std.proofs.Common.{◌<◌, ◌++◌, [], ◌∙◌, ℕ, List, Vec, Global, ap, sym, map, length, get_or, arith}
use Rattle.std.proofs.lemmas.List.{get_or-map, length-map}
use Rattle.std.proofs.lemmas.List.FromFn.{get_or-map-range_with_len}
use Rattle.vx_types.specs.Fields.{names_of}
use Rattle.vx_print.specs.Fields.{label_at}
use Rattle.vx_print.proofs.name_labels.push_label.Goals as goal

pub returns-in_ok-extend_from_slice-in-Some : goal.returns-in_ok-extend_from_slice-in-Some
returns-in_ok-extend_from_slice-in-Some c = λ _.
    let bytes : Vec ℕ Global → List ℕ = λ v. v.items in
    let names = names_of c.args.names.now in
    let k = c.args.k in
    let labels = c.args.labels.now in
    let label = c.in-Some.label.now in
    let look = c.in-Some.ensures.lookup in
    let inside : k < length (map bytes labels) = omega (arith, look.3.0, length-map labels bytes) in
    c.in_ok-extend_from_slice-in-Some.ensures.items
    ∙ ap (λ l. c.args.text.now.items ++ l) (c.as_slice.ensures.value
    ∙ ap bytes look.1
    ∙ sym (get_or-map bytes labels k label [] look.3.0)
    ∙ ap (λ l. get_or l k []) c.requires
    ∙ get_or-map-range_with_len (label_at names) 0 (length (map bytes labels)) k k [] inside (omega arith))
