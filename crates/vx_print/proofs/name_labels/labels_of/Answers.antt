-- One label more, and as many as names.
use Rattle.std.proofs.Common.{◌≡◌, ◌++◌, ◌∷◌, [], ◌∙◌, ℕ, List, Vec, Global, ap, sym, map, length, get_or, eqb, refl, arith}
use Rattle.std.specs.List.{range_with_len}
use Rattle.std.proofs.lemmas.List.{map_push}
use Rattle.std.proofs.lemmas.List.FromFn.{length-map-range_with_len, map-range_with_len_more}
use Rattle.vx_types.specs.Fields.{names_of}
use Rattle.vx_print.specs.Fields.{label_at}
use Rattle.vx_print.specs.Text.{gap, name_label}
use Rattle.vx_print.proofs.name_labels.labels_of.Goals as goal

pub loop-k-preserved : goal.loop-k-preserved
loop-k-preserved c =
    let names = names_of c.args.names.now in
    let k = c.loop-k.k in
    let bytes : Vec ℕ Global → List ℕ = λ v. v.items in
    let old = c.loop-k.labels.items in
    let label = c.push_name.new.text in
    let name = get_or (map name_label names) k [] in
    let is : label.items ≡ label_at names k =
    c.in_ok-push_name.ensures refl
    ∙ ap (λ l. l ++ name) (c.in_ok-push_gap.ensures refl ∙ ap (λ l. l ++ gap (eqb k 0)) c.new-label.ensures.items) in
    ap (map bytes) c.in_ok-push.ensures.items
    ∙ map_push bytes old label
    ∙ ap (λ l. l ++ label.items ∷ []) c.loop-k.invariant
    ∙ ap (λ x. map (label_at names) (range_with_len 0 k) ++ x ∷ []) is
    ∙ sym (map-range_with_len_more (label_at names) 0 k k (omega arith))

pub returns : goal.returns
returns c =
    let f = label_at (names_of c.args.names.now) in
    let all = c.loop-k.invariant in
    all ∙ ap (λ (n : ℕ). map f (range_with_len 0 n)) (sym (ap length all ∙ length-map-range_with_len f 0 c.loop-k.k))
