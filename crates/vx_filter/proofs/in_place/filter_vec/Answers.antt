use Rattle.std.proofs.Math.Seq.{take-append_seam}
use Rattle.std.specs.List.{items_where_true}
use Rattle.std.proofs.Common.{◌≡◌, ◌++◌, List, IfOk, length, take, drop, refl, sym, ap, subst, ◌∙◌, arith}
use Rattle.vx_filter.proofs.in_place.filter_vec.Goals as goal

pub filter_slice_in_place-count-requires : goal.filter_slice_in_place-count-requires
filter_slice_in_place-count-requires g c = c.requires ∙ sym (ap length c.as_mut_slice.ensures.value)

pub returns-then-is_dense-clause-items : goal.returns-then-is_dense-clause-items
returns-then-is_dense-clause-items g c =
    let new = c.filter_slice_in_place-count.new.values in
    let old = c.args.values in
    let long : old.len ≡ length new = omega (arith, c.filter_slice_in_place-count.auto.values, c.as_mut_slice.ensures.len) in
    c.truncate.ensures.items
    ∙ ap (take c.filter_slice_in_place-count.result) (ap (λ n. take n (new ++ drop (length new) old.items)) long ∙ take-append_seam new (drop (length new) old.items))
    ∙ c.filter_slice_in_place-count.ensures.front ∙ ap (items_where_true c.args.mask.now.bits.bits) c.as_mut_slice.ensures.value

pub returns-then-is_dense-clause-in_place : goal.returns-then-is_dense-clause-in_place
returns-then-is_dense-clause-in_place g c = λ dense. refl

pub returns-clause-items : goal.returns-clause-items
returns-clause-items g c =
    subst (λ (l : List g.row.T.Denot). IfOk c.filter_slice.result (λ kept. kept.items ≡ items_where_true c.args.mask.now.bits.bits l)) c.as_slice.ensures.value c.filter_slice.ensures
