-- Two cuts of a list.
use Rattle.std.proofs.Common.{◌≡◌, ◌+◌, ◌-◌, ◌≤◌, List, take, drop, sym, ap, ◌∙◌, arith}
use Rattle.std.proofs.lemmas.List.{drop-take, drop-drop, take-take}
use Rattle.vx_steps.specs.Laws.{SliceOfSlice}

pub slice_range-slice_range : {X : Type 0} (xs : List X) → SliceOfSlice xs
slice_range-slice_range xs s e t f h k p q =
    let m = (e - s) - t in let fits : f - t ≤ m = omega arith in let whole : t + m ≡ e - s = omega arith in
    let ends : f - t ≡ (s + f) - (s + t) = omega arith in
    ap (λ n. take (f - t) (drop t (take n (drop s xs)))) (sym whole) ∙ ap (take (f - t)) (drop-take t m (drop s xs)) ∙ take-take (f - t) m (drop t (drop s xs)) fits
    ∙ ap (take (f - t)) (drop-drop t s xs) ∙ ap (λ n. take n (drop (s + t) xs)) ends
