-- One row more of a run.
use Rattle.std.proofs.Common.{ap₂, ◌∙◌, sym, arith, Bool, List, ◌++◌, ◌∷◌, []}
use Rattle.std.specs.Prelude.{◌-◌, ◌&&◌, nat_le, nat_lt}
use Rattle.std.proofs.lemmas.List.FromFn.{map-range_with_len_more}
use Rattle.rows_common.proofs.masks.mask_of_run.Goals as goal

pub loop-n-preserved : goal.loop-n-preserved
loop-n-preserved c =
    let start = c.args.start in let count = c.args.count in let n = c.loop-n.n in
    c.in_ok-push.ensures.items
    ∙ ap₂ (λ (bits : List Bool) (bit : Bool). bits ++ bit ∷ []) c.loop-n.invariant c.is_in_run.ensures
    ∙ sym (map-range_with_len_more (λ k. nat_le start k && nat_lt (k - start) count) 0 n n (omega arith))
