-- There are as many rows as ids.
use Rattle.std.proofs.Common.{◌≡◌, None, length, sym, ap, ◌∙◌, subst}
use Rattle.vx_model.specs.Union.{UnionParts, union_fault}
use Rattle.vx_model.proofs.UnionSteps.{rows-union}
use Rattle.vx_column.proofs.union_.UnionArray.into_array.Goals as goal

pub new-requires-clause-long : goal.new-requires-clause-long
new-requires-clause-long c =
    let valid : union_fault c.args.self ≡ None = subst (λ (p : UnionParts). union_fault p ≡ None) c.self.view_is c.self.invariant.valid in
    c.len-len.ensures ∙ sym (rows-union c.args.self valid)
