-- The constructor's answer.
use Rattle.std.proofs.Common.{List, ap₂, subst}
use Rattle.std.specs.Result.{result_ok}
use Rattle.vx_bits.specs.Results.{ok_unless}
use Rattle.vx_json.specs.Meaning.{Gives}
use Rattle.vx_model.specs.Column.{Column}
use Rattle.vx_model.specs.Union.{UnionParts, union_fault}
use Rattle.vx_column.specs.UnionParts.{union_parts}
use Rattle.vx_column_json.proofs.Refusals.{gives_made}
use Rattle.vx_column_json.proofs.union_.union_made.Goals as goal

pub returns : goal.returns
returns c =
    let same = ap₂ (λ (i : Column) (cs : List Column). union_parts i c.args.offsets c.args.variants cs) c.in_ok-type_ids.ensures c.in_ok-children.ensures in
    let F : UnionParts → Type 0 = λ p. Gives (λ (q : UnionParts). q) c.made.result (result_ok (ok_unless (union_fault p) p)) in
    gives_made union_fault (λ (p : UnionParts). p) _ c.made.result (subst F same (rw c.union_with.ensures at c.made.ensures))
