-- They are offsets, and end within the list.
use Rattle.std.proofs.Common.{ℕ, List, map, sym, ap₂, ◌∙◌}
use Rattle.std.proofs.lemmas.Result.{IfOk-weaker}
use Rattle.vx_types.specs.TypeTree.{TypeKind}
use Rattle.vx_offsets.specs.Offsets.{offset_positions}
use Rattle.vx_model.specs.Numbers.{integer_by, integers_of}
use Rattle.vx_lists.proofs.ReadNumbers.{offsets_read, offsets_read_within}
use Rattle.vx_lists.proofs.numbers.offset_numbers.Goals as goal

pub returns-clause-offsets : goal.returns-clause-offsets
returns-clause-offsets c =
    let same = ap₂ (λ (k : TypeKind) (l : List (List ℕ)). offset_positions (map (integer_by k) l)) c.ptype.ensures c.values.ensures.records in
    IfOk-weaker c.numbers_of.result _ _ (λ v e. offsets_read c.args.len (integers_of c.args.offsets.now) v.items c.requires.offsets (e ∙ same)) c.numbers_of.ensures.value

pub returns-clause-within : goal.returns-clause-within
returns-clause-within c =
    let same = ap₂ (λ (k : TypeKind) (l : List (List ℕ)). offset_positions (map (integer_by k) l)) c.ptype.ensures c.values.ensures.records in
    IfOk-weaker c.numbers_of.result _ _ (λ v e. offsets_read_within c.args.len (integers_of c.args.offsets.now) v.items c.requires.offsets (e ∙ same)) c.numbers_of.ensures.value

pub returns-clause-small : goal.returns-clause-small
returns-clause-small c =
    rw (sym c.ptype.ensures) c.numbers_of.ensures.small
