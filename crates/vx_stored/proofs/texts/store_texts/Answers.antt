-- The copies that are stored show the rows of the text.
use Rattle.std.proofs.Common.{◌≡◌, true, false, refl, ◌∙◌}
use Rattle.std.proofs.lemmas.Result.{IfOk-weaker}
use Rattle.vx_types.specs.Scalar.{is_text_kind}
use Rattle.vx_types.specs.TypeTree.{TypeKind, bool_kind, is_bool_kind}
use Rattle.vx_column.specs.Validity.{valid_of}
use Rattle.vx_stored.proofs.StoredScalars.{rows-bytes}
use Rattle.vx_stored.proofs.texts.store_texts.Goals as goal

no_bool : (k : TypeKind) → is_text_kind k ≡ true → is_bool_kind k ≡ false
no_bool bool_kind h = cc
no_bool k h = refl

pub returns-clause-rows : goal.returns-clause-rows
returns-clause-rows c =
    let s = c.args.scalar.now in let v = valid_of c.args.validity in let n = c.args.len in
    let rows = rows-bytes s c.dtype.ensures.valid v n c.requires.null 0 (no_bool s.dtype.kind c.requires.text) in
    IfOk-weaker c.copy_texts.result _ _ (λ t h. h ∙ rows) (rw c.value.ensures.value at c.copy_texts.ensures.rows)
