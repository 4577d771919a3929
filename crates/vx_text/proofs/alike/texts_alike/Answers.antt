-- The copies that are put out are the column's texts.
use Rattle.std.proofs.Common.{◌≡◌, ℕ, Bool, true, false, List, length, refl, ap, subst, ◌∙◌}
use Rattle.std.specs.Prelude.{IfOk, if◌then◌else◌, nat_le, replicate}
use Rattle.std.proofs.lemmas.List.{length-replicate}
use Rattle.vx_types.specs.TypeTree.{primitive_kind}
use Rattle.vx_types.specs.declared.ptype.PType.{PType}
use Rattle.vx_types.specs.declared.ptype.PType.TheVariants.{U64}
use Rattle.vx_model.specs.Valid.{is_fitting}
use Rattle.vx_model.specs.VarBin.{varbin_texts}
use Rattle.vx_column.specs.Validity.{valid_of}
use Rattle.vx_text.proofs.alike.texts_alike.Goals as goal

pub finish-requires-clause-fitting : goal.finish-requires-clause-fitting
finish-requires-clause-fitting c =
    let v = valid_of c.args.validity in
    ap (λ (l : List (List ℕ)). is_fitting v (length l)) c.in_ok-texts.ensures.texts
    ∙ ap (is_fitting v) (length-replicate c.args.len c.as_slice.result.now)
    ∙ c.requires

either : (b : Bool) → (if b then U64 else U64) ≡ U64
either true = refl
either false = refl

pub returns-clause-offsets : goal.returns-clause-offsets
returns-clause-offsets c =
    subst (λ (t : PType). IfOk c.finish.result (λ a. a.offsets.kind ≡ primitive_kind t))
    (c.in_ok-texts.ensures.ptype ∙ either (nat_le (length c.in_ok-texts.texts.bytes.items) 9223372036854775807))
    c.finish.ensures.offsets

pub returns-clause-texts : goal.returns-clause-texts
returns-clause-texts c =
    subst (λ (l : List (List ℕ)). IfOk c.finish.result (λ a. (varbin_texts a).texts ≡ l))
    (c.in_ok-texts.ensures.texts ∙ ap (replicate c.args.len) c.as_slice.ensures)
    c.finish.ensures.texts
