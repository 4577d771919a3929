-- Bits that are all set, and a column of them.
use Rattle.std.proofs.Common.{◌≡◌, ◌∙◌, sym, ap, length, refl, arith, true}
use Rattle.std.proofs.lemmas.Result.{IfOk-weaker}
use Rattle.vx_bits.specs.BitBuffer.{true_count_of}
use Rattle.vx_mask.proofs.PositionLists.{all_are_set}
use Rattle.vx_types.specs.declared.nullability.Nullability.TheVariants.{Nullable}
use Rattle.vx_column.specs.Validity.{valid_of}
use Rattle.vx_model.specs.Valid.{is_fitting, non_nullable, nullability_by, present_bits}
use Rattle.vx_model.proofs.Takes.{is_left-bits_column}
use Rattle.vx_select.proofs.picked.shown_by.Goals as goal

pub returns-then-true_count-len-clause-present : goal.returns-then-true_count-len-clause-present
returns-then-true_count-len-clause-present c =
    let bits = c.args.bits.bits in
    let all : true_count_of bits ≡ length bits = omega (arith, c.true_count.ensures, c.len.ensures) in
    sym (all_are_set bits all)

pub returns-clause-present : goal.returns-clause-present
returns-clause-present c =
    let bits = c.args.bits.bits in
    let left = is_left-bits_column non_nullable bits c.args.bits.offset Nullable refl in
    IfOk-weaker c.from_bits.result _ (λ v. present_bits (valid_of v) (length bits) ≡ bits)
    (λ v e. ap (λ w. present_bits w (length bits)) e ∙ left.bits) c.from_bits.ensures

pub returns-clause-fitting : goal.returns-clause-fitting
returns-clause-fitting c =
    let bits = c.args.bits.bits in
    let left = is_left-bits_column non_nullable bits c.args.bits.offset Nullable refl in
    IfOk-weaker c.from_bits.result _ (λ v. is_fitting (valid_of v) (length bits) ≡ true)
    (λ v e. ap (λ w. is_fitting w (length bits)) e ∙ left.fitting) c.from_bits.ensures

pub returns-clause-nullability : goal.returns-clause-nullability
returns-clause-nullability c =
    IfOk-weaker c.from_bits.result _ (λ v. nullability_by (valid_of v) ≡ Nullable)
    (λ v e. ap nullability_by e) c.from_bits.ensures
