-- Columns of numbers and of bits that are known to be sound.
use Rattle.std.proofs.Common.{◌≡◌, ℕ, true, List, length, None, refl, ap, ap₂, ◌∙◌, arith}
use Rattle.std.proofs.lemmas.Bool.Decides.{nat_tests}
use Rattle.vx_bits.specs.BitBuffer.{PlacedBits}
use Rattle.vx_types.specs.PType.{width}
use Rattle.vx_types.specs.TypeTree.{kind_width, primitive_kind}
use Rattle.vx_types.specs.declared.ptype.PType.{PType}
use Rattle.vx_model.specs.Bool.{bits_column, bool_with}
use Rattle.vx_model.specs.Records.{is_width_of_kind, records_column, records_fault}
use Rattle.vx_model.specs.Valid.{Valid, by_column, is_fitting, non_nullable}
use Rattle.vx_model.proofs.Layouts.{length-bool}
use Rattle.vx_arrow.specs.Image.{numbers_in, records_in}

-- a column of bits is a validity of as many rows
pub bits_fit : (b : PlacedBits) (n : ℕ) (v : Valid) → v ≡ by_column (bits_column b.bits b.offset) → length b.bits ≡ n → is_fitting v n ≡ true
bits_fit b n v e long =
    let rows = length-bool (bool_with b.bits b.offset non_nullable) refl in
    ap (λ (x : Valid). is_fitting x n) e ∙ grind (arith, nat_tests)

same_width : (p : PType) → is_width_of_kind (kind_width (primitive_kind p)) (width p) ≡ true
same_width p = grind (arith, nat_tests)

pub numbers_sound : (p : PType) (w : ℕ) (records : List (List ℕ)) (v : Valid) (n : ℕ) → w ≡ width p → length records ≡ n → is_fitting v n ≡ true
    → records_fault (record { kind = primitive_kind p; width = w; records = records; valid = v }) ≡ None
numbers_sound p w records v n wide long fits =
    let a : is_width_of_kind (kind_width (primitive_kind p)) w ≡ true = ap (is_width_of_kind (kind_width (primitive_kind p))) wide ∙ same_width p in
    let b : is_fitting v (length records) ≡ true = ap (is_fitting v) long ∙ fits in
    rw (a, b) refl

pub numbers_same : (p : PType) (w : ℕ) (records : List (List ℕ)) (v : Valid) (bytes : List ℕ) (offset len : ℕ) → w ≡ width p → records ≡ records_in (width p) bytes offset len
    → records_column (record { kind = primitive_kind p; width = w; records = records; valid = v }) ≡ numbers_in p bytes v offset len
numbers_same p w records v bytes offset len wide same =
    ap₂ (λ (a : ℕ) (b : List (List ℕ)). records_column (record { kind = primitive_kind p; width = a; records = b; valid = v })) wide same
