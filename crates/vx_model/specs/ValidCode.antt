-- The code of a validity.
use Rattle.std.specs.Prelude.{◌≡◌, ℕ, zero, suc, ◌⊎◌, refl}
use Rattle.std.proofs.Common.{inl, inr}
use Rattle.std.specs.Coded.{Coded, code_by, coded⊎, coded_ℕ}
use Rattle.vx_model.specs.Column.{Column}
use Rattle.vx_model.specs.ColumnCode.{coded_column}
use Rattle.vx_model.specs.Valid.{Valid, non_nullable, all_valid, all_invalid, by_column}

abbrev valid_split : Valid → ℕ ⊎ Column
valid_split non_nullable = inl 0
valid_split all_valid = inl 1
valid_split all_invalid = inl 2
valid_split (by_column c) = inr c

abbrev valid_numbered : ℕ → Valid
valid_numbered zero = non_nullable
valid_numbered (suc zero) = all_valid
valid_numbered (suc (suc n)) = all_invalid

abbrev valid_joined : ℕ ⊎ Column → Valid
valid_joined (inl n) = valid_numbered n
valid_joined (inr c) = by_column c

pub valid_joined_split : (v : Valid) → valid_joined (valid_split v) ≡ v
valid_joined_split non_nullable = refl
valid_joined_split all_valid = refl
valid_joined_split all_invalid = refl
valid_joined_split (by_column c) = refl

abbrev pub coded_valid : Coded Valid
coded_valid =
    code_by (ℕ ⊎ Column) (coded⊎ coded_ℕ coded_column) valid_split valid_joined valid_joined_split
