-- The ids of the fields that are left.
use Rattle.std.proofs.Common.{◌≡◌, ◌≢◌, ℕ, ◌+◌, List, [], ◌∷◌, length, Option, Some, None, refl, arith}
use Rattle.std.specs.Borrow.{Bor}
use Rattle.vx_arrow_formats.specs.Ids.{ids_in, with_fields}
use Rattle.vx_arrow_formats.specs.Numbers.{fields_in}

-- how much text is left
abbrev pub left_len : Option (Bor (List ℕ)) → ℕ
left_len None = 0
left_len (Some text) = length text.now + 1

pub ids_begin : (text : List ℕ) → length text ≢ 0 → ids_in text ≡ with_fields [] (fields_in text)
ids_begin [] h = absurd (h refl)
ids_begin (b ∷ bs) h = refl

pub no_ids : (text : List ℕ) → length text ≡ 0 → ids_in text ≡ Some []
no_ids [] h = refl
no_ids (b ∷ bs) h = absurd (omega (arith, h))
