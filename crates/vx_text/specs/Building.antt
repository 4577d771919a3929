-- Texts that are put out one after another.
use Rattle.std.specs.Prelude.{◌≡◌, ℕ, nat_le, List, ◌++◌, length, true, if◌then◌else◌}
use Rattle.vx_types.specs.declared.ptype.PType.{PType}
use Rattle.vx_offsets.specs.Offsets.{lists_at}
use Rattle.vx_offsets.specs.Cut.{is_cut}
use Rattle.vx_text.specs.OffsetList.{OffsetList, first_type, greatest_offset, wide_type}

-- the type of offsets up to n that come of offsets of a type: as signed, and of at least 32 bits
abbrev pub type_for : PType → ℕ → PType
type_for p n =
    if nat_le n (greatest_offset (first_type p)) then first_type p else wide_type (first_type p)

-- offsets that cut the bytes into these texts
pub record AreTexts (p : PType) (offsets : OffsetList) (bytes : List ℕ) (left : List (List ℕ))
    : Type 0 where
  pub cut : is_cut offsets.numbers (length bytes) ≡ true
  pub texts : lists_at offsets.numbers bytes ≡ left
  pub ptype : offsets.ptype ≡ type_for p (length bytes)

-- whatever texts offsets cut bytes into, other offsets cut more bytes into those and some behind
abbrev pub AddsTexts : OffsetList → List ℕ → OffsetList → List ℕ → List (List ℕ) → Type 0
AddsTexts old bytes new more texts =
    (p : PType) (left : List (List ℕ))
    → AreTexts p old bytes left → AreTexts p new more (left ++ texts)
