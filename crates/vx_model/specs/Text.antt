-- Layouts `VarBin` and `VarBinView`: a text a row.
use Rattle.std.specs.Prelude.{ℕ, List, [], ◌∷◌, map, Bool, if◌then◌else◌}
use Rattle.vx_types.specs.Text.{text_kind}
use Rattle.vx_types.specs.RowValue.{bytes}
use Rattle.vx_types.specs.declared.layout_name.LayoutName.{LayoutName}
use Rattle.vx_types.specs.declared.text.TextKind.{TextKind}
use Rattle.vx_model.specs.Column.{Column}
use Rattle.vx_model.specs.Valid.{Valid}
use Rattle.vx_model.specs.Stored.{StoredParts, stored_column}

-- what both layouts have in common
pub record TextParts : Type 0 where
  pub layout : LayoutName
  pub kind : TextKind
  -- the stored bytes of each row, null rows too
  pub texts : List (List ℕ)
  pub valid : Valid

-- a row is its bytes, or null where the validity says no
abbrev pub stored_texts : TextParts → StoredParts
stored_texts p =
    record {
      layout = p.layout;
      kind = text_kind p.kind;
      items = map bytes p.texts;
      records = [];
      inner = 0;
      valid = p.valid;
    }

abbrev pub text_column : TextParts → Column
text_column p = stored_column (stored_texts p)

-- the texts of valid rows, and an empty one in place of each other
abbrev pub kept_texts : List Bool → List (List ℕ) → List (List ℕ)
kept_texts [] texts = []
kept_texts (b ∷ bits) [] = []
kept_texts (b ∷ bits) (x ∷ texts) = (if b then x else []) ∷ kept_texts bits texts
