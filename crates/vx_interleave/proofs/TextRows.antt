-- Texts of rows, one after another.
use Rattle.std.proofs.Common.{◌≡◌, ℕ, ◌+◌, ◌<◌, ◌++◌, ◌^◌, List, [], ◌∷◌, length, get_or, take, sym, ap₂, ◌∙◌}
use Rattle.std.proofs.lemmas.List.{map_push}
use Rattle.vx_types.specs.RowValue.{bytes}
use Rattle.vx_types.specs.TypeTree.{TypeKind}
use Rattle.vx_types.specs.declared.ptype.PType.TheVariants.{U64}
use Rattle.vx_text.specs.OffsetList.{OffsetList, with_offset}
use Rattle.vx_text.proofs.BuiltTexts.{one_text}
use Rattle.vx_column.specs.Cell.{row_of}
use Rattle.vx_column.specs.declared.cell.Cell.{Cell}
use Rattle.vx_interleave.specs.Rows.{rows_in, stored_as}
use Rattle.vx_interleave.specs.Texts.{AreJoined}
use Rattle.vx_interleave.proofs.CellRows.{row_more}

pub next_text : (k : TypeKind) (items : List Cell) (i : ℕ) (cell : Cell) (old new : OffsetList) (before more text : List ℕ) → i < length items → cell ≡ get_or items i cell → bytes text ≡ stored_as k (row_of cell)
    → AreJoined k (rows_in (take i items)) old before → length more < 2 ^ 63 → more ≡ before ++ text → new ≡ with_offset old (length more) → AreJoined k (rows_in (take (i + 1) items)) new more
next_text k items i cell old new before more text h at e j short joined is =
    record {
      texts = j.texts ++ text ∷ [];
      cut = one_text U64 old new before more text j.texts j.cut short joined is;
      rows_are =
          map_push bytes j.texts text ∙ ap₂ (λ x y. x ++ y ∷ []) j.rows_are e
          ∙ sym (row_more (stored_as k) items i cell h at);
    }
