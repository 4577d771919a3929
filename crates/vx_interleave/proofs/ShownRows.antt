-- Rows that cells show, one more at a time.
use Rattle.std.proofs.Common.{◌≡◌, List, [], ◌∷◌, ◌++◌, map, sym, ap, ap₂, subst, ◌∙◌, append_assoc}
use Rattle.std.proofs.lemmas.List.{append-nil, map-append}
use Rattle.std.proofs.lemmas.List.Elements.{All-append, All-cons, All-nil}
use Rattle.vx_types.specs.RowValue.{RowValue}
use Rattle.vx_types.specs.TypeTree.{TypeTree}
use Rattle.vx_column.specs.Cell.{row_of}
use Rattle.vx_column.specs.declared.cell.Cell.{Cell}
use Rattle.vx_interleave.specs.Lists.{AddsRows, AreShown}
use Rattle.vx_interleave.specs.Rows.{AreCellsOf, IsCellOf, rows_in, shown_as}

pub adds_none : (t : TypeTree) (old new : List Cell) → new ≡ old → AddsRows t [] old new
adds_none t old new e rows h =
    subst (λ (l : List RowValue). AreShown t l new) (sym (append-nil rows)) (subst (λ (c : List Cell). AreShown t rows c) (sym e) h)

pub adds_one : (t : TypeTree) (cell : Cell) (x : RowValue) (old new : List Cell) → IsCellOf t.kind cell → shown_as t (row_of cell) ≡ x → new ≡ old ++ cell ∷ [] → AddsRows t (x ∷ []) old new
adds_one t cell x old new kind is e rows h = record {
  of_kind = subst (λ (c : List Cell). AreCellsOf t.kind c) (sym e) (All-append (IsCellOf t.kind) old (cell ∷ []) h.of_kind (All-cons (IsCellOf t.kind) cell [] kind (All-nil (IsCellOf t.kind))));
  rows =
      ap (λ (c : List Cell). map (shown_as t) (rows_in c)) e
      ∙ ap (map (shown_as t)) (map-append row_of old (cell ∷ []))
      ∙ map-append (shown_as t) (rows_in old) (row_of cell ∷ [])
      ∙ ap₂ (λ l y. l ++ y ∷ []) h.rows is;
}

pub adds_more : (t : TypeTree) (a b c : List RowValue) (old mid new : List Cell) → AddsRows t a old mid → AddsRows t b mid new → c ≡ a ++ b → AddsRows t c old new
adds_more t a b c old mid new f g e rows h =
    subst (λ (l : List RowValue). AreShown t l new) (append_assoc rows a b ∙ ap (λ l. rows ++ l) (sym e)) (g (rows ++ a) (f rows h))
