-- Rows of layout `List`, read by their offsets.
use Rattle.std.proofs.Common.{◌≡◌, ℕ, ◌+◌, ◌*◌, ◌<◌, true, false, List, ◌++◌, ◌∙◌, None, length, map, get_or, slice_range, refl, sym, ap, ap₂, arith}
use Rattle.std.specs.Prelude.{codes}
use Rattle.vx_types.specs.RowValue.{null}
use Rattle.vx_types.specs.PType.{is_int, width}
use Rattle.vx_types.specs.TypeTree.{is_int_kind, primitive_kind}
use Rattle.vx_types.specs.declared.ptype.PType.{PType}
use Rattle.vx_offsets.specs.Offsets.{are_offsets, offset_positions, record_numbers}
use Rattle.vx_model.specs.Column.{Column}
use Rattle.vx_model.specs.List.{ListParts, list_fault, list_spans, list_column}
use Rattle.vx_model.specs.Numbers.{integer_by, integers_of}
use Rattle.vx_model.specs.Valid.{is_present}
use Rattle.vx_model.proofs.ListRows.{integers-list, fit-list, rows-list, spans-list, ends-list, span-list, shown-list, hidden-list, offsets-list}
use Rattle.vx_print.specs.Text.{comma_list, row_text}
use Rattle.vx_print.proofs.Elements.{list_text}
use Rattle.vx_print.proofs.Widths.{width_short}
use Rattle.std.specs.Cmp.{first_so}

-- ---- offsets whose type is known

-- records of such a type are few bytes
pub narrow : (w : ℕ) (t : PType) → w ≡ width t → w * 1 < 9223372036854775808
narrow w t h = omega (arith, h, width_short t)

module _ (p : ListParts) (t : PType) (f : list_fault p ≡ None) (h : primitive_kind t ≡ p.offsets.kind) where
  pub int_told : is_int t ≡ true
  int_told = ap is_int_kind h ∙ first_so (is_int_kind p.offsets.kind) _ (integers-list p f)

  numbers_told : record_numbers t p.offsets.records ≡ integers_of p.offsets
  numbers_told = ap (λ k. map (integer_by k) p.offsets.records) h

  pub offsets_told : (rs : List (List ℕ)) (n : ℕ) → rs ≡ p.offsets.records → n ≡ length p.elements.rows → are_offsets (record_numbers t rs) n ≡ true
  offsets_told rs n r long =
      ap₂ (λ (xs : List (List ℕ)) (m : ℕ). are_offsets (record_numbers t xs) m) r long
      ∙ ap (λ zs. are_offsets zs (length p.elements.rows)) numbers_told
      ∙ offsets-list p f

  pub row_told : (rs : List (List ℕ)) (i : ℕ) → rs ≡ p.offsets.records → i < length (list_spans p).spans → i + 1 < length rs
  row_told rs i r l =
      let same : length rs ≡ length p.offsets.records = ap length r in
      omega (arith, ends-list p f i l, same)

  pub span_told : (rs : List (List ℕ)) (i : ℕ) (x : ℕ × ℕ) → rs ≡ p.offsets.records → i < length (list_spans p).spans → x.0 ≡ get_or (offset_positions (record_numbers t rs)) i 0 → x.1 ≡ get_or (offset_positions (record_numbers t rs)) (i + 1) 0 → get_or (list_spans p).spans i (0, 0) ≡ x
  span_told rs i x r l a b =
      let same : offset_positions (record_numbers t rs) ≡ offset_positions (integers_of p.offsets) =
      ap (λ (xs : List (List ℕ)). offset_positions (record_numbers t xs)) r ∙ ap offset_positions numbers_told in
      let start : x.0 ≡ get_or (offset_positions (integers_of p.offsets)) i 0 = a ∙ ap (λ zs. get_or zs i 0) same in
      let end : x.1 ≡ get_or (offset_positions (integers_of p.offsets)) (i + 1) 0 = b ∙ ap (λ zs. get_or zs (i + 1) 0) same in
      span-list p f i l ∙ sym (ap₂ (λ (m n : ℕ). (m, n)) start end)

-- ---- the text of a row

pub shown_text : (p : ListParts) (i s e : ℕ) → list_fault p ≡ None → i < length (list_spans p).spans → is_present p.valid i ≡ true → get_or (list_spans p).spans i (0, 0) ≡ (s, e) → codes "[" ++ comma_list (map (row_text p.elements.dtype) (slice_range p.elements.rows s e)) ++ codes "]" ≡ row_text (list_column p).dtype (get_or (list_column p).rows i null)
shown_text p i s e f l there is =
    sym (list_text (list_column p).dtype p.elements.dtype (slice_range p.elements.rows s e) refl)
    ∙ ap (row_text (list_column p).dtype) (shown-list p f i s e l there is)

pub hidden_text : (p : ListParts) (i : ℕ) → list_fault p ≡ None → i < length (list_spans p).spans → is_present p.valid i ≡ false → codes "null" ≡ row_text (list_column p).dtype (get_or (list_column p).rows i null)
hidden_text p i f l gone = ap (row_text (list_column p).dtype) (hidden-list p f i l gone)

pub ruleset list_texts = (fit-list, rows-list, spans-list, shown_text, hidden_text)

-- ---- a column that is one of lists

module _ (p : ListParts) (k : Column) (h : list_column p ≡ k) where
  pub list_row_text : (i : ℕ) → row_text (list_column p).dtype (get_or (list_column p).rows i null) ≡ row_text k.dtype (get_or k.rows i null)
  list_row_text i = ap (λ (c : Column). row_text c.dtype (get_or c.rows i null)) h

  pub list_within : (i : ℕ) → i < length k.rows → i < length (list_column p).rows
  list_within i l =
      let long : length (list_column p).rows ≡ length k.rows = ap (λ (c : Column). length c.rows) h in
      omega (arith, l, long)

  pub list_deeper : p.elements.depth < k.depth
  list_deeper =
      let deep : (list_column p).depth ≡ k.depth = ap (λ (c : Column). c.depth) h in
      grind arith

pub ruleset as_lists = (list_row_text, list_within, list_deeper)
