-- The text of one row, within the text of a column.
use Rattle.std.proofs.Common.{◌≡◌, ℕ, ◌+◌, ◌-◌, ◌<◌, List, [], ◌∷◌, ◌++◌, length, take, drop, get_or, sym, ap, ◌∙◌, arith}
use Rattle.std.specs.Prelude.{Option, Some, slice_get}
use Rattle.std.specs.List.{slice_range}
use Rattle.std.specs.Option.{option_map}
use Rattle.std.proofs.Math.Seq.{drop-append_seam, drop-cons, take-append_seam}
use Rattle.std.proofs.lemmas.List.{append-nil, length-append}
use Rattle.std.proofs.lemmas.Option.{slice_get-get_or}
use Rattle.vx_types.specs.RowValue.{RowValue, null}
use Rattle.vx_types.specs.TypeTree.{TypeTree}
use Rattle.vx_model.specs.Column.{Column}
use Rattle.vx_model.specs.Step.{IsCut, IsSlice}
use Rattle.vx_print.specs.Text.{line, row_text, text, type_text}

pub one_row : {X : Type 0} (rows : List X) (i : ℕ) (d : X) → i < length rows → slice_range rows i (i + 1) ≡ get_or rows i d ∷ []
one_row rows i d h =
    let e : i + 1 - i ≡ 1 = omega arith in
    ap (λ n. take n (drop i rows)) e ∙ ap (take 1) (drop-cons rows i d h)

pub no_row : {X : Type 0} (rows : List X) (i : ℕ) → slice_range rows i i ≡ []
no_row rows i =
    let e : i - i ≡ 0 = omega arith in
    ap (λ n. take n (drop i rows)) e

-- what lies between a head and a last byte
pub between : (head middle : List ℕ) (last : ℕ) → slice_range (head ++ (middle ++ last ∷ [])) (length head) (length (head ++ (middle ++ last ∷ [])) - 1) ≡ middle
between head middle last =
    let whole : length (head ++ (middle ++ last ∷ [])) ≡ length head + length (middle ++ last ∷ []) = length-append head (middle ++ last ∷ []) in
    let rest : length (middle ++ last ∷ []) ≡ length middle + 1 = length-append middle (last ∷ []) in
    let e : length (head ++ (middle ++ last ∷ [])) - 1 - length head ≡ length middle = omega (arith, whole, rest) in
    ap (λ n. take n (drop (length head) (head ++ (middle ++ last ∷ [])))) e
    ∙ ap (take (length middle)) (drop-append_seam head (middle ++ last ∷ []))
    ∙ take-append_seam middle (last ∷ [])

-- the text of a cut
cut_text : (c a : Column) (left : List RowValue) (s : List ℕ) → IsCut c left a → s ≡ text a.dtype a.rows → s ≡ text c.dtype left
cut_text c a left s h e = e ∙ ap (λ (t : TypeTree). text t a.rows) h.step.dtype ∙ ap (text c.dtype) h.step.rows

module _ (t : TypeTree) (rows : List RowValue) (i : ℕ) (head whole : List ℕ) (h : i < length rows) (is_head : head ≡ text t (slice_range rows i i)) (is_whole : whole ≡ text t (slice_range rows i (i + 1))) where
  first_line : head ≡ line (type_text t)
  first_line = is_head ∙ ap (text t) (no_row rows i) ∙ append-nil (line (type_text t))

  both_lines : whole ≡ head ++ (row_text t (get_or rows i null) ++ 10 ∷ [])
  both_lines =
      is_whole ∙ ap (text t) (one_row rows i null h)
      ∙ ap (λ (l : List ℕ). line (type_text t) ++ l) (append-nil (line (row_text t (get_or rows i null))))
      ∙ ap (λ (l : List ℕ). l ++ (row_text t (get_or rows i null) ++ 10 ∷ [])) (sym first_line)

  longer : length head < length whole
  longer =
      let row : List ℕ = row_text t (get_or rows i null) in
      let e : length whole ≡ length head + length (row ++ 10 ∷ []) = ap length both_lines ∙ length-append head (row ++ 10 ∷ []) in
      let more : length (row ++ 10 ∷ []) ≡ length row + 1 = length-append row (10 ∷ []) in
      omega (arith, e, more)

  row_between : option_map (row_text t) (slice_get rows i) ≡ Some (slice_range whole (length head) (length whole - 1))
  row_between =
      ap (option_map (row_text t)) (slice_get-get_or rows i null h)
      ∙ ap (λ (l : List ℕ). Some l)
      (sym (ap (λ (l : List ℕ). slice_range l (length head) (length l - 1)) both_lines ∙ between head (row_text t (get_or rows i null)) 10))

module _ (c a b : Column) (i : ℕ) (head whole : List ℕ) (h : i < length c.rows) (none : IsSlice c i i a) (one : IsSlice c i (i + 1) b) (is_head : head ≡ text a.dtype a.rows) (is_whole : whole ≡ text b.dtype b.rows) where
  pub slice_longer : length head < length whole
  slice_longer =
      longer c.dtype c.rows i head whole h (cut_text c a (slice_range c.rows i i) head none is_head)
      (cut_text c b (slice_range c.rows i (i + 1)) whole one is_whole)

  pub slice_between : option_map (row_text c.dtype) (slice_get c.rows i) ≡ Some (slice_range whole (length head) (length whole - 1))
  slice_between =
      row_between c.dtype c.rows i head whole h (cut_text c a (slice_range c.rows i i) head none is_head)
      (cut_text c b (slice_range c.rows i (i + 1)) whole one is_whole)

-- the part that is copied
pub copied_part : (row : Option (List ℕ)) (head whole slice part items : List ℕ) (n : ℕ) → row ≡ Some (slice_range whole (length head) (length whole - 1)) → n ≡ length head → slice ≡ whole → part ≡ slice_range slice n (length slice - 1) → items ≡ part → row ≡ Some items
copied_part row head whole slice part items n e counted same cut copied = cc
