-- List views of lists that stand one after another.
use Rattle.std.proofs.Common.{◌≡◌, ℕ, ◌+◌, ◌≤◌, true, List, [], ◌∷◌, ◌++◌, length, map, None, refl, ap, ap₂, ◌∙◌, arith}
use Rattle.std.specs.Prelude.{pos, nat_le, int_le}
use Rattle.std.specs.List.{list_all, sum_by}
use Rattle.std.proofs.lemmas.Bool.{le-leb}
use Rattle.std.proofs.lemmas.Bool.Decides.{nat_tests}
use Rattle.std.proofs.lemmas.Int.{ints}
use Rattle.std.proofs.lemmas.List.{length-map, length-append}
use Rattle.std.proofs.lemmas.List.Concat.{length-flat_map}
use Rattle.std.proofs.lemmas.List.Sums.{sum_by-cons}
use Rattle.vx_types.specs.RowValue.{RowValue}
use Rattle.vx_offsets.specs.Offsets.{offset_positions, spans, are_views, is_natural}
use Rattle.vx_model.specs.ListView.{ListViewParts, are_view_types, are_as_many, are_sizes, listview_fault, view_spans}
use Rattle.vx_model.specs.Numbers.{integer_by, integers_of}
use Rattle.vx_model.specs.Valid.{is_fitting}
use Rattle.vx_model.specs.VarBin.{are_integers}
use Rattle.vx_offsets.proofs.Cuts.{positions_back}
use Rattle.vx_lists.proofs.MadeLists.{length-offsets_of}
use Rattle.vx_lists.specs.Sums.{concat_lists, offsets_of, sums_from}

-- ---- where lists begin

pub views-spans : (s : ℕ) (starts : List ℕ) (lists : List (List RowValue)) (e : ℕ) → starts ++ e ∷ [] ≡ s ∷ sums_from s (map length lists) → view_spans starts (map length lists) ≡ spans (s ∷ sums_from s (map length lists))
views-spans s [] [] e h = refl
views-spans s (a ∷ starts) [] e h = absurd (omega (arith, ap length h, length-append (a ∷ starts) (e ∷ [])))
views-spans s [] (l ∷ lists) e h = absurd (omega (arith, ap length h))
views-spans s (a ∷ starts) (l ∷ lists) e h =
    let here : a ≡ s = cc in
    let rest : starts ++ e ∷ [] ≡ (s + length l) ∷ sums_from (s + length l) (map length lists) = cc in
    ap₂ ◌∷◌ (ap (λ n. (n, n + length l)) here) (views-spans (s + length l) starts lists e rest)

pub views-within : (s : ℕ) (starts : List ℕ) (lists : List (List RowValue)) (e n : ℕ) → starts ++ e ∷ [] ≡ s ∷ sums_from s (map length lists) → s + sum_by length lists ≤ n → are_views starts (map length lists) n ≡ true
views-within s [] lists e n h le = refl
views-within s (a ∷ starts) [] e n h le = refl
views-within s (a ∷ starts) (l ∷ lists) e n h le =
    let here : a ≡ s = cc in
    let rest : starts ++ e ∷ [] ≡ (s + length l) ∷ sums_from (s + length l) (map length lists) = cc in
    let all = sum_by-cons length l lists in
    let inside : nat_le (a + length l) n ≡ true = le-leb (a + length l) n (omega arith) in
    rw (inside, views-within (s + length l) starts lists e n rest (omega arith)) refl

naturals : (xs : List ℕ) → list_all is_natural (map pos xs) ≡ true
naturals [] = refl
naturals (x ∷ xs) = let here : int_le (pos 0) (pos x) ≡ true = grind (arith, ints) in rw (here, naturals xs) refl

module _ (p : ListViewParts) (starts : List ℕ) (lists : List (List RowValue)) (offsets_int : are_integers p.offsets ≡ true) (sizes_int : are_integers p.sizes ≡ true) (offsets : integers_of p.offsets ≡ map pos starts) (sizes : integers_of p.sizes ≡ map pos (map length lists)) (sums : starts ++ length p.elements.rows ∷ [] ≡ offsets_of (map length lists)) (rows : p.elements.rows ≡ concat_lists lists) where
  as_many : length starts ≡ length lists
  as_many = omega (arith, ap length sums, length-append starts (length p.elements.rows ∷ []), length-offsets_of (map length lists), length-map lists (length {A = RowValue}))

  count_offsets : length p.offsets.records ≡ length lists
  count_offsets = omega (arith, as_many, length-map p.offsets.records (integer_by p.offsets.kind), ap length offsets, length-map starts pos)

  count_sizes : length p.sizes.records ≡ length lists
  count_sizes = omega (arith, length-map p.sizes.records (integer_by p.sizes.kind), ap length sizes, length-map (map length lists) pos, length-map lists (length {A = RowValue}))

  total : length p.elements.rows ≡ sum_by length lists
  total = ap length rows ∙ length-flat_map (λ (l : List RowValue). l) lists

  within : are_sizes (integers_of p.offsets) (integers_of p.sizes) (length p.elements.rows) ≡ true
  within =
      let views : are_views (offset_positions (integers_of p.offsets)) (offset_positions (integers_of p.sizes)) (length p.elements.rows) ≡ true =
      ap₂ (λ a b. are_views a b (length p.elements.rows)) (ap offset_positions offsets ∙ positions_back starts) (ap offset_positions sizes ∙ positions_back (map length lists))
      ∙ views-within 0 starts lists (length p.elements.rows) (length p.elements.rows) sums (omega (arith, total)) in
      let natural : list_all is_natural (integers_of p.sizes) ≡ true = ap (list_all is_natural) sizes ∙ naturals (map length lists) in
      rw (natural, views) refl

  pub views_sound : is_fitting p.valid (length lists) ≡ true → listview_fault p ≡ None
  views_sound fits =
      let types : are_view_types p ≡ true = rw (offsets_int, sizes_int) refl in
      let many : are_as_many p ≡ true = (let n = count_offsets in let m = count_sizes in grind (arith, nat_tests)) in
      let fit : is_fitting p.valid (length p.offsets.records) ≡ true = ap (is_fitting p.valid) count_offsets ∙ fits in
      let natural : list_all is_natural (integers_of p.offsets) ≡ true = ap (list_all is_natural) offsets ∙ naturals starts in
      rw (types, many, fit, natural, within) refl
