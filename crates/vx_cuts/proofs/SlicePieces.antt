-- A slice of the whole, as pieces of parts.
use Rattle.std.proofs.Common.{◌≡◌, ℕ, zero, suc, ◌+◌, ◌-◌, ◌<◌, ◌≤◌, min, List, [], ◌∷◌, ◌++◌, length, map, sym, ap, ◌∙◌, inl, inr, arith, slice_index}
use Rattle.std.specs.List.{flat_map, range_with_len}
use Rattle.std.proofs.lemmas.Bool.{cases_lt}
use Rattle.std.proofs.lemmas.List.{append-nil}
use Rattle.std.proofs.lemmas.List.Concat.{flat_map-append}
use Rattle.std.proofs.lemmas.List.FromFn.{map-range_with_len_more}
use Rattle.vx_cuts.specs.Bounds.{bounds_of}
use Rattle.vx_cuts.specs.Slices.{row_in}
use Rattle.vx_cuts.specs.declared.runs.Piece.{Piece}
use Rattle.vx_cuts.proofs.BoundLists.{bound_next, bounds_are}
use Rattle.vx_cuts.proofs.RunPieces.{range_joined}

-- ranges without an item are alike
no_range : (a b n : ℕ) → n ≡ 0 → range_with_len a n ≡ range_with_len b n
no_range a b n e = ap (range_with_len a) e ∙ sym (ap (range_with_len b) e)

-- the rows of the slice before row b, and those of the part of n rows from there on
part_more : (start end b n : ℕ) → start ≤ end
    → range_with_len start (min end b - start) ++ range_with_len (b + min (start - b) n) (min (end - b) n - min (start - b) n) ≡ range_with_len start (min end (b + n) - start)
part_more start end b n h =
    let m = min end b - start in
    let len = min (end - b) n - min (start - b) n in
    let k = min end (b + n) - start in
    let all : min end b - start + (min (end - b) n - min (start - b) n) ≡ min end (b + n) - start = omega arith in
    elim (cases_lt 0 len) [
      | inl some ↦
          let seam : start + (min end b - start) ≡ b + min (start - b) n = omega arith in
          range_joined start m len (b + min (start - b) n) k seam all
      | inr none ↦
          let no : min (end - b) n - min (start - b) n ≡ 0 = omega arith in
          let same : min end b - start ≡ min end (b + n) - start = omega arith in
          ap (λ (l : ℕ). range_with_len start m ++ range_with_len (b + min (start - b) n) l) no ∙ append-nil (range_with_len start m) ∙ ap (range_with_len start) same
    ]

module _ (lengths starts left : List ℕ) (start end : ℕ) (ordered : start ≤ end)
    (begins : (k : ℕ) → k < length lengths → slice_index starts k ≡ row_in lengths start k)
    (lasts : (k : ℕ) → k < length lengths → slice_index left k ≡ row_in lengths end k - row_in lengths start k) where
  piece : ℕ → Piece
  piece k = record { part = k; start = slice_index starts k; len = slice_index left k }

  places : Piece → List ℕ
  places p = range_with_len (slice_index (bounds_of lengths) p.part + p.start) p.len

  pub pieces_so : (m : ℕ) → m ≤ length lengths → flat_map (λ (p : Piece). range_with_len (slice_index (bounds_of lengths) p.part + p.start) p.len) (map (λ (k : ℕ). let q : Piece = record { part = k; start = slice_index starts k; len = slice_index left k } in q) (range_with_len 0 m)) ≡ range_with_len start (min end (slice_index (bounds_of lengths) m) - start)
  pieces_so zero h =
      let first = (bounds_are lengths).starts in
      let none : min end (slice_index (bounds_of lengths) 0) - start ≡ 0 = omega (arith, first) in
      sym (ap (range_with_len start) none)
  pieces_so (suc m) h =
      let here : m < length lengths = omega arith in
      let b = slice_index (bounds_of lengths) m in
      let n = slice_index lengths m in
      let f = λ (k : ℕ). let q : Piece = record { part = k; start = slice_index starts k; len = slice_index left k } in q in
      let g = λ (p : Piece). range_with_len (slice_index (bounds_of lengths) p.part + p.start) p.len in
      let last : suc m ≡ m + 1 = omega arith in
      ap (λ (i : ℕ). flat_map g (map f (range_with_len 0 i))) last
      ∙ ap (flat_map g) (map-range_with_len_more f 0 m m (omega arith))
      ∙ flat_map-append g (map f (range_with_len 0 m)) (f m ∷ [])
      ∙ ap (λ (l : List ℕ). l ++ (range_with_len (b + slice_index starts m) (slice_index left m) ++ [])) (pieces_so m (omega arith))
      ∙ ap (λ (l : List ℕ). range_with_len start (min end b - start) ++ l) (append-nil (range_with_len (b + slice_index starts m) (slice_index left m)))
      ∙ ap (λ (s : ℕ). range_with_len start (min end b - start) ++ range_with_len (b + s) (slice_index left m)) (begins m here)
      ∙ ap (λ (l : ℕ). range_with_len start (min end b - start) ++ range_with_len (b + row_in lengths start m) l) (lasts m here)
      ∙ part_more start end b n ordered
      ∙ ap (λ (l : ℕ). range_with_len start (min end l - start)) (sym (bound_next lengths m here) ∙ ap (slice_index (bounds_of lengths)) (sym last))
