-- Where the rows of a run end.
use Rattle.std.proofs.Common.{◌≡◌, ℕ, ◌+◌, ◌-◌, ◌<◌, ◌≤◌, List, [], ◌∷◌, ◌++◌, map, length, get_or, sym, ap, ap₂, subst, ◌∙◌, true, arith, append_assoc, append-nil}
use Rattle.std.specs.Prelude.{Result, Ok, Err, OnErr, OnOk}
use Rattle.std.specs.List.{All, range_with_len}
use Rattle.std.proofs.lemmas.List.{map-append}
use Rattle.std.proofs.lemmas.List.Elements.{All-append}
use Rattle.std.proofs.lemmas.List.FromFn.{get_or-map-range_with_len, length-map-range_with_len, map-range_with_len_more}
use Rattle.vx_types.specs.declared.ptype.PType.{PType}
use Rattle.vx_offsets.specs.Offsets.{are_offsets, offset_positions, record_numbers}
use Rattle.vx_text.specs.OffsetList.{run_ends}
use Rattle.vx_offsets.proofs.ReadOffsets.{run_ordered}

module _ (os : List ℕ) (base s : ℕ) where
  pub no_end : run_ends os base s s ≡ []
  no_end =
      let none : s - s ≡ 0 = omega arith in
      ap (λ n. map (λ i. base + (get_or os i 0 - get_or os s 0)) (range_with_len (s + 1) n)) none

  pub one_end : (i : ℕ) → s ≤ i → run_ends os base s (i + 1) ≡ run_ends os base s i ++ (base + (get_or os (i + 1) 0 - get_or os s 0)) ∷ []
  one_end i h =
      let f = λ (j : ℕ). base + (get_or os j 0 - get_or os s 0) in
      let many : i + 1 - s ≡ (i - s) + 1 = omega (arith, h) in
      ap (λ n. map f (range_with_len (s + 1) n)) many ∙ map-range_with_len_more f (s + 1) (i - s) (i + 1) (omega (arith, h))

  module _ {X : Type 0} (read : X → ℕ) where
    pub first_ends : (init old : List X) → old ≡ init → map read old ≡ map read init ++ run_ends os base s s
    first_ends init old e = ap (map read) e ∙ sym (append-nil (map read init)) ∙ ap (λ l. map read init ++ l) (sym no_end)

    pub more_ends : (i n : ℕ) (init old new : List X) (item : X) → s ≤ i → map read old ≡ map read init ++ run_ends os base s i → new ≡ old ++ item ∷ [] → read item ≡ n → n ≡ base + (get_or os (i + 1) 0 - get_or os s 0) → map read new ≡ map read init ++ run_ends os base s (i + 1)
    more_ends i n init old new item h is put spells end =
        ap (map read) put ∙ map-append read old (item ∷ [])
        ∙ ap₂ (λ l x. l ++ x ∷ []) is (spells ∙ end)
        ∙ append_assoc (map read init) (run_ends os base s i) ((base + (get_or os (i + 1) 0 - get_or os s 0)) ∷ [])
        ∙ ap (λ l. map read init ++ l) (sym (one_end i h))

-- none is past the last
pub ends_within : (p : PType) (records : List (List ℕ)) (len base s e k : ℕ) → are_offsets (record_numbers p records) len ≡ true → s ≤ e → e < length records → base + (get_or (offset_positions (record_numbers p records)) e 0 - get_or (offset_positions (record_numbers p records)) s 0) ≤ k → All (λ n. n ≤ k) (run_ends (offset_positions (record_numbers p records)) base s e)
ends_within p records len base s e k are o l fits =
    let os = offset_positions (record_numbers p records) in
    let f = λ (j : ℕ). base + (get_or os j 0 - get_or os s 0) in
    λ i d h.
    let many : i < e - s = omega (arith, h, length-map-range_with_len f (s + 1) (e - s)) in
    let here = get_or-map-range_with_len f (s + 1) (e - s) i (s + 1 + i) d many (omega arith) in
    let up = run_ordered p records len (s + 1 + i) e are (omega (arith, many, o)) l in
    omega (arith, here, up, fits)

pub still_fit : (old ends new : List ℕ) (k : ℕ) → All (λ n. n ≤ k) old → All (λ n. n ≤ k) ends → new ≡ old ++ ends → All (λ n. n ≤ k) new
still_fit old ends new k h m e = subst (λ (l : List ℕ). All (λ n. n ≤ k) l) (sym e) (All-append (λ n. n ≤ k) old ends h m)

-- after an answer too
pub fit_after : {T E : Type 0} (r : Result T E) (old ends new : List ℕ) (k : ℕ) → All (λ n. n ≤ k) old → All (λ n. n ≤ k) ends → OnOk r (new ≡ old ++ ends) → OnErr r (new ≡ old) → All (λ n. n ≤ k) new
fit_after (Ok x) old ends new k h m ok err = still_fit old ends new k h m ok
fit_after (Err e) old ends new k h m ok err = subst (λ (l : List ℕ). All (λ n. n ≤ k) l) (sym err) h
