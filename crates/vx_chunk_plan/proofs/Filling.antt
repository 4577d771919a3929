-- Outputs that are filled chunk by chunk.
use Rattle.std.proofs.Common.{◌≡◌, ℕ, zero, suc, ◌+◌, ◌-◌, ◌*◌, ◌/◌, ◌<◌, ◌≤◌, ◌⊎◌, ◌++◌, Bool, true, false, cond, List, [], ◌∷◌, length, take, drop, get_or, Option, Some, None, refl, sym, ap, ◌∙◌, subst, inl, inr, arith}
use Rattle.std.specs.Prelude.{Contains, is_some, not}
use Rattle.std.specs.List.{filter, flat_map, range_with_len}
use Rattle.std.proofs.Math.Seq.{take-add}
use Rattle.std.proofs.lemmas.Bool.{cases_Bool, cases_eq, eq-eqb}
use Rattle.std.proofs.lemmas.List.{drop-drop}
use Rattle.std.proofs.lemmas.List.Elements.{All-contains, Contains-append_cases, Contains-append_left, Contains-get_or, Contains-push, Contains-push_cases, filter_passes}
use Rattle.std.proofs.lemmas.List.Folds.{list_any_at}
use Rattle.vx_arrow_image.specs.Image.{is_valid}
use Rattle.vx_chunk_plan.specs.Faults.{first_row, rows_in}
use Rattle.vx_chunk_plan.specs.Filled.{AllIsAnswer, AreAllDone, ChunkIsDone, IsChunk, NoneIsDone, NullsAreDone, home_of}
use Rattle.vx_chunk_plan.specs.Picks.{has_null, is_told, lies_in, pick_at, picks_in, picks_of}
use Rattle.vx_chunk_plan.specs.Rows.{answer, picked_row, row_at}
use Rattle.vx_chunk_plan.specs.Scattered.{AreNulled, AreScattered, Fits}
use Rattle.vx_chunk_plan.proofs.KeyLists.{pick_is, picks_len}
use Rattle.vx_chunk_plan.proofs.RowPuts.{row_same}
use Rattle.vx_chunk_plan.proofs.Sorting.{filter_next}

-- ---- lists

none_in : {X : Type 0} (x : X) → Contains [] x → ⊥
none_in x h = let lt = h.1 in omega arith

pub first_or_rest : {X : Type 0} (x y : X) (xs : List X) → Contains (x ∷ xs) y → (x ≡ y) ⊎ Contains xs y
first_or_rest x y xs h = elim (Contains-append_cases (x ∷ []) xs y h) [
  | inl here ↦ elim (Contains-push_cases [] x y here) [ inl none ↦ absurd (none_in y none) | inr same ↦ inl same ]
  | inr rest ↦ inr rest
]

filter_in : (p : ℕ → Bool) (n j : ℕ) → j < n → p j ≡ true → Contains (filter p (range_with_len 0 n)) j
filter_in p zero j h is = absurd (omega arith)
filter_in p (suc n) j h is =
    let e : suc n ≡ n + 1 = omega arith in
    let more : Contains (filter p (range_with_len 0 n) ++ cond (p n) (n ∷ []) []) j = elim (cases_eq j n) [
      | inl last ↦
          let here : p n ≡ true = ap p (sym last) ∙ is in
          let one : Contains (filter p (range_with_len 0 n) ++ n ∷ []) n = Contains-push (filter p (range_with_len 0 n)) n in
          subst (λ (i : ℕ). Contains (filter p (range_with_len 0 n) ++ cond (p n) (n ∷ []) []) i) (sym last)
          (subst (λ (b : Bool). Contains (filter p (range_with_len 0 n) ++ cond b (n ∷ []) []) n) (sym here) one)
      | inr before ↦ Contains-append_left (filter p (range_with_len 0 n)) (cond (p n) (n ∷ []) []) j (filter_in p n j (omega (arith, before)) is)
    ] in
    subst (λ (m : ℕ). Contains (filter p (range_with_len 0 m)) j) (sym e) (subst (λ (l : List ℕ). Contains l j) (sym (filter_next p n)) more)

filter_out : (p : ℕ → Bool) (xs : List ℕ) (i : ℕ) → i < length (filter p xs) → p (get_or (filter p xs) i 0) ≡ true
filter_out p xs i h = All-contains (λ (x : ℕ). p x ≡ true) (filter p xs) (get_or (filter p xs) i 0) (filter_passes p xs) (Contains-get_or (filter p xs) i 0 h)

-- ---- the picks in a chunk

chunk_picks : (chunk_len : ℕ) (picks : List (Option ℕ)) (k j : ℕ) → j < length picks → lies_in chunk_len k (get_or picks j None) ≡ true → Contains (picks_in chunk_len picks k) j
unfolding picks_in
chunk_picks chunk_len picks k j h is = filter_in (λ (i : ℕ). lies_in chunk_len k (get_or picks i None)) (length picks) j h is

in_chunk : (chunk_len : ℕ) (picks : List (Option ℕ)) (k i : ℕ) → i < length (picks_in chunk_len picks k) → lies_in chunk_len k (get_or picks (get_or (picks_in chunk_len picks k) i 0) None) ≡ true
unfolding picks_in
in_chunk chunk_len picks k i h = filter_out (λ (j : ℕ). lies_in chunk_len k (get_or picks j None)) (range_with_len 0 (length picks)) i h

-- the place of a pick that lies in a chunk
place_in : (chunk_len k : ℕ) (places valid : List ℕ) (j : ℕ) → lies_in chunk_len k (pick_at places valid j) ≡ true → pick_at places valid j ≡ Some (get_or places j 0)
place_in chunk_len k places valid j h = elim (cases_Bool (is_valid valid j)) [
  | inl there ↦ ap (λ (b : Bool). cond b (Some (get_or places j 0)) None) there
  | inr null ↦ absurd (let f : false ≡ true = sym (ap (λ (b : Bool). lies_in chunk_len k (cond b (Some (get_or places j 0)) None)) null) ∙ h in cc)
]

-- a pick whose home is chunk k lies in it
lies_home : (chunk_len k : ℕ) (o : Option ℕ) → Some k ≡ home_of chunk_len o → lies_in chunk_len k o ≡ true
lies_home chunk_len k None h = absurd (let e : Some k ≡ None = h in cc)
lies_home chunk_len k (Some p) h = let e : k ≡ p / chunk_len = (let f : Some k ≡ Some (p / chunk_len) = h in cc) in eq-eqb (p / chunk_len) k (sym e)

null_home : (chunk_len : ℕ) (o : Option ℕ) → None ≡ home_of chunk_len o → o ≡ None
null_home chunk_len None h = refl
null_home chunk_len (Some p) h = absurd (let e : ◌≡◌ {A = Option ℕ} None (Some (p / chunk_len)) = h in cc)

null_pick : (places valid : List ℕ) (j : ℕ) → pick_at places valid j ≡ None → is_valid valid j ≡ false
null_pick places valid j h = elim (cases_Bool (is_valid valid j)) [
  | inl there ↦ absurd (let f : Some (get_or places j 0) ≡ None = sym (ap (λ (b : Bool). cond b (Some (get_or places j 0)) None) there) ∙ h in cc)
  | inr null ↦ null
]

-- ---- one chunk more

chunk_row : (width len chunk_len k : ℕ) (rows : List (List ℕ)) (chunk places order old new : List ℕ) (i : ℕ) → Fits width (first_row chunk_len k) (rows_in len chunk_len k) chunk places order old
    → AreScattered width (first_row chunk_len k) chunk places order (length order) old new → IsChunk width len chunk_len k rows chunk → i < length order
    → row_at width new (get_or order i 0) ≡ get_or rows (get_or places (get_or order i 0) 0) []
chunk_row width len chunk_len k rows chunk places order old new i fit so is h =
    let p = get_or places (get_or order i 0) 0 in
    let first = first_row chunk_len k in
    let low : first ≤ p = fit.low i h in
    let high : p < first + rows_in len chunk_len k = fit.high i h in
    let there : first + (p - first) ≡ p = omega (arith, low) in
    so.rows i h ∙ is.each (p - first) (omega (arith, low, high)) ∙ ap (λ (n : ℕ). get_or rows n []) there

kept_row : (width chunk_len k : ℕ) (picks : List (Option ℕ)) (chunk places order old new : List ℕ) (first j : ℕ) → AreScattered width first chunk places order (length order) old new
    → order ≡ picks_in chunk_len picks k → lies_in chunk_len k (get_or picks j None) ≡ false → row_at width new j ≡ row_at width old j
kept_row width chunk_len k picks chunk places order old new first j so own out = row_same width j old new so.len (λ b at. so.others b (λ i h same.
    let e : get_or order i 0 ≡ j = same ∙ at in
    let lt : i < length (picks_in chunk_len picks k) = (let n = ap length own in omega arith) in
    let is : lies_in chunk_len k (get_or picks (get_or order i 0) None) ≡ true = subst (λ (l : List ℕ). lies_in chunk_len k (get_or picks (get_or l i 0) None) ≡ true) (sym own) (in_chunk chunk_len picks k i lt) in
    let f : false ≡ true = sym out ∙ sym (ap (λ (n : ℕ). lies_in chunk_len k (get_or picks n None)) e) ∙ is in cc))

pub chunk_done : (width len chunk_len k : ℕ) (chunk places order old new : List ℕ) → Fits width (first_row chunk_len k) (rows_in len chunk_len k) chunk places order old
    → AreScattered width (first_row chunk_len k) chunk places order (length order) old new → ChunkIsDone width len chunk_len k places order chunk old new
chunk_done width len chunk_len k chunk places order old new fit so rows valid done is own before = record {
  each = λ j h home.
      let picks = picks_of places valid in
      let o = get_or picks j None in
      let short : j < length places = (let n = picks_len places valid in omega arith) in
      let at : o ≡ pick_at places valid j = pick_is places valid j short in
      elim (cases_Bool (lies_in chunk_len k o)) [
        | inl here ↦
            let member : Contains order j = subst (λ (l : List ℕ). Contains l j) (sym own) (chunk_picks chunk_len picks k j h here) in
            let i = member.0 in
            let e : get_or order i 0 ≡ j = Rattle.std.proofs.lemmas.List.get_or_default order i 0 j member.1 ∙ member.2 in
            let row : row_at width new (get_or order i 0) ≡ get_or rows (get_or places (get_or order i 0) 0) [] = chunk_row width len chunk_len k rows chunk places order old new i fit so is member.1 in
            let one : row_at width new j ≡ get_or rows (get_or places j 0) [] = subst (λ (n : ℕ). row_at width new n ≡ get_or rows (get_or places n 0) []) e row in
            let place : o ≡ Some (get_or places j 0) = at ∙ place_in chunk_len k places valid j (sym (ap (lies_in chunk_len k) at) ∙ here) in
            one ∙ sym (ap (picked_row width rows) place)
        | inr elsewhere ↦
            let rest : Contains done (home_of chunk_len o) = elim (first_or_rest (Some k) (home_of chunk_len o) done home) [
              | inl same ↦ absurd (let f : false ≡ true = sym elsewhere ∙ lies_home chunk_len k o same in cc)
              | inr rest ↦ rest
            ] in
            kept_row width chunk_len k picks chunk places order old new (first_row chunk_len k) j so own elsewhere ∙ before.each j h rest
      ];
}

-- ---- nulls

pub nulls_done : (width : ℕ) (valid : List ℕ) (count : ℕ) (old new : List ℕ) → AreNulled width valid count old new → NullsAreDone width valid count old new
nulls_done width valid count old new so chunk_len rows places done n before = record {
  each = λ j h home.
      let picks = picks_of places valid in
      let o = get_or picks j None in
      let short : j < length places = (let m = picks_len places valid in omega arith) in
      let at : o ≡ pick_at places valid j = pick_is places valid j short in
      elim (cases_Bool (is_valid valid j)) [
        | inl there ↦
            let rest : Contains done (home_of chunk_len o) = elim (first_or_rest None (home_of chunk_len o) done home) [
              | inl same ↦ absurd (let f : true ≡ false = sym there ∙ null_pick places valid j (sym at ∙ null_home chunk_len o same) in cc)
              | inr rest ↦ rest
            ] in
            row_same width j old new so.len (λ b e. so.others b (λ lt. ap (is_valid valid) e ∙ there)) ∙ before.each j h rest
        | inr null ↦
            let none : o ≡ None = at ∙ ap (λ (b : Bool). cond b (Some (get_or places j 0)) None) null in
            so.rows j (omega arith) null ∙ sym (ap (picked_row width rows) none)
      ];
}

-- ---- nothing yet, and all

pub none_done : (width chunk_len : ℕ) (places valid out : List ℕ) → NoneIsDone width chunk_len places valid out
none_done width chunk_len places valid out rows = record { each = λ j h home. absurd (none_in (home_of chunk_len (get_or (picks_of places valid) j None)) home) }

rows_joined : (width : ℕ) (f : Option ℕ → List ℕ) (picks : List (Option ℕ)) (out : List ℕ) → ((j : ℕ) → j < length picks → row_at width out j ≡ f (get_or picks j None)) → take (length picks * width) out ≡ flat_map f picks
rows_joined width f [] out h = let none : 0 * width ≡ 0 = omega arith in ap (λ (n : ℕ). take n out) none
rows_joined width f (o ∷ picks) out h =
    let n = length picks in
    let all : suc n * width ≡ width + n * width = (let e : suc n ≡ 1 + n = omega arith in ap (λ (m : ℕ). m * width) e ∙ Rattle.std.proofs.Math.Nat.add-mul 1 n width ∙ omega arith) in
    let none : 0 * width ≡ 0 = omega arith in
    let first : take width out ≡ f o = sym (ap (λ (m : ℕ). take width (drop m out)) none) ∙ h zero (omega arith) in
    let rest : take (n * width) (drop width out) ≡ flat_map f picks = rows_joined width f picks (drop width out) (λ j lt.
    let further : width + j * width ≡ suc j * width = (let e : suc j ≡ 1 + j = omega arith in sym (ap (λ (m : ℕ). m * width) e ∙ Rattle.std.proofs.Math.Nat.add-mul 1 j width ∙ omega arith)) in
    ap (take width) (drop-drop (j * width) width out) ∙ ap (λ (m : ℕ). take width (drop m out)) further ∙ h (suc j) (omega arith)) in
    ap (λ (m : ℕ). take m out) all ∙ take-add width (n * width) out ∙ ap (λ (l : List ℕ). l ++ take (n * width) (drop width out)) first ∙ ap (λ (l : List ℕ). f o ++ l) rest

told_at : (chunk_len : ℕ) (picks : List (Option ℕ)) (j p : ℕ) → j < length picks → get_or picks j None ≡ Some p → is_told chunk_len picks (p / chunk_len) ≡ true
told_at chunk_len picks j p h e = list_any_at (lies_in chunk_len (p / chunk_len)) picks j None h (ap (lies_in chunk_len (p / chunk_len)) e ∙ eq-eqb (p / chunk_len) (p / chunk_len) refl)

null_at : (picks : List (Option ℕ)) (j : ℕ) → j < length picks → get_or picks j None ≡ None → has_null picks ≡ true
null_at picks j h e = list_any_at (λ (o : Option ℕ). not (is_some o)) picks j None h (ap (λ (o : Option ℕ). not (is_some o)) e)

home_done : (chunk_len : ℕ) (picks : List (Option ℕ)) (done : List (Option ℕ)) → AreAllDone chunk_len picks done → (j : ℕ) → j < length picks → (o : Option ℕ) → get_or picks j None ≡ o → Contains done (home_of chunk_len o)
home_done chunk_len picks done all j h None e = all.nulls (null_at picks j h e)
home_done chunk_len picks done all j h (Some p) e = all.chunks (p / chunk_len) (told_at chunk_len picks j p h e)

pub all_done : (width chunk_len : ℕ) (places valid out : List ℕ) → AllIsAnswer width chunk_len places valid out
unfolding answer
all_done width chunk_len places valid out rows done all so =
    let picks = picks_of places valid in
    let n = picks_len places valid in
    ap (λ (m : ℕ). take (m * width) out) (sym n) ∙ rows_joined width (picked_row width rows) picks out (λ j h. so.each j h (home_done chunk_len picks done all j h (get_or picks j None) refl))
