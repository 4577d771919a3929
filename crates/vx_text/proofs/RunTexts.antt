-- Texts of a run of rows, put out one after another.
use Rattle.std.proofs.Common.{◌≡◌, ℕ, zero, suc, ◌+◌, ◌-◌, ◌^◌, ◌<◌, ◌≤◌, Bool, true, List, [], ◌∷◌, ◌++◌, length, get_or, take, drop, slice_range, refl, sym, ap, ap₂, subst, ◌∙◌, arith, append_assoc}
use Rattle.std.specs.Prelude.{Result, Ok, Err, OnOk, nat_le, if◌then◌else◌}
use Rattle.std.specs.List.{All, flat_map}
use Rattle.std.proofs.lemmas.List.{append-nil, length-append, length-map, take_more}
use Rattle.std.proofs.lemmas.List.Elements.{All-get_or}
use Rattle.std.proofs.lemmas.Grind.{flat_map-append}
use Rattle.vx_types.specs.declared.ptype.PType.{PType}
use Rattle.vx_offsets.specs.Offsets.{are_offsets, lists_at, offset_positions, record_numbers}
use Rattle.vx_positions.specs.Positions.{position_of}
use Rattle.vx_offsets.proofs.Ascending.{length-numbers}
use Rattle.vx_model.proofs.Items.{length-slice_range}
use Rattle.vx_model.proofs.Texts.{get_or-lists_at, length-lists_at}
use Rattle.vx_text.specs.Building.{AddsTexts, AreTexts}
use Rattle.vx_text.specs.OffsetList.{OffsetList, greatest_offset, run_ends, wide_type, with_offset}
use Rattle.vx_text.proofs.BuiltTexts.{one_text}
use Rattle.vx_offsets.proofs.ReadOffsets.{read_within, run_ordered}
use Rattle.vx_text.proofs.RunEnds.{no_end, one_end}
use Rattle.std.proofs.lemmas.Bool.{le-leb}
use Rattle.vx_lemmas.proofs.Lists.{slice-none, slice_join}

-- ---- one row more of a run

module _ (bytes os : List ℕ) (s i : ℕ) (from : s ≤ i) (row : i + 1 < length os) where
  one_list : slice_range (lists_at os bytes) s i ++ slice_range bytes (get_or os i 0) (get_or os (i + 1) 0) ∷ [] ≡ slice_range (lists_at os bytes) s (i + 1)
  one_list =
      let inside : i < length (lists_at os bytes) = omega (arith, row, length-lists_at os bytes) in
      let one : i + 1 - i ≡ 1 = omega arith in
      let here : slice_range (lists_at os bytes) i (i + 1) ≡ slice_range bytes (get_or os i 0) (get_or os (i + 1) 0) ∷ [] =
      ap (λ k. take k (drop i (lists_at os bytes))) one ∙ head_of (lists_at os bytes) i inside ∙ ap (λ x. x ∷ []) (get_or-lists_at os bytes i row) in
      ap (λ l. slice_range (lists_at os bytes) s i ++ l) (sym here) ∙ slice_join (lists_at os bytes) s i (i + 1) from (omega arith)
    where
      head_of : (ls : List (List ℕ)) (k : ℕ) → k < length ls → take 1 (drop k ls) ≡ get_or ls k [] ∷ []
      head_of [] k h = absurd (omega arith)
      head_of (x ∷ ls) zero h = refl
      head_of (x ∷ ls) (suc k) h = head_of ls k (omega arith)

  pub one_row : (p : PType) (old new : OffsetList) (front : List ℕ) (left : List (List ℕ)) → get_or os s 0 ≤ get_or os i 0 → get_or os i 0 ≤ get_or os (i + 1) 0 → get_or os (i + 1) 0 ≤ length bytes → length front + (get_or os (i + 1) 0 - get_or os s 0) < 2 ^ 63 → new ≡ with_offset old (length front + (get_or os (i + 1) 0 - get_or os s 0)) → AreTexts p old (front ++ slice_range bytes (get_or os s 0) (get_or os i 0)) (left ++ slice_range (lists_at os bytes) s i) → AreTexts p new (front ++ slice_range bytes (get_or os s 0) (get_or os (i + 1) 0)) (left ++ slice_range (lists_at os bytes) s (i + 1))
  one_row p old new front left up next within short is are =
      let a = get_or os s 0 in let b = get_or os i 0 in let c = get_or os (i + 1) 0 in
      let more = front ++ slice_range bytes a c in
      let cut : length (slice_range bytes a c) ≡ c - a = length-slice_range bytes a c (omega (arith, up, next)) within in
      let long : length more ≡ length front + (c - a) = length-append front (slice_range bytes a c) ∙ ap (λ k. length front + k) cut in
      let joined : more ≡ (front ++ slice_range bytes a b) ++ slice_range bytes b c =
      ap (λ l. front ++ l) (sym (slice_join bytes a b c up next)) ∙ sym (append_assoc front (slice_range bytes a b) (slice_range bytes b c)) in
      let put = one_text p old new (front ++ slice_range bytes a b) more (slice_range bytes b c) (left ++ slice_range (lists_at os bytes) s i) are (omega (arith, long, short)) joined (is ∙ ap (with_offset old) (sym long)) in
      subst (λ (l : List (List ℕ)). AreTexts p new more l)
      (append_assoc left (slice_range (lists_at os bytes) s i) (slice_range bytes b c ∷ []) ∙ ap (λ l. left ++ l) one_list)
      put

-- ---- a run more

pub no_row : (bytes os : List ℕ) (s : ℕ) (old : OffsetList) (front : List ℕ) (p : PType) (left : List (List ℕ)) → AreTexts p old front left → AreTexts p old (front ++ slice_range bytes (get_or os s 0) (get_or os s 0)) (left ++ slice_range (lists_at os bytes) s s)
no_row bytes os s old front p left are =
    subst (λ (b : List ℕ). AreTexts p old b (left ++ slice_range (lists_at os bytes) s s))
    (sym (append-nil front) ∙ ap (λ l. front ++ l) (sym (slice-none bytes (get_or os s 0))))
    (subst (λ (l : List (List ℕ)). AreTexts p old front l)
    (sym (append-nil left) ∙ ap (λ l. left ++ l) (sym (slice-none (lists_at os bytes) s)))
    are)

module _ (bytes os : List ℕ) (climbs : (i j : ℕ) → i ≤ j → j < length os → get_or os i 0 ≤ get_or os j 0) (top : (i : ℕ) → i < length os → get_or os i 0 ≤ length bytes) (p : PType) (old : OffsetList) (front : List ℕ) (left : List (List ℕ)) (s : ℕ) where
  -- the offsets behind those of so many rows more
  abbrev pub behind : ℕ → OffsetList
  behind k = record { ptype = old.ptype; numbers = old.numbers ++ run_ends os (length front) s k }

  pub all_rows : (n : ℕ) → s + n < length os → length front + (get_or os (s + n) 0 - get_or os s 0) < 2 ^ 63 → length front + (get_or os (s + n) 0 - get_or os s 0) ≤ greatest_offset old.ptype → AreTexts p old front left → AreTexts p (behind (s + n)) (front ++ slice_range bytes (get_or os s 0) (get_or os (s + n) 0)) (left ++ slice_range (lists_at os bytes) s (s + n))
  all_rows zero h short fits are =
      let same : s ≡ s + 0 = omega arith in
      let none : old.numbers ≡ old.numbers ++ run_ends os (length front) s s = sym (append-nil old.numbers) ∙ ap (λ l. old.numbers ++ l) (sym (no_end os (length front) s)) in
      subst (λ (k : ℕ). AreTexts p (behind k) (front ++ slice_range bytes (get_or os s 0) (get_or os k 0)) (left ++ slice_range (lists_at os bytes) s k)) same
      (subst (λ (ns : List ℕ). AreTexts p (record { ptype = old.ptype; numbers = ns }) (front ++ slice_range bytes (get_or os s 0) (get_or os s 0)) (left ++ slice_range (lists_at os bytes) s s)) none (no_row bytes os s old front p left are))
  all_rows (suc n) h short fits are =
      let i = s + n in
      let next : s + n + 1 ≡ s + suc n = omega arith in
      let row : s + n + 1 < length os = omega (arith, h) in
      let last : get_or os (s + suc n) 0 ≡ get_or os (s + n + 1) 0 = ap (λ k. get_or os k 0) (sym next) in
      let up = climbs s (s + n) (omega arith) (omega (arith, row)) in
      let on = climbs (s + n) (s + n + 1) (omega arith) row in
      let before = all_rows n (omega (arith, row)) (omega (arith, up, on, last, short)) (omega (arith, up, on, last, fits)) are in
      let m = length front + (get_or os (s + n + 1) 0 - get_or os s 0) in
      let within : nat_le m (greatest_offset old.ptype) ≡ true = le-leb m (greatest_offset old.ptype) (omega (arith, last, fits)) in
      let make : PType → List ℕ → OffsetList = λ t ns. record { ptype = t; numbers = ns } in
      let is : behind (s + n + 1) ≡ with_offset (behind (s + n)) m =
      ap₂ make (sym (ap (λ (b : Bool). if b then old.ptype else wide_type old.ptype) within))
      (ap (λ l. old.numbers ++ l) (one_end os (length front) s (s + n) (omega arith)) ∙ sym (append_assoc old.numbers (run_ends os (length front) s (s + n)) (m ∷ []))) in
      subst (λ (k : ℕ). AreTexts p (behind k) (front ++ slice_range bytes (get_or os s 0) (get_or os k 0)) (left ++ slice_range (lists_at os bytes) s k)) next
      (one_row bytes os s (s + n) (omega arith) row p (behind (s + n)) (behind (s + n + 1)) front left up on (top (s + n + 1) row) (omega (arith, last, short)) is before)

pub run_added : {T E : Type 0} (r : Result T E) (bytes : List ℕ) (t : PType) (xs : List (List ℕ)) (old new : OffsetList) (base s e : ℕ) → are_offsets (record_numbers t xs) (length bytes) ≡ true → s ≤ e → e < length xs → base + (get_or (offset_positions (record_numbers t xs)) e 0 - get_or (offset_positions (record_numbers t xs)) s 0) < 2 ^ 63 → base + (get_or (offset_positions (record_numbers t xs)) e 0 - get_or (offset_positions (record_numbers t xs)) s 0) ≤ greatest_offset old.ptype → OnOk r (new ≡ record { ptype = old.ptype; numbers = old.numbers ++ run_ends (offset_positions (record_numbers t xs)) base s e }) → OnOk r ((front : List ℕ) → length front ≡ base → AddsTexts old front new (front ++ slice_range bytes (get_or (offset_positions (record_numbers t xs)) s 0) (get_or (offset_positions (record_numbers t xs)) e 0)) (slice_range (lists_at (offset_positions (record_numbers t xs)) bytes) s e))
run_added (Ok x) bytes t xs old new base s e are o l short fits is =
    let os = offset_positions (record_numbers t xs) in
    let long : length os ≡ length xs = length-map (record_numbers t xs) position_of ∙ length-numbers t xs in
    let last : s + (e - s) ≡ e = omega (arith, o) in
    λ front at p left texts.
    let all = all_rows bytes os (λ i j h k. run_ordered t xs (length bytes) i j are h (omega (arith, k, long))) (λ i h. read_within t xs i (length bytes) are (omega (arith, h, long))) p old front left s (e - s) (omega (arith, last, l, long)) (subst (λ (k : ℕ). length front + (get_or os k 0 - get_or os s 0) < 2 ^ 63) (sym last) (omega (arith, at, short))) (subst (λ (k : ℕ). length front + (get_or os k 0 - get_or os s 0) ≤ greatest_offset old.ptype) (sym last) (omega (arith, at, fits))) texts in
    let make : ℕ → OffsetList = λ b. record { ptype = old.ptype; numbers = old.numbers ++ run_ends os b s e } in
    subst (λ (o : OffsetList). AreTexts p o (front ++ slice_range bytes (get_or os s 0) (get_or os e 0)) (left ++ slice_range (lists_at os bytes) s e)) (sym (is ∙ ap make (sym at)))
    (subst (λ (k : ℕ). AreTexts p (record { ptype = old.ptype; numbers = old.numbers ++ run_ends os (length front) s k }) (front ++ slice_range bytes (get_or os s 0) (get_or os k 0)) (left ++ slice_range (lists_at os bytes) s k)) last all)
run_added (Err x) bytes t xs old new base s e are o l short fits is = is

pub add_run : {T E : Type 0} (r : Result T E) (old : OffsetList) (bytes : List ℕ) (base : ℕ) (new : OffsetList) (more text : List ℕ) (texts : List (List ℕ)) → length bytes ≡ base → more ≡ bytes ++ text → OnOk r ((front : List ℕ) → length front ≡ base → AddsTexts old front new (front ++ text) texts) → OnOk r (AddsTexts old bytes new more texts)
add_run (Ok x) old bytes base new more text texts is joined h =
    λ p left are. subst (λ (b : List ℕ). AreTexts p new b (left ++ texts)) (sym joined) (h bytes is p left are)
add_run (Err e) old bytes base new more text texts is joined h = h

pub one_run : {X Y : Type 0} (f : X → List Y) (runs : List X) (i : ℕ) (d : X) → i < length runs → flat_map f (take i runs) ++ f (get_or runs i d) ≡ flat_map f (take (i + 1) runs)
one_run f runs i d h =
    sym (ap (flat_map f) (take_more runs i d h) ∙ flat_map-append f (take i runs) (get_or runs i d ∷ []) ∙ ap (λ l. flat_map f (take i runs) ++ l) (append-nil (f (get_or runs i d))))

-- ---- each run of a list

pub run_at_ordered : (runs : List (ℕ × ℕ)) (i : ℕ) → i < length runs → All (λ run. run.0 ≤ run.1) runs → (get_or runs i (0, 0)).0 ≤ (get_or runs i (0, 0)).1
run_at_ordered runs i h all = All-get_or (λ (run : ℕ × ℕ). run.0 ≤ run.1) runs i (0, 0) h all

pub run_at_within : (runs : List (ℕ × ℕ)) (i n : ℕ) → i < length runs → All (λ run. run.1 < n) runs → (get_or runs i (0, 0)).1 < n
run_at_within runs i n h all = All-get_or (λ (run : ℕ × ℕ). run.1 < n) runs i (0, 0) h all

pub ruleset run_at = (run_at_ordered, run_at_within)
