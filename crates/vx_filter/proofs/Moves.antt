-- Items that move to the front of their own list, or to that of another one.
use Rattle.std.proofs.Common.{◌≡◌, ℕ, zero, suc, ◌+◌, ◌-◌, ◌*◌, ◌^◌, ◌<◌, ◌≤◌, Bool, true, List, [], ◌∷◌, ◌++◌, length, get_or, take, drop, set, map, bit_and, Option, Some, refl, sym, ap, ap₂, subst, ◌∙◌, arith, append_assoc, append-nil}
use Rattle.std.specs.Int.{w64}
use Rattle.std.specs.Int.RustNames.{count_ones}
use Rattle.std.specs.List.{All, range_with_len, slice_get}
use Rattle.std.proofs.lemmas.List.{drop-drop, drop-set-lt, drop_more, length-set, map-append, take_more_set, get_or_default}
use Rattle.std.proofs.lemmas.List.Elements.{All-cons, All-nil, All-tail}
use Rattle.std.proofs.lemmas.Option.{slice_get-get_or}
use Rattle.std.proofs.lemmas.Nat.{zero_from_ones}
use Rattle.std.proofs.lemmas.Nat.Bits.{bit_at-trailing_zeros}
use lib.Count.{count_trailing_zeros}
use Rattle.vx_bits.specs.BitBuffer.{true_count_of}
use Rattle.vx_bits.specs.Words.{word_at, word_bits}
use Rattle.vx_bits.proofs.WordBits.{full-word_bits, true_count_of-word_bits}
use Rattle.vx_mask.specs.Positions.{ascending, run_positions, positions, set_of}
use Rattle.vx_mask.proofs.AscendingLists.{index_parts}
use Rattle.vx_mask.proofs.LowestBit.{lowest_position, no_positions}
use Rattle.vx_mask.proofs.MarkedBits.{word_within_bits}
use Rattle.vx_mask.proofs.PositionLists.{positions_true}
use Rattle.vx_mask.proofs.WordPositions.{word_pushed}
use Rattle.vx_mask.proofs.RunLists.{covered_first}
use Rattle.vx_lemmas.proofs.Picked.{cut_picked}

-- ---- places that ascend

-- what a run of places and the places behind it keep
pub record IsRunFirst (low len start n : ℕ) (rest : List ℕ) : Type 0 where
  pub from : low ≤ start
  pub within : start + n ≤ len
  pub then : ascending (start + n) len rest ≡ true

pub run_first : (low len start n : ℕ) (rest : List ℕ) → ascending low len (range_with_len start (suc n) ++ rest) ≡ true → IsRunFirst low len start (suc n) rest
run_first low len start zero rest h =
    let p = index_parts low len start rest h in
    let one : start + 1 ≡ start + suc zero = omega arith in
    record { from = p.from; within = omega (arith, p.within); then = subst (λ (n : ℕ). ascending n len rest ≡ true) one p.then }
run_first low len start (suc n) rest h =
    let p = index_parts low len start (range_with_len (start + 1) (suc n) ++ rest) h in
    let more = run_first (start + 1) len (start + 1) n rest p.then in
    let end : start + 1 + suc n ≡ start + suc (suc n) = omega arith in
    record { from = p.from; within = omega (arith, more.within); then = subst (λ (n : ℕ). ascending n len rest ≡ true) end more.then }

-- what a run that is not empty and the places behind it keep, by the run's number of places
pub run_first_of : (low len start n : ℕ) (rest : List ℕ) → 0 < n → ascending low len (range_with_len start n ++ rest) ≡ true → IsRunFirst low len start n rest
run_first_of low len start zero rest p h = absurd (omega arith)
run_first_of low len start (suc n) rest p h = run_first low len start n rest h

-- runs that cover places below `len` end at or before it
pub runs_within : (low len : ℕ) (runs : List (ℕ × ℕ)) → All (λ run. run.0 < run.1) runs → ascending low len (run_positions runs) ≡ true → All (λ run. run.1 ≤ len) runs
runs_within low len [] p h = All-nil (λ (run : ℕ × ℕ). run.1 ≤ len)
runs_within low len (run ∷ runs) p h =
    let some : run.0 < run.1 = p 0 (0, 0) (omega arith) in
    let first = run_first_of low len run.0 (run.1 - run.0) (run_positions runs) (omega arith) h in
    All-cons (λ (r : ℕ × ℕ). r.1 ≤ len) run runs (omega (arith, first.within)) (runs_within (run.0 + (run.1 - run.0)) len runs (All-tail (λ (r : ℕ × ℕ). r.0 < r.1) run runs p) first.then)

-- the places of a full word
pub full_word_places : (base word : ℕ) → word ≡ 2 ^ 64 - 1 → positions base (word_bits word 64) ≡ range_with_len base 64
full_word_places base word e = ap (λ w. positions base (word_bits w 64)) e ∙ ap (positions base) (full-word_bits 64) ∙ positions_true base 64

-- a full word has 64 set bits
pub ones_of_full : (word : ℕ) → word ≡ 2 ^ 64 - 1 → count_ones word ≡ 64
ones_of_full word e = ap count_ones e ∙ sym (true_count_of-word_bits (2 ^ 64 - 1) 64 (omega arith)) ∙ ap true_count_of (full-word_bits 64)

module _ {X : Type 0} where
  -- what is the same behind a place is so further behind
  pub same_further : (old new : List X) (m n : ℕ) → m ≤ n → drop m new ≡ drop m old → drop n new ≡ drop n old
  same_further old new m n h e =
      let at : m + (n - m) ≡ n = omega arith in
      ap (λ k. drop k new) (sym at) ∙ sym (drop-drop (n - m) m new) ∙ ap (drop (n - m)) e ∙ drop-drop (n - m) m old ∙ ap (λ k. drop k old) at

  -- items behind a place that are the same are the same one by one
  same_behind : (old new : List X) (m p : ℕ) → drop m new ≡ drop m old → m ≤ p → slice_get new p ≡ slice_get old p
  same_behind old new m p e h =
      let at : m + (p - m) ≡ p = omega arith in
      ap (slice_get new) (sym at) ∙ sym (get-drop m new (p - m)) ∙ ap (λ l. slice_get l (p - m)) e ∙ get-drop m old (p - m) ∙ ap (slice_get old) at
    where
      get-drop : (m : ℕ) (xs : List X) (k : ℕ) → slice_get (drop m xs) k ≡ slice_get xs (m + k)
      get-drop zero xs k = let none : k ≡ zero + k = omega arith in ap (slice_get xs) none
      get-drop (suc m) [] k = refl
      get-drop (suc m) (x ∷ xs) k = let next : suc (m + k) ≡ suc m + k = omega arith in get-drop m xs k ∙ ap (slice_get (x ∷ xs)) next

  same_picks : (old new : List X) (m low len : ℕ) (ps : List ℕ) → drop m new ≡ drop m old → m ≤ low → ascending low len ps ≡ true → map (slice_get new) ps ≡ map (slice_get old) ps
  same_picks old new m low len [] e h a = refl
  same_picks old new m low len (p ∷ ps) e h a =
      let parts = index_parts low len p ps a in
      ap₂ ◌∷◌ (same_behind old new m p e (omega (arith, parts.from))) (same_picks old new m (p + 1) len ps e (omega (arith, parts.from)) parts.then)

  -- what stands behind a place that was written stays
  drop_written : (now new : List X) (p at n : ℕ) → p < length now → at < n → ((d : X) → new ≡ set now at (get_or now p d)) → drop n new ≡ drop n now
  drop_written [] new p at n h b e = absurd (omega arith)
  drop_written (y ∷ ys) new p at n h b e = ap (drop n) (e y) ∙ drop-set-lt n (y ∷ ys) at (get_or (y ∷ ys) p y) b

  -- some items were moved to the front, and the others stand where they were, behind the front
  pub record IsMoving (all : List (Option X)) (now : List X) (kept low : ℕ) (left : List ℕ) : Type 0 where
    pub whole : map Some (take kept now) ++ map (slice_get now) left ≡ all
    pub behind : kept ≤ low
    pub ahead : ascending low (length now) left ≡ true

  pub moved : (all : List (Option X)) (now new xs : List X) (kept low n next : ℕ) (first rest : List ℕ) → IsMoving all now kept low (first ++ rest) → length new ≡ length now → take (kept + n) new ≡ take kept now ++ xs → map Some xs ≡ map (slice_get now) first → drop next new ≡ drop next now → kept + n ≤ next → ascending next (length now) rest ≡ true → IsMoving all new (kept + n) next rest
  moved all now new xs kept low n next first rest h long front is after below ahead = record {
    whole =
        ap₂ ◌++◌ (ap (map Some) front ∙ map-append Some (take kept now) xs ∙ ap (λ l. map Some (take kept now) ++ l) is) (same_picks now new next next (length now) rest after (omega arith) ahead)
        ∙ append_assoc (map Some (take kept now)) (map (slice_get now) first) (map (slice_get now) rest)
        ∙ ap (λ l. map Some (take kept now) ++ l) (sym (map-append (slice_get now) first rest))
        ∙ h.whole;
    behind = below;
    ahead = ap (λ n. ascending next n rest) long ∙ ahead;
  }

  one_set : (all : List (Option X)) (now : List X) (kept low p : ℕ) (x : X) (rest : List ℕ) → IsMoving all now kept low (p ∷ rest) → x ≡ get_or now p x → IsMoving all (set now kept x) (kept + 1) (p + 1) rest
  one_set all now kept low p x rest h item =
      let parts = index_parts low (length now) p rest h.ahead in
      let here : Some x ≡ slice_get now p = ap Some item ∙ sym (slice_get-get_or now p x parts.within) in
      moved all now (set now kept x) (x ∷ []) kept low 1 (p + 1) (p ∷ []) rest h (length-set now kept x)
      (take_more_set now kept x (omega (arith, h.behind, parts.from, parts.within)))
      (ap (λ y. y ∷ []) here)
      (drop-set-lt (p + 1) now kept x (omega (arith, h.behind, parts.from)))
      (omega (arith, h.behind, parts.from)) parts.then

  -- the item at the first place was moved
  pub one_moved : (all : List (Option X)) (now new : List X) (kept low p : ℕ) (rest : List ℕ) → IsMoving all now kept low (p ∷ rest) → ((d : X) → new ≡ set now kept (get_or now p d)) → IsMoving all new (kept + 1) (p + 1) rest
  one_moved all [] new kept low p rest h e = let parts = index_parts low 0 p rest h.ahead in absurd (omega (arith, parts.within))
  one_moved all (y ∷ ys) new kept low p rest h e =
      let now = y ∷ ys in
      let parts = index_parts low (length now) p rest h.ahead in
      let x = get_or now p y in
      let same : x ≡ get_or now p x = get_or_default now p y x parts.within in
      subst (λ (l : List X). IsMoving all l (kept + 1) (p + 1) rest) (sym (e y)) (one_set all now kept low p x rest h same)

  pub all_moved : (all : List (Option X)) (now : List X) (kept low : ℕ) (left : List ℕ) → left ≡ [] → IsMoving all now kept low left → map Some (take kept now) ≡ all
  all_moved all now kept low left none h =
      sym (append-nil (map Some (take kept now))) ∙ sym (ap (λ l. map Some (take kept now) ++ map (slice_get now) l) none) ∙ h.whole

  pub moving_as : (all : List (Option X)) (now : List X) (kept low : ℕ) (left more : List ℕ) → left ≡ more → IsMoving all now kept low left → IsMoving all now kept low more
  moving_as all now kept low left more e h = subst (λ (l : List ℕ). IsMoving all now kept low l) e h

  -- items that are being moved, with no word on how far those that are left lie behind the front
  pub record IsMovingOn (all : List (Option X)) (now : List X) (kept : ℕ) (left : List ℕ) : Type 0 where
    pub low : ℕ
    pub moving : IsMoving all now kept low left

  -- a word's items are moved, and those behind the word stand where they were
  pub record IsMovingWord (all : List (Option X)) (old now : List X) (base left kept : ℕ) : Type 0 where
    pub low : ℕ
    pub moving : IsMoving all now kept low (positions base (word_bits left 64))
    pub after : drop (base + 64) now ≡ drop (base + 64) old

  pub word_moved : (all : List (Option X)) (old now new : List X) (base left kept p : ℕ) → 0 < left → left < 2 ^ 64 → p ≡ base + count_trailing_zeros 64 left → ((d : X) → new ≡ set now kept (get_or now p d)) → IsMovingWord all old now base left kept → IsMovingWord all old new base (bit_and left (left - 1)) (kept + 1)
  word_moved all old now new base left kept p some fits place e h =
      let rest = positions base (word_bits (bit_and left (left - 1)) 64) in
      let m = moving_as all now kept h.low _ (p ∷ rest) (lowest_position base left some fits ∙ ap (λ n. n ∷ rest) (sym place)) h.moving in
      let parts = index_parts h.low (length now) p rest m.ahead in
      let short = (bit_at-trailing_zeros w64 left some fits).0 in
      record {
        low = p + 1;
        moving = one_moved all now new kept h.low p rest m e;
        after = drop_written now new p kept (base + 64) parts.within (omega (arith, m.behind, parts.from, place, short)) e ∙ h.after;
      }

  -- where the next item of a word stands
  pub record IsNextPlace (now : List X) (kept p : ℕ) : Type 0 where
    pub within : p < length now
    pub behind : kept ≤ p

  pub next_place : (all : List (Option X)) (old now : List X) (base left kept : ℕ) → 0 < left → left < 2 ^ 64 → IsMovingWord all old now base left kept → IsNextPlace now kept (base + count_trailing_zeros 64 left)
  next_place all old now base left kept some fits h =
      let rest = positions base (word_bits (bit_and left (left - 1)) 64) in
      let m = moving_as all now kept h.low _ _ (lowest_position base left some fits) h.moving in
      let parts = index_parts h.low (length now) (base + count_trailing_zeros 64 left) rest m.ahead in
      record { within = parts.within; behind = omega (arith, m.behind, parts.from) }

  -- no item of the word is left
  pub word_all_moved : (all : List (Option X)) (old now : List X) (base left kept : ℕ) → count_ones left ≡ 0 → IsMovingWord all old now base left kept → map Some (take kept now) ≡ all
  word_all_moved all old now base left kept none h =
      all_moved all now kept h.low (positions base (word_bits left 64)) (ap (λ n. positions base (word_bits n 64)) (zero_from_ones left none) ∙ no_positions base) h.moving

  -- ---- places by a list of them

  pub moving_start : (xs : List X) (left : List ℕ) → ascending 0 (length xs) left ≡ true → IsMovingOn (map (slice_get xs) left) xs 0 left
  moving_start xs left h = record { low = 0; moving = record { whole = refl; behind = omega arith; ahead = h } }

  pub moving_end : (all : List (Option X)) (now : List X) (kept : ℕ) (left : List ℕ) → left ≡ [] → IsMovingOn all now kept left → map Some (take kept now) ≡ all
  moving_end all now kept left none h = all_moved all now kept h.low left none h.moving

  pub next_index_place : (all : List (Option X)) (now : List X) (i : ℕ) (indices : List ℕ) → i < length indices → IsMovingOn all now i (drop i indices) → IsNextPlace now i (get_or indices i 0)
  next_index_place all now i indices h m =
      let parts = index_parts m.low (length now) (get_or indices i 0) (drop (i + 1) indices) (ap (ascending m.low (length now)) (sym (drop_more indices i 0 h)) ∙ m.moving.ahead) in
      record { within = parts.within; behind = omega (arith, m.moving.behind, parts.from) }

  pub index_moved : (all : List (Option X)) (now new : List X) (i : ℕ) (indices : List ℕ) → i < length indices → ((d : X) → new ≡ set now i (get_or now (get_or indices i 0) d)) → IsMovingOn all now i (drop i indices) → IsMovingOn all new (i + 1) (drop (i + 1) indices)
  index_moved all now new i indices h e m = record {
    low = get_or indices i 0 + 1;
    moving = one_moved all now new i m.low (get_or indices i 0) (drop (i + 1) indices) (moving_as all now i m.low _ _ (drop_more indices i 0 h) m.moving) e;
  }

  -- a run of places was moved
  pub run_moved : (all : List (Option X)) (now new : List X) (kept low start n : ℕ) (rest : List ℕ) → 0 < n → length new ≡ length now → take (kept + n) new ≡ take kept now ++ take n (drop start now) → drop (start + n) new ≡ drop (start + n) now → IsMoving all now kept low (range_with_len start n ++ rest) → IsMoving all new (kept + n) (start + n) rest
  run_moved all now new kept low start n rest some long front after h =
      let first = run_first_of low (length now) start n rest some h.ahead in
      moved all now new (take n (drop start now)) kept low n (start + n) (range_with_len start n) rest h long front (cut_picked now start n first.within) after (omega (arith, h.behind, first.from)) first.then

  -- where the next run of places stands
  pub record IsNextRun (now : List X) (kept : ℕ) (run : ℕ × ℕ) : Type 0 where
    pub some : run.0 < run.1
    pub within : run.1 ≤ length now
    pub behind : kept ≤ run.0

  pub next_run_place : (all : List (Option X)) (now : List X) (kept k : ℕ) (runs : List (ℕ × ℕ)) (d : ℕ × ℕ) → k < length runs → All (λ run. run.0 < run.1) runs → IsMovingOn all now kept (run_positions (drop k runs)) → IsNextRun now kept (get_or runs k d)
  next_run_place all now kept k runs d h p m =
      let run = get_or runs k d in
      let some : run.0 < run.1 = p k d h in
      let first = run_first_of m.low (length now) run.0 (run.1 - run.0) (run_positions (drop (k + 1) runs)) (omega arith) (ap (ascending m.low (length now)) (sym (covered_first runs k d h)) ∙ m.moving.ahead) in
      record { some = some; within = omega (arith, first.within); behind = omega (arith, m.moving.behind, first.from) }

  pub next_run_moved : (all : List (Option X)) (now new : List X) (kept n k : ℕ) (runs : List (ℕ × ℕ)) (d : ℕ × ℕ) → k < length runs → All (λ run. run.0 < run.1) runs → n ≡ (get_or runs k d).1 - (get_or runs k d).0 → length new ≡ length now → take (kept + n) new ≡ take kept now ++ take n (drop (get_or runs k d).0 now) → drop ((get_or runs k d).0 + n) new ≡ drop ((get_or runs k d).0 + n) now → IsMovingOn all now kept (run_positions (drop k runs)) → IsMovingOn all new (kept + n) (run_positions (drop (k + 1) runs))
  next_run_moved all now new kept n k runs d h p is long front after m =
      let run = get_or runs k d in
      let some : run.0 < run.1 = p k d h in
      let rest = run_positions (drop (k + 1) runs) in
      let places = covered_first runs k d h ∙ ap (λ n. range_with_len run.0 n ++ rest) (sym is) in
      record {
        low = run.0 + n;
        moving = run_moved all now new kept m.low run.0 n rest (omega arith) long front after (moving_as all now kept m.low _ _ places m.moving);
      }

  -- ---- words

  -- a full word was moved
  pub full_moved : (now new : List X) (kept base word : ℕ) → word ≡ 2 ^ 64 - 1 → kept ≤ base → ascending base (length now) (positions base (word_bits word 64)) ≡ true → take (kept + 64) new ≡ take kept now ++ take 64 (drop base now) → map Some (take (kept + 64) new) ≡ map Some (take kept now) ++ map (slice_get now) (positions base (word_bits word 64))
  full_moved now new kept base word e behind h front =
      let places = full_word_places base word e in
      let first = run_first_of base (length now) base 64 [] (omega arith) (ap (ascending base (length now)) (append-nil (range_with_len base 64) ∙ sym places) ∙ h) in
      ap (map Some) front ∙ map-append Some (take kept now) (take 64 (drop base now)) ∙ ap (λ l. map Some (take kept now) ++ l) (cut_picked now base 64 first.within ∙ ap (map (slice_get now)) (sym places))

  pub full_place : (now : List X) (base word : ℕ) → word ≡ 2 ^ 64 - 1 → ascending base (length now) (positions base (word_bits word 64)) ≡ true → base + 64 ≤ length now
  full_place now base word e h =
      (run_first_of base (length now) base 64 [] (omega arith) (ap (ascending base (length now)) (append-nil (range_with_len base 64) ∙ sym (full_word_places base word e)) ∙ h)).within

  -- an empty word moves nothing
  pub empty_moved : (now : List X) (kept base word : ℕ) → word ≡ 0 → map Some (take kept now) ≡ map Some (take kept now) ++ map (slice_get now) (positions base (word_bits word 64))
  empty_moved now kept base word e =
      sym (append-nil (map Some (take kept now))) ∙ ap (λ l. map Some (take kept now) ++ map (slice_get now) l) (sym (ap (λ n. positions base (word_bits n 64)) e ∙ no_positions base))

  -- one more word was gone through
  pub word_gone : (bits : List Bool) (old now new : List X) (kept next w word : ℕ) → 64 * w ≤ length bits → length bits ≡ length old → length now ≡ length old → word ≡ word_at bits w → map Some (take kept now) ≡ map (slice_get old) (set_of (take (64 * w) bits)) → drop (64 * w) now ≡ drop (64 * w) old → map Some (take next new) ≡ map Some (take kept now) ++ map (slice_get now) (positions (64 * w) (word_bits word 64)) → map Some (take next new) ≡ map (slice_get old) (set_of (take (64 * (w + 1)) bits))
  word_gone bits old now new kept next w word h same long e front after step =
      let places = positions (64 * w) (word_bits word 64) in
      let ahead = word_within_bits bits w word (length old) h same e in
      step
      ∙ ap₂ ◌++◌ front (same_picks old now (64 * w) (64 * w) (length old) places after (omega arith) ahead)
      ∙ sym (map-append (slice_get old) (set_of (take (64 * w) bits)) places)
      ∙ ap (map (slice_get old)) (word_pushed bits (set_of (take (64 * w) bits)) (set_of (take (64 * w) bits) ++ places) w word h e refl refl)
