-- Runs of positions.
use Rattle.std.proofs.Common.{◌≡◌, refl, ℕ, zero, suc, ◌+◌, ◌-◌, ◌^◌, ◌<◌, min, ◌≤◌, List, [], ◌∷◌, ◌++◌, length, get_or, take, drop, map, set, sym, ap, subst, ◌∙◌, true, inl, inr, arith}
use Rattle.std.specs.List.{All, range_with_len}
use Rattle.std.proofs.Math.Seq.{drop-append_seam, take-append_seam, take-add}
use Rattle.std.proofs.lemmas.Bool.{cases_lt}
use Rattle.vx_mask.proofs.PositionLists.{get_or-range}
use Rattle.std.proofs.lemmas.List.{drop-drop, length-drop, length-take-le, get_or-drop, get_or-take, get_or_append_left, get_or_default, drop_more, drop_all, append_assoc, map-append, take_more_set, append-nil, length-append, length-map}
use Rattle.std.proofs.lemmas.List.FromFn.{length-range_with_len}
use Rattle.std.proofs.lemmas.List.Elements.{All-append, All-same}
use Rattle.vx_mask.specs.Positions.{run_positions, runs_ascend}
use Rattle.vx_mask.proofs.AscendingLists.{run_parts}
use Rattle.vx_chunked.specs.Positions.{AscendFrom, IsInChunk, places_of, with_runs}
use Rattle.vx_chunked.proofs.Ascends.{ascend_lower, ascend_all}
use Rattle.vx_lemmas.proofs.Lists.{range_split}

pub put_more : (now old : List ℕ) (at first k : ℕ) → take (at + k) now ≡ take at old ++ range_with_len first k → at + k < length now → take (at + (k + 1)) (set now (at + k) (first + k)) ≡ take at old ++ range_with_len first (k + 1)
put_more now old at first k h p =
    let e : at + (k + 1) ≡ at + k + 1 = omega arith in
    ap (λ n. take n (set now (at + k) (first + k))) e
    ∙ take_more_set now (at + k) (first + k) p
    ∙ ap (λ l. l ++ (first + k) ∷ []) h
    ∙ append_assoc (take at old) (range_with_len first k) ((first + k) ∷ [])
    ∙ ap (λ l. take at old ++ l) (sym (range_split first k 1))

pub runs_split : (start end more : ℕ) (runs : List (ℕ × ℕ)) → more ≤ end - start → with_runs start end runs ≡ range_with_len start more ++ with_runs (start + more) end runs
unfolding with_runs
runs_split start end more runs h =
    let e : end - start ≡ more + (end - (start + more)) = omega arith in
    ap (λ n. range_with_len start n ++ run_positions runs) e
    ∙ ap (λ l. l ++ run_positions runs) (range_split start more (end - (start + more)))
    ∙ append_assoc (range_with_len start more) (range_with_len (start + more) (end - (start + more))) (run_positions runs)

pub runs_next : (start end : ℕ) (later : List (ℕ × ℕ)) (k : ℕ) (r : ℕ × ℕ) → end ≤ start → k < length later → r ≡ get_or later k r → with_runs start end (drop k later) ≡ with_runs r.0 r.1 (drop (k + 1) later)
unfolding with_runs
runs_next start end later k r h p e =
    let none : end - start ≡ 0 = omega arith in
    ap (λ n. range_with_len start n ++ run_positions (drop k later)) none
    ∙ ap run_positions (drop_more later k r p ∙ ap (λ q. q ∷ drop (k + 1) later) (sym e))

pub runs_done : (start end : ℕ) (later : List (ℕ × ℕ)) (k : ℕ) → end ≤ start → length later ≤ k → with_runs start end (drop k later) ≡ []
unfolding with_runs
runs_done start end later k h p =
    let none : end - start ≡ 0 = omega arith in
    ap (λ n. range_with_len start n ++ run_positions (drop k later)) none ∙ ap run_positions (drop_all k later p)

pub ascend_skip : (low high : ℕ) (xs ys : List ℕ) → AscendFrom low high (xs ++ ys) → AscendFrom (low + length xs) high ys
ascend_skip low high [] ys h = ascend_lower low (low + 0) high ys h (omega arith)
ascend_skip low high (x ∷ xs) ys h = ascend_lower (x + 1 + length xs) (low + suc (length xs)) high ys (ascend_skip (x + 1) high xs ys h.2) (omega (arith, h.0))

pub length_runs_split : (start end more : ℕ) (runs : List (ℕ × ℕ)) → more ≤ end - start → length (with_runs start end runs) ≡ more + length (with_runs (start + more) end runs)
length_runs_split start end more runs h =
    ap length (runs_split start end more runs h) ∙ simp (length-append, length-range_with_len)

-- a part of a run is taken
module _ (base offset chunk start end more : ℕ) (runs : List (ℕ × ℕ)) (within : more ≤ end - start) where
  left : List ℕ
  left = map (λ i. offset + i) (with_runs (start + more) end runs)

  pub run_cut : map (λ i. offset + i) (with_runs start end runs) ≡ map (λ i. offset + i) (range_with_len start more) ++ map (λ i. offset + i) (with_runs (start + more) end runs)
  run_cut = ap (map (λ i. offset + i)) (runs_split start end more runs within) ∙ map-append (λ i. offset + i) (range_with_len start more) (with_runs (start + more) end runs)

  pub ahead_run : (low high : ℕ) → AscendFrom low high (map (λ i. offset + i) (with_runs start end runs)) → AscendFrom (low + more) high (map (λ i. offset + i) (with_runs (start + more) end runs))
  ahead_run low high h =
      let long : length (map (λ i. offset + i) (range_with_len start more)) ≡ more = simp (length-map, length-range_with_len) in
      subst (λ (n : ℕ). AscendFrom (low + n) high (map (λ i. offset + i) (with_runs (start + more) end runs))) long
      (ascend_skip low high (map (λ i. offset + i) (range_with_len start more)) (map (λ i. offset + i) (with_runs (start + more) end runs)) (subst (AscendFrom low high) run_cut h))

-- the first position that is left
pub first_of_run : (offset low high start end : ℕ) (runs : List (ℕ × ℕ)) → start < end → AscendFrom low high (map (λ i. offset + i) (with_runs start end runs)) → (low ≤ offset + start) × (offset + start < high) × AscendFrom (offset + start + 1) high (map (λ i. offset + i) (with_runs (start + 1) end runs))
first_of_run offset low high start end runs p h = subst (AscendFrom low high) (run_cut 0 offset 0 start end 1 runs (omega arith)) h

pub run_beyond : (offset low high mid start end : ℕ) (runs : List (ℕ × ℕ)) → start < end → AscendFrom low high (map (λ i. offset + i) (with_runs start end runs)) → mid ≤ offset + start → All (λ p. mid ≤ p) (map (λ i. offset + i) (with_runs start end runs))
run_beyond offset low high mid start end runs p h le =
    let next = first_of_run offset low high start end runs p h in
    All-same (λ q. mid ≤ q) _ _ (run_cut 0 offset 0 start end 1 runs (omega arith))
    (ascend_all mid high mid ((offset + start) ∷ map (λ i. offset + i) (with_runs (start + 1) end runs)) (le, next.1, next.2) (omega arith))

pub runs_beyond : (offset mid start end : ℕ) (later : List (ℕ × ℕ)) (k : ℕ) → end ≤ start → length later ≤ k → All (λ p. mid ≤ p) (map (λ i. offset + i) (with_runs start end (drop k later)))
runs_beyond offset mid start end later k h p = All-same (λ q. mid ≤ q) _ _ (ap (map (λ i. offset + i)) (runs_done start end later k h p)) (λ j d q. absurd (omega arith))

-- each run is non-empty
pub run_is : (low high : ℕ) (runs : List (ℕ × ℕ)) (k : ℕ) → runs_ascend low high runs ≡ true → k < length runs → (get_or runs k (0, 0)).0 < (get_or runs k (0, 0)).1
run_is low high [] k h p = absurd (omega arith)
run_is low high (r ∷ runs) zero h p = (run_parts low high r runs h).some
run_is low high (r ∷ runs) (suc k) h p = run_is r.1 high runs k (run_parts low high r runs h).then (omega arith)

-- no more than all are counted
pub covered_part : (runs : List (ℕ × ℕ)) (k : ℕ) → length (run_positions (take k runs)) ≤ length (run_positions runs)
covered_part runs zero = omega arith
covered_part [] (suc k) = omega arith
covered_part (r ∷ runs) (suc k) = omega (arith, covered_part runs k, length-append (range_with_len r.0 (r.1 - r.0)) (run_positions (take k runs)), length-append (range_with_len r.0 (r.1 - r.0)) (run_positions runs))

pub runs_all : (runs : List (ℕ × ℕ)) → with_runs 0 0 runs ≡ run_positions runs
unfolding with_runs
runs_all runs = refl

-- the positions from 0 up to a count
pub runs_front : (count : ℕ) → with_runs 0 count [] ≡ range_with_len 0 count
unfolding with_runs
runs_front count =
    let e : count - 0 ≡ count = omega arith in
    append-nil (range_with_len 0 (count - 0)) ∙ ap (range_with_len 0) e

pub ascend_front_range : (a n high : ℕ) → a + n ≤ high → AscendFrom a high (range_with_len a n)
ascend_front_range a zero high h = tt
ascend_front_range a (suc n) high h = (omega arith, omega arith, ascend_front_range (a + 1) n high (omega arith))

-- a part of a run, behind the positions that were taken
module _ (all : List ℕ) (count start end more : ℕ) (runs : List (ℕ × ℕ)) (left : drop count all ≡ with_runs start end runs) (fits : more ≤ end - start) where
  parts : drop count all ≡ range_with_len start more ++ with_runs (start + more) end runs
  parts = left ∙ runs_split start end more runs fits

  pub part_enough : count + more ≤ length all + (count - length all)
  part_enough = omega (arith, ap length left, length-drop count all, length_runs_split start end more runs fits)

  pub part_left : drop (count + more) all ≡ with_runs (start + more) end runs
  part_left =
      let n : more ≡ length (range_with_len start more) = sym (length-range_with_len start more) in
      sym (drop-drop more count all) ∙ ap (drop more) parts ∙ ap (λ k. drop k (range_with_len start more ++ with_runs (start + more) end runs)) n
      ∙ drop-append_seam (range_with_len start more) (with_runs (start + more) end runs)

  pub part_taken : take (count + more) all ≡ take count all ++ range_with_len start more
  part_taken =
      let n : more ≡ length (range_with_len start more) = sym (length-range_with_len start more) in
      take-add count more all ∙ ap (λ l. take count all ++ take more l) parts
      ∙ ap (λ k. take count all ++ take k (range_with_len start more ++ with_runs (start + more) end runs)) n
      ∙ ap (λ l. take count all ++ l) (take-append_seam (range_with_len start more) (with_runs (start + more) end runs))

  -- its positions
  pub part_at : (j : ℕ) → j < more → get_or all (count + j) 0 ≡ start + j
  part_at j h =
      sym (get_or-drop count all j 0) ∙ ap (λ l. get_or l j 0) parts
      ∙ get_or_append_left (range_with_len start more) (with_runs (start + more) end runs) 0 j (omega (arith, h, length-range_with_len start more)) ∙ get_or-range start more j h

  -- where the first n of all lie in a chunk, a part of these does
  pub part_inside : (offset base n : ℕ) → All (λ i. IsInChunk base (offset + i)) (take n all) → 0 < more → count + more ≤ n → n ≤ length all → (base ≤ offset + start) × (offset + start + more ≤ base + 1024)
  part_inside offset base n h some within enough =
      let long = length-take-le n all enough in
      let low = h count 0 (omega (arith, long, some, within)) in
      let high = h (count + (more - 1)) 0 (omega (arith, long, some, within)) in
      let first = get_or-take n all count 0 (omega (arith, some, within)) ∙ ap (λ k. get_or all k 0) (omega arith) ∙ part_at 0 some in
      let last = get_or-take n all (count + (more - 1)) 0 (omega (arith, some, within)) ∙ part_at (more - 1) (omega (arith, some)) in
      (omega (arith, first, low.0), omega (arith, last, high.1, some))

-- a range as places
pub range_placed : (offset base start more : ℕ) → base ≤ offset + start → places_of offset base (range_with_len start more) ≡ range_with_len (offset + start - base) more
range_placed offset base start zero h = refl
range_placed offset base start (suc more) h =
    let next : offset + (start + 1) - base ≡ offset + start - base + 1 = omega arith in
    ap (λ l. (offset + start - base) ∷ l) (range_placed offset base (start + 1) more (omega arith) ∙ ap (λ n. range_with_len n more) next)

pub range_in_chunk : (offset base start more : ℕ) → base ≤ offset + start → offset + start + more ≤ base + 1024 → All (λ i. IsInChunk base (offset + i)) (range_with_len start more)
range_in_chunk offset base start zero h p k d q = absurd (omega arith)
range_in_chunk offset base start (suc more) h p zero d q = (omega arith, omega arith)
range_in_chunk offset base start (suc more) h p (suc k) d q = range_in_chunk offset base (start + 1) more (omega arith) (omega arith) k d (omega arith)

-- the range of a part of a chunk, which may be empty, lies in the chunk
pub part_here : (offset base start more : ℕ) → (0 < more → (base ≤ offset + start) × (offset + start + more ≤ base + 1024)) → All (λ i. IsInChunk base (offset + i)) (range_with_len start more)
part_here offset base start zero h = λ k d p. absurd (omega arith)
part_here offset base start (suc more) h = let here = h (omega arith) in range_in_chunk offset base start (suc more) here.0 here.1

-- a part of a run that ends with it or with a chunk, where there is one
pub chunk_part : (offset base count start end more beyond : ℕ) (runs : List (ℕ × ℕ)) → AscendFrom (base + count) (2 ^ 64) (map (λ i. offset + i) (with_runs start end runs)) → beyond ≡ base + 1024 - offset → more ≡ min end beyond - start → 0 < more → (base + count ≤ offset + start) × (offset + start + more ≤ base + 1024)
chunk_part offset base count start end more beyond runs h b m some =
    let next = first_of_run offset (base + count) (2 ^ 64) start end runs (omega (arith, m, some)) h in
    (omega (arith, next.0), omega (arith, b, m, some))

pub few_more : (count more : ℕ) → count ≤ 1024 → (0 < more → count + more ≤ 1024) → count + more ≤ 1024
few_more count zero few h = omega arith
few_more count (suc more) few h = h (omega arith)

-- there is a run behind those that are done with, where positions are left
pub more_runs : (all : List ℕ) (count start end used : ℕ) (later : List (ℕ × ℕ)) → count < length all → drop count all ≡ with_runs start end (drop used later) → end ≤ start → used < length later
more_runs all count start end used later h left done = elim (cases_lt used (length later)) [
  | inl here ↦ here
  | inr none ↦ absurd (omega (arith, h, ap length left, length-drop count all, ap length (runs_done start end later used done none)))
]

-- the next run
pub next_left : (all : List ℕ) (count start end used : ℕ) (later : List (ℕ × ℕ)) → end ≤ start → used < length later → drop count all ≡ with_runs start end (drop used later) → drop count all ≡ with_runs (get_or later used (0, 0)).0 (get_or later used (0, 0)).1 (drop (used + 1) later)
next_left all count start end used later done here left = left ∙ runs_next start end later used (get_or later used (0, 0)) done here (get_or_default later used (0, 0) (get_or later used (0, 0)) here)

-- ---- what one part of a run makes of a walk

-- a part was taken, no further than the run and its chunk, behind the first `count` of all
pub record PartTaken (all : List ℕ) (offset base count start end more : ℕ) (runs : List (ℕ × ℕ)) : Type 0 where
  pub few : count + more ≤ 1024
  pub enough : count + more ≤ length all
  pub left : drop (count + more) all ≡ with_runs (start + more) end runs
  pub inside : All (λ i. IsInChunk base (offset + i)) (take (count + more) all)
  pub ahead : AscendFrom (base + count + more) (2 ^ 64) (map (λ i. offset + i) (with_runs (start + more) end runs))

pub part_is_taken : (all : List ℕ) (offset base count start end more beyond : ℕ) (runs : List (ℕ × ℕ)) → count ≤ 1024 → count ≤ length all → drop count all ≡ with_runs start end runs → All (λ i. IsInChunk base (offset + i)) (take count all) → AscendFrom (base + count) (2 ^ 64) (map (λ i. offset + i) (with_runs start end runs)) → beyond ≡ base + 1024 - offset → more ≡ min end beyond - start → PartTaken all offset base count start end more runs
part_is_taken all offset base count start end more beyond runs few enough behind inside ahead b m =
    let P : ℕ → Type 0 = λ i. IsInChunk base (offset + i) in
    let fits : more ≤ end - start = omega (arith, m) in
    let here : 0 < more → (base + count ≤ offset + start) × (offset + start + more ≤ base + 1024) = chunk_part offset base count start end more beyond runs ahead b m in
    let within : 0 < more → (base ≤ offset + start) × (offset + start + more ≤ base + 1024) = λ some. (omega (arith, (here some).0), (here some).1) in
    record {
      few = few_more count more few (λ some. omega (arith, (here some).0, (here some).1));
      enough = omega (arith, enough, part_enough all count start end more runs behind fits);
      left = part_left all count start end more runs behind fits;
      inside = All-same P _ _ (part_taken all count start end more runs behind fits) (All-append P (take count all) (range_with_len start more) inside (part_here offset base start more within));
      ahead = ahead_run base offset 0 start end more runs fits (base + count) (2 ^ 64) ahead;
    }

-- a part that is put where the positions of a chunk are wanted: the first `count` of all
pub record PartPlaced (all : List ℕ) (offset base filled start end more : ℕ) (runs : List (ℕ × ℕ)) : Type 0 where
  pub low : base ≤ offset + start
  pub high : offset + start + more ≤ base + 1024
  pub left : drop (filled + more) all ≡ with_runs (start + more) end runs
  pub placed : places_of offset base (take (filled + more) all) ≡ places_of offset base (take filled all) ++ range_with_len (offset + start - base) more

pub part_is_placed : (all : List ℕ) (offset base filled start end more count : ℕ) (runs : List (ℕ × ℕ)) → drop filled all ≡ with_runs start end runs → All (λ i. IsInChunk base (offset + i)) (take count all) → count ≤ length all → start < end → filled < count → more ≡ min (end - start) (count - filled) → PartPlaced all offset base filled start end more runs
part_is_placed all offset base filled start end more count runs behind inside enough some open_ m =
    let fits : more ≤ end - start = omega (arith, m) in
    let in_chunk = part_inside all filled start end more runs behind fits offset base count inside (omega (arith, m, some, open_)) (omega (arith, m, open_)) enough in
    record {
      low = in_chunk.0;
      high = in_chunk.1;
      left = part_left all filled start end more runs behind fits;
      placed = ap (places_of offset base) (part_taken all filled start end more runs behind fits)
          ∙ map-append (λ i. offset + i - base) (take filled all) (range_with_len start more)
          ∙ ap (λ l. places_of offset base (take filled all) ++ l) (range_placed offset base start more in_chunk.0);
    }
