-- Lemmas on indices and runs that ascend.
use Rattle.std.proofs.Common.{◌≡◌, ℕ, zero, suc, ◌+◌, ◌-◌, ◌<◌, ◌≤◌, Bool, true, false, cond, ◌&&◌, leb, ltb, None, Some, List, [], ◌∷◌, ◌++◌, length, get_or, take, drop, refl, sym, ap, ◌∙◌, subst, add-one, arith}
use Rattle.std.specs.List.{All, range_with_len}
use Rattle.std.proofs.lemmas.List.{take_more, drop_more, flat_map_more}
use Rattle.std.proofs.lemmas.Bool.{leb-true, ltb-true, le-leb, lt-ltb, and_parts}
use Rattle.vx_mask.specs.declared.error.MaskError.TheVariants.{Indices, Slices}
use Rattle.vx_mask.specs.Mask.{FaultlessIndices, FaultlessSlices}
use Rattle.vx_mask.specs.Positions.{run_positions, ascending, runs_ascend}

-- what the first of the indices keeps
pub record IsNextIndex (low len index : ℕ) (rest : List ℕ) : Type 0 where
  pub from : low ≤ index
  pub within : index < len
  pub then : ascending (index + 1) len rest ≡ true

pub index_parts : (low len index : ℕ) (rest : List ℕ) → ascending low len (index ∷ rest) ≡ true → IsNextIndex low len index rest
index_parts low len index rest h =
    let a = and_parts (leb low index) (ltb index len && ascending (index + 1) len rest) h in
    let b = and_parts (ltb index len) (ascending (index + 1) len rest) a.1 in
    record { from = leb-true low index a.0; within = ltb-true index len b.0; then = b.1 }

pub ascending_first : (low len index : ℕ) (rest : List ℕ) → low ≤ index → index < len → ascending (index + 1) len rest ≡ true → ascending low len (index ∷ rest) ≡ true
ascending_first low len index rest p q h =
    ap (λ b. b && (ltb index len && ascending (index + 1) len rest)) (le-leb low index p)
    ∙ ap (λ b. b && ascending (index + 1) len rest) (lt-ltb index len q)
    ∙ h

pub next_index : (low len k : ℕ) (indices : List ℕ) → k < length indices → ascending low len (drop k indices) ≡ true → IsNextIndex low len (get_or indices k 0) (drop (k + 1) indices)
next_index low len k indices p h = index_parts low len (get_or indices k 0) (drop (k + 1) indices) (ap (ascending low len) (sym (drop_more indices k 0 p)) ∙ h)

-- what the first of the runs keeps
pub record IsNextRun (low len : ℕ) (run : ℕ × ℕ) (rest : List (ℕ × ℕ)) : Type 0 where
  pub from : low ≤ run.0
  pub some : run.0 < run.1
  pub within : run.1 ≤ len
  pub then : runs_ascend run.1 len rest ≡ true

pub run_parts : (low len : ℕ) (run : ℕ × ℕ) (rest : List (ℕ × ℕ)) → runs_ascend low len (run ∷ rest) ≡ true → IsNextRun low len run rest
run_parts low len run rest h =
    let a = and_parts (leb low run.0) (ltb run.0 run.1 && (leb run.1 len && runs_ascend run.1 len rest)) h in
    let b = and_parts (ltb run.0 run.1) (leb run.1 len && runs_ascend run.1 len rest) a.1 in
    let e = and_parts (leb run.1 len) (runs_ascend run.1 len rest) b.1 in
    record { from = leb-true low run.0 a.0; some = ltb-true run.0 run.1 b.0; within = leb-true run.1 len e.0; then = e.1 }

pub next_run : (low len k : ℕ) (runs : List (ℕ × ℕ)) (d : ℕ × ℕ) → k < length runs → runs_ascend low len (drop k runs) ≡ true → IsNextRun low len (get_or runs k d) (drop (k + 1) runs)
next_run low len k runs d p h = run_parts low len (get_or runs k d) (drop (k + 1) runs) (ap (runs_ascend low len) (sym (drop_more runs k d p)) ∙ h)

pub covered_more : (runs : List (ℕ × ℕ)) (k : ℕ) (d : ℕ × ℕ) → k < length runs → run_positions (take (k + 1) runs) ≡ run_positions (take k runs) ++ range_with_len (get_or runs k d).0 ((get_or runs k d).1 - (get_or runs k d).0)
covered_more runs k d p = ap run_positions (take_more runs k d p) ∙ sym (flat_map_more (λ (run : ℕ × ℕ). range_with_len run.0 (run.1 - run.0)) [] (take k runs) (get_or runs k d))

-- where indices ascend, each is from `low` on and below `len`, and below the next one
index_in : (low len : ℕ) (indices : List ℕ) → ascending low len indices ≡ true → (k d : ℕ) → k < length indices → (low ≤ get_or indices k d) × (get_or indices k d < len)
index_in low len [] h k d p = absurd (omega arith)
index_in low len (index ∷ rest) h zero d p = let a = index_parts low len index rest h in (a.from, a.within)
index_in low len (index ∷ rest) h (suc k) d p =
    let a = index_parts low len index rest h in
    let b = index_in (index + 1) len rest a.then k d (omega arith) in
    (omega (arith, a.from, b.0), b.1)

index_before : (low len : ℕ) (indices : List ℕ) → ascending low len indices ≡ true → (k d : ℕ) → suc k < length indices → get_or indices k d < get_or indices (suc k) d
index_before low len [] h k d p = absurd (omega arith)
index_before low len (index ∷ rest) h zero d p =
    let a = index_parts low len index rest h in
    let b = index_in (index + 1) len rest a.then 0 d (omega arith) in
    omega (arith, b.0)
index_before low len (index ∷ rest) h (suc k) d p = index_before (index + 1) len rest (index_parts low len index rest h).then k d (omega arith)

ascending_from : (low len : ℕ) (indices : List ℕ) → (0 < length indices → low ≤ get_or indices 0 0) → ((k : ℕ) → k < length indices → get_or indices k 0 < len) → ((k : ℕ) → suc k < length indices → get_or indices k 0 < get_or indices (suc k) 0) → ascending low len indices ≡ true
ascending_from low len [] first each next = refl
ascending_from low len (index ∷ rest) first each next =
    ap (λ b. b && (ltb index len && ascending (index + 1) len rest)) (le-leb low index (first (omega arith)))
    ∙ ap (λ b. b && ascending (index + 1) len rest) (lt-ltb index len (each 0 (omega arith)))
    ∙ ascending_from (index + 1) len rest (λ p. let q = next 0 (omega arith) in omega (arith, q)) (λ k p. each (suc k) (omega arith)) (λ k p. next (suc k) (omega arith))

no_fault-true : {E : Type 0} (b : Bool) (e : E) → cond b None (Some e) ≡ None → b ≡ true
no_fault-true true e h = refl
no_fault-true false e h = cc

pub faultless_indices : (len : ℕ) (indices : List ℕ) → FaultlessIndices len indices
faultless_indices len indices = (
  λ none.
      let h = no_fault-true (ascending 0 len indices) Indices none in (
        λ k d p. (index_in 0 len indices h k d p).1,
        λ k d p. let next = index_before 0 len indices h k d (omega arith) in subst (λ (n : ℕ). get_or indices k d < get_or indices n d) (sym (add-one k)) next,
      ),
  λ right.
      let h = ascending_from 0 len indices (λ p. omega arith) (λ k p. right.0 k 0 p) (λ k p. subst (λ (n : ℕ). get_or indices k 0 < get_or indices n 0) (add-one k) (right.1 k 0 (omega arith))) in
      ap (λ b. cond b None (Some Indices)) h,
)

-- where runs ascend, each starts from `low` on and before its end, ends at or before `len`, and
-- ends at or before the start of the next one
run_in : (low len : ℕ) (runs : List (ℕ × ℕ)) → runs_ascend low len runs ≡ true → (k : ℕ) (d : ℕ × ℕ) → k < length runs → (low ≤ (get_or runs k d).0) × ((get_or runs k d).0 < (get_or runs k d).1) × ((get_or runs k d).1 ≤ len)
run_in low len [] h k d p = absurd (omega arith)
run_in low len (run ∷ rest) h zero d p = let a = run_parts low len run rest h in (a.from, a.some, a.within)
run_in low len (run ∷ rest) h (suc k) d p =
    let a = run_parts low len run rest h in
    let b = run_in run.1 len rest a.then k d (omega arith) in
    (omega (arith, a.from, a.some, b.0), b.1, b.2)

run_before : (low len : ℕ) (runs : List (ℕ × ℕ)) → runs_ascend low len runs ≡ true → (k : ℕ) (d : ℕ × ℕ) → suc k < length runs → (get_or runs k d).1 ≤ (get_or runs (suc k) d).0
run_before low len [] h k d p = absurd (omega arith)
run_before low len (run ∷ rest) h zero d p = (run_in run.1 len rest (run_parts low len run rest h).then 0 d (omega arith)).0
run_before low len (run ∷ rest) h (suc k) d p = run_before run.1 len rest (run_parts low len run rest h).then k d (omega arith)

runs_ascend_from : (low len : ℕ) (runs : List (ℕ × ℕ)) (d : ℕ × ℕ) → (0 < length runs → low ≤ (get_or runs 0 d).0) → ((k : ℕ) → k < length runs → (get_or runs k d).0 < (get_or runs k d).1) → ((k : ℕ) → k < length runs → (get_or runs k d).1 ≤ len) → ((k : ℕ) → suc k < length runs → (get_or runs k d).1 ≤ (get_or runs (suc k) d).0) → runs_ascend low len runs ≡ true
runs_ascend_from low len [] d first some within next = refl
runs_ascend_from low len (run ∷ rest) d first some within next =
    ap (λ b. b && (ltb run.0 run.1 && (leb run.1 len && runs_ascend run.1 len rest))) (le-leb low run.0 (first (omega arith)))
    ∙ ap (λ b. b && (leb run.1 len && runs_ascend run.1 len rest)) (lt-ltb run.0 run.1 (some 0 (omega arith)))
    ∙ ap (λ b. b && runs_ascend run.1 len rest) (le-leb run.1 len (within 0 (omega arith)))
    ∙ runs_ascend_from run.1 len rest d (λ p. next 0 (omega arith)) (λ k p. some (suc k) (omega arith)) (λ k p. within (suc k) (omega arith)) (λ k p. next (suc k) (omega arith))

pub faultless_slices : (len : ℕ) (slices : List (ℕ × ℕ)) → FaultlessSlices len slices
faultless_slices len slices = (
  λ none.
      let h = no_fault-true (runs_ascend 0 len slices) Slices none in (
        λ k d p. (run_in 0 len slices h k d p).1,
        λ k d p. (run_in 0 len slices h k d p).2,
        λ k d p. let next = run_before 0 len slices h k d (omega arith) in subst (λ (n : ℕ). (get_or slices k d).1 ≤ (get_or slices n d).0) (sym (add-one k)) next,
      ),
  λ right.
      let d : ℕ × ℕ = (0, 0) in
      let h = runs_ascend_from 0 len slices d (λ p. omega arith) (λ k p. right.0 k d p) (λ k p. right.1 k d p) (λ k p. subst (λ (n : ℕ). (get_or slices k d).1 ≤ (get_or slices n d).0) (add-one k) (right.2 k d (omega arith))) in
      ap (λ b. cond b None (Some Slices)) h,
)

-- positions that ascend behind a run that is not empty
ascending_run : (low len start n : ℕ) (rest : List ℕ) → low ≤ start → start + suc n ≤ len → ascending (start + suc n) len rest ≡ true → ascending low len (range_with_len start (suc n) ++ rest) ≡ true
ascending_run low len start zero rest p q h =
    ascending_first low len start rest p (omega arith) (ap (λ a. ascending a len rest) (omega arith) ∙ h)
ascending_run low len start (suc n) rest p q h =
    let more : start + 1 + suc n ≡ start + suc (suc n) = omega arith in
    ascending_first low len start (range_with_len (start + 1) (suc n) ++ rest) p (omega arith)
    (ascending_run (start + 1) len (start + 1) n rest (omega arith) (omega arith) (ap (λ a. ascending a len rest) more ∙ h))

-- the positions of runs that ascend do too
pub ascending-run_positions : (low len : ℕ) (runs : List (ℕ × ℕ)) → runs_ascend low len runs ≡ true → ascending low len (run_positions runs) ≡ true
ascending-run_positions low len [] h = refl
ascending-run_positions low len (run ∷ runs) h =
    let parts = run_parts low len run runs h in
    let from = parts.from in
    let some = parts.some in
    let within = parts.within in
    let n = run.1 - run.0 - 1 in
    let long : run.1 - run.0 ≡ suc n = omega arith in
    let whole : run.1 ≡ run.0 + suc n = omega arith in
    ap (λ k. ascending low len (range_with_len run.0 k ++ run_positions runs)) long
    ∙ ascending_run low len run.0 n (run_positions runs) from (omega arith) (ap (λ a. ascending a len (run_positions runs)) (sym whole) ∙ ascending-run_positions run.1 len runs parts.then)

-- one run on
pub next_runs_ascend : (low len k : ℕ) (runs : List (ℕ × ℕ)) → k < length runs → low ≤ (get_or runs k (0, 0)).0 → (get_or runs k (0, 0)).0 < (get_or runs k (0, 0)).1 → (get_or runs k (0, 0)).1 ≤ len → runs_ascend (get_or runs k (0, 0)).1 len (drop (k + 1) runs) ≡ runs_ascend low len (drop k runs)
next_runs_ascend low len k runs h p q r =
    let run = get_or runs k (0, 0) in
    let rest = drop (k + 1) runs in
    sym (ap (runs_ascend low len) (drop_more runs k (0, 0) h)
    ∙ ap (λ b. b && (ltb run.0 run.1 && (leb run.1 len && runs_ascend run.1 len rest))) (le-leb low run.0 p)
    ∙ ap (λ b. b && (leb run.1 len && runs_ascend run.1 len rest)) (lt-ltb run.0 run.1 q)
    ∙ ap (λ b. b && runs_ascend run.1 len rest) (le-leb run.1 len r))

pub runs_not_empty : (low len : ℕ) (runs : List (ℕ × ℕ)) → runs_ascend low len runs ≡ true → All (λ run. run.0 < run.1) runs
runs_not_empty low len runs h k d p = (run_in low len runs h k d p).1
