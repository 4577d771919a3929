-- The positions in runs.
use Rattle.std.proofs.Common.{◌≡◌, ℕ, zero, suc, ◌<◌, List, [], ◌∷◌, ◌++◌, ◌+◌, ◌≤◌, map, length, take, get_or, Option, None, Some, sym, ap, ◌∙◌, arith}
use Rattle.std.specs.Prelude.{All, IfSome}
use Rattle.std.specs.List.{range_with_len}
use Rattle.std.proofs.lemmas.List.{flat_map_more, map-append, take_more}
use Rattle.vx_take.specs.Picks.{AreBelow, run_places}
use Rattle.vx_lemmas.proofs.Lists.{range_more}

-- the numbers in runs within n items are below n
pub below_runs : (n : ℕ) (runs : List (ℕ × ℕ)) → All (λ run. run.0 + run.1 ≤ n) runs → AreBelow (map (λ x. Some x) (run_places runs)) n
below_runs n [] within = none
  where
    none : AreBelow (map (λ x. Some x) (run_places [])) n
    none k d h = absurd (omega arith)
below_runs n (run ∷ runs) within =
    rw (map-append (λ (x : ℕ). Some x) (range_with_len run.0 run.1) (run_places runs))
    (both (map (λ x. Some x) (range_with_len run.0 run.1)) (map (λ x. Some x) (run_places runs)) (in_run run.0 run.1 (within 0 run (omega arith))) (below_runs n runs (λ k d h. within (suc k) d (omega arith))))
  where
    front : (p : Option ℕ) (ps : List (Option ℕ)) → IfSome p (λ k. k < n) → AreBelow ps n → AreBelow (p ∷ ps) n
    front p ps h k zero d l = h
    front p ps h k (suc i) d l = k i d (omega arith)

    both : (ps qs : List (Option ℕ)) → AreBelow ps n → AreBelow qs n → AreBelow (ps ++ qs) n
    both [] qs h k = k
    both (p ∷ ps) qs h k = front p (ps ++ qs) (h zero None (omega arith)) (both ps qs (λ j e m. h (suc j) e (omega arith)) k)

    in_run : (start len : ℕ) → start + len ≤ n → AreBelow (map (λ x. Some x) (range_with_len start len)) n
    in_run start zero h k d l = absurd (omega arith)
    in_run start (suc len) h zero d l = omega arith
    in_run start (suc len) h (suc k) d l = in_run (start + 1) len (omega arith) k d (omega arith)

pub run_places-more : (runs : List (ℕ × ℕ)) (i : ℕ) (d : ℕ × ℕ) → i < length runs → run_places (take (i + 1) runs) ≡ run_places (take i runs) ++ range_with_len (get_or runs i d).0 (get_or runs i d).1
run_places-more runs i d h =
    ap run_places (take_more runs i d h) ∙ sym (flat_map_more (λ (run : ℕ × ℕ). range_with_len run.0 run.1) [] (take i runs) (get_or runs i d))

pub ruleset places_in_runs = (range_more, run_places-more)

-- the numbers in runs are positions
pub places_below : (n : ℕ) (runs : List (ℕ × ℕ)) → All (λ run. run.0 + run.1 ≤ n) runs → All (λ p. p < n) (run_places runs)
places_below n runs within = each (run_places runs) (below_runs n runs within)
  where
    each : (xs : List ℕ) → AreBelow (map (λ x. Some x) xs) n → All (λ p. p < n) xs
    each [] h k d l = absurd (omega arith)
    each (x ∷ xs) h zero d l = h zero None (omega arith)
    each (x ∷ xs) h (suc k) d l = each xs (λ j e m. h (suc j) e (omega arith)) k d (omega arith)
