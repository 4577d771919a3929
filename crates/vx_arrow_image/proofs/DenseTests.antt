-- The tests of a row of a dense union, one after another.
use Rattle.std.proofs.Common.{◌≡◌, ℕ, ◌^◌, ◌<◌, ◌≤◌, Bool, false, List, length, get_or, ap₂, sym, ltb, arith}
use Rattle.std.specs.Prelude.{◌&&◌}
use Rattle.std.proofs.lemmas.Bool.{and_left, and_right, le-ltb, lt-ltb}
use Rattle.std.proofs.lemmas.List.{get_or_past}
use Rattle.vx_arrow_image.specs.Image.{Part, child_of, dense_start, ids_of, is_dense}
use Rattle.vx_lemmas.proofs.Bools.{and_step}

-- row s of child k
abbrev pub dense_test : List ℕ → ℕ → ℕ → Bool
dense_test lens s k = ltb s (2 ^ 31) && ltb s (get_or lens k 0)

pub dense_is : (p : Part) (lens : List ℕ) (i s k : ℕ) → s ≡ dense_start p i → k ≡ child_of (ids_of p) (get_or p.values i 0) → dense_test lens s k ≡ is_dense p lens i
unfolding is_dense
dense_is p lens i s k e f = ap₂ (λ (a : ℕ) (b : ℕ). dense_test lens a b) e f

pub dense_far : (lens : List ℕ) (s k : ℕ) → 2 ^ 31 ≤ s → false ≡ dense_test lens s k
dense_far lens s k h = sym (and_left _ _ (le-ltb _ _ h))

pub dense_astray : (lens : List ℕ) (s k : ℕ) → length lens ≤ k → false ≡ dense_test lens s k
dense_astray lens s k h = sym (and_right (ltb s (2 ^ 31)) _ (le-ltb _ _ (omega (arith, get_or_past lens k 0 h))))

pub dense_last : (lens : List ℕ) (s k : ℕ) → s < 2 ^ 31 → ltb s (get_or lens k 0) ≡ dense_test lens s k
dense_last lens s k h = and_step _ _ (lt-ltb _ _ h)
