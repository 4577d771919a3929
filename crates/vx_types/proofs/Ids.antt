-- Ids that no other id repeats.
use Rattle.std.proofs.Common.{◌≡◌, ℕ, ◌+◌, ◌<◌, ◌≤◌, true, ◌&&◌, List, drop, length, get_or, nat_eq, not}
use Rattle.std.proofs.lemmas.List.{at_drop_more, at_drop_all}
use Rattle.std.specs.List.{list_any}
use Rattle.vx_types.specs.Variants.{are_distinct}

-- one more id is apart from those behind it
pub distinct_more : (xs : List ℕ) (i d : ℕ) → i < length xs
    → are_distinct (drop i xs)
    ≡ (not (list_any (λ y. nat_eq y (get_or xs i d)) (drop (i + 1) xs))
    && are_distinct (drop (i + 1) xs))
distinct_more xs i d h = at_drop_more are_distinct xs i d h

pub distinct_end : (xs : List ℕ) (i : ℕ) → length xs ≤ i → are_distinct (drop i xs) ≡ true
distinct_end xs i h = at_drop_all are_distinct xs i h

pub ruleset apart = (distinct_more, distinct_end)
