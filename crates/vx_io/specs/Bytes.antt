-- What reads and writes do to the bytes that are told, and how faults are counted.
use Rattle.std.specs.Prelude.{◌≡◌, ℕ, ◌+◌, ◌-◌, ◌^◌, ◌<◌, min, List, ◌++◌, length, Option, option_map}

-- one more, in a number of 64 bits that stands still at its greatest value
abbrev pub next_count : ℕ → ℕ
next_count n = min (n + 1) (2 ^ 64 - 1)

-- A count of faults has risen, or stands at its greatest value.
abbrev pub Rose : ℕ → ℕ → Type 0
Rose before after = after < 2 ^ 64 - 1 → before < after

-- bs, and then what is left
abbrev pub with_front : List ℕ → Option (List ℕ) → Option (List ℕ)
with_front bs rest = option_map (λ left. bs ++ left) rest

-- what is held, and then bs
abbrev pub with_back : Option (List ℕ) → List ℕ → Option (List ℕ)
with_back held bs = option_map (λ before. before ++ bs) held

-- n bytes were taken from the front of what is left
abbrev pub Loses : Option (List ℕ) → Option (List ℕ) → ℕ → Type 0
Loses before after n = (taken : List ℕ) × (length taken ≡ n) × (before ≡ with_front taken after)
