-- Laws on lists.
use Rattle.std.specs.Prelude.{◌≡◌, ℕ, ◌+◌, ◌-◌, ◌≤◌, length, List, slice_range}

-- cutting s to e and then t to f is cutting s + t to s + f
abbrev pub SliceOfSlice : {X : Type 0} → List X → Type 0
SliceOfSlice xs =
    (s e t f : ℕ) → s ≤ e → e ≤ length xs → t ≤ f → f ≤ e - s
    → slice_range (slice_range xs s e) t f ≡ slice_range xs (s + t) (s + f)
