-- What `check_steps` answers.
use Rattle.std.specs.Prelude.{◌≡◌, ℕ, length, Result, MatchResult}
use Rattle.vx_steps.specs.Cause.{MatchError}
use Rattle.vx_steps.specs.Walk.{Walk, walk_fault, walk_picks}
use Rattle.vx_steps.specs.declared.cause.SelectError.{SelectError}

-- no step is broken, and the composed picks number n
abbrev pub HasCount : Walk → ℕ → Type 0
HasCount (walk_fault k cause) n = ⊥
HasCount (walk_picks picks) n = n ≡ length picks

-- the number of composed picks where no step is broken, else the first broken step; never
-- `NoMemory`
abbrev pub IsChecked : Result ℕ SelectError → Walk → Type 0
IsChecked r w =
    MatchResult r (HasCount w) (λ e. MatchError e (λ k cause. w ≡ walk_fault k cause) ⊥)
