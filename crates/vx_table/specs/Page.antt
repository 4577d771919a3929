-- A page of the rows that a list of steps leaves of a table.
use Rattle.std.specs.Prelude.{◌≡◌, ℕ, ◌*◌, ◌==◌, nat_le, List, length, take, drop, find, Option, None, Some, if◌then◌else◌}
use Rattle.std.specs.Option.{option_map, option_or}
use Rattle.vx_steps.specs.Step.{StepValue}
use Rattle.vx_steps.specs.Walk.{Walk, walk_fault, walk_picks, walk}
use Rattle.vx_steps.specs.Answer.{type_after}
use Rattle.vx_steps.specs.declared.cause.SelectError.{SelectError}
use Rattle.vx_steps.specs.declared.cause.SelectError.TheVariants as selects
use Rattle.vx_table.specs.Table.{TableValue}
use Rattle.vx_table.specs.Taken.{IsTaken, columns_at}
use Rattle.vx_table.specs.declared.error.PageError.{PageError}
use Rattle.vx_table.specs.declared.error.PageError.TheVariants.{NoColumn, EmptyPage, Broken, NoMemory}

-- page number `page` of a list, where each page has `len` items: the last may have fewer, and one
-- past the end has none. The numbers have no bound
abbrev pub cut : {X : Type 0} → ℕ → ℕ → List X → List X
cut page len items = take len (drop (page * len) items)

-- the first broken step, and its cause
abbrev pub walk_error : Walk → Option PageError
walk_error (walk_fault k cause) = Some (Broken k cause)
walk_error (walk_picks picks) = None

-- why there is no page, the first that holds
abbrev pub page_fault : TableValue → List ℕ → List StepValue → ℕ → Option PageError
page_fault t projection steps page_len =
    option_or (option_map NoColumn (find (λ i. nat_le (length t.columns) i) projection))
    (if page_len == 0 then Some EmptyPage else walk_error (walk t.len steps))

-- no step is broken, and these are the page's cut of the composed picks
abbrev pub IsCutOf : Walk → ℕ → ℕ → List (Option ℕ) → Type 0
IsCutOf (walk_fault k cause) page page_len part = ⊥
IsCutOf (walk_picks picks) page page_len part = part ≡ cut page page_len picks

-- no step is broken, and p has the projection's columns, each with the rows at the page's cut of
-- the composed picks and the type after the steps
abbrev pub IsPage : TableValue → List ℕ → List StepValue → ℕ → ℕ → Walk → TableValue → Type 0
IsPage t projection steps page page_len (walk_fault k cause) p = ⊥
IsPage t projection steps page page_len (walk_picks picks) p =
    IsTaken (columns_at t projection) (λ u. type_after u steps) (cut page page_len picks) p

-- the error that an error of the steps becomes
abbrev pub page_error : SelectError → PageError
page_error (selects.Broken step cause) = Broken step cause
page_error selects.NoMemory = NoMemory
