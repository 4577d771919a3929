-- The runs of a mask, told from outside.
use Rattle.std.specs.Prelude.{◌≡◌, ◌≢◌, ◌⊎◌, ℕ, ◌==◌, ◌&&◌, Bool, not, Option, None, Some, List, [], ◌∷◌, ◌++◌, length, map, take, drop, if◌then◌else◌, nat_lt}
use Rattle.vx_filter.specs.Compact.{bits_of_words}
use Rattle.vx_mask.specs.Positions.{maximal_runs}
use Rattle.vx_words.specs.declared.runs.Run.{Run}
use Rattle.vx_words.specs.Masks.{mask_fault}

-- a bit for each row of a mask
abbrev pub rows_of : List ℕ → ℕ → List Bool
rows_of words rows = take rows (bits_of_words words)

-- a run, as it is handed out
abbrev pub run_of : ℕ × ℕ → Run
run_of run = record { start = run.0; end = run.1 }

-- why the runs can't be listed in so much room: the mask's fault, else 3 where there are more of
-- them, else 0
abbrev pub run_fault : ℕ → List ℕ → ℕ → ℕ
run_fault rows words room =
    if mask_fault rows words == 0
    then if nat_lt room (length (maximal_runs (rows_of words rows))) then 3 else 0
    else mask_fault rows words

-- the maximal runs stand at the front of the output and the rest of it is as it was, or the call
-- was refused and all of it is
pub record AreRunsListed (rows : ℕ) (words : List ℕ) (old new : List Run) (status value : ℕ)
    : Type 0 where
  pub fault : status ≡ run_fault rows words (length old)
  pub count : mask_fault rows words ≡ 0 → value ≡ length (maximal_runs (rows_of words rows))
  pub untold : (status ≡ 1) ⊎ (status ≡ 2) → value ≡ 0
  pub runs : status ≡ 0 → new
      ≡ map run_of (maximal_runs (rows_of words rows)) ++ drop value old
  pub refused : status ≢ 0 → new ≡ old

-- for each bit whether a run starts there: it is set, and the one before it is not, which is `last`
-- before the first one
abbrev pub starts : Bool → List Bool → List Bool
starts last [] = []
starts last (bit ∷ bits) = (bit && not last) ∷ starts bit bits

-- for each bit whether it is other than the one before it, which is `last` before the first one
abbrev pub changes : Bool → List Bool → List Bool
changes last [] = []
changes last (bit ∷ bits) = (if last then not bit else bit) ∷ changes bit bits

-- runs by the places where one starts or ends, in turn: the last one ends at `end` where its end is
-- not among them
abbrev pub pairs : ℕ → List ℕ → List (ℕ × ℕ)
pairs end [] = []
pairs end (start ∷ []) = (start, end) ∷ []
pairs end (start ∷ stop ∷ places) = (start, stop) ∷ pairs end places

-- the place at which a run starts that has no end yet
abbrev pub open_start : Option ℕ → List ℕ
open_start None = []
open_start (Some start) = start ∷ []
