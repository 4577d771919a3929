-- Offsets of lists that are put one after another.
use Rattle.std.specs.Prelude.{ℕ, ◌+◌, ◌-◌, List, [], ◌∷◌, slice_index}
use Rattle.std.specs.List.{flat_map}

-- running sums of lengths, behind `start`: the sum up to each
abbrev pub sums_from : ℕ → List ℕ → List ℕ
sums_from start [] = []
sums_from start (n ∷ lengths) = (start + n) ∷ sums_from (start + n) lengths

-- the offsets of lists with these lengths, one after another: 0, and the sum up to each
abbrev pub offsets_of : List ℕ → List ℕ
offsets_of lengths = 0 ∷ sums_from 0 lengths

-- how long list i is
abbrev pub length_at : List ℕ → ℕ → ℕ
length_at offsets i = slice_index offsets (i + 1) - slice_index offsets i

-- lists, one after another
abbrev pub concat_lists : {X : Type 0} → List (List X) → List X
concat_lists lists = flat_map (λ l. l) lists
