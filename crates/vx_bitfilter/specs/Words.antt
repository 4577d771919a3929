-- The words that a bit filter reads.
use Rattle.std.specs.Prelude.{ℕ, Bool, not, ◌==◌, List, filter}
use Rattle.std.specs.List.{range_with_len}
use Rattle.vx_bits.specs.Words.{word_at}

-- the numbers of the first n words
abbrev pub first_words : ℕ → List ℕ
first_words n = range_with_len 0 n

-- those of them at which the mask's word is not 0
abbrev pub busy_words : List Bool → ℕ → List ℕ
busy_words mask n = filter (λ i. not (word_at mask i == 0)) (first_words n)
