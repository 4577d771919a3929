-- The words of a mask, and why they are no mask of so many rows.
use Rattle.std.specs.Prelude.{ℕ, ◌==◌, List, length, drop, if◌then◌else◌}
use Rattle.vx_bits.specs.BitBuffer.{true_count_of}
use Rattle.vx_bits.specs.Words.{word_count}
use Rattle.vx_filter.specs.Compact.{bits_of_words}

-- 1 where the words are not as many as hold a bit for each of so many rows, else 2 where a bit past
-- the rows is set, else 0
abbrev pub mask_fault : ℕ → List ℕ → ℕ
mask_fault rows words =
    if length words == word_count rows
    then if true_count_of (drop rows (bits_of_words words)) == 0 then 0 else 2
    else 1

-- how many bits of the words are set
abbrev pub count_of : List ℕ → ℕ
count_of words = true_count_of (bits_of_words words)
