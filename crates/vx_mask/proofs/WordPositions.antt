-- The set positions of a list of bits, word by word.
use Rattle.std.proofs.Common.{◌≡◌, ℕ, ◌+◌, ◌-◌, ◌*◌, ◌≤◌, Bool, false, List, ◌++◌, length, take, drop, replicate, sym, ap, ap₂, ◌∙◌, arith, append-nil}
use Rattle.std.specs.Int.RustNames.{count_ones}
use Rattle.std.proofs.lemmas.List.{length-take-le}
use Rattle.vx_bits.specs.BitBuffer.{true_count_of}
use Rattle.vx_bits.specs.Words.{word_at, word_bits}
use Rattle.vx_bits.proofs.WordLists.{take_words, word_bits-word_at}
use Rattle.vx_mask.specs.Positions.{positions, set_of}
use Rattle.vx_mask.proofs.PositionLists.{positions-append, positions_false, length-positions}
use Rattle.vx_mask.proofs.WordCounts.{count_of_word, counts_rise}

-- the positions of a word's bits
pub positions_in : (bits : List Bool) (w word at : ℕ) → word ≡ word_at bits w → positions at (word_bits word 64) ≡ positions at (take 64 (drop (64 * w) bits))
positions_in bits w word at e =
    let part = take 64 (drop (64 * w) bits) in
    let k = 64 - length part in
    ap (λ n. positions at (word_bits n 64)) e ∙ ap (positions at) (word_bits-word_at bits w) ∙ positions-append at part (replicate k false)
    ∙ ap (λ l. positions at part ++ l) (positions_false (at + length part) k) ∙ append-nil (positions at part)

-- one more word's positions were put out
pub word_pushed : (bits : List Bool) (indices new : List ℕ) (w word : ℕ) → 64 * w ≤ length bits → word ≡ word_at bits w → indices ≡ set_of (take (64 * w) bits) → new ≡ indices ++ positions (64 * w) (word_bits word 64) → new ≡ set_of (take (64 * (w + 1)) bits)
word_pushed bits indices new w word h e f g =
    let front = take (64 * w) bits in
    let long : 0 + length front ≡ 64 * w = omega (arith, length-take-le (64 * w) bits h) in
    g ∙ ap₂ ◌++◌ f (positions_in bits w word (64 * w) e ∙ ap (λ n. positions n (take 64 (drop (64 * w) bits))) (sym long))
    ∙ sym (positions-append 0 front (take 64 (drop (64 * w) bits))) ∙ ap set_of (sym (take_words bits w))

-- there is room for a word's positions
pub word_fits : (bits : List Bool) (indices : List ℕ) (w word : ℕ) → word ≡ word_at bits w → indices ≡ set_of (take (64 * w) bits) → length indices + count_ones word ≤ true_count_of bits
word_fits bits indices w word e f =
    omega (arith, count_of_word bits w word e, counts_rise bits (64 * (w + 1)), length-positions 0 (take (64 * w) bits), ap length f)
