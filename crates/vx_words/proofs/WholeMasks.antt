-- A mask whose words hold its bits and no other set ones, as so many bits from the first one on.
use Rattle.std.proofs.Common.{◌≡◌, ℕ, ◌+◌, ◌*◌, ◌<◌, ◌≤◌, true, cond, ltb, leb, List, ◌++◌, length, take, drop, sym, ap, ◌∙◌, arith}
use Rattle.std.proofs.lemmas.Bool.{le-leb, le-ltb, lt-ltb}
use Rattle.std.proofs.lemmas.List.{take-append-drop}
use Rattle.std.proofs.lemmas.List.Sums.{sum_by-append}
use Rattle.vx_bits.specs.BitBuffer.{true_count_of}
use Rattle.vx_filter.specs.Compact.{bits_of_words}
use Rattle.vx_words.specs.Bits.{bits_at}
use Rattle.vx_words.specs.Filters.{filter_fault}
use Rattle.vx_words.specs.Masks.{count_of}
use Rattle.vx_words.proofs.MaskWords.{IsMask}

-- no other bit is set
pub whole_count : (rows : ℕ) (words : List ℕ) → IsMask rows words → count_of words ≡ true_count_of (bits_at words 0 rows)
whole_count rows words mask =
    let bits = bits_of_words words in
    let both : bits ≡ take rows bits ++ drop rows bits = sym (take-append-drop rows bits) in
    omega (arith, ap true_count_of both, sum_by-append (λ bit. cond bit 1 0) (take rows bits) (drop rows bits), mask.none)

held : (rows : ℕ) (words : List ℕ) → IsMask rows words → leb (0 + rows) (64 * length words) ≡ true
held rows words mask = le-leb (0 + rows) (64 * length words) (omega (arith, mask.lengths))

fault_is : (rows : ℕ) (words : List ℕ) (room : ℕ) → IsMask rows words → filter_fault rows words 0 room ≡ cond (ltb room (true_count_of (bits_at words 0 rows))) 3 0
fault_is rows words room mask = ap (λ b. cond b (cond (ltb room (true_count_of (bits_at words 0 rows))) 3 0) 1) (held rows words mask)

pub whole_no_room : (rows : ℕ) (words : List ℕ) (room : ℕ) → IsMask rows words → room < true_count_of (bits_at words 0 rows) → 3 ≡ filter_fault rows words 0 room
whole_no_room rows words room mask h = sym (fault_is rows words room mask ∙ ap (λ b. cond b 3 0) (lt-ltb room (true_count_of (bits_at words 0 rows)) h))

pub whole_room : (rows : ℕ) (words : List ℕ) (room : ℕ) → IsMask rows words → true_count_of (bits_at words 0 rows) ≤ room → 0 ≡ filter_fault rows words 0 room
whole_room rows words room mask h = sym (fault_is rows words room mask ∙ ap (λ b. cond b 3 0) (le-ltb room (true_count_of (bits_at words 0 rows)) h))
