-- Counts of set bits, one for each 512 bits.
use Rattle.std.proofs.Common.{◌≡◌, ℕ, ◌+◌, ◌*◌, ◌/◌, ◌<◌, ◌≤◌, Bool, List, [], ◌∷◌, ◌++◌, length, get_or, take, map, sym, ap, ap₂, ◌∙◌, inl, inr, arith, zero-add}
use Rattle.std.specs.List.{range_with_len}
use Rattle.std.proofs.lemmas.List.{length-take, take_all}
use Rattle.std.proofs.lemmas.List.FromFn.{get_or-map-range_with_len, length-map-range_with_len, map-range_with_len_more}
use Rattle.std.proofs.lemmas.List.Sums.{count_by-le-length}
use Rattle.std.proofs.lemmas.Bool.{cases_lt}
use Rattle.vx_bits.specs.BitBuffer.{true_count_of}
use Rattle.vx_mask.specs.Ranks.{blocks_of}

-- no more bits are set than there are
pub count_fits : (bits : List Bool) (n : ℕ) → true_count_of (take n bits) ≤ n
count_fits bits n = omega (arith, count_by-le-length (λ b. b) (take n bits), length-take n bits)

-- one more block is counted
pub counts_more : (bits : List Bool) (b count : ℕ) (blocks new : List ℕ) → blocks ≡ map (λ i. true_count_of (take (512 * i) bits)) (range_with_len 0 b) → count ≡ true_count_of (take (512 * b) bits) → new ≡ blocks ++ count ∷ [] → new ≡ map (λ i. true_count_of (take (512 * i) bits)) (range_with_len 0 (b + 1))
counts_more bits b count blocks new e f g =
    g ∙ ap₂ (λ l n. l ++ n ∷ []) e f ∙ sym (map-range_with_len_more (λ i. true_count_of (take (512 * i) bits)) 0 b b (zero-add b))

-- all were counted
pub counts_all : (bits : List Bool) (b count : ℕ) (blocks new : List ℕ) → b ≡ length bits / 512 → blocks ≡ map (λ i. true_count_of (take (512 * i) bits)) (range_with_len 0 b) → count ≡ true_count_of (take (512 * b) bits) → new ≡ blocks ++ count ∷ [] → new ≡ blocks_of bits
counts_all bits b count blocks new at e f g = counts_more bits b count blocks new e f g ∙ ap (λ n. map (λ i. true_count_of (take (512 * i) bits)) (range_with_len 0 (n + 1))) at

pub length_blocks : (bits : List Bool) → length (blocks_of bits) ≡ length bits / 512 + 1
length_blocks bits = length-map-range_with_len (λ b. true_count_of (take (512 * b) bits)) 0 (length bits / 512 + 1)

block_at : (bits : List Bool) (b : ℕ) → b ≤ length bits / 512 → get_or (blocks_of bits) b 0 ≡ true_count_of (take (512 * b) bits)
block_at bits b h = get_or-map-range_with_len (λ i. true_count_of (take (512 * i) bits)) 0 (length bits / 512 + 1) b b 0 (omega arith) (omega arith)

-- the count where a block begins
pub block_start : (bits : List Bool) (blocks : List ℕ) (b : ℕ) → blocks ≡ blocks_of bits → b ≤ length bits / 512 → get_or blocks b 0 ≡ true_count_of (take (64 * (8 * b)) bits)
block_start bits blocks b e h =
    let first : 512 * b ≡ 64 * (8 * b) = omega arith in
    ap (λ l. get_or l b 0) e ∙ block_at bits b h ∙ ap (λ n. true_count_of (take n bits)) first

pub count_all : (bits : List Bool) (n : ℕ) → length bits ≤ n → true_count_of (take n bits) ≡ true_count_of bits
count_all bits n h = ap true_count_of (take_all n bits h)

-- the last block with at most k set bits before it has more than k set bits up to its end
pub block_end : (bits : List Bool) (blocks : List ℕ) (b k : ℕ) → blocks ≡ blocks_of bits → b < length blocks → (b + 1 < length blocks → k < get_or blocks (b + 1) 0) → k < true_count_of bits → k < true_count_of (take (512 * (b + 1)) bits)
block_end bits blocks b k e h next below =
    let long : length blocks ≡ length bits / 512 + 1 = ap length e ∙ length_blocks bits in
    elim (cases_lt (b + 1) (length blocks)) [
      | inl more ↦
          let up = next more in
          omega (arith, ap (λ l. get_or l (b + 1) 0) e, block_at bits (b + 1) (omega arith))
      | inr last ↦ omega (arith, count_all bits (512 * (b + 1)) (omega arith))
    ]
