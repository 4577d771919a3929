-- The lowest set bit of a word, and the word without it.
use Rattle.std.proofs.Common.{◌≡◌, ℕ, ◌+◌, ◌-◌, ◌%◌, ◌^◌, ◌<◌, ◌≤◌, Bool, true, false, List, [], ◌∷◌, ◌++◌, length, get_or, take, drop, refl, sym, subst, ap, ap₂, ◌∙◌, arith, append-nil, append_assoc}
use Rattle.std.specs.Int.RustNames.{count_ones}
use Rattle.std.specs.Int.{w64, bit_at}
use Rattle.std.proofs.lemmas.Bool.{eqb-true}
use Rattle.std.proofs.lemmas.List.{drop_more}
use Rattle.vx_bits.specs.BitBuffer.{true_count_of}
use Rattle.std.specs.List.{items_where_true, range_with_len}
use Rattle.std.proofs.lemmas.List.FromFn.{length-range_with_len}
use Rattle.std.proofs.lemmas.Nat.{ones_le_self, zero_from_ones, mod_below, pow_pos}
use Rattle.std.proofs.lemmas.Nat.Bits.{bit_at-trailing_zeros}
use lib.Bits.{bit_and}
use lib.Count.{count_trailing_zeros}
use Rattle.vx_bits.specs.Words.{word_bits}
use Rattle.vx_bits.proofs.WordBits.{length-word_bits, zero-word_bits, get_or-word_bits, take-word_bits, true_count_of-word_bits, word_bits_low}
use Rattle.vx_bits.proofs.WordLists.{one_less, picked_lowest}
use Rattle.vx_mask.specs.Positions.{positions}
use Rattle.vx_mask.proofs.PositionLists.{length-positions, place_of, positions_false, get_or-range}
use Rattle.vx_mask.proofs.WordCounts.{ones_more}

-- the set positions are the places that the bits pick
positions_picked : (at : ℕ) (bits : List Bool) → positions at bits ≡ items_where_true bits (range_with_len at (length bits))
positions_picked at [] = refl
positions_picked at (true ∷ bits) = ap (λ l. at ∷ l) (positions_picked (at + 1) bits)
positions_picked at (false ∷ bits) = positions_picked (at + 1) bits

picked_of_word : (at x : ℕ) → positions at (word_bits x 64) ≡ items_where_true (word_bits x 64) (range_with_len at 64)
picked_of_word at x = positions_picked at (word_bits x 64) ∙ ap (λ n. items_where_true (word_bits x 64) (range_with_len at n)) (length-word_bits x 64)

-- no bit, no position
pub no_positions : (at : ℕ) → positions at (word_bits 0 64) ≡ []
no_positions at = ap (positions at) (zero-word_bits 64) ∙ positions_false at 64

-- the lowest set bit has the first position, and clearing it leaves the others
pub lowest_position : (at x : ℕ) → 0 < x → x < 2 ^ 64 → positions at (word_bits x 64) ≡ (at + count_trailing_zeros 64 x) ∷ positions at (word_bits (bit_and x (x - 1)) 64)
lowest_position at x p h =
    let places = range_with_len at 64 in
    let low = (bit_at-trailing_zeros w64 x p h).0 in
    let rest = bit_and x (x - 1) in
    picked_of_word at x
    ∙ picked_lowest 64 x places 0 p h (omega (arith, low, length-range_with_len at 64))
    ∙ ap₂ (λ (n : ℕ) l. n ∷ l) (get_or-range at 64 (count_trailing_zeros 64 x) low) (sym (picked_of_word at rest))

-- one more position was put out
pub position_pushed : (base : ℕ) (indices new : List ℕ) (left p : ℕ) → 0 < left → left < 2 ^ 64 → p ≡ base + count_trailing_zeros 64 left → new ≡ indices ++ p ∷ [] → new ++ positions base (word_bits (bit_and left (left - 1)) 64) ≡ indices ++ positions base (word_bits left 64)
position_pushed base indices new left p some fits place e =
    let more = positions base (word_bits (bit_and left (left - 1)) 64) in
    ap (λ l. l ++ more) e ∙ append_assoc indices (p ∷ []) more
    ∙ ap (λ l. indices ++ l) (ap (λ n. n ∷ more) place ∙ sym (lowest_position base left some fits))

pub positions_done : (base : ℕ) (indices all : List ℕ) (left : ℕ) → count_ones left ≡ 0 → indices ++ positions base (word_bits left 64) ≡ all → indices ≡ all
positions_done base indices all left none e =
    let zero_left : left ≡ 0 = zero_from_ones left none in
    sym (append-nil indices) ∙ sym (ap (λ l. indices ++ l) (ap (λ n. positions base (word_bits n 64)) zero_left ∙ no_positions base)) ∙ e

pub some_left : (left k all : ℕ) → count_ones left + k ≡ all → k < all → 0 < left
some_left left k all e h = omega (arith, ones_le_self left)

-- without it, one bit fewer is left
pub counted_on : (left k all : ℕ) → count_ones left + k ≡ all → k < all → left < 2 ^ 64 → count_ones (bit_and left (left - 1)) + (k + 1) ≡ all
counted_on left k all e h fits = omega (arith, one_less 64 left (some_left left k all e h) fits, e)

-- the place of the lowest bit that is left is below what a word fits in front of
pub place_fits : (base left k all limit : ℕ) → count_ones left + k ≡ all → k < all → left < 2 ^ 64 → base + 64 ≤ limit → base + count_trailing_zeros 64 left < limit
place_fits base left k all limit e h fits room =
    omega (arith, (bit_at-trailing_zeros w64 left (some_left left k all e h) fits).0)

-- a place of a word before which at most k bits are set, and up to which more are
pub record IsKth (word k place : ℕ) : Type 0 where
  pub within : place < 64
  pub before : count_ones (word % 2 ^ place) ≤ k
  pub next : k < count_ones (word % 2 ^ (place + 1))

-- up to place n as many bits of a word are set as its part below has
ones_before : (word n : ℕ) → n ≤ 64 → true_count_of (take n (word_bits word 64)) ≡ count_ones (word % 2 ^ n)
ones_before word n h =
    ap true_count_of (take-word_bits word n 64 h ∙ sym (word_bits_low word n))
    ∙ true_count_of-word_bits (word % 2 ^ n) n (mod_below word (2 ^ n) (pow_pos n))

module _ (word left k : ℕ) (fits : word < 2 ^ 64) (small : left < 2 ^ 64) (h : k < count_ones word) (counted : count_ones left + k ≡ count_ones word) (e : positions 0 (word_bits left 64) ≡ drop k (positions 0 (word_bits word 64))) where
  abbrev pub bits : List Bool
  bits = word_bits word 64

  all : true_count_of bits ≡ count_ones word
  all = true_count_of-word_bits word 64 fits

  parts : (0 + count_trailing_zeros 64 left) ∷ positions 0 (word_bits (bit_and left (left - 1)) 64) ≡ get_or (positions 0 bits) k 0 ∷ drop (k + 1) (positions 0 bits)
  parts =
      sym (lowest_position 0 left (some_left left k (count_ones word) counted h) small) ∙ e
      ∙ drop_more (positions 0 bits) k 0 (omega (arith, h, all, length-positions 0 bits))

  -- one more set bit is cleared
  pub one_cleared : positions 0 (word_bits (bit_and left (left - 1)) 64) ≡ drop (k + 1) (positions 0 bits)
  one_cleared = ap (drop 1) parts

  -- once k are cleared, the lowest is the k-th
  pub kth_place : IsKth word k (count_trailing_zeros 64 left)
  kth_place =
      let found = place_of 0 bits k 0 (omega (arith, all, h)) in
      let i = found.0 in
      let same : i ≡ count_trailing_zeros 64 left = omega (arith, ap (λ l. get_or l 0 0) parts, found.1.position) in
      let within : i < 64 = omega (arith, found.1.within, length-word_bits word 64) in
      let low = ones_before word i (omega (arith, within)) in
      let bit : bit_at word i ≡ 1 = eqb-true (bit_at word i) 1 (sym (get_or-word_bits word 64 i false within) ∙ found.1.set) in
      subst (IsKth word k) same (record {
        within = within;
        before = omega (arith, low, found.1.passed);
        next = omega (arith, low, found.1.passed, ones_more word i, bit);
      })
