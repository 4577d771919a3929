-- The items that a word picks.
use Rattle.std.proofs.Common.{◌≡◌, ℕ, ◌+◌, ◌-◌, ◌*◌, ◌^◌, ◌<◌, ◌≤◌, Bool, true, false, cond, List, [], ◌∷◌, ◌++◌, length, get_or, take, drop, bit_and, inl, inr, refl, sym, ap, ap₂, ◌∙◌, arith, append_assoc, append-nil}
use Rattle.std.specs.Int.{w64}
use Rattle.std.specs.Int.RustNames.{count_ones}
use Rattle.std.specs.List.{items_where_true}
use Rattle.std.proofs.lemmas.Bool.{cases_lt}
use Rattle.std.proofs.lemmas.List.{length-drop, length-take, take_all}
use Rattle.std.proofs.lemmas.List.Sums.{sum_by-cons}
use Rattle.std.proofs.lemmas.Nat.{zero_from_ones}
use Rattle.std.proofs.lemmas.Nat.Bits.{bit_at_above, bit_at-trailing_zeros}
use Rattle.std.proofs.Math.Pow.{pow_mono}
use lib.Count.{count_trailing_zeros}
use Rattle.vx_bits.specs.BitBuffer.{true_count_of}
use Rattle.vx_bits.specs.Words.{word_at, word_bits}
use Rattle.vx_bits.proofs.BitLists.{number_below}
use Rattle.vx_bits.proofs.WordLists.{bits_in, count_of_word, length-bits_in, picked_lowest, picked_no_word, picked_words_more}
use Rattle.vx_mask.proofs.WordCounts.{counts_rise}

-- the lowest set bit stands before each bit that is past all set ones
pub lowest_within : (x n : ℕ) → 0 < x → x < 2 ^ 64 → x < 2 ^ n → count_trailing_zeros 64 x < n
lowest_within x n some fits h =
    let t = bit_at-trailing_zeros w64 x some fits in
    elim (cases_lt (count_trailing_zeros 64 x) n) [
      | inl below ↦ below
      | inr past ↦ absurd (omega (arith, t.1, bit_at_above x n (count_trailing_zeros 64 x) h past))
    ]

-- no bit of a word is set past the bits that are left
pub word_within : {X : Type 0} (bits : List Bool) (w word : ℕ) (xs : List X) → length bits ≡ length xs → word ≡ word_at bits w → word < 2 ^ length (drop (64 * w) xs)
unfolding word_at
word_within bits w word xs h e =
    let part = bits_in bits w in
    let short : length part ≤ length (drop (64 * w) xs) = omega (arith, length-bits_in bits w, length-drop (64 * w) xs) in
    let small : 2 ^ length part ≤ 2 ^ length (drop (64 * w) xs) = pow_mono short in
    omega (arith, number_below part, small, e)

-- a word that fits so many bits has so many
pub full_within : (n : ℕ) → 2 ^ 64 - 1 < 2 ^ n → 64 ≤ n
full_within n h = elim (cases_lt n 64) [
  | inl short ↦
      let less : n ≤ 63 = omega arith in
      let small : 2 ^ n ≤ 2 ^ 63 = pow_mono less in
      absurd (omega (arith, small))
  | inr all ↦ all
]

module _ {X : Type 0} where
  -- one more item was put out
  pub item_pushed : (kept new xs all : List X) (left : ℕ) (x : X) → 0 < left → left < 2 ^ 64 → left < 2 ^ length xs → x ≡ get_or xs (count_trailing_zeros 64 left) x → new ≡ kept ++ x ∷ [] → kept ++ items_where_true (word_bits left 64) xs ≡ all → new ++ items_where_true (word_bits (bit_and left (left - 1)) 64) xs ≡ all
  item_pushed kept new xs all left x some fits within item e h =
      let more = items_where_true (word_bits (bit_and left (left - 1)) 64) xs in
      ap (λ l. l ++ more) e ∙ append_assoc kept (x ∷ []) more
      ∙ ap (λ l. kept ++ l) (ap (λ y. y ∷ more) item ∙ sym (picked_lowest 64 left xs x some fits (lowest_within left (length xs) some fits within)))
      ∙ h

  pub items_done : (kept xs all : List X) (left : ℕ) → count_ones left ≡ 0 → kept ++ items_where_true (word_bits left 64) xs ≡ all → kept ≡ all
  items_done kept xs all left none e =
      sym (append-nil kept) ∙ sym (ap (λ l. kept ++ l) (picked_no_word left xs (zero_from_ones left none))) ∙ e

  -- ---- word by word

  -- a set bit picks an item
  pub length-picked : (bits : List Bool) (xs : List X) → length bits ≤ length xs → length (items_where_true bits xs) ≡ true_count_of bits
  length-picked [] xs h = refl
  length-picked (b ∷ bits) [] h = absurd (omega arith)
  length-picked (true ∷ bits) (x ∷ xs) h = omega (arith, length-picked bits xs (omega arith), sum_by-cons (λ bit. cond bit 1 0) true bits)
  length-picked (false ∷ bits) (x ∷ xs) h = omega (arith, length-picked bits xs (omega arith), sum_by-cons (λ bit. cond bit 1 0) false bits)

  -- there is room for what a word picks
  pub word_fits : (bits : List Bool) (xs kept : List X) (w word : ℕ) → length bits ≡ length xs → word ≡ word_at bits w → kept ≡ items_where_true (take (64 * w) bits) xs → length kept + count_ones word ≤ true_count_of bits
  word_fits bits xs kept w word h e f =
      omega (arith, ap length f, length-picked (take (64 * w) bits) xs (omega (arith, length-take (64 * w) bits)), count_of_word bits w, ap count_ones e, counts_rise bits (64 * (w + 1)))

  -- a full word lies within the items
  pub full_inside : (bits : List Bool) (xs : List X) (w word : ℕ) → length bits ≡ length xs → word ≡ word_at bits w → word ≡ 2 ^ 64 - 1 → 64 * w + 64 ≤ length xs
  full_inside bits xs w word h e f = omega (arith, full_within (length (drop (64 * w) xs)) (omega (arith, word_within bits w word xs h e, f)), length-drop (64 * w) xs)

  -- what one more word picks was put out
  pub word_pushed : (bits : List Bool) (xs kept new picked : List X) (w word : ℕ) → 64 * w ≤ length bits → word ≡ word_at bits w → kept ≡ items_where_true (take (64 * w) bits) xs → picked ≡ items_where_true (word_bits word 64) (drop (64 * w) xs) → new ≡ kept ++ picked → new ≡ items_where_true (take (64 * (w + 1)) bits) xs
  word_pushed bits xs kept new picked w word h e f p n =
      n ∙ ap₂ ◌++◌ f (p ∙ ap (λ x. items_where_true (word_bits x 64) (drop (64 * w) xs)) e) ∙ sym (picked_words_more bits w xs h)

  -- an empty word picks nothing
  pub word_passed : (bits : List Bool) (xs kept : List X) (w word : ℕ) → 64 * w ≤ length bits → word ≡ word_at bits w → word ≡ 0 → kept ≡ items_where_true (take (64 * w) bits) xs → kept ≡ items_where_true (take (64 * (w + 1)) bits) xs
  word_passed bits xs kept w word h e none f =
      word_pushed bits xs kept kept [] w word h e f (sym (picked_no_word word (drop (64 * w) xs) none)) (sym (append-nil kept))

  -- the items behind a place, as a part of the list
  pub items_behind : (xs : List X) (at : ℕ) → take (length xs - at) (drop at xs) ≡ drop at xs
  items_behind xs at = take_all (length xs - at) (drop at xs) (omega (arith, length-drop at xs))
