-- Lists of bits as their words: what a kernel that walks words needs.
use Rattle.std.proofs.Common.{◌≡◌, ℕ, zero, suc, ◌+◌, ◌-◌, ◌*◌, ◌/◌, ◌%◌, ◌^◌, ◌<◌, ◌≤◌, min, Bool, true, false, cond, eqb, List, [], ◌∷◌, ◌++◌, length, get_or, take, drop, replicate, bit_and, inl, inr, refl, sym, ap, ap₂, ◌∙◌, arith}
use Rattle.std.specs.Int.{bit_at}
use Rattle.std.specs.Int.RustNames.{count_ones}
use Rattle.std.specs.List.{items_where_true}
use Rattle.std.proofs.lemmas.Bool.{cases_lt}
use Rattle.std.proofs.lemmas.List.{append-nil, get_or-drop, get_or-take, length-drop, length-take, length-take-le, take-take, take_all, take_min}
use Rattle.std.proofs.lemmas.List.Sums.{sum_by-append, sum_by-cons}
use Rattle.std.proofs.lemmas.Nat.{mod-pow-add}
use Rattle.std.proofs.Math.Nat.{mod-eq_of_lt, mod-lt, pow-suc, zero-lt-suc}
use Rattle.std.proofs.Math.Pow.{pow_mono}
use lib.Bits.{and_step, and_self}
use lib.Count.{count_trailing_zeros, under, ones_cat, ones_step}
use Rattle.vx_bits.specs.BitBuffer.{number_of, true_count_of}
use Rattle.vx_bits.specs.Words.{word_at, word_bits, word_count}
use Rattle.vx_bits.proofs.BitLists.{bit_of_number, number_below}
use Rattle.vx_bits.proofs.WordBits.{full-word_bits, number_is, word_bits-number_of, zero-word_bits}
use Rattle.std.proofs.Math.Seq.{take-add}
use Rattle.vx_lemmas.proofs.Numbers.{count_ones-zero}

-- ---- one word

-- the bits that word i holds, 64 of them or as many as are left
abbrev pub bits_in : List Bool → ℕ → List Bool
bits_in bits i = take 64 (drop (64 * i) bits)

pub length-bits_in : (bits : List Bool) (i : ℕ) → length (bits_in bits i) ≡ min 64 (length bits - 64 * i)
length-bits_in bits i = length-take 64 (drop (64 * i) bits) ∙ ap (min 64) (length-drop (64 * i) bits)

pub word_at_below : (bits : List Bool) (i : ℕ) → word_at bits i < 2 ^ 64
unfolding word_at
word_at_below bits i =
    let part = bits_in bits i in
    let short : length part ≤ 64 = omega (arith, length-bits_in bits i) in
    let small : 2 ^ length part ≤ 2 ^ 64 = pow_mono short in
    omega (arith, number_below part, small)

-- bit k of word i is bit 64 * i + k, and zero past the end
pub bit_in_word : (bits : List Bool) (i k : ℕ) → k < 64 → eqb (bit_at (word_at bits i) k) 1 ≡ get_or bits (64 * i + k) false
unfolding word_at
bit_in_word bits i k h = bit_of_number (bits_in bits i) k ∙ get_or-take 64 (drop (64 * i) bits) k false h ∙ get_or-drop (64 * i) bits k false

-- the word's bits are the list's, and then zeros
pub word_bits-word_at : (bits : List Bool) (i : ℕ) → word_bits (word_at bits i) 64 ≡ bits_in bits i ++ replicate (64 - length (bits_in bits i)) false
unfolding word_at
word_bits-word_at bits i =
    let part = bits_in bits i in
    let whole : length part + (64 - length part) ≡ 64 = omega (arith, length-bits_in bits i) in
    ap (word_bits (number_of part)) (sym whole) ∙ word_bits-number_of part (64 - length part)

-- as many of its lowest bits as the list has left
pub word_bits_in : (bits : List Bool) (i n : ℕ) → n ≡ length (bits_in bits i) → word_bits (word_at bits i) n ≡ bits_in bits i
unfolding word_at
word_bits_in bits i n e =
    let part = bits_in bits i in
    let whole : n ≡ length part + 0 = omega arith in
    ap (word_bits (number_of part)) whole ∙ word_bits-number_of part 0 ∙ append-nil part

-- a word of the middle is whole
pub whole_word : (bits : List Bool) (i : ℕ) → 64 * i + 64 ≤ length bits → word_bits (word_at bits i) 64 ≡ bits_in bits i
whole_word bits i h = word_bits_in bits i 64 (omega (arith, length-bits_in bits i))

-- a word of a view of the bits is theirs
pub is_word : {bits view : List Bool} {word : ℕ} (i : ℕ) → word ≡ word_at view i → view ≡ bits → word ≡ word_at bits i
is_word i e same = e ∙ ap (λ l. word_at l i) same

-- a word below 2 ^ 64 with the list's bits is the list's word
pub word_is : (bits : List Bool) (i word n : ℕ) → word < 2 ^ n → bits_in bits i ≡ word_bits word n → word ≡ word_at bits i
unfolding word_at
word_is bits i word n h e = sym (number_is (bits_in bits i) word n h e)

-- ---- one word after another

-- one word more
pub take_words : (bits : List Bool) (i : ℕ) → take (64 * (i + 1)) bits ≡ take (64 * i) bits ++ bits_in bits i
take_words bits i =
    let next : 64 * (i + 1) ≡ 64 * i + 64 = omega arith in
    ap (λ n. take n bits) next ∙ take-add (64 * i) 64 bits

-- one word more, by the number of the next bits
pub with_next_word : (bits : List Bool) (i word n : ℕ) → n ≡ min 64 (length bits - 64 * i) → word ≡ number_of (take n (drop (64 * i) bits)) → take (64 * i) bits ++ word_bits word n ≡ take (64 * (i + 1)) bits
with_next_word bits i word n short e =
    let behind = drop (64 * i) bits in
    let part = bits_in bits i in
    let cut : n ≡ min 64 (length behind) = short ∙ sym (ap (min 64) (length-drop (64 * i) bits)) in
    let same : take n behind ≡ part = ap (λ m. take m behind) cut ∙ take_min 64 behind in
    let whole : n ≡ length part + 0 = omega (arith, short, length-bits_in bits i) in
    ap (λ l. take (64 * i) bits ++ l) (ap₂ word_bits (e ∙ ap number_of same) whole ∙ word_bits-number_of part 0 ∙ append-nil part) ∙ sym (take_words bits i)

-- all the words are all the bits
pub take_all_words : (bits : List Bool) (count : ℕ) → word_count (length bits) ≤ count → take (64 * count) bits ≡ bits
take_all_words bits count h = take_all (64 * count) bits (omega arith)

-- ---- counts

-- the set bits of a word's lowest n bits
ones_of_low : (n : ℕ) (bits : List Bool) → count_ones (number_of bits % 2 ^ n) ≡ true_count_of (take n bits)
ones_of_low zero bits = let none : number_of bits % 2 ^ 0 ≡ 0 = omega arith in ap count_ones none ∙ count_ones-zero
ones_of_low (suc n) [] = let none : 0 % 2 ^ suc n ≡ 0 = omega arith in ap count_ones none ∙ count_ones-zero
ones_of_low (suc n) (true ∷ bits) =
    let all = number_of bits in
    let more : n + 1 ≡ suc n = omega arith in
    let parts = ap (λ e. (1 + 2 * all) % 2 ^ e) (sym more) ∙ mod-pow-add (1 + 2 * all) n 1 in
    let half : (1 + 2 * all) / 2 ≡ all = omega arith in
    let low : (1 + 2 * all) % 2 ≡ 1 = omega arith in
    let is : (1 + 2 * all) % 2 ^ suc n ≡ all % 2 ^ n * 2 + 1 = parts ∙ ap₂ (λ h l. h % 2 ^ n * 2 + l) half low in
    ap count_ones is ∙ ones_cat 1 (all % 2 ^ n) 1 (omega arith) ∙ omega (arith, ones_of_low n bits, ones_step 1, count_ones-zero, sum_by-cons (λ b. cond b 1 0) true (take n bits))
ones_of_low (suc n) (false ∷ bits) =
    let all = number_of bits in
    let more : n + 1 ≡ suc n = omega arith in
    let parts = ap (λ e. (0 + 2 * all) % 2 ^ e) (sym more) ∙ mod-pow-add (0 + 2 * all) n 1 in
    let half : (0 + 2 * all) / 2 ≡ all = omega arith in
    let low : (0 + 2 * all) % 2 ≡ 0 = omega arith in
    let is : (0 + 2 * all) % 2 ^ suc n ≡ all % 2 ^ n * 2 + 0 = parts ∙ ap₂ (λ h l. h % 2 ^ n * 2 + l) half low in
    ap count_ones is ∙ ones_cat 1 (all % 2 ^ n) 0 (omega arith) ∙ omega (arith, ones_of_low n bits, count_ones-zero, sum_by-cons (λ b. cond b 1 0) false (take n bits))

-- the set bits of a front and of what is behind it
pub true_count_of-take : (bits : List Bool) (m n : ℕ) → true_count_of (take (m + n) bits) ≡ true_count_of (take m bits) + true_count_of (take n (drop m bits))
true_count_of-take bits m n = ap true_count_of (take-add m n bits) ∙ sum_by-append (λ bit. cond bit 1 0) (take m bits) (take n (drop m bits))

-- up to bit n of a word, the set bits before the word and those of its lowest n bits
pub count_in_word : (bits : List Bool) (i n : ℕ) → n ≤ 64 → true_count_of (take (64 * i + n) bits) ≡ true_count_of (take (64 * i) bits) + count_ones (word_at bits i % 2 ^ n)
unfolding word_at
count_in_word bits i n h =
    let behind = drop (64 * i) bits in
    let low = ones_of_low n (take 64 behind) ∙ ap true_count_of (take-take n 64 behind h) in
    omega (arith, true_count_of-take bits (64 * i) n, low)

-- up to the end of a word, the set bits before the word and those of the word
pub count_of_word : (bits : List Bool) (i : ℕ) → true_count_of (take (64 * (i + 1)) bits) ≡ true_count_of (take (64 * i) bits) + count_ones (word_at bits i)
count_of_word bits i =
    let next : 64 * (i + 1) ≡ 64 * i + 64 = omega arith in
    ap (λ n. true_count_of (take n bits)) next ∙ count_in_word bits i 64 (omega arith) ∙ ap (λ n. true_count_of (take (64 * i) bits) + count_ones n) (mod-eq_of_lt (word_at_below bits i))

-- the set bits that a word holds
pub true_count_of-bits_in : (bits : List Bool) (i : ℕ) → true_count_of (bits_in bits i) ≡ count_ones (word_at bits i)
true_count_of-bits_in bits i = omega (arith, count_of_word bits i, true_count_of-take bits (64 * i) 64, ap (λ n. true_count_of (take n bits)) (let e : 64 * (i + 1) ≡ 64 * i + 64 = omega arith in e))

-- ---- words with no bit, and full ones

-- bits of which none is set
pub no_bits : (bits : List Bool) → true_count_of bits ≡ 0 → bits ≡ replicate (length bits) false
no_bits [] h = refl
no_bits (true ∷ bits) h = absurd (omega (arith, sum_by-cons (λ bit. cond bit 1 0) true bits))
no_bits (false ∷ bits) h = ap (λ l. false ∷ l) (no_bits bits (omega (arith, sum_by-cons (λ bit. cond bit 1 0) false bits)))

-- a word of 0 holds no set bit
pub no_word : (bits : List Bool) (i : ℕ) → word_at bits i ≡ 0 → bits_in bits i ≡ replicate (length (bits_in bits i)) false
no_word bits i e = no_bits (bits_in bits i) (true_count_of-bits_in bits i ∙ ap count_ones e ∙ count_ones-zero)

full_length : (bits : List Bool) (i : ℕ) → word_at bits i ≡ 2 ^ 64 - 1 → length (bits_in bits i) ≡ 64
unfolding word_at
full_length bits i e =
    let part = bits_in bits i in
    elim (cases_lt (length part) 64) [
      | inl short ↦
          let less : length part ≤ 63 = omega arith in
          let small : 2 ^ length part ≤ 2 ^ 63 = pow_mono less in
          absurd (omega (arith, number_below part, small))
      | inr all ↦ omega (arith, length-bits_in bits i)
    ]

-- a word of ones holds 64 set bits
pub full_word : (bits : List Bool) (i : ℕ) → word_at bits i ≡ 2 ^ 64 - 1 → bits_in bits i ≡ replicate 64 true
full_word bits i e =
    let part = bits_in bits i in
    let long : length part ≡ 64 = full_length bits i e in
    sym (word_bits_in bits i 64 (sym long)) ∙ ap (λ w. word_bits w 64) e ∙ full-word_bits 64

-- ---- the lowest set bit

cases : (P : ℕ → Type 0) → P 0 → P 1 → (r : ℕ) → r < 2 → P r
cases P a b zero h = a
cases P a b (suc zero) h = b
cases P a b (suc (suc r)) h = let no : ⊥ = omega arith in absurd no

-- what clearing the lowest set bit does to the halves
record Clears (y z : ℕ) : Type 0 where
  low : y % 2 ≡ 0
  half : y / 2 ≡ z

odd_clears : (x : ℕ) → x % 2 ≡ 1 → Clears (bit_and x (x - 1)) (x / 2)
odd_clears x e =
    let y = bit_and x (x - 1) in
    let half : (x - 1) / 2 ≡ x / 2 = omega arith in
    let low : min (x % 2) ((x - 1) % 2) ≡ 0 = omega arith in
    let is : y ≡ x / 2 * 2 + 0 = and_step x (x - 1) ∙ ap₂ (λ (u v : ℕ). u * 2 + v) (ap (bit_and (x / 2)) half ∙ and_self (x / 2)) low in
    record { low = omega arith; half = omega arith }

even_clears : (x : ℕ) → 0 < x → x % 2 ≡ 0 → Clears (bit_and x (x - 1)) (bit_and (x / 2) (x / 2 - 1))
even_clears x p e =
    let y = bit_and x (x - 1) in
    let half : (x - 1) / 2 ≡ x / 2 - 1 = omega arith in
    let low : min (x % 2) ((x - 1) % 2) ≡ 0 = omega arith in
    let z = bit_and (x / 2) (x / 2 - 1) in
    let is : y ≡ z * 2 + 0 = and_step x (x - 1) ∙ ap₂ (λ (u v : ℕ). u * 2 + v) (ap (bit_and (x / 2)) half) low in
    record { low = omega arith; half = omega arith }

-- `x & (x - 1)` has one set bit less
pub one_less : (k x : ℕ) → 0 < x → x < 2 ^ k → count_ones x ≡ count_ones (bit_and x (x - 1)) + 1
one_less zero x p h = let no : ⊥ = omega arith in absurd no
one_less (suc k) x p h = cases (λ r. x % 2 ≡ r → count_ones x ≡ count_ones (bit_and x (x - 1)) + 1) (even (λ q. one_less k (x / 2) q (omega (arith, pow-suc 2 k)))) odd (x % 2) (mod-lt x (zero-lt-suc 1)) refl
  where
    odd : x % 2 ≡ 1 → count_ones x ≡ count_ones (bit_and x (x - 1)) + 1
    odd e =
        let c = odd_clears x e in
        omega (arith, ones_step x, ones_step (bit_and x (x - 1)), ap count_ones c.half, c.low, e)

    even : (0 < x / 2 → count_ones (x / 2) ≡ count_ones (bit_and (x / 2) (x / 2 - 1)) + 1) → x % 2 ≡ 0 → count_ones x ≡ count_ones (bit_and x (x - 1)) + 1
    even smaller e =
        let c = even_clears x p e in
        let below = smaller (omega arith) in
        omega (arith, ones_step x, ones_step (bit_and x (x - 1)), ap count_ones c.half, c.low, e, below)

-- ---- the items that bits pick

module _ {X : Type 0} where
  pub picked-append : (bits more : List Bool) (xs : List X) → items_where_true (bits ++ more) xs ≡ items_where_true bits xs ++ items_where_true more (drop (length bits) xs)
  picked-append [] more xs = refl
  picked-append (b ∷ bits) [] [] = refl
  picked-append (b ∷ bits) (c ∷ more) [] = refl
  picked-append (true ∷ bits) more (x ∷ xs) = ap (λ l. x ∷ l) (picked-append bits more xs)
  picked-append (false ∷ bits) more (x ∷ xs) = picked-append bits more xs

  pub picked_set : (n : ℕ) (xs : List X) → items_where_true (replicate n true) xs ≡ take n xs
  picked_set zero xs = refl
  picked_set (suc n) [] = refl
  picked_set (suc n) (x ∷ xs) = ap (λ l. x ∷ l) (picked_set n xs)

  pub picked_clear : (n : ℕ) (xs : List X) → items_where_true (replicate n false) xs ≡ []
  picked_clear zero xs = refl
  picked_clear (suc n) [] = refl
  picked_clear (suc n) (x ∷ xs) = picked_clear n xs

  -- items past the bits play no part
  pub picked_short : (bits : List Bool) (xs : List X) (n : ℕ) → length bits ≤ n → items_where_true bits (take n xs) ≡ items_where_true bits xs
  picked_short [] xs n h = refl
  picked_short (b ∷ bits) xs zero h = absurd (omega arith)
  picked_short (b ∷ bits) [] (suc n) h = refl
  picked_short (true ∷ bits) (x ∷ xs) (suc n) h = ap (λ l. x ∷ l) (picked_short bits xs n (omega arith))
  picked_short (false ∷ bits) (x ∷ xs) (suc n) h = picked_short bits xs n (omega arith)

  -- what a word picks of the items from its first place on
  pub picked_word : (bits : List Bool) (i : ℕ) (xs : List X) → items_where_true (word_bits (word_at bits i) 64) xs ≡ items_where_true (bits_in bits i) xs
  picked_word bits i xs =
      let part = bits_in bits i in
      let k = 64 - length part in
      ap (λ l. items_where_true l xs) (word_bits-word_at bits i)
      ∙ picked-append part (replicate k false) xs
      ∙ ap (λ l. items_where_true part xs ++ l) (picked_clear k (drop (length part) xs))
      ∙ append-nil (items_where_true part xs)

  -- one word more
  pub picked_words_more : (bits : List Bool) (i : ℕ) (xs : List X) → 64 * i ≤ length bits → items_where_true (take (64 * (i + 1)) bits) xs ≡ items_where_true (take (64 * i) bits) xs ++ items_where_true (word_bits (word_at bits i) 64) (drop (64 * i) xs)
  picked_words_more bits i xs h =
      let front = take (64 * i) bits in
      ap (λ l. items_where_true l xs) (take_words bits i)
      ∙ picked-append front (bits_in bits i) xs
      ∙ ap (λ n. items_where_true front xs ++ items_where_true (bits_in bits i) (drop n xs)) (length-take-le (64 * i) bits h)
      ∙ ap (λ l. items_where_true front xs ++ l) (sym (picked_word bits i (drop (64 * i) xs)))

  -- a word of 0 picks nothing, and a full one its 64 items
  pub picked_no_word : (word : ℕ) (xs : List X) → word ≡ 0 → items_where_true (word_bits word 64) xs ≡ []
  picked_no_word word xs e = ap (λ w. items_where_true (word_bits w 64) xs) e ∙ ap (λ l. items_where_true l xs) (zero-word_bits 64) ∙ picked_clear 64 xs

  pub picked_full_word : (word : ℕ) (xs : List X) → word ≡ 2 ^ 64 - 1 → items_where_true (word_bits word 64) xs ≡ take 64 xs
  picked_full_word word xs e = ap (λ w. items_where_true (word_bits w 64) xs) e ∙ ap (λ l. items_where_true l xs) (full-word_bits 64) ∙ picked_set 64 xs

  abbrev kept : ℕ → ℕ → ℕ → X → List X → List X
  kept k r t y ys = items_where_true (eqb r 1 ∷ word_bits t k) (y ∷ ys)

  abbrev LowestFirst : ℕ → ℕ → X → X → List X → Type 0
  LowestFirst k x d y ys = kept k (x % 2) (x / 2) y ys ≡ get_or (y ∷ ys) (under (x % 2) (count_trailing_zeros k (x / 2))) d ∷ kept k (bit_and x (x - 1) % 2) (bit_and x (x - 1) / 2) y ys

  -- the first item that a word picks stands at its lowest set bit, and the word without that bit
  -- picks the others
  pub picked_lowest : (k x : ℕ) (xs : List X) (d : X) → 0 < x → x < 2 ^ k → count_trailing_zeros k x < length xs → items_where_true (word_bits x k) xs ≡ get_or xs (count_trailing_zeros k x) d ∷ items_where_true (word_bits (bit_and x (x - 1)) k) xs
  unfolding count_trailing_zeros word_bits
  picked_lowest zero x xs d p h l = let no : ⊥ = omega arith in absurd no
  picked_lowest (suc k) x [] d p h l = let no : ⊥ = omega arith in absurd no
  picked_lowest (suc k) x (y ∷ ys) d p h l = cases (λ r. x % 2 ≡ r → LowestFirst k x d y ys) (even (λ q r. picked_lowest k (x / 2) ys d q (omega (arith, pow-suc 2 k)) r)) odd (x % 2) (mod-lt x (zero-lt-suc 1)) refl
    where
      odd : x % 2 ≡ 1 → LowestFirst k x d y ys
      odd e =
          let c = odd_clears x e in
          ap (λ r. kept k r (x / 2) y ys) e
          ∙ ap₂ (λ u v. u ∷ v) (sym (ap (λ r. get_or (y ∷ ys) (under r (count_trailing_zeros k (x / 2))) d) e)) (sym (ap₂ (λ r t. kept k r t y ys) c.low c.half))

      even : (0 < x / 2 → count_trailing_zeros k (x / 2) < length ys → items_where_true (word_bits (x / 2) k) ys ≡ get_or ys (count_trailing_zeros k (x / 2)) d ∷ items_where_true (word_bits (bit_and (x / 2) (x / 2 - 1)) k) ys) → x % 2 ≡ 0 → LowestFirst k x d y ys
      even smaller e =
          let c = even_clears x p e in
          let place : under (x % 2) (count_trailing_zeros k (x / 2)) ≡ suc (count_trailing_zeros k (x / 2)) = ap (λ r. under r (count_trailing_zeros k (x / 2))) e in
          let below = smaller (omega arith) (omega arith) in
          ap (λ r. kept k r (x / 2) y ys) e ∙ below
          ∙ ap₂ (λ u v. u ∷ v) (sym (ap (λ r. get_or (y ∷ ys) (under r (count_trailing_zeros k (x / 2))) d) e)) (sym (ap₂ (λ r t. kept k r t y ys) c.low c.half))
