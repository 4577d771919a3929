-- The bits of a mask's words.
use Rattle.std.proofs.Common.{◌≡◌, ℕ, zero, suc, ◌+◌, ◌-◌, ◌*◌, ◌/◌, ◌%◌, ◌^◌, ◌<◌, ◌≤◌, Bool, true, false, cond, eqb, List, ◌++◌, length, get_or, take, drop, replicate, subst, eq-eqb, ne_eqb, eqb-true, refl, sym, ap, ap₂, ◌∙◌, arith}
use Rattle.std.specs.Int.RustNames.{count_ones}
use Rattle.std.proofs.lemmas.List.{drop-drop, drop_all, drop_at, get_or-drop, length-take, length-take-le, take-append-drop, take_all}
use Rattle.std.proofs.lemmas.Grind.{flat_map-append}
use Rattle.std.proofs.lemmas.List.Sums.{count_by-le-length, sum_by-append}
use Rattle.std.proofs.lemmas.Nat.{div-add-mod', mod_below, pow_pos, shr_below, zero_from_ones}
use Rattle.std.proofs.Math.Nat.{div-lt_iff_lt-mul}
use Rattle.vx_bits.specs.BitBuffer.{true_count_of}
use Rattle.vx_bits.specs.Words.{word_bits, word_count}
use Rattle.vx_bits.proofs.WordBits.{length-word_bits, true_count_of-word_bits, word_bits-append}
use Rattle.vx_filter.specs.Compact.{bits_of_words}
use Rattle.vx_mask.specs.Positions.{AllBits}
use Rattle.vx_words.specs.Masks.{count_of, mask_fault}
use Rattle.vx_filter.proofs.Copies.{length-bits_of_words, bits_more}
use Rattle.vx_bits.proofs.WordLists.{no_bits}

-- how many bits of the first words and of one more are set
pub count_more : (words : List ℕ) (w : ℕ) → w < length words → get_or words w 0 < 2 ^ 64 → count_of (take (w + 1) words) ≡ count_of (take w words) + count_ones (get_or words w 0)
count_more words w h fits =
    ap true_count_of (bits_more words w h) ∙ sum_by-append (λ bit. cond bit 1 0) (bits_of_words (take w words)) (word_bits (get_or words w 0) 64)
    ∙ ap (λ n. count_of (take w words) + n) (true_count_of-word_bits (get_or words w 0) 64 fits)

-- no more bits are set than there are
pub count_within : (words : List ℕ) → count_of words ≤ 64 * length words
count_within words = omega (arith, count_by-le-length (λ bit. bit) (bits_of_words words), length-bits_of_words words)

-- so a sum over the first words and one more fits
pub count_fits : (words : List ℕ) (w : ℕ) → w < length words → get_or words w 0 < 2 ^ 64 → count_of (take w words) + count_ones (get_or words w 0) ≤ 64 * length words
count_fits words w h fits = omega (arith, count_more words w h fits, count_within (take (w + 1) words), length-take-le (w + 1) words (omega arith))

-- the bits of a word from one of them on
pub drop-word_bits : (x r n : ℕ) → r ≤ n → drop r (word_bits x n) ≡ word_bits (x / 2 ^ r) (n - r)
drop-word_bits x r n h =
    let all : n ≡ r + (n - r) = omega arith in
    let whole : word_bits x n ≡ word_bits (x % 2 ^ r) r ++ word_bits (x / 2 ^ r) (n - r) =
    ap₂ word_bits (sym (div-add-mod' x (2 ^ r))) all ∙ word_bits-append (x % 2 ^ r) r (x / 2 ^ r) (n - r) (mod_below x (2 ^ r) (pow_pos r)) in
    ap (drop r) whole ∙ drop_at (word_bits (x % 2 ^ r) r) (word_bits (x / 2 ^ r) (n - r)) r (length-word_bits (x % 2 ^ r) r)

-- the bits past the rows are those of the last word, shifted down
pub past_count : (words : List ℕ) (rows : ℕ) → length words ≡ rows / 64 + 1 → get_or words (rows / 64) 0 < 2 ^ 64 → true_count_of (drop rows (bits_of_words words)) ≡ count_ones (get_or words (rows / 64) 0 / 2 ^ (rows % 64))
past_count words rows h fits =
    let w = rows / 64 in
    let r = rows % 64 in
    let x = get_or words w 0 in
    let front = bits_of_words (take w words) in
    let whole : bits_of_words words ≡ front ++ word_bits x 64 = ap bits_of_words (sym (take_all (w + 1) words (omega arith))) ∙ bits_more words w (omega arith) in
    let long : length front ≡ 64 * w = omega (arith, length-bits_of_words (take w words), length-take-le w words (omega arith)) in
    let place : rows ≡ 64 * w + r = omega arith in
    let low : r ≤ 64 = omega arith in
    let wide : 64 ≡ 64 - r + r = omega arith in
    let cut : drop rows (bits_of_words words) ≡ word_bits (x / 2 ^ r) (64 - r) =
    ap (drop rows) whole ∙ ap (λ n. drop n (front ++ word_bits x 64)) place
    ∙ sym (drop-drop r (64 * w) (front ++ word_bits x 64))
    ∙ ap (drop r) (drop_at front (word_bits x 64) (64 * w) long)
    ∙ drop-word_bits x r 64 low in
    let below : x < 2 ^ (64 - r + r) = subst (λ (n : ℕ). x < 2 ^ n) wide fits in
    ap true_count_of cut ∙ true_count_of-word_bits (x / 2 ^ r) (64 - r) (shr_below x (64 - r) r below)

-- where the rows fill the words, no bit is past them
pub none_past : (words : List ℕ) (rows : ℕ) → 64 * length words ≤ rows → true_count_of (drop rows (bits_of_words words)) ≡ 0
none_past words rows h = ap true_count_of (drop_all rows (bits_of_words words) (omega (arith, length-bits_of_words words)))

-- ---- set positions

-- the first words have no more set bits than all
pub count_below : (words : List ℕ) (w : ℕ) → count_of (take w words) ≤ count_of words
count_below words w =
    let both : bits_of_words words ≡ bits_of_words (take w words) ++ bits_of_words (drop w words) = ap bits_of_words (sym (take-append-drop w words)) ∙ flat_map-append (λ (x : ℕ). word_bits x 64) (take w words) (drop w words) in
    omega (arith, ap true_count_of both, sum_by-append (λ bit. cond bit 1 0) (bits_of_words (take w words)) (bits_of_words (drop w words)))

-- so do the first words and one more
pub room_for_word : (words : List ℕ) (w : ℕ) → w < length words → get_or words w 0 < 2 ^ 64 → count_of (take w words) + count_ones (get_or words w 0) ≤ count_of words
room_for_word words w h fits = omega (arith, count_more words w h fits, count_below words (w + 1))

-- a mask's set bits are at most as many as its rows
pub count_in_rows : (rows : ℕ) (words : List ℕ) → true_count_of (drop rows (bits_of_words words)) ≡ 0 → count_of words ≤ rows
count_in_rows rows words none =
    let bits = bits_of_words words in
    let both : bits ≡ take rows bits ++ drop rows bits = sym (take-append-drop rows bits) in
    omega (arith, ap true_count_of both, sum_by-append (λ bit. cond bit 1 0) (take rows bits) (drop rows bits), count_by-le-length (λ bit. bit) (take rows bits), length-take rows bits, none)

-- ---- faults

pub no_fault : (rows : ℕ) (words : List ℕ) → length words ≡ word_count rows → true_count_of (drop rows (bits_of_words words)) ≡ 0 → 0 ≡ mask_fault rows words
no_fault rows words e f =
    let past = true_count_of (drop rows (bits_of_words words)) in
    sym (ap (λ b. cond b (cond (eqb past 0) 0 2) 1) (eq-eqb (length words) (word_count rows) e) ∙ ap (λ b. cond b 0 2) (eq-eqb past 0 f))

pub bits_past : (rows : ℕ) (words : List ℕ) → length words ≡ word_count rows → (true_count_of (drop rows (bits_of_words words)) ≡ 0 → ⊥) → 2 ≡ mask_fault rows words
bits_past rows words e f =
    let past = true_count_of (drop rows (bits_of_words words)) in
    sym (ap (λ b. cond b (cond (eqb past 0) 0 2) 1) (eq-eqb (length words) (word_count rows) e) ∙ ap (λ b. cond b 0 2) (ne_eqb past 0 f))

-- what words without a fault are
pub record IsMask (rows : ℕ) (words : List ℕ) : Type 0 where
  pub lengths : length words ≡ word_count rows
  pub clear : AllBits (bits_of_words words) rows (64 * length words) false
  pub few : count_of words ≤ rows
  pub none : true_count_of (drop rows (bits_of_words words)) ≡ 0

abbrev fault_by : Bool → Bool → ℕ
fault_by a b = cond a (cond b 0 2) 1

both : (a b : Bool) → fault_by a b ≡ 0 → (a ≡ true) × (b ≡ true)
both true true h = (refl, refl)
both true false h = absurd (omega (arith, h))
both false b h = absurd (omega (arith, h))

clear_get : (n i : ℕ) → get_or (replicate n false) i false ≡ false
clear_get zero i = refl
clear_get (suc n) zero = refl
clear_get (suc n) (suc i) = clear_get n i

clear_past : (bits : List Bool) (rows k : ℕ) → rows ≤ k → true_count_of (drop rows bits) ≡ 0 → get_or bits k false ≡ false
clear_past bits rows k h none =
    let at : k ≡ rows + (k - rows) = omega arith in
    ap (λ n. get_or bits n false) at ∙ sym (get_or-drop rows bits (k - rows) false)
    ∙ ap (λ l. get_or l (k - rows) false) (no_bits (drop rows bits) none)
    ∙ clear_get (length (drop rows bits)) (k - rows)

pub is_mask : (rows : ℕ) (words : List ℕ) → mask_fault rows words ≡ 0 → IsMask rows words
is_mask rows words h =
    let past = true_count_of (drop rows (bits_of_words words)) in
    let tests = both (eqb (length words) (word_count rows)) (eqb past 0) h in
    record {
      lengths = eqb-true (length words) (word_count rows) tests.0;
      clear = λ k p q. clear_past (bits_of_words words) rows k p (eqb-true past 0 tests.1);
      few = count_in_rows rows words (eqb-true past 0 tests.1);
      none = eqb-true past 0 tests.1;
    }

-- what words that passed the test are
pub passed_mask : (rows : ℕ) (words : List ℕ) (fault : ℕ) → fault ≡ mask_fault rows words → fault ≡ 0 → IsMask rows words
passed_mask rows words fault e none = is_mask rows words (sym e ∙ none)

-- no bit of the last word is set past the rows
pub last_word_below : (rows : ℕ) (words : List ℕ) (w : ℕ) → mask_fault rows words ≡ 0 → w < length words → get_or words w 0 < 2 ^ 64 → rows < 64 * w + 64 → get_or words w 0 < 2 ^ (rows - 64 * w)
last_word_below rows words w e h fits short =
    let past = true_count_of (drop rows (bits_of_words words)) in
    let tests = both (eqb (length words) (word_count rows)) (eqb past 0) e in
    let lengths = eqb-true (length words) (word_count rows) tests.0 in
    let last : w ≡ rows / 64 = omega (arith, lengths) in
    let part : rows % 64 ≡ rows - 64 * w = omega (arith, lengths) in
    let long : length words ≡ rows / 64 + 1 = omega (arith, lengths) in
    let x = get_or words w 0 in
    let count = past_count words rows long (subst (λ (n : ℕ). get_or words n 0 < 2 ^ 64) last fits) in
    let none : x / 2 ^ (rows - 64 * w) ≡ 0 =
    ap₂ (λ n k. get_or words n 0 / 2 ^ k) last (sym part) ∙ zero_from_ones _ (sym count ∙ eqb-true past 0 tests.1) in
    let small : x / 2 ^ (rows - 64 * w) < 1 = omega (arith, none) in
    let above = (div-lt_iff_lt-mul (pow_pos (rows - 64 * w))).0 small in
    omega (arith, above)
