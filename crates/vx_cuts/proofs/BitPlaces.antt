-- Bits of lists at places.
use Rattle.std.proofs.Common.{◌≡◌, ℕ, suc, ◌+◌, ◌*◌, ◌^◌, ◌<◌, ◌≤◌, Bool, true, false, eqb, List, [], length, get_or, map, cond, sym, ap, ap₂, subst, ◌∙◌, arith}
use Rattle.std.specs.Prelude.{◌||◌, nat_lt}
use Rattle.std.specs.List.{range_with_len}
use Rattle.std.proofs.lemmas.Bool.{true_from_ne_false}
use Rattle.std.proofs.lemmas.Bool.Decides.{nat_tests}
use Rattle.std.proofs.lemmas.List.{get_or-map, get_or_past}
use Rattle.std.proofs.lemmas.List.Folds.{list_all_at}
use Rattle.std.proofs.lemmas.List.FromFn.{length-map-range_with_len}
use Rattle.std.proofs.Math.Pow.{pow_mono}
use Rattle.vx_bits.specs.BitBuffer.{number_of}
use Rattle.vx_bits.proofs.BitLists.{number_below}
use Rattle.vx_words.proofs.BitWords.{length-bits_at}
use Rattle.vx_take.specs.Picks.{null_place}
use Rattle.vx_cuts.specs.Interleaving.{is_inside, list_at}
use Rattle.vx_cuts.specs.Bits.{all_held, bits_in, bits_of, is_held}
use Rattle.vx_cuts.specs.declared.bits.BitRows.{BitRows}

-- a list of many that are held
pub held_at : (lists : List BitRows) (k : ℕ) (d : BitRows) → all_held lists ≡ true → k < length lists → is_held (get_or lists k d) ≡ true
held_at lists k d h below = true_from_ne_false (is_held (get_or lists k d)) (λ no. true_is_false (sym h ∙ list_all_at is_held lists k d below no))
  where
    true_is_false : true ≡ false → ⊥
    true_is_false e = grind (arith, nat_tests)

-- its bits
pub bits_at_place : (lists : List BitRows) (k : ℕ) (d : BitRows) → k < length lists → list_at (bits_in lists) k ≡ bits_of (get_or lists k d)
bits_at_place lists k d below = get_or-map bits_of lists k d [] below

pub length-bits_of : (list : BitRows) → is_held list ≡ true → length (bits_of list) ≡ list.len
length-bits_of list h = length-bits_at list.words.now list.at list.len (grind (arith, nat_tests))

-- a place that is no null's, of a list that is there
pub inside_is : (lists : List BitRows) (part row : ℕ) (d : BitRows) → all_held lists ≡ true → (part ≡ null_place → ⊥) → part < length lists → d ≡ get_or lists part d → nat_lt row d.len ≡ is_inside (bits_in lists) part row
inside_is lists part row d held there below is =
    let long : length (list_at (bits_in lists) part) ≡ d.len = ap length (bits_at_place lists part d below) ∙ length-bits_of (get_or lists part d) (held_at lists part d held below) ∙ ap (λ (b : BitRows). b.len) (sym is) in
    let no_null : eqb part null_place ≡ false = grind (arith, nat_tests) in
    sym (ap₂ (λ (b : Bool) (n : ℕ). b || nat_lt row n) no_null long)

-- a place that is inside, and no null's
pub inside_within : {X : Type 0} (lists : List (List X)) (part row : ℕ) → is_inside lists part row ≡ true → (part ≡ null_place → ⊥) → (part < length lists) × (row < length (list_at lists part))
inside_within {X} lists part row h there =
    let no_null : eqb part null_place ≡ false = grind (arith, nat_tests) in
    let row_in : nat_lt row (length (list_at lists part)) ≡ true = sym (ap (λ (b : Bool). b || nat_lt row (length (list_at lists part))) no_null) ∙ h in
    let short : row < length (list_at lists part) = grind (arith, nat_tests) in
    let past : length lists ≤ part → ⊥ = λ no. let e : length (list_at lists part) ≡ 0 = ap length (get_or_past lists part [] no) in omega arith in
    (grind (arith, past), short)

-- one bit more, below the others
pub word_more : (bit : ℕ → Bool) (k next j word : ℕ) → next ≡ k + 1 → word ≡ number_of (map bit (range_with_len next j)) → 2 * word + cond (bit k) 1 0 ≡ number_of (map bit (range_with_len k (j + 1)))
word_more bit k next j word e is =
    let last : j + 1 ≡ suc j = omega arith in
    let so : word ≡ number_of (map bit (range_with_len (k + 1) j)) = is ∙ ap (λ (n : ℕ). number_of (map bit (range_with_len n j))) e in
    let more : number_of (map bit (range_with_len k (j + 1))) ≡ cond (bit k) 1 0 + 2 * number_of (map bit (range_with_len (k + 1) j)) = ap (λ (n : ℕ). number_of (map bit (range_with_len k n))) last in
    omega (arith, so, more)

-- a word of so many bits
pub word_below : (bit : ℕ → Bool) (k j n word : ℕ) → word ≡ number_of (map bit (range_with_len k j)) → j ≤ n → word < 2 ^ n
word_below bit k j n word is few =
    let bits = map bit (range_with_len k j) in
    let long : length bits ≡ j = length-map-range_with_len bit k j in
    let below : word < 2 ^ j = subst (λ (x : ℕ). x < 2 ^ j) (sym is) (subst (λ (i : ℕ). number_of bits < 2 ^ i) long (number_below bits)) in
    omega (arith, below, pow_mono few)
