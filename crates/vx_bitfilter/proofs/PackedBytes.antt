-- What parts of a word pack of parts of another.
use Rattle.std.proofs.Common.{◌≡◌, ℕ, zero, suc, ◌+◌, ◌-◌, ◌*◌, ◌/◌, ◌%◌, ◌^◌, ◌<◌, ◌≤◌, Bool, true, false, cond, eqb, List, [], ◌∷◌, ◌++◌, length, get_or, replicate, bit_or, refl, sym, ap, ap₂, subst, ◌∙◌, arith, append-nil}
use Rattle.std.specs.Int.RustNames.{count_ones}
use Rattle.std.specs.List.{items_where_true}
use Rattle.std.proofs.lemmas.List.{replicate-append-replicate}
use Rattle.std.proofs.lemmas.List.FromFn.{get_or-map-range_with_len, length-map-range_with_len, map-range_with_len_more}
use Rattle.std.proofs.lemmas.Nat.{mod_below, or_comm, or_shifted, pow_pos, shl_whole}
use Rattle.std.proofs.Math.Nat.{mod-eq_of_lt}
use Rattle.std.proofs.Math.Pow.{pow_mono}
use lib.Count.{ones-le}
use Rattle.vx_bits.specs.BitBuffer.{number_of}
use Rattle.vx_bits.specs.Words.{word_bits}
use Rattle.vx_bits.proofs.BitLists.{number_below}
use Rattle.vx_bits.proofs.BuiltLists.{joined_below}
use Rattle.vx_bits.proofs.WordBits.{length-word_bits, number_of-word_bits, word_bits-append, word_bits-none, word_bits_low, zero-word_bits}
use Rattle.vx_bits.proofs.WordLists.{picked_clear, picked_no_word}
use Rattle.vx_bitfilter.specs.Pext.{pext}
use Rattle.vx_bitfilter.specs.Table.{first_entries}
use Rattle.vx_bitfilter.proofs.PackedBits.{picked_bits}
use Rattle.vx_bitfilter.proofs.PackedLaws.{count_picked, pext-word_bits}
use Rattle.vx_bits.proofs.ByteWords.{word_split}

-- ---- the lowest bits

module _ {X : Type 0} where
  pub picked_both : (front back : List Bool) (xs ys : List X) → length front ≡ length xs → items_where_true (front ++ back) (xs ++ ys) ≡ items_where_true front xs ++ items_where_true back ys
  picked_both [] back [] ys h = refl
  picked_both [] back (x ∷ xs) ys h = absurd (omega arith)
  picked_both (b ∷ front) back [] ys h = absurd (omega arith)
  picked_both (true ∷ front) back (x ∷ xs) ys h = ap (λ l. x ∷ l) (picked_both front back xs ys (omega arith))
  picked_both (false ∷ front) back (x ∷ xs) ys h = picked_both front back xs ys (omega arith)

-- a mask below 2 ^ a picks of the lowest a bits
picked_low : (src mask a b : ℕ) → mask < 2 ^ a → items_where_true (word_bits mask (a + b)) (word_bits src (a + b)) ≡ items_where_true (word_bits mask a) (word_bits src a)
picked_low src mask a b h =
    let above = word_bits (src / 2 ^ a) b in
    let none : 0 * 2 ^ a + mask ≡ mask = omega arith in
    let zeros : word_bits mask (a + b) ≡ word_bits mask a ++ replicate b false =
    sym (ap (λ x. word_bits x (a + b)) none) ∙ word_bits-append mask a 0 b h ∙ ap (λ l. word_bits mask a ++ l) (zero-word_bits b) in
    ap₂ items_where_true zeros (word_split src a b)
    ∙ picked_both (word_bits mask a) (replicate b false) (word_bits src a) above (length-word_bits mask a ∙ sym (length-word_bits src a))
    ∙ ap (λ l. items_where_true (word_bits mask a) (word_bits src a) ++ l) (picked_clear b above)
    ∙ append-nil _

-- ---- one more bit

one_more : (b x : Bool) (bs xs : List Bool) → number_of (items_where_true (b ∷ bs) (x ∷ xs)) ≡ cond b (cond x 1 0 + 2 * number_of (items_where_true bs xs)) (number_of (items_where_true bs xs))
one_more true x bs xs = refl
one_more false x bs xs = refl

halves : (src mask n : ℕ) → number_of (items_where_true (word_bits mask (suc n)) (word_bits src (suc n))) ≡ cond (eqb (mask % 2) 1) (cond (eqb (src % 2) 1) 1 0 + 2 * number_of (items_where_true (word_bits (mask / 2) n) (word_bits (src / 2) n))) (number_of (items_where_true (word_bits (mask / 2) n) (word_bits (src / 2) n)))
unfolding word_bits
halves src mask n = one_more (eqb (mask % 2) 1) (eqb (src % 2) 1) (word_bits (mask / 2) n) (word_bits (src / 2) n)

-- what a word packs, by what its upper bits pack of the upper bits
pext_halves : (src mask : ℕ) → mask < 2 ^ 64 → pext src mask ≡ cond (eqb (mask % 2) 1) (cond (eqb (src % 2) 1) 1 0 + 2 * pext (src / 2) (mask / 2)) (pext (src / 2) (mask / 2))
unfolding pext
pext_halves src mask h =
    let low = ap number_of (picked_low (src / 2) (mask / 2) 63 1 (omega arith)) in
    halves src mask 63 ∙ sym (ap (λ (n : ℕ). cond (eqb (mask % 2) 1) (cond (eqb (src % 2) 1) 1 0 + 2 * n) n) low)

pub pext-none : (src mask : ℕ) → mask ≡ 0 → pext src mask ≡ 0
unfolding pext
pext-none src mask e = ap number_of (picked_no_word mask (word_bits src 64) e)

pub pext_below : (src mask : ℕ) → mask < 2 ^ 64 → pext src mask < 2 ^ count_ones mask
unfolding pext
pext_below src mask h = let count = count_picked src mask h in let b = number_below (picked_bits src mask) in let same : 2 ^ length (picked_bits src mask) ≡ 2 ^ count_ones mask = ap (λ n. 2 ^ n) count in omega arith

-- fewer bits in the mask, fewer in what is packed
pub entry_small : (src mask n : ℕ) → mask < 2 ^ n → n ≤ 64 → pext src mask < 2 ^ n
entry_small src mask n h short =
    let fits : 2 ^ n ≤ 2 ^ 64 = pow_mono short in
    let few : count_ones mask ≤ n = ones-le n mask h in
    let small : 2 ^ count_ones mask ≤ 2 ^ n = pow_mono few in
    omega (arith, pext_below src mask (omega arith))

-- ---- the entries

abbrev entry : ℕ → ℕ
entry i = pext (i % 256) (i / 256)

pub length-first_entries : (n : ℕ) → length (first_entries n) ≡ n
unfolding first_entries
length-first_entries n = length-map-range_with_len entry 0 n

pub entry_at : (n i src mask d : ℕ) → i < n → i ≡ 256 * mask + src → src < 256 → get_or (first_entries n) i d ≡ pext src mask
unfolding first_entries
entry_at n i src mask d h e small =
    let low : i % 256 ≡ src = omega arith in
    let high : i / 256 ≡ mask = omega arith in
    get_or-map-range_with_len entry 0 n i i d h (omega arith) ∙ ap₂ pext low high

-- what the upper bits of a mask pack of the upper bits of a byte
pub record IsUpper (x upper mask : ℕ) : Type 0 where
  pub value : x ≡ pext upper (mask / 2)
  pub small : x < 128

pub upper_entry : (entries : List ℕ) (n upper mask x d : ℕ) → entries ≡ first_entries n → 256 * mask ≤ n → 0 < mask → mask < 256 → upper < 128 → x ≡ get_or entries (256 * (mask / 2) + upper) d → IsUpper x upper mask
upper_entry entries n upper mask x d e within some fits short f =
    let half = mask / 2 in
    let i = 256 * half + upper in
    let is : x ≡ pext upper half = f ∙ ap (λ l. get_or l i d) e ∙ entry_at n i upper half d (omega arith) refl (omega arith) in
    record { value = is; small = omega (arith, is, entry_small upper half 7 (omega arith) (omega arith)) }

-- one more entry
pub entry_pushed : (before after : List ℕ) (n m x src mask : ℕ) → before ≡ first_entries n → after ≡ before ++ x ∷ [] → n ≡ 256 * mask + src → src < 256 → x ≡ pext src mask → m ≡ n + 1 → after ≡ first_entries m
unfolding first_entries
entry_pushed before after n m x src mask e f at small is next =
    let low : src ≡ n % 256 = omega arith in
    let high : mask ≡ n / 256 = omega arith in
    f ∙ ap₂ (λ l y. l ++ y ∷ []) e (is ∙ ap₂ pext low high) ∙ sym (map-range_with_len_more entry 0 n n (omega arith)) ∙ sym (ap first_entries next)

pub zero_pushed : (before after : List ℕ) (n : ℕ) → before ≡ first_entries n → after ≡ before ++ 0 ∷ [] → n < 256 → after ≡ first_entries (n + 1)
zero_pushed before after n e f h = entry_pushed before after n (n + 1) 0 n 0 e f (omega arith) h (sym (pext-none n 0 refl)) refl

-- the mask 0 packs nothing
pub zero_row : (n : ℕ) → n ≤ 256 → replicate n 0 ≡ first_entries n
unfolding first_entries
zero_row zero h = refl
zero_row (suc n) h =
    let more : n + 1 ≡ suc n = omega arith in
    ap (λ k. replicate k 0) (sym more) ∙ sym (replicate-append-replicate n 1 0)
    ∙ zero_pushed (replicate n 0) _ n (zero_row n (omega arith)) refl (omega arith) ∙ ap first_entries more

-- an entry of a row, by one of the row of the upper bits
pub entry_by_half : (mask upper bit packed : ℕ) → mask < 256 → bit < 2 → packed ≡ pext upper (mask / 2) → cond (eqb (mask % 2) 1) (bit + 2 * packed) packed ≡ pext (2 * upper + bit) mask
entry_by_half mask upper bit packed h b e =
    let half : (2 * upper + bit) / 2 ≡ upper = omega arith in
    let low : (2 * upper + bit) % 2 ≡ bit = omega arith in
    ap (λ (n : ℕ). cond (eqb (mask % 2) 1) (bit + 2 * n) n) e
    ∙ ap₂ (λ (d n : ℕ). cond (eqb (mask % 2) 1) (d + 2 * n) n) (sym (digit_of bit b)) refl
    ∙ sym (pext_halves (2 * upper + bit) mask (omega arith) ∙ ap₂ (λ d u. cond (eqb (mask % 2) 1) (cond (eqb d 1) 1 0 + 2 * pext u (mask / 2)) (pext u (mask / 2))) low half)
  where
    digit_of : (d : ℕ) → d < 2 → ◌≡◌ {A = ℕ} (cond (eqb d 1) 1 0) d
    digit_of zero h = refl
    digit_of (suc zero) h = refl
    digit_of (suc (suc d)) h = absurd (omega arith)

-- ---- a part at a time

-- the bits of the words below `at` are packed
pub record IsPacked (src mask packed held at : ℕ) : Type 0 where
  pub value : word_bits packed held ≡ items_where_true (word_bits mask at) (word_bits src at)
  pub below : packed < 2 ^ held
  pub short : held ≤ at

pub none_packed : (src mask : ℕ) → IsPacked src mask 0 0 0
none_packed src mask = record {
  value = word_bits-none 0 ∙ sym (ap₂ items_where_true (word_bits-none mask) (word_bits-none src));
  below = omega arith;
  short = omega arith;
}

-- the `b` bits of a word from bit `at` on
abbrev pub part : ℕ → ℕ → ℕ → ℕ
part w at b = w / 2 ^ at % 2 ^ b

bits_more : (w at b : ℕ) → word_bits w (at + b) ≡ word_bits w at ++ word_bits (part w at b) b
bits_more w at b = word_split w at b ∙ ap (λ l. word_bits w at ++ l) (sym (word_bits_low (w / 2 ^ at) b))

pub part_packed : (src mask packed held at b next x after more : ℕ) → at + b ≤ 64 → next ≡ at + b → x ≡ pext (part src at b) (part mask at b) → after ≡ bit_or packed (x * 2 ^ held % 2 ^ 64) → more ≡ held + count_ones (part mask at b) → IsPacked src mask packed held at → IsPacked src mask after more next
part_packed src mask packed held at b next x after more h to e f g v =
    let s = part src at b in
    let m = part mask at b in
    let count = count_ones m in
    let small : m < 2 ^ b = mod_below (mask / 2 ^ at) (2 ^ b) (pow_pos b) in
    let narrow : b ≤ 64 = omega arith in
    let wide : 2 ^ b ≤ 2 ^ 64 = pow_mono narrow in
    let fits : m < 2 ^ 64 = omega (arith, small, wide) in
    let few : count ≤ b = ones-le b m small in
    let old = v.short in
    let bound = pext_below s m fits in
    let tight : x < 2 ^ count = omega (arith, e, bound) in
    let part_wide : x < 2 ^ b = omega (arith, e, entry_small s m b small narrow) in
    let is : after ≡ x * 2 ^ held + packed = f ∙ ap (bit_or packed) (shl_whole x b held 64 part_wide (omega (arith, old, h))) ∙ or_comm packed (x * 2 ^ held) ∙ or_shifted x held packed v.below in
    let below : after < 2 ^ (held + count) = joined_below packed held x count after v.below tight is in
    let bits : word_bits after (held + count) ≡ word_bits packed held ++ word_bits x count = ap (λ y. word_bits y (held + count)) is ∙ word_bits-append packed held x count v.below in
    let whole : b + (64 - b) ≡ 64 = omega arith in
    let picked : word_bits x count ≡ items_where_true (word_bits m b) (word_bits s b) =
    pext-word_bits s m x fits e ∙ ap (λ n. items_where_true (word_bits m n) (word_bits s n)) (sym whole) ∙ picked_low s m b (64 - b) small in
    record {
      value = ap (word_bits after) g ∙ bits ∙ ap₂ ◌++◌ v.value picked
          ∙ sym (ap₂ items_where_true (bits_more mask at b) (bits_more src at b)
          ∙ picked_both (word_bits mask at) (word_bits m b) (word_bits src at) (word_bits s b) (length-word_bits mask at ∙ sym (length-word_bits src at)))
          ∙ ap (λ n. items_where_true (word_bits mask n) (word_bits src n)) (sym to);
      below = subst (λ (n : ℕ). after < 2 ^ n) (sym g) below;
      short = omega (arith, old, few, g, to);
    }

-- all parts are the word
pub all_packed : (src mask packed held at : ℕ) → at ≡ 64 → IsPacked src mask packed held at → packed ≡ pext src mask
unfolding pext
all_packed src mask packed held at all v =
    sym (mod-eq_of_lt v.below) ∙ sym (number_of-word_bits packed held)
    ∙ ap number_of (v.value ∙ ap (λ n. items_where_true (word_bits mask n) (word_bits src n)) all)
