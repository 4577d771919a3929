-- The bits that digits name, eight at a time.
use Rattle.std.proofs.Common.{◌≡◌, ◌≢◌, ℕ, zero, suc, ◌+◌, ◌*◌, ◌/◌, ◌%◌, ◌^◌, ◌-◌, ◌<◌, ◌≤◌, ◌==◌, Bool, true, false, List, [], ◌∷◌, map, replicate, length, get_or, min, Some, None, refl, sym, ap, ap₂, ◌∙◌, arith, bit_and, Fits, w8, inl, inr}
use Rattle.std.specs.Int.{w64, from_le_bytes, bit_at}
use Rattle.std.proofs.lemmas.Bool.{cases_lt}
use Rattle.std.proofs.lemmas.Bool.Decides.{nat_tests}
use Rattle.std.proofs.lemmas.Nat.{and_le_l, and_mask}
use Rattle.std.proofs.lemmas.Nat.Bits.{same_from_bits, bit_at_and, bit_at_cat_low, bit_at_cat_high, and_high_mask}
use Rattle.vx_bits.specs.Words.{word_bits}
use Rattle.vx_bits.proofs.ByteLists.{by_eight}
use Rattle.vx_json.specs.BitText.{bit_named, bits_in}

-- the number that bytes spell, the lowest first
abbrev le : List ℕ → ℕ
le [] = 0
le (b ∷ bs) = b + 256 * le bs

abbrev AreBytes : List ℕ → Type 0
AreBytes [] = Unit {0}
AreBytes (b ∷ bs) = (b < 256) × AreBytes bs

-- a byte without its lowest bit, and that bit alone
abbrev even : ℕ → ℕ
even b = b / 2 * 2

abbrev odd : ℕ → ℕ
odd b = b % 2

abbrev is_odd : ℕ → Bool
is_odd b = odd b == 1

-- ---- `&` goes byte by byte
turn : (x y : ℕ) → x + 256 * y ≡ y * 2 ^ 8 + x
turn x y = omega arith

and-byte : (a r m q : ℕ) → a < 256 → m < 256 → bit_and (a + 256 * r) (m + 256 * q) ≡ bit_and a m + 256 * bit_and r q
and-byte a r m q ha hm =
    ap₂ bit_and (turn a r) (turn m q) ∙ same_from_bits (bit_and (r * 2 ^ 8 + a) (q * 2 ^ 8 + m)) (bit_and r q * 2 ^ 8 + bit_and a m) bits ∙ sym (turn (bit_and a m) (bit_and r q))
  where
    small : bit_and a m < 256
    small = let below : bit_and a m ≤ a = and_le_l a m in omega arith

    low : (i : ℕ) → i < 8 → bit_at (bit_and (r * 2 ^ 8 + a) (q * 2 ^ 8 + m)) i ≡ bit_at (bit_and r q * 2 ^ 8 + bit_and a m) i
    low i h =
        bit_at_and (r * 2 ^ 8 + a) (q * 2 ^ 8 + m) i ∙ ap₂ min (bit_at_cat_low r 8 a i h) (bit_at_cat_low q 8 m i h)
        ∙ sym (bit_at_and a m i) ∙ sym (bit_at_cat_low (bit_and r q) 8 (bit_and a m) i h)

    high : (i : ℕ) → 8 ≤ i → bit_at (bit_and (r * 2 ^ 8 + a) (q * 2 ^ 8 + m)) i ≡ bit_at (bit_and r q * 2 ^ 8 + bit_and a m) i
    high i h =
        bit_at_and (r * 2 ^ 8 + a) (q * 2 ^ 8 + m) i ∙ ap₂ min (bit_at_cat_high r 8 a i ha h) (bit_at_cat_high q 8 m i hm h)
        ∙ sym (bit_at_and r q (i - 8)) ∙ sym (bit_at_cat_high (bit_and r q) 8 (bit_and a m) i small h)

    bits : (i : ℕ) → bit_at (bit_and (r * 2 ^ 8 + a) (q * 2 ^ 8 + m)) i ≡ bit_at (bit_and r q * 2 ^ 8 + bit_and a m) i
    bits i = elim (cases_lt i 8) [ inl h ↦ low i h | inr h ↦ high i h ]

even_is : (b : ℕ) → b < 256 → bit_and b 254 ≡ even b
even_is b h = and_high_mask 8 1 (omega arith) b h

odd_is : (b : ℕ) → bit_and b 1 ≡ odd b
odd_is b = and_mask b 1

evens : (bs : List ℕ) → AreBytes bs → bit_and (le bs) (le (replicate (length bs) 254)) ≡ le (map even bs)
evens [] h = refl
evens (b ∷ bs) h = and-byte b (le bs) 254 (le (replicate (length bs) 254)) h.0 (omega arith) ∙ ap₂ (λ (x : ℕ) (y : ℕ). x + 256 * y) (even_is b h.0) (evens bs h.1)

odds : (bs : List ℕ) → AreBytes bs → bit_and (le bs) (le (replicate (length bs) 1)) ≡ le (map odd bs)
odds [] h = refl
odds (b ∷ bs) h = and-byte b (le bs) 1 (le (replicate (length bs) 1)) h.0 (omega arith) ∙ ap₂ (λ (x : ℕ) (y : ℕ). x + 256 * y) (odd_is b) (odds bs h.1)

-- ---- which bytes are digits
digit : (b : ℕ) → even b ≡ 48 → bit_named b ≡ Some (is_odd b)
digit b h =
    let is : b ≡ 48 + odd b = omega arith in
    ap bit_named is ∙ bit_of (odd b) (omega arith)
  where
    bit_of : (d : ℕ) → d < 2 → bit_named (48 + d) ≡ Some (d == 1)
    bit_of zero h = refl
    bit_of (suc zero) h = refl
    bit_of (suc (suc d)) h = absurd (omega arith)

no_digit : (b : ℕ) → even b ≢ 48 → bit_named b ≡ None
no_digit b h =
    let zero_digit : (b == 48) ≡ false = grind (arith, nat_tests) in
    let one_digit : (b == 49) ≡ false = grind (arith, nat_tests) in
    rw (zero_digit, one_digit) refl

all_digits : (bs : List ℕ) → AreBytes bs → le (map even bs) ≡ le (replicate (length bs) 48) → bits_in bs ≡ Some (map is_odd bs)
unfolding bits_in
all_digits [] h e = refl
all_digits (b ∷ bs) h e =
    let this : even b ≡ 48 = omega arith in
    let rest : le (map even bs) ≡ le (replicate (length bs) 48) = omega arith in
    rw (digit b this, all_digits bs h.1 rest) refl

not_all_digits : (bs : List ℕ) → AreBytes bs → le (map even bs) ≢ le (replicate (length bs) 48) → bits_in bs ≡ None
unfolding bits_in
not_all_digits [] h e = absurd (e refl)
not_all_digits (b ∷ bs) h e = by (not_all_digits bs h.1) (even b == 48) refl
  where
    by : (le (map even bs) ≢ le (replicate (length bs) 48) → bits_in bs ≡ None) → (v : Bool) → (even b == 48) ≡ v → bits_in (b ∷ bs) ≡ None
    by tail true t =
        let this : even b ≡ 48 = grind (arith, nat_tests) in
        rw (digit b this, tail (λ rest. e (ap₂ (λ (x : ℕ) (y : ℕ). x + 256 * y) this rest))) refl
    by tail false t =
        let other : even b ≢ 48 = grind (arith, nat_tests) in
        rw (no_digit b other) refl

-- ---- eight low bits into one byte
pub word_bits-cons : (d r n : ℕ) → d < 2 → word_bits (d + 2 * r) (suc n) ≡ (d == 1) ∷ word_bits r n
unfolding word_bits
word_bits-cons d r n h =
    let low : (d + 2 * r) % 2 ≡ d = omega arith in
    let high : (d + 2 * r) / 2 ≡ r = omega arith in
    rw (low, high) refl

word_bits-last : (d : ℕ) → d < 2 → word_bits d 1 ≡ (d == 1) ∷ []
unfolding word_bits
word_bits-last d h = let low : d % 2 ≡ d = omega arith in rw low refl

moved : (a b c d e f g h : ℕ) → a < 2 → b < 2 → c < 2 → d < 2 → e < 2 → f < 2 → g < 2 → h < 2 → le (a ∷ b ∷ c ∷ d ∷ e ∷ f ∷ g ∷ h ∷ []) * 72624976668147840 % 2 ^ 64 / 2 ^ 56 ≡ a + 2 * (b + 2 * (c + 2 * (d + 2 * (e + 2 * (f + 2 * (g + 2 * h))))))
moved a b c d e f g h pa pb pc pd pe pf pg ph =
    let high = 1 * b + 258 * c + 66052 * d + 16909320 * e + 4328785936 * f + 1108169199648 * g + 283691315109952 * h in
    let low = 567382630219904 * a + 1134765260439552 * b + 2269530520813568 * c + 4539061024849920 * d + 9078117754732544 * e + 18155135997837312 * f + 36028797018963968 * g in
    let byte = a + 2 * (b + 2 * (c + 2 * (d + 2 * (e + 2 * (f + 2 * (g + 2 * h)))))) in
    let whole : le (a ∷ b ∷ c ∷ d ∷ e ∷ f ∷ g ∷ h ∷ []) * 72624976668147840 ≡ 18446744073709551616 * high + (72057594037927936 * byte + low) = omega arith in
    let below : low < 72057594037927936 = omega arith in
    let small : byte < 256 = omega arith in
    let rest : le (a ∷ b ∷ c ∷ d ∷ e ∷ f ∷ g ∷ h ∷ []) * 72624976668147840 % 2 ^ 64 ≡ 72057594037927936 * byte + low = omega arith in
    rw rest (omega arith)

gathered : (a b c d e f g h : ℕ) → a < 2 → b < 2 → c < 2 → d < 2 → e < 2 → f < 2 → g < 2 → h < 2 → word_bits (a + 2 * (b + 2 * (c + 2 * (d + 2 * (e + 2 * (f + 2 * (g + 2 * h))))))) 8 ≡ (a == 1) ∷ (b == 1) ∷ (c == 1) ∷ (d == 1) ∷ (e == 1) ∷ (f == 1) ∷ (g == 1) ∷ (h == 1) ∷ []
unfolding word_bits
gathered a b c d e f g h pa pb pc pd pe pf pg ph =
    word_bits-cons a (b + 2 * (c + 2 * (d + 2 * (e + 2 * (f + 2 * (g + 2 * (h))))))) 7 pa
    ∙ ap (λ l. (a == 1) ∷ l) (word_bits-cons b (c + 2 * (d + 2 * (e + 2 * (f + 2 * (g + 2 * (h)))))) 6 pb)
    ∙ ap (λ l. (a == 1) ∷ (b == 1) ∷ l) (word_bits-cons c (d + 2 * (e + 2 * (f + 2 * (g + 2 * (h))))) 5 pc)
    ∙ ap (λ l. (a == 1) ∷ (b == 1) ∷ (c == 1) ∷ l) (word_bits-cons d (e + 2 * (f + 2 * (g + 2 * (h)))) 4 pd)
    ∙ ap (λ l. (a == 1) ∷ (b == 1) ∷ (c == 1) ∷ (d == 1) ∷ l) (word_bits-cons e (f + 2 * (g + 2 * (h))) 3 pe)
    ∙ ap (λ l. (a == 1) ∷ (b == 1) ∷ (c == 1) ∷ (d == 1) ∷ (e == 1) ∷ l) (word_bits-cons f (g + 2 * (h)) 2 pf)
    ∙ ap (λ l. (a == 1) ∷ (b == 1) ∷ (c == 1) ∷ (d == 1) ∷ (e == 1) ∷ (f == 1) ∷ l) (word_bits-cons g (h) 1 pg)
    ∙ ap (λ l. (a == 1) ∷ (b == 1) ∷ (c == 1) ∷ (d == 1) ∷ (e == 1) ∷ (f == 1) ∷ (g == 1) ∷ l) (word_bits-last h ph)

-- ---- eight digits

-- the lowest bits of eight bytes, as one byte
abbrev gathered_of : List ℕ → ℕ
gathered_of bs = le (map odd bs) * 72624976668147840 % 2 ^ 64 / 2 ^ 56

record IsWord (bs : List ℕ) : Type 0 where
  bytes : AreBytes bs
  word : from_le_bytes w64 bs ≡ le bs
  bits : word_bits (gathered_of bs) 8 ≡ map is_odd bs

word_is : (bs : List ℕ) → length bs ≡ 8 → ((i : ℕ) → Fits w8 (get_or bs i 0)) → IsWord bs
word_is bs n s = by_eight (λ l. ((i : ℕ) → Fits w8 (get_or l i 0)) → IsWord l) of bs n s
  where
    of : (a b c d e f g h : ℕ) → ((i : ℕ) → Fits w8 (get_or (a ∷ b ∷ c ∷ d ∷ e ∷ f ∷ g ∷ h ∷ []) i 0)) → IsWord (a ∷ b ∷ c ∷ d ∷ e ∷ f ∷ g ∷ h ∷ [])
    of a b c d e f g h s =
        let below : (x : ℕ) → odd x < 2 = λ x. omega arith in
        let byte : (k : ℕ) → get_or (a ∷ b ∷ c ∷ d ∷ e ∷ f ∷ g ∷ h ∷ []) k 0 < 256 = λ k. omega (arith, s k) in
        record {
          bytes = (byte 0, (byte 1, (byte 2, (byte 3, (byte 4, (byte 5, (byte 6, (byte 7, tt))))))));
          word = omega arith;
          bits = ap (λ (w : ℕ). word_bits w 8) (moved (odd a) (odd b) (odd c) (odd d) (odd e) (odd f) (odd g) (odd h) (below a) (below b) (below c) (below d) (below e) (below f) (below g) (below h)) ∙ gathered (odd a) (odd b) (odd c) (odd d) (odd e) (odd f) (odd g) (odd h) (below a) (below b) (below c) (below d) (below e) (below f) (below g) (below h);
        }

module _ (bs : List ℕ) (word : ℕ) (n : length bs ≡ 8) (s : (i : ℕ) → Fits w8 (get_or bs i 0)) (is : word ≡ from_le_bytes w64 bs) where
  evens_of : bit_and word 18374403900871474942 ≡ le (map even bs)
  evens_of =
      let w = word_is bs n s in
      let mask : le (replicate (length bs) 254) ≡ 18374403900871474942 = ap (λ (k : ℕ). le (replicate k 254)) n in
      ap₂ bit_and (is ∙ w.word) (sym mask) ∙ evens bs w.bytes

  tens : le (replicate (length bs) 48) ≡ 3472328296227680304
  tens = ap (λ (k : ℕ). le (replicate k 48)) n

  -- the test of a whole word
  pub digits_fail : bit_and word 18374403900871474942 ≢ 3472328296227680304 → bits_in bs ≡ None
  digits_fail other = not_all_digits bs (word_is bs n s).bytes (λ e. other (evens_of ∙ e ∙ tens))

  pub digits_read : bit_and word 18374403900871474942 ≡ 3472328296227680304 → bits_in bs ≡ Some (word_bits (bit_and word 72340172838076673 * 72624976668147840 % 2 ^ 64 / 2 ^ 56) 8)
  digits_read same =
      let w = word_is bs n s in
      let mask : le (replicate (length bs) 1) ≡ 72340172838076673 = ap (λ (k : ℕ). le (replicate k 1)) n in
      let low : bit_and word 72340172838076673 ≡ le (map odd bs) = ap₂ bit_and (is ∙ w.word) (sym mask) ∙ odds bs w.bytes in
      all_digits bs w.bytes (sym evens_of ∙ same ∙ sym tens) ∙ ap Some (sym (ap (λ (x : ℕ). word_bits (x * 72624976668147840 % 2 ^ 64 / 2 ^ 56) 8) low ∙ w.bits))
