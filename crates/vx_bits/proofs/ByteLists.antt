-- The bits of bytes that are joined, and of bytes that spell a word.
use Rattle.std.proofs.Common.{◌≡◌, ℕ, zero, suc, ◌+◌, ◌*◌, ◌/◌, ◌%◌, ◌^◌, ◌<◌, ◌≤◌, Bool, true, false, eqb, List, [], ◌∷◌, ◌++◌, length, get_or, replicate, refl, sym, ap, ap₂, ◌∙◌, arith}
use Rattle.std.specs.Int.{bit_at, w64, from_le_bytes, to_le_bytes}
use Rattle.std.specs.List.{flat_map}
use Rattle.std.proofs.lemmas.List.{same_lists, append-nil, length-append, length-replicate, get_or-replicate, get_or_append_left, drop_at}
use Rattle.std.proofs.lemmas.Nat.{from_le_bytes-to_le_bytes_8}
use Rattle.std.proofs.lemmas.Nat.Bits.{bit_at_ones, bit_at-zero}
use Rattle.vx_bits.specs.BitBuffer.{bits_of}
use Rattle.vx_bits.specs.Words.{word_bits}
use Rattle.vx_bits.proofs.BitLists.{length_bits, bit_in, bits_split, bits_drop, bits_of_byte}
use Rattle.vx_bits.proofs.WordBits.{word_bits-append}

-- ---- bytes that are joined

-- bytes behind the bits play no part
pub bits_front : (xs ys : List ℕ) (n : ℕ) → n ≤ 8 * length xs → bits_of (xs ++ ys) 0 n ≡ bits_of xs 0 n
bits_front xs ys n h = same_lists _ _ (length_bits (xs ++ ys) 0 n ∙ sym (length_bits xs 0 n)) (λ k d p.
    let below : k < n = omega (arith, length_bits (xs ++ ys) 0 n) in
    let byte : (0 + k) / 8 < length xs = omega arith in
    bit_in (xs ++ ys) 0 n k d below
    ∙ ap (λ x. eqb (bit_at x ((0 + k) % 8)) 1) (get_or_append_left xs ys 0 ((0 + k) / 8) byte)
    ∙ sym (bit_in xs 0 n k d below))

pub bits_joined : (xs ys : List ℕ) → bits_of (xs ++ ys) 0 (8 * length (xs ++ ys)) ≡ bits_of xs 0 (8 * length xs) ++ bits_of ys 0 (8 * length ys)
bits_joined xs ys =
    let n = 8 * length xs in
    let whole : 8 * length (xs ++ ys) ≡ n + 8 * length ys = omega (arith, length-append xs ys) in
    let there : 8 * length xs + 0 ≡ 0 + n = omega arith in
    ap (bits_of (xs ++ ys) 0) whole
    ∙ bits_split (xs ++ ys) 0 n (8 * length ys)
    ∙ ap₂ ◌++◌ (bits_front xs ys n (omega arith))
    (ap (λ j. bits_of (xs ++ ys) j (8 * length ys)) (sym there) ∙ sym (bits_drop (xs ++ ys) (length xs) 0 (8 * length ys)) ∙ ap (λ l. bits_of l 0 (8 * length ys)) (drop_at xs ys (length xs) refl))

-- ---- bytes that are all alike

pub bits_of_zeros : (k : ℕ) → bits_of (replicate k 0) 0 (8 * k) ≡ replicate (8 * k) false
bits_of_zeros k = same_lists _ _ (length_bits (replicate k 0) 0 (8 * k) ∙ sym (length-replicate (8 * k) false)) (λ i d p.
    let below : i < 8 * k = omega (arith, length_bits (replicate k 0) 0 (8 * k)) in
    bit_in (replicate k 0) 0 (8 * k) i d below
    ∙ ap (λ x. eqb (bit_at x ((0 + i) % 8)) 1) (get_or-replicate k ((0 + i) / 8) 0 0 (omega arith))
    ∙ ap (λ x. eqb x 1) (bit_at-zero ((0 + i) % 8))
    ∙ sym (get_or-replicate (8 * k) i false d below))

pub bits_of_ones : (k : ℕ) → bits_of (replicate k 255) 0 (8 * k) ≡ replicate (8 * k) true
bits_of_ones k = same_lists _ _ (length_bits (replicate k 255) 0 (8 * k) ∙ sym (length-replicate (8 * k) true)) (λ i d p.
    let below : i < 8 * k = omega (arith, length_bits (replicate k 255) 0 (8 * k)) in
    bit_in (replicate k 255) 0 (8 * k) i d below
    ∙ ap (λ x. eqb (bit_at x ((0 + i) % 8)) 1) (get_or-replicate k ((0 + i) / 8) 255 0 (omega arith))
    ∙ ap (λ x. eqb x 1) (bit_at_ones 8 ((0 + i) % 8) (omega arith))
    ∙ sym (get_or-replicate (8 * k) i true d below))

-- ---- bytes that spell a word

abbrev byte_bits : ℕ → List Bool
byte_bits b = word_bits b 8

-- the bits of the bytes are those of each byte, one after another
all_bits : (bytes : List ℕ) → bits_of bytes 0 (8 * length bytes) ≡ flat_map byte_bits bytes
all_bits [] = refl
all_bits (b ∷ bytes) =
    let n : 8 * suc (length bytes) ≡ 8 + 8 * length bytes = omega arith in
    ap (bits_of (b ∷ bytes) 0) n ∙ bits_split (b ∷ bytes) 0 8 (8 * length bytes)
    ∙ ap₂ ◌++◌ (bits_of_byte (b ∷ bytes) 0) (sym (bits_drop (b ∷ bytes) 1 0 (8 * length bytes)) ∙ all_bits bytes)

cat8 : (k b r : ℕ) → b < 256 → word_bits (b + 256 * r) (8 + k) ≡ word_bits b 8 ++ word_bits r k
cat8 k b r h = let turned : b + 256 * r ≡ r * 2 ^ 8 + b = omega arith in ap (λ x. word_bits x (8 + k)) turned ∙ word_bits-append b 8 r k h

eight : (a b c d e f g h : ℕ) → a < 256 → b < 256 → c < 256 → d < 256 → e < 256 → f < 256 → g < 256 → h < 256
    → word_bits (a + 256 * (b + 256 * (c + 256 * (d + 256 * (e + 256 * (f + 256 * (g + 256 * h))))))) 64
    ≡ word_bits a 8 ++ (word_bits b 8 ++ (word_bits c 8 ++ (word_bits d 8 ++ (word_bits e 8 ++ (word_bits f 8 ++ (word_bits g 8 ++ word_bits h 8))))))
eight a b c d e f g h pa pb pc pd pe pf pg ph =
    cat8 56 a _ pa ∙ ap (λ l. word_bits a 8 ++ l) (
    cat8 48 b _ pb ∙ ap (λ l. word_bits b 8 ++ l) (
    cat8 40 c _ pc ∙ ap (λ l. word_bits c 8 ++ l) (
    cat8 32 d _ pd ∙ ap (λ l. word_bits d 8 ++ l) (
    cat8 24 e _ pe ∙ ap (λ l. word_bits e 8 ++ l) (
    cat8 16 f _ pf ∙ ap (λ l. word_bits f 8 ++ l) (
    cat8 8 g h pg))))))

-- what holds of any eight items holds of a list of eight
pub by_eight : (P : List ℕ → Type 0) → ((a b c d e f g h : ℕ) → P (a ∷ b ∷ c ∷ d ∷ e ∷ f ∷ g ∷ h ∷ [])) → (bs : List ℕ) → length bs ≡ 8 → P bs
by_eight P one (a ∷ b ∷ c ∷ d ∷ e ∷ f ∷ g ∷ h ∷ []) n = one a b c d e f g h
by_eight P one [] n = let no : ⊥ = omega arith in absurd no
by_eight P one (a ∷ []) n = let no : ⊥ = omega arith in absurd no
by_eight P one (a ∷ b ∷ []) n = let no : ⊥ = omega arith in absurd no
by_eight P one (a ∷ b ∷ c ∷ []) n = let no : ⊥ = omega arith in absurd no
by_eight P one (a ∷ b ∷ c ∷ d ∷ []) n = let no : ⊥ = omega arith in absurd no
by_eight P one (a ∷ b ∷ c ∷ d ∷ e ∷ []) n = let no : ⊥ = omega arith in absurd no
by_eight P one (a ∷ b ∷ c ∷ d ∷ e ∷ f ∷ []) n = let no : ⊥ = omega arith in absurd no
by_eight P one (a ∷ b ∷ c ∷ d ∷ e ∷ f ∷ g ∷ []) n = let no : ⊥ = omega arith in absurd no
by_eight P one (a ∷ b ∷ c ∷ d ∷ e ∷ f ∷ g ∷ h ∷ i ∷ bs) n = let no : ⊥ = omega arith in absurd no

-- the bits of the word that eight bytes spell, the lowest first, are theirs
pub bits_of_eight : (bs : List ℕ) → length bs ≡ 8 → ((i : ℕ) → get_or bs i 0 < 256) → word_bits (from_le_bytes w64 bs) 64 ≡ bits_of bs 0 64
bits_of_eight bs n s = by_eight (λ l. ((i : ℕ) → get_or l i 0 < 256) → word_bits (from_le_bytes w64 l) 64 ≡ bits_of l 0 64) of bs n s
  where
    of : (a b c d e f g h : ℕ) → ((i : ℕ) → get_or (a ∷ b ∷ c ∷ d ∷ e ∷ f ∷ g ∷ h ∷ []) i 0 < 256) → word_bits (from_le_bytes w64 (a ∷ b ∷ c ∷ d ∷ e ∷ f ∷ g ∷ h ∷ [])) 64 ≡ bits_of (a ∷ b ∷ c ∷ d ∷ e ∷ f ∷ g ∷ h ∷ []) 0 64
    of a b c d e f g h s =
        let value : from_le_bytes w64 (a ∷ b ∷ c ∷ d ∷ e ∷ f ∷ g ∷ h ∷ []) ≡ a + 256 * (b + 256 * (c + 256 * (d + 256 * (e + 256 * (f + 256 * (g + 256 * h)))))) = omega arith in
        ap (λ x. word_bits x 64) value ∙ eight a b c d e f g h (s 0) (s 1) (s 2) (s 3) (s 4) (s 5) (s 6) (s 7)
        ∙ ap (λ l. word_bits a 8 ++ (word_bits b 8 ++ (word_bits c 8 ++ (word_bits d 8 ++ (word_bits e 8 ++ (word_bits f 8 ++ (word_bits g 8 ++ l))))))) (sym (append-nil (word_bits h 8)))
        ∙ sym (all_bits (a ∷ b ∷ c ∷ d ∷ e ∷ f ∷ g ∷ h ∷ []))

-- the bytes of a word are bytes
pub le_below : (x i : ℕ) → get_or (to_le_bytes w64 x) i 0 < 256
le_below x zero = omega arith
le_below x (suc zero) = omega arith
le_below x (suc (suc zero)) = omega arith
le_below x (suc (suc (suc zero))) = omega arith
le_below x (suc (suc (suc (suc zero)))) = omega arith
le_below x (suc (suc (suc (suc (suc zero))))) = omega arith
le_below x (suc (suc (suc (suc (suc (suc zero)))))) = omega arith
le_below x (suc (suc (suc (suc (suc (suc (suc zero))))))) = omega arith
le_below x (suc (suc (suc (suc (suc (suc (suc (suc i)))))))) = omega arith

-- the bits of a word's eight bytes are the word's
pub bits_of_word : (x : ℕ) → x < 2 ^ 64 → bits_of (to_le_bytes w64 x) 0 64 ≡ word_bits x 64
bits_of_word x h =
    let bs = to_le_bytes w64 x in
    sym (bits_of_eight bs refl (le_below x)) ∙ ap (λ y. word_bits y 64) (from_le_bytes-to_le_bytes_8 x h)
