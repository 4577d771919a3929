-- Numbers of bits, by eight at once.
use Rattle.std.proofs.Common.{◌≡◌, ℕ, suc, ◌+◌, ◌*◌, ◌/◌, ◌%◌, ◌^◌, ◌<◌, ◌≤◌, Bool, true, false, List, [], ◌∷◌, ◌++◌, length, take, drop, bit_or, get_or, sym, ap, ap₂, subst, add_comm, ◌∙◌, arith}
use Rattle.std.specs.Int.{w64, from_bool, from_le_bytes}
use Rattle.std.proofs.lemmas.List.{length-drop, length-take-le}
use Rattle.std.proofs.lemmas.Nat.{or_comm, or_shifted, shl_whole}
use Rattle.std.proofs.Math.Nat.{mul_comm, pow-suc}
use Rattle.vx_bits.specs.BitBuffer.{number_of}
use Rattle.vx_bits.proofs.BitLists.{number_take_below}
use Rattle.vx_bits.proofs.ByteWords.{eight_items}
use Rattle.vx_lemmas.proofs.Bools.{from_bool-cond}
use Rattle.std.proofs.Math.Seq.{take-add}

-- eight bits that stand in eight bytes, times a number that brings each to its place of the highest
-- byte
pub packed_eight : (a b c d e f g h : ℕ) → a ≤ 1 → b ≤ 1 → c ≤ 1 → d ≤ 1 → e ≤ 1 → f ≤ 1 → g ≤ 1 → h ≤ 1
    → (a + 256 * (b + 256 * (c + 256 * (d + 256 * (e + 256 * (f + 256 * (g + 256 * h))))))) * 0x0102_0408_1020_4080 % 2 ^ 64 / 2 ^ 56 ≡ a + 2 * (b + 2 * (c + 2 * (d + 2 * (e + 2 * (f + 2 * (g + 2 * h))))))
packed_eight a b c d e f g h pa pb pc pd pe pf pg ph =
    let high = 1 * b + 258 * c + 66052 * d + 16909320 * e + 4328785936 * f + 1108169199648 * g + 283691315109952 * h in
    let low = 567382630219904 * a + 1134765260439552 * b + 2269530520813568 * c + 4539061024849920 * d + 9078117754732544 * e + 18155135997837312 * f + 36028797018963968 * g in
    let byte = a + 2 * (b + 2 * (c + 2 * (d + 2 * (e + 2 * (f + 2 * (g + 2 * h)))))) in
    let product : (a + 256 * (b + 256 * (c + 256 * (d + 256 * (e + 256 * (f + 256 * (g + 256 * h))))))) * 0x0102_0408_1020_4080 ≡ high * 2 ^ 64 + (byte * 2 ^ 56 + low) = omega arith in
    let small : low < 2 ^ 56 = omega arith in
    let fits : byte < 256 = omega arith in
    omega (arith, product, small, fits)

below_two : (bit : Bool) → from_bool bit ≤ 1
below_two true = omega arith
below_two false = omega arith

-- eight items of a list, each a byte, packed as the bits of one byte
pub packed_items : (bits : List Bool) (start : ℕ) → start + 8 ≤ length bits → (a b c d e f g h : ℕ)
    → a ≡ from_bool (get_or bits start false)
    → b ≡ from_bool (get_or bits (start + 1) false)
    → c ≡ from_bool (get_or bits (start + 2) false)
    → d ≡ from_bool (get_or bits (start + 3) false)
    → e ≡ from_bool (get_or bits (start + 4) false)
    → f ≡ from_bool (get_or bits (start + 5) false)
    → g ≡ from_bool (get_or bits (start + 6) false)
    → h ≡ from_bool (get_or bits (start + 7) false)
    → from_le_bytes w64 (a ∷ b ∷ c ∷ d ∷ e ∷ f ∷ g ∷ h ∷ []) * 0x0102_0408_1020_4080 % 2 ^ 64 / 2 ^ 56 ≡ number_of (take 8 (drop start bits))
packed_items bits start within a b c d e f g h ea eb ec ed ee ef eg eh =
    let spread : from_le_bytes w64 (a ∷ b ∷ c ∷ d ∷ e ∷ f ∷ g ∷ h ∷ []) ≡ a + 256 * (b + 256 * (c + 256 * (d + 256 * (e + 256 * (f + 256 * (g + 256 * h)))))) = omega arith in
    let packed = packed_eight a b c d e f g h (omega (arith, ea, below_two (get_or bits start false))) (omega (arith, eb, below_two (get_or bits (start + 1) false))) (omega (arith, ec, below_two (get_or bits (start + 2) false))) (omega (arith, ed, below_two (get_or bits (start + 3) false))) (omega (arith, ee, below_two (get_or bits (start + 4) false))) (omega (arith, ef, below_two (get_or bits (start + 5) false))) (omega (arith, eg, below_two (get_or bits (start + 6) false))) (omega (arith, eh, below_two (get_or bits (start + 7) false))) in
    let number : a + 2 * (b + 2 * (c + 2 * (d + 2 * (e + 2 * (f + 2 * (g + 2 * h)))))) ≡ number_of (get_or bits start false ∷ get_or bits (start + 1) false ∷ get_or bits (start + 2) false ∷ get_or bits (start + 3) false ∷ get_or bits (start + 4) false ∷ get_or bits (start + 5) false ∷ get_or bits (start + 6) false ∷ get_or bits (start + 7) false ∷ []) = omega (arith, ea, eb, ec, ed, ee, ef, eg, eh, from_bool-cond (get_or bits start false), from_bool-cond (get_or bits (start + 1) false), from_bool-cond (get_or bits (start + 2) false), from_bool-cond (get_or bits (start + 3) false), from_bool-cond (get_or bits (start + 4) false), from_bool-cond (get_or bits (start + 5) false), from_bool-cond (get_or bits (start + 6) false), from_bool-cond (get_or bits (start + 7) false)) in
    ap (λ x. x * 0x0102_0408_1020_4080 % 2 ^ 64 / 2 ^ 56) spread ∙ packed ∙ number ∙ ap number_of (eight_items bits start false within)

-- the number of bits and of those behind them
pub number_append : (bits more : List Bool) → number_of (bits ++ more) ≡ number_of bits + number_of more * 2 ^ length bits
number_append [] more = omega arith
number_append (bit ∷ bits) more =
    let e = number_append bits more in
    let p : 2 ^ suc (length bits) ≡ 2 * 2 ^ length bits = pow-suc 2 (length bits) ∙ mul_comm _ 2 in
    let q : number_of more * 2 ^ suc (length bits) ≡ 2 * (number_of more * 2 ^ length bits) = ap (λ n. number_of more * n) p ∙ grind arith in
    omega (arith, e, q)

-- eight bits more, put above those that a word has
pub next_eight : (bits : List Bool) (k word byte : ℕ) → k < 8 → 8 * k + 8 ≤ length bits → word ≡ number_of (take (8 * k) bits) → byte ≡ number_of (take 8 (drop (8 * k) bits))
    → bit_or word (byte * 2 ^ (8 * k) % 2 ^ 64) ≡ number_of (take (8 * (k + 1)) bits)
next_eight bits k word byte h fits is_word is_byte =
    let low = take (8 * k) bits in
    let high = take 8 (drop (8 * k) bits) in
    let long : length low ≡ 8 * k = length-take-le (8 * k) bits (omega arith) in
    let below : word < 2 ^ (8 * k) = subst (λ (n : ℕ). n < 2 ^ (8 * k)) (sym is_word) (number_take_below bits (8 * k) (omega arith)) in
    let small : byte < 2 ^ 8 = subst (λ (n : ℕ). n < 2 ^ 8) (sym is_byte) (number_take_below (drop (8 * k) bits) 8 (omega (arith, length-drop (8 * k) bits))) in
    let next : 8 * (k + 1) ≡ 8 * k + 8 = omega arith in
    ap (bit_or word) (shl_whole byte 8 (8 * k) 64 small (omega arith)) ∙ or_comm word (byte * 2 ^ (8 * k)) ∙ or_shifted byte (8 * k) word below
    ∙ ap₂ (λ b w. b * 2 ^ (8 * k) + w) is_byte is_word
    ∙ ap (λ n. number_of high * 2 ^ n + number_of low) (sym long)
    ∙ add_comm (number_of high * 2 ^ length low) (number_of low)
    ∙ sym (number_append low high)
    ∙ ap number_of (sym (take-add (8 * k) 8 bits))
    ∙ ap (λ n. number_of (take n bits)) (sym next)
