-- The bytes of a word that keep, or clear, a byte for each bit.
use Rattle.std.proofs.Common.{◌≡◌, ℕ, zero, suc, ◌+◌, ◌*◌, ◌/◌, ◌%◌, ◌^◌, ◌<◌, ◌≤◌, Bool, true, false, cond, ◌&&◌, eqb, List, ◌++◌, length, get_or, take, drop, bit_and, refl, sym, subst, ap, ◌∙◌, arith, inl, inr, length-drop}
use Rattle.std.specs.Int.{bit_at, from_le_bytes, to_le_bytes, w64}
use Rattle.std.specs.Int.Bits.{and_zero_r}
use Rattle.std.proofs.lemmas.Bool.{cases_eq, cases_lt, eqb-true}
use Rattle.std.proofs.lemmas.List.{get_or-drop, get_or-take, get_or_past, length-take-le}
use Rattle.std.proofs.lemmas.Nat.{and_mask, and_mod, and_shr, le_bytes_8}
use Rattle.vx_arrow_zeros.specs.Zeros.{ClearsRows}
use Rattle.vx_arrow_zeros.proofs.Bytes.{placed_before, placed_behind, placed_in, placed_long}

-- the test holds of all numbers below n
all_below : (ℕ → Bool) → ℕ → Bool
all_below p zero = true
all_below p (suc n) = p n && all_below p n

both : (a b : Bool) → (a && b) ≡ true → (a ≡ true) × (b ≡ true)
both true true h = (refl, refl)
both true false h = (refl, h)
both false b h = absurd cc

below_all : (p : ℕ → Bool) (n : ℕ) → all_below p n ≡ true → (k : ℕ) → k < n → p k ≡ true
unfolding all_below
below_all p zero h k lt = absurd (omega arith)
below_all p (suc n) h k lt =
    let parts = both (p n) (all_below p n) h in
    elim (cases_eq k n) [
      | inl e ↦ ap p e ∙ parts.0
      | inr ne ↦ below_all p n parts.1 k (omega arith)
    ]

-- the word that is computed for eight bits
abbrev pub spread_of : ℕ → ℕ
spread_of v = bit_and (bit_and (v * 0x0101010101010101 % 2 ^ 64) 0x8040201008040201 + 0x7f7f7f7f7f7f7f7f) 0x8080808080808080 / 128 * 255

is_spread : ℕ → ℕ → Bool
is_spread v k = eqb (get_or (to_le_bytes w64 (spread_of v)) k 0) (cond (eqb (bit_at v k) 1) 255 0)

all_spread : all_below (λ v. all_below (is_spread v) 8) 256 ≡ true
unfolding all_below is_spread
all_spread = refl

pub spread_byte : (v k : ℕ) → v < 256 → k < 8 → get_or (to_le_bytes w64 (spread_of v)) k 0 ≡ cond (eqb (bit_at v k) 1) 255 0
unfolding is_spread
spread_byte v k h lt = eqb-true _ _ (below_all (is_spread v) 8 (below_all (λ x. all_below (is_spread x) 8) 256 all_spread v h) k lt)

-- a byte that is kept, or cleared
pub kept_byte : (b m : ℕ) (keep : Bool) → b < 256 → m ≡ cond keep 255 0 → bit_and b m ≡ cond keep b 0
kept_byte b m true h e = ap (bit_and b) e ∙ and_mask b 8 ∙ omega arith
kept_byte b m false h e = ap (bit_and b) e ∙ and_zero_r b

-- each of eight
pub of_eight : (P : ℕ → Type 0) → P 0 → P 1 → P 2 → P 3 → P 4 → P 5 → P 6 → P 7 → (k : ℕ) → k < 8 → P k
of_eight P a b c d e f g h zero lt = a
of_eight P a b c d e f g h (suc zero) lt = b
of_eight P a b c d e f g h (suc (suc zero)) lt = c
of_eight P a b c d e f g h (suc (suc (suc zero))) lt = d
of_eight P a b c d e f g h (suc (suc (suc (suc zero)))) lt = e
of_eight P a b c d e f g h (suc (suc (suc (suc (suc zero))))) lt = f
of_eight P a b c d e f g h (suc (suc (suc (suc (suc (suc zero)))))) lt = g
of_eight P a b c d e f g h (suc (suc (suc (suc (suc (suc (suc zero))))))) lt = h
of_eight P a b c d e f g h (suc (suc (suc (suc (suc (suc (suc (suc k)))))))) lt = absurd (omega arith)

-- the bytes of an `and` are those of the bytes
byte_and : (x y k : ℕ) → k < 8 → get_or (to_le_bytes w64 (bit_and x y)) k 0 ≡ bit_and (get_or (to_le_bytes w64 x) k 0) (get_or (to_le_bytes w64 y) k 0)
byte_and x y =
    let step = λ (s : ℕ). ap (λ v. v % 256) (and_shr x y s) ∙ and_mod (x / 2 ^ s) (y / 2 ^ s) 8 in
    of_eight (λ k. get_or (to_le_bytes w64 (bit_and x y)) k 0 ≡ bit_and (get_or (to_le_bytes w64 x) k 0) (get_or (to_le_bytes w64 y) k 0))
    (and_mod x y 8) (step 8) (step 16) (step 24) (step 32) (step 40) (step 48) (step 56)

-- eight bytes, each kept or cleared
pub kept_item : (bits at x y : ℕ) (xs : List ℕ) → at + 8 ≤ length xs → ((i : ℕ) → get_or xs i 0 < 256) → x ≡ from_le_bytes w64 (take 8 (drop at xs))
    → ((k : ℕ) → k < 8 → get_or (to_le_bytes w64 y) k 0 ≡ cond (eqb (bit_at bits k) 1) 255 0)
    → (k : ℕ) → k < 8 → get_or (to_le_bytes w64 (bit_and x y)) k 0 ≡ cond (eqb (bit_at bits k) 1) (get_or xs (at + k) 0) 0
kept_item bits at x y xs room fits is m k h =
    let eight = take 8 (drop at xs) in
    let wide : length eight ≡ 8 = length-take-le 8 (drop at xs) (omega (arith, length-drop at xs)) in
    let place : (i : ℕ) → i < 8 → get_or eight i 0 ≡ get_or xs (at + i) 0 = λ i lt. get_or-take 8 (drop at xs) i 0 lt ∙ get_or-drop at xs i 0 in
    let small : (i : ℕ) → get_or eight i 0 < 256 =
    λ i. elim (cases_lt i 8) [
      | inl lt ↦ let e = place i lt in omega (arith, e, fits (at + i))
      | inr far ↦ let e : get_or eight i 0 ≡ 0 = get_or_past eight i 0 (omega arith) in omega (arith, e)
    ] in
    let own : get_or (to_le_bytes w64 x) k 0 ≡ get_or xs (at + k) 0 = ap (λ l. get_or l k 0) (le_bytes_8 eight x wide small is) ∙ place k h in
    byte_and x y k h ∙ ap (λ b. bit_and b (get_or (to_le_bytes w64 y) k 0)) own
    ∙ kept_byte (get_or xs (at + k) 0) (get_or (to_le_bytes w64 y) k 0) (eqb (bit_at bits k) 1) (fits (at + k)) (m k h)

-- eight bytes in place of others, each kept or cleared
pub eight_kept : (keeps : ℕ → Bool) (at : ℕ) (xs own ys : List ℕ) → at + 8 ≤ length xs → length own ≡ 8
    → ys ≡ take at xs ++ (own ++ drop (at + 8) xs)
    → ((k : ℕ) → k < 8 → get_or own k 0 ≡ cond (keeps k) (get_or xs (at + k) 0) 0)
    → ClearsRows keeps at 8 1 xs ys
eight_kept keeps at xs own ys h long is kept = subst (ClearsRows keeps at 8 1 xs) (sym is) (record {
  long = placed_long xs own at 8 h long;
  rows = λ k i low lt.
      let j : at + (k * 1 + i) ≡ at + k = omega arith in
      ap (λ p. get_or (take at xs ++ (own ++ drop (at + 8) xs)) p 0) j
      ∙ placed_in xs own at 8 h long k low ∙ kept k low
      ∙ sym (ap (λ p. cond (keeps k) (get_or xs p 0) 0) j);
  before = placed_before xs own at 8 h long;
  behind = λ j low. placed_behind xs own at 8 h long j (omega arith);
})
