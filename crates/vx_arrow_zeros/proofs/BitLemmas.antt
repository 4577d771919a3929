-- Bits that are cleared past the rows, and at null rows.
use Rattle.std.proofs.Common.{◌≡◌, ℕ, zero, suc, ◌-◌, ◌/◌, ◌%◌, ◌^◌, ◌<◌, ◌≤◌, ◌≢◌, Bool, true, false, ◌&&◌, eqb, ltb, min, List, [], ◌∷◌, length, get_or, set, bit_and, refl, sym, subst, ap, ◌∙◌, arith, inl, inr}
use Rattle.std.specs.Int.{bit_at}
use Rattle.std.proofs.lemmas.Bool.{cases_eq, cases_lt, lt-ltb}
use Rattle.std.proofs.lemmas.List.{get_or-set_same, get_or-set_other, length-set}
use Rattle.std.proofs.lemmas.Nat.Bits.{bit_at_and, bit_at_ones, bit_at_ones_above, bit_at-lt}
use Rattle.std.proofs.lemmas.Grind.{common_steps}
use Rattle.vx_arrow_image.specs.Image.{bit_of, is_valid}
use Rattle.vx_arrow_zeros.specs.Zeros.{ClearsBits, byte_count}

below_true : (a b : ℕ) → a < b → ltb a b ≡ true
below_true a b h = lt-ltb a b h

above_false : (a b : ℕ) → b ≤ a → ltb a b ≡ false
above_false a b h = grind (arith, common_steps)

-- rows that fill their bytes
pub none_past : (rows : ℕ) (xs : List ℕ) → rows % 8 ≡ 0 → ClearsBits (λ _. true) rows xs xs
none_past rows xs whole = record {
  long = refl;
  bits = λ j h. sym (ap (λ b. b && (true && bit_of xs j)) (below_true j rows (omega arith)));
  behind = λ k h. refl;
}

-- ones below 2^r have no bit from r on
no_one : (r i : ℕ) → r ≤ i → bit_at (2 ^ r - 1) i ≡ 0
no_one r i h = bit_at_ones_above r i h

-- the last byte keeps its first bits
pub past_cleared : (rows m : ℕ) (xs ys : List ℕ) → rows % 8 ≢ 0 → byte_count rows ≤ length xs → m ≡ 2 ^ (rows % 8) - 1
    → ys ≡ set xs (rows / 8) (bit_and (get_or xs (rows / 8) 0) m) → ClearsBits (λ _. true) rows xs ys
past_cleared rows m xs ys part h ones is =
    let q = rows / 8 in
    let within : q < length xs = omega arith in
    let new = bit_and (get_or xs q 0) m in
    subst (ClearsBits (λ _. true) rows xs) (sym is) (record {
      long = length-set {A = ℕ} xs q new;
      bits = λ j lt.
          elim (cases_eq (j / 8) q) [
            | inl e ↦
                let i = j % 8 in
                let own : bit_of (set xs q new) j ≡ eqb (bit_at new i) 1 = ap (λ p. eqb (bit_at (get_or (set xs q new) p 0) i) 1) e ∙ ap (λ x. eqb (bit_at x i) 1) (get_or-set_same xs q new 0 within) in
                let masked : bit_at new i ≡ min (bit_at (get_or xs q 0) i) (bit_at (2 ^ (rows % 8) - 1) i) = bit_at_and (get_or xs q 0) m i ∙ ap (λ x. min (bit_at (get_or xs q 0) i) (bit_at x i)) ones in
                let few = bit_at-lt (get_or xs q 0) i in
                elim (cases_lt i (rows % 8)) [
                  | inl low ↦
                      let set_bit = bit_at_ones (rows % 8) i low in
                      let kept : bit_at new i ≡ bit_at (get_or xs q 0) i = masked ∙ omega (arith, set_bit, few) in
                      own ∙ ap (λ x. eqb x 1) kept ∙ ap (λ p. eqb (bit_at (get_or xs p 0) i) 1) (sym e) ∙ sym (ap (λ b. b && (true && bit_of xs j)) (below_true j rows (omega arith)))
                  | inr high ↦
                      let clear = no_one (rows % 8) i high in
                      let gone : bit_at new i ≡ 0 = masked ∙ omega (arith, clear) in
                      own ∙ ap (λ x. eqb x 1) gone ∙ sym (ap (λ b. b && (true && bit_of xs j)) (above_false j rows (omega arith)))
                ]
            | inr ne ↦
                ap (λ x. eqb (bit_at x (j % 8)) 1) (get_or-set_other xs q (j / 8) new 0 ne)
                ∙ sym (ap (λ b. b && (true && bit_of xs j)) (below_true j rows (omega arith)))
          ];
      behind = λ k far. get_or-set_other xs q k new 0 (omega arith);
    })

-- the bit of an `and`
and_bit : (a b : ℕ) → a < 2 → b < 2 → eqb (min a b) 1 ≡ (eqb a 1 && eqb b 1)
and_bit zero b h g = ap (λ x. eqb x 1) (let e : min 0 b ≡ 0 = omega arith in e)
and_bit (suc zero) b h g = ap (λ x. eqb x 1) (let e : min 1 b ≡ b = omega arith in e)
and_bit (suc (suc a)) b h g = absurd (omega arith)

order : (l v x : Bool) → ((l && (true && x)) && v) ≡ (l && (v && x))
order true true true = refl
order true true false = refl
order true false true = refl
order true false false = refl
order false v x = refl

bit_valid : (bs : List ℕ) (j : ℕ) → 0 < length bs → is_valid bs j ≡ bit_of bs j
bit_valid [] j h = absurd (omega arith)
bit_valid (b ∷ bs) j h = refl

all_valid : (bs : List ℕ) (j : ℕ) → length bs ≡ 0 → is_valid bs j ≡ true
all_valid [] j h = refl
all_valid (b ∷ bs) j h = absurd (omega arith)

-- without validity no more is cleared
pub no_nulls : (rows : ℕ) (valid xs ys : List ℕ) → length valid ≡ 0 → ClearsBits (λ _. true) rows xs ys → ClearsBits (is_valid valid) rows xs ys
no_nulls rows valid xs ys bare c = record {
  long = c.long;
  bits = λ j h. c.bits j h ∙ ap (λ b. ltb j rows && (b && bit_of xs j)) (sym (all_valid valid j bare));
  behind = c.behind;
}

-- the bits of null rows are cleared too
pub nulls_cleared : (rows : ℕ) (valid xs ys zs : List ℕ) → 0 < length valid → ClearsBits (λ _. true) rows xs ys → length zs ≡ length ys
    → ((k : ℕ) → k < byte_count rows → get_or zs k 0 ≡ bit_and (get_or ys k 0) (get_or valid k 0))
    → ((k : ℕ) → byte_count rows ≤ k → get_or zs k 0 ≡ get_or ys k 0)
    → ClearsBits (is_valid valid) rows xs zs
nulls_cleared rows valid xs ys zs some c long kept behind = record {
  long = long ∙ c.long;
  bits = λ j h.
      let q = j / 8 in
      let i = j % 8 in
      let y = get_or ys q 0 in
      let v = get_or valid q 0 in
      ap (λ x. eqb (bit_at x i) 1) (kept q (omega arith)) ∙ ap (λ x. eqb x 1) (bit_at_and y v i)
      ∙ and_bit (bit_at y i) (bit_at v i) (bit_at-lt y i) (bit_at-lt v i)
      ∙ ap (λ b. b && bit_of valid j) (c.bits j h) ∙ order (ltb j rows) (bit_of valid j) (bit_of xs j)
      ∙ ap (λ b. ltb j rows && (b && bit_of xs j)) (sym (bit_valid valid j some));
  behind = λ k h. behind k h ∙ c.behind k h;
}
