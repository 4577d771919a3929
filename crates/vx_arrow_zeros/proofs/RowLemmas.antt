-- Rows that are cleared one after another.
use Rattle.std.proofs.Common.{◌≡◌, ℕ, ◌+◌, ◌-◌, ◌*◌, ◌<◌, ◌≤◌, ◌≢◌, Bool, true, false, cond, List, ◌++◌, length, get_or, take, drop, replicate, refl, ap, sym, subst, ◌∙◌, inl, inr, arith}
use Rattle.std.proofs.Math.Nat.{mul-le-mul_right}
use Rattle.std.proofs.lemmas.Bool.{cases_eq, cases_lt}
use Rattle.std.proofs.lemmas.List.{get_or-replicate, length-replicate}
use Rattle.vx_arrow_zeros.specs.Zeros.{ClearsRows}
use Rattle.vx_arrow_zeros.proofs.Bytes.{placed_before, placed_behind, placed_in, placed_long}

-- a byte of an earlier row
pub byte_within : (k n w i : ℕ) → k < n → i < w → k * w + i < n * w
byte_within k n w i h lt = let e : (k + 1) * w ≤ n * w = mul-le-mul_right w (omega arith) in omega arith

-- no row is cleared yet
pub none : (keeps : ℕ → Bool) (at w : ℕ) (xs : List ℕ) → ClearsRows keeps at 0 w xs xs
none keeps at w xs = record {
  long = refl;
  rows = λ k i h lt. absurd (omega (arith, h));
  before = λ j h. refl;
  behind = λ j h. refl;
}

-- all rows are kept
pub all_kept : (keeps : ℕ → Bool) (at n w : ℕ) (xs : List ℕ) → ((k : ℕ) → k < n → keeps k ≡ true) → ClearsRows keeps at n w xs xs
all_kept keeps at n w xs all = record {
  long = refl;
  rows = λ k i h lt. sym (ap (λ b. cond b (get_or xs (at + (k * w + i)) 0) 0) (all k h));
  before = λ j h. refl;
  behind = λ j h. refl;
}

-- the same rows by other words
pub alike : (f g : ℕ → Bool) (at n w : ℕ) (xs ys : List ℕ) → ClearsRows f at n w xs ys → ((k : ℕ) → k < n → f k ≡ g k) → ClearsRows g at n w xs ys
alike f g at n w xs ys c same = record {
  long = c.long;
  rows = λ k i h lt. c.rows k i h lt ∙ ap (λ b. cond b (get_or xs (at + (k * w + i)) 0) 0) (same k h);
  before = c.before;
  behind = c.behind;
}

-- rows, and those behind them
pub joined : (f g : ℕ → Bool) (at n m w end count : ℕ) (xs ys zs : List ℕ) → ClearsRows f at n w xs ys → ClearsRows g end m w ys zs → end ≡ at + n * w → count ≡ n + m → ((k : ℕ) → k < m → g k ≡ f (n + k)) → ClearsRows f at count w xs zs
joined f g at n m w end count xs ys zs c d e total same = record {
  long = d.long ∙ c.long;
  rows = λ k i h lt.
      elim (cases_lt k n) [
        | inl low ↦ d.before (at + (k * w + i)) (let b = byte_within k n w i low lt in omega arith) ∙ c.rows k i low lt
        | inr high ↦
            let r = k - n in
            let place : end + (r * w + i) ≡ at + (k * w + i) = let p : n + r ≡ k = omega arith in let q : (n + r) * w ≡ k * w = ap (λ x. x * w) p in omega (arith, q, e) in
            let own : n + r ≡ k = omega arith in
            ap (λ j. get_or zs j 0) (sym place)
            ∙ d.rows r i (omega arith) lt
            ∙ ap (λ b. cond b (get_or ys (end + (r * w + i)) 0) 0) (same r (omega arith) ∙ ap f own)
            ∙ ap (λ y. cond (f k) y 0) (c.behind (end + (r * w + i)) (omega arith) ∙ ap (λ j. get_or xs j 0) place)
      ];
  before = λ j h. d.before j (omega arith) ∙ c.before j h;
  behind = λ j h. let t : count * w ≡ (n + m) * w = ap (λ x. x * w) total in d.behind j (omega arith) ∙ c.behind j (omega arith);
}

-- zeros in place of bytes
zeros_long : (n : ℕ) → length (replicate {A = ℕ} n 0) ≡ n
zeros_long n = length-replicate {A = ℕ} n 0

zero_in : (xs : List ℕ) (at n : ℕ) → at + n ≤ length xs → (i : ℕ) → i < n → get_or (take at xs ++ (replicate n 0 ++ drop (at + n) xs)) (at + i) 0 ≡ 0
zero_in xs at n h i lt = placed_in xs (replicate n 0) at n h (zeros_long n) i lt ∙ get_or-replicate {A = ℕ} n i 0 0 lt

-- rows that are all cleared
pub all_cleared : (keeps : ℕ → Bool) (at n w size : ℕ) (xs ys : List ℕ) → size ≡ n * w → at + size ≤ length xs → ys ≡ take at xs ++ (replicate size 0 ++ drop (at + size) xs) → ((k : ℕ) → k < n → keeps k ≡ false) → ClearsRows keeps at n w xs ys
all_cleared keeps at n w size xs ys e h is none_kept = subst (ClearsRows keeps at n w xs) (sym is) (record {
  long = placed_long xs (replicate size 0) at size h (zeros_long size);
  rows = λ k i low lt. zero_in xs at size h (k * w + i) (let b = byte_within k n w i low lt in omega arith)
      ∙ sym (ap (λ b. cond b (get_or xs (at + (k * w + i)) 0) 0) (none_kept k low));
  before = placed_before xs (replicate size 0) at size h (zeros_long size);
  behind = λ j low. placed_behind xs (replicate size 0) at size h (zeros_long size) j (omega arith);
})

-- one row more is cleared
pub one_cleared : (f g : ℕ → Bool) (at n w t place : ℕ) (xs ys zs : List ℕ) → ClearsRows f at n w xs ys → t < n → at + n * w ≤ length xs → place ≡ at + t * w → zs ≡ take place ys ++ (replicate w 0 ++ drop (place + w) ys)
    → g t ≡ false → ((k : ℕ) → k < n → k ≢ t → g k ≡ f k) → ClearsRows g at n w xs zs
one_cleared f g at n w t place xs ys zs c low room e is cleared same =
    let end : (t + 1) * w ≤ n * w = mul-le-mul_right w (omega arith) in
    let h : place + w ≤ length ys = omega (arith, c.long) in
    subst (ClearsRows g at n w xs) (sym is) (record {
      long = placed_long ys (replicate w 0) place w h (zeros_long w) ∙ c.long;
      rows = λ k i k_low lt.
          elim (cases_eq k t) [
            | inl own ↦
                let j : at + (k * w + i) ≡ place + i = let q : k * w ≡ t * w = ap (λ x. x * w) own in omega (arith, q) in
                ap (λ p. get_or (take place ys ++ (replicate w 0 ++ drop (place + w) ys)) p 0) j
                ∙ zero_in ys place w h i lt
                ∙ sym (ap (λ b. cond b (get_or xs (at + (k * w + i)) 0) 0) (ap g own ∙ cleared))
            | inr other ↦
                elim (cases_lt k t) [
                  | inl before ↦ placed_before ys (replicate w 0) place w h (zeros_long w) (at + (k * w + i)) (let b = byte_within k t w i before lt in omega arith)
                      ∙ c.rows k i k_low lt ∙ ap (λ b. cond b (get_or xs (at + (k * w + i)) 0) 0) (sym (same k k_low other))
                  | inr behind ↦
                      let over : (t + 1) * w ≤ k * w = mul-le-mul_right w (let ne : k ≢ t = other in omega (arith, ne, behind)) in
                      placed_behind ys (replicate w 0) place w h (zeros_long w) (at + (k * w + i)) (omega arith)
                      ∙ c.rows k i k_low lt ∙ ap (λ b. cond b (get_or xs (at + (k * w + i)) 0) 0) (sym (same k k_low other))
                ]
          ];
      before = λ j lt. placed_before ys (replicate w 0) place w h (zeros_long w) j (omega arith) ∙ c.before j lt;
      behind = λ j far. placed_behind ys (replicate w 0) place w h (zeros_long w) j (omega arith) ∙ c.behind j far;
    })
