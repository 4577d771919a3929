-- A text of digits, read part by part.
use Rattle.std.proofs.Common.{◌≡◌, ℕ, suc, ◌+◌, ◌-◌, ◌*◌, ◌%◌, ◌^◌, ◌<◌, ◌≤◌, Bool, List, [], ◌∷◌, ◌++◌, length, get_or, take, drop, Option, Some, None, Result, refl, sym, ap, ap₂, subst, ◌∙◌, append_assoc, take-append-drop, add-one, drop-cons, arith}
use Rattle.std.proofs.lemmas.List.{append-nil, drop_all, drop-drop, take_rest}
use Rattle.std.proofs.lemmas.Nat.{pow-add}
use Rattle.std.proofs.Math.Nat.{mul-le-mul_right}
use Rattle.std.proofs.Math.Pow.{pow_mono}
use Rattle.vx_bits.specs.Words.{word_bits}
use Rattle.vx_bits.proofs.WordBits.{word_bits-append}
use Rattle.vx_json.specs.Meaning.{◌>>=◌, Fails, Leaves, with_read}
use Rattle.vx_json.specs.BitText.{bit_named, bits_in}
use Rattle.vx_json.specs.declared.error.DocError.{DocError}
use Rattle.vx_json.specs.declared.error.DocError.TheVariants.{Malformed, NoMemory}
use Rattle.vx_json.proofs.Reading.{none_read, with_read-one}

-- what two parts mean, one behind the other
bits_in-append : (xs ys : List ℕ) → bits_in (xs ++ ys) ≡ (bits_in xs >>= λ bits. with_read bits (bits_in ys))
unfolding bits_in
bits_in-append [] ys = sym (none_read (bits_in ys))
bits_in-append (c ∷ cs) ys = rw (bits_in-append cs ys) (regroup (bit_named c) (bits_in cs) (bits_in ys))
  where
    regroup : (o : Option Bool) (p r : Option (List Bool))
        → (o >>= λ b. ((p >>= λ bits. with_read bits r) >>= λ bits. Some (b ∷ bits))) ≡ ((o >>= λ b. (p >>= λ bits. Some (b ∷ bits))) >>= λ bits. with_read bits r)
    regroup None p r = refl
    regroup (Some b) None r = refl
    regroup (Some b) (Some bits) None = refl
    regroup (Some b) (Some bits) (Some more) = refl

module _ (old : List Bool) (front rest : List ℕ) where
  -- the first part is read
  pub part_read : (mid : List Bool) → with_read old (bits_in front) ≡ Some mid → with_read old (bits_in (front ++ rest)) ≡ with_read mid (bits_in rest)
  part_read mid is = rw (bits_in-append front rest) (by (bits_in front) is)
    where
      join : (bits : List Bool) (r : Option (List Bool)) → with_read old (with_read bits r) ≡ with_read (old ++ bits) r
      join bits None = refl
      join bits (Some more) = ap Some (sym (append_assoc old bits more))

      by : (p : Option (List Bool)) → with_read old p ≡ Some mid → with_read old (p >>= λ bits. with_read bits (bits_in rest)) ≡ with_read mid (bits_in rest)
      by None e = cc
      by (Some bits) e =
          let same : old ++ bits ≡ mid = cc in
          join bits (bits_in rest) ∙ ap (λ m. with_read m (bits_in rest)) same

  -- it means nothing
  pub part_fails : (e : DocError) → Fails e (with_read old (bits_in front)) → Fails e (with_read old (bits_in (front ++ rest)))
  part_fails Malformed none = rw (bits_in-append front rest) (by (bits_in front) none)
    where
      by : (p : Option (List Bool)) → with_read old p ≡ None → with_read old (p >>= λ bits. with_read bits (bits_in rest)) ≡ None
      by None e = refl
      by (Some bits) e = cc
  part_fails NoMemory none = tt

-- a text that is read in two parts, the first of which ends at n
module _ (old : List Bool) (text : List ℕ) (n : ℕ) where
  -- the first means nothing
  pub front_fails : (e : DocError) → Fails e (with_read old (bits_in (take n text))) → Fails e (with_read old (bits_in text))
  front_fails e none = subst (λ t. Fails e (with_read old (bits_in t))) (take-append-drop n text) (part_fails old (take n text) (drop n text) e none)

  -- and what is left of the second is left of all
  pub rest_leaves : {X : Type 0} (mid new : List Bool) (r : Result X DocError) → with_read old (bits_in (take n text)) ≡ Some mid → Leaves r new (with_read mid (bits_in (take (length text - n) (drop n text)))) → Leaves r new (with_read old (bits_in text))
  rest_leaves mid new r is left =
      let read = part_read old (take n text) (drop n text) mid is in
      let Rest : List ℕ → Type 0 = λ t. Leaves r new (with_read mid (bits_in t)) in
      let All : List ℕ → Type 0 = λ t. Leaves r new (with_read old (bits_in t)) in
      subst All (take-append-drop n text) (rw read (subst Rest (take_rest text n) left))

-- the text from k on, cut n further
cut_at : (text : List ℕ) (k n : ℕ) → drop k text ≡ take n (drop k text) ++ drop (k + n) text
cut_at text k n = sym (take-append-drop n (drop k text)) ∙ ap (λ l. take n (drop k text) ++ l) (drop-drop n k text)

-- one digit more
digit_read : (old : List Bool) (c : ℕ) (cs : List ℕ) (b : Bool) → bit_named c ≡ Some b → with_read old (bits_in (c ∷ cs)) ≡ with_read (old ++ b ∷ []) (bits_in cs)
unfolding bits_in
digit_read old c cs b is = rw is (with_read-one old b (bits_in cs))

digit_fails : (old : List Bool) (c : ℕ) (cs : List ℕ) (e : DocError) → Fails e (bit_named c) → Fails e (with_read old (bits_in (c ∷ cs)))
unfolding bits_in
digit_fails old c cs Malformed is = rw is refl
digit_fails old c cs NoMemory is = tt

pub none_left : (new : List Bool) (text : List ℕ) (k : ℕ) → length text ≤ k → with_read new (bits_in (drop k text)) ≡ Some new
unfolding bits_in
none_left new text k h = rw (drop_all k text h) (ap Some (append-nil new))

-- one digit more of what is left of a text whose reading goes by `whole`
module _ (text : List ℕ) (k : ℕ) (old : List Bool) (whole : Option (List Bool)) (so_far : with_read old (bits_in (drop k text)) ≡ whole) where
  pub next_digit : (b : Bool) → k < length text → bit_named (get_or text k 0) ≡ Some b → with_read (old ++ b ∷ []) (bits_in (drop (k + 1) text)) ≡ whole
  next_digit b h is =
      let cut = ap (λ l. with_read old (bits_in l)) (drop-cons text k 0 h) in
      let one : with_read (old ++ b ∷ []) (bits_in (drop (k + 1) text)) ≡ with_read old (bits_in (get_or text k 0 ∷ drop (suc k) text)) = rw add-one (sym (digit_read old (get_or text k 0) (drop (suc k) text) b is)) in
      one ∙ sym cut ∙ so_far

  pub no_next_digit : (e : DocError) → k < length text → Fails e (bit_named (get_or text k 0)) → Fails e whole
  no_next_digit e h is =
      let cut = ap (λ l. with_read old (bits_in l)) (drop-cons text k 0 h) in
      subst (Fails e) (sym cut ∙ so_far) (digit_fails old (get_or text k 0) (drop (suc k) text) e is)

  pub next_part : (n : ℕ) (bits : List Bool) → bits_in (take n (drop k text)) ≡ Some bits → with_read (old ++ bits) (bits_in (drop (k + n) text)) ≡ whole
  next_part n bits is =
      let read = part_read old (take n (drop k text)) (drop (k + n) text) (old ++ bits) (ap (with_read old) is) in
      sym read ∙ ap (λ l. with_read old (bits_in l)) (sym (cut_at text k n)) ∙ so_far

  pub no_next_part : (n : ℕ) (e : DocError) → Fails e (bits_in (take n (drop k text))) → Fails e whole
  no_next_part n Malformed is =
      let fails = part_fails old (take n (drop k text)) (drop (k + n) text) Malformed (ap (with_read old) is) in
      sym so_far ∙ ap (λ l. with_read old (bits_in l)) (cut_at text k n) ∙ fails
  no_next_part n NoMemory is = tt

-- a word of k bytes with one byte more
pub record IsMore (word byte k more : ℕ) : Type 0 where
  pub bits : word_bits more (8 * (k + 1)) ≡ word_bits word (8 * k) ++ word_bits byte 8
  pub below : more < 2 ^ (8 * (k + 1))
  pub fits : more < 2 ^ 64

pub word_more : (word byte k : ℕ) → k < 8 → word < 2 ^ (8 * k) → byte < 256 → IsMore word byte k (word + byte * 2 ^ (8 * k) % 2 ^ 64)
word_more word byte k few below small =
    let p : ℕ = 2 ^ (8 * k) in
    let next : 8 * (k + 1) ≡ 8 * k + 8 = omega arith in
    let grows : 2 ^ (8 * (k + 1)) ≡ p * 256 = ap (λ (n : ℕ). 2 ^ n) next ∙ pow-add 2 (8 * k) 8 in
    let most : 2 ^ (8 * (k + 1)) ≤ 2 ^ 64 = pow_mono {i = 8 * (k + 1)} {j = 64} (omega arith) in
    let times : byte * p ≤ 255 * p = mul-le-mul_right p (omega arith) in
    let same : byte * p % 2 ^ 64 ≡ byte * p = omega arith in
    let turned : word + byte * p % 2 ^ 64 ≡ byte * p + word = omega arith in
    record {
      bits = ap₂ word_bits turned next ∙ word_bits-append word (8 * k) byte 8 below;
      below = omega arith;
      fits = omega arith;
    }
