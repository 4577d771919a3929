-- A bit filter, word by word.
use Rattle.std.proofs.Common.{◌≡◌, ℕ, ◌+◌, ◌-◌, ◌*◌, ◌≤◌, Bool, true, false, cond, eqb, not, List, [], ◌∷◌, ◌++◌, length, take, drop, replicate, Option, Result, Ok, Err, OnErr, eq-eqb, ne_eqb, refl, sym, ap, ap₂, ◌∙◌, arith, append-nil}
use Rattle.std.specs.List.{items_where_true, filter}
use Rattle.std.proofs.lemmas.List.{map-id, take-append-drop}
use Rattle.std.proofs.lemmas.List.FromFn.{map-range_with_len_more}
use Rattle.std.proofs.lemmas.List.Elements.{filter-append}
use Rattle.vx_bits.specs.WordReader.{then_told}
use Rattle.vx_bits.specs.Words.{word_at, word_bits}
use Rattle.vx_bits.proofs.WordLists.{bits_in, length-bits_in, picked_no_word, picked_word, picked_words_more, word_bits-word_at}
use Rattle.vx_bitfilter.specs.Words.{busy_words, first_words}
use Rattle.vx_bitfilter.proofs.PackedBits.{picked_bits}
use Rattle.vx_bits.proofs.Told.{told_more}

-- ---- refusals

pub on_err : {T E : Type 0} (r : Result T E) (P : Type 0) → P → OnErr r P
on_err (Ok x) P h = tt
on_err (Err e) P h = h

-- ---- reads

words_more : (n : ℕ) → first_words (n + 1) ≡ first_words n ++ n ∷ []
words_more n = sym (map-id _) ∙ map-range_with_len_more (λ k. k) 0 n n (omega arith) ∙ ap (λ l. l ++ n ∷ []) (map-id _)

busy_more : (mask : List Bool) (n : ℕ) → busy_words mask (n + 1) ≡ busy_words mask n ++ cond (not (eqb (word_at mask n) 0)) (n ∷ []) []
busy_more mask n =
    ap (filter (λ i. not (eqb (word_at mask i) 0))) (words_more n) ∙ filter-append (λ i. not (eqb (word_at mask i) 0)) (first_words n) (n ∷ [])

-- the mask's next word is recorded
pub next_told : (start before after : Option (List ℕ)) (n : ℕ) → before ≡ then_told start (first_words n) → after ≡ then_told before (n ∷ []) → after ≡ then_told start (first_words (n + 1))
next_told start before after n e f = f ∙ ap (λ r. then_told r (n ∷ [])) e ∙ told_more start (first_words n) (n ∷ []) ∙ ap (then_told start) (sym (words_more n))

-- the source's next word is recorded, where the mask's is not 0
pub busy_told : (mask : List Bool) (start before after : Option (List ℕ)) (n : ℕ) → (word_at mask n ≡ 0 → ⊥) → before ≡ then_told start (busy_words mask n) → after ≡ then_told before (n ∷ []) → after ≡ then_told start (busy_words mask (n + 1))
busy_told mask start before after n some e f =
    let more = busy_more mask n ∙ ap (λ b. busy_words mask n ++ cond (not b) (n ∷ []) []) (ne_eqb (word_at mask n) 0 some) in
    f ∙ ap (λ r. then_told r (n ∷ [])) e ∙ told_more start (busy_words mask n) (n ∷ []) ∙ ap (then_told start) (sym more)

-- and else nothing is told
pub idle_told : (mask : List Bool) (start before : Option (List ℕ)) (n : ℕ) → word_at mask n ≡ 0 → before ≡ then_told start (busy_words mask n) → before ≡ then_told start (busy_words mask (n + 1))
idle_told mask start before n none e =
    let more = busy_more mask n ∙ ap (λ b. busy_words mask n ++ cond (not b) (n ∷ []) []) (eq-eqb (word_at mask n) 0 none) ∙ append-nil (busy_words mask n) in
    e ∙ ap (then_told start) (sym more)

-- ---- bits

module _ {X : Type 0} where
  picked_front : (bits : List Bool) (xs ys : List X) → length bits ≤ length xs → items_where_true bits (xs ++ ys) ≡ items_where_true bits xs
  picked_front [] xs ys h = refl
  picked_front (b ∷ bits) [] ys h = absurd (omega arith)
  picked_front (true ∷ bits) (x ∷ xs) ys h = ap (λ l. x ∷ l) (picked_front bits xs ys (omega arith))
  picked_front (false ∷ bits) (x ∷ xs) ys h = picked_front bits xs ys (omega arith)

-- what a mask's word picks of a source's word is what it picks of the source from there on
picked_of_word : (mask src : List Bool) (i : ℕ) → length src ≡ length mask → picked_bits (word_at src i) (word_at mask i) ≡ items_where_true (word_bits (word_at mask i) 64) (drop (64 * i) src)
picked_of_word mask src i h =
    let a = bits_in mask i in
    let b = bits_in src i in
    let behind = drop (64 * i) src in
    let long : length a ≤ length b = omega (arith, length-bits_in mask i, length-bits_in src i) in
    picked_word mask i (word_bits (word_at src i) 64)
    ∙ ap (items_where_true a) (word_bits-word_at src i)
    ∙ picked_front a b (replicate (64 - length b) false) long
    ∙ sym (picked_front a b (drop 64 behind) long)
    ∙ ap (items_where_true a) (take-append-drop 64 behind)
    ∙ sym (picked_word mask i behind)

-- one word more
pub word_kept : (mask src before after : List Bool) (i : ℕ) → length src ≡ length mask → 64 * i ≤ length mask → before ≡ items_where_true (take (64 * i) mask) src → after ≡ before ++ picked_bits (word_at src i) (word_at mask i) → after ≡ items_where_true (take (64 * (i + 1)) mask) src
word_kept mask src before after i h within e f =
    f ∙ ap₂ ◌++◌ e (picked_of_word mask src i h) ∙ sym (picked_words_more mask i src within)

-- a word of 0 adds nothing
pub no_word_kept : (mask src before : List Bool) (i : ℕ) → 64 * i ≤ length mask → word_at mask i ≡ 0 → before ≡ items_where_true (take (64 * i) mask) src → before ≡ items_where_true (take (64 * (i + 1)) mask) src
no_word_kept mask src before i within none e =
    e ∙ sym (picked_words_more mask i src within
    ∙ ap (λ l. items_where_true (take (64 * i) mask) src ++ l) (picked_no_word (word_at mask i) (drop (64 * i) src) none)
    ∙ append-nil _)
