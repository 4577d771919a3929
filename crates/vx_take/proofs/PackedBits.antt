-- Lemmas for bits that are made of places, a word at a time.
use Rattle.std.proofs.Common.{◌≡◌, ℕ, ◌+◌, ◌-◌, ◌*◌, ◌^◌, ◌<◌, ◌≤◌, min, Bool, true, false, cond, List, ◌++◌, length, get_or, map, take, drop, sym, ap, ap₂, subst, ◌∙◌, arith}
use Rattle.std.proofs.lemmas.List.{append-nil, drop-take, length-drop, length-map, length-take-le, map-append, map_more, take-append-drop, take-take, take_all, take_min}
use Rattle.vx_bits.specs.BitBuffer.{number_of}
use Rattle.vx_bits.specs.Words.{word_bits}
use Rattle.vx_bits.proofs.BitLists.{number_below, number_push}
use Rattle.vx_bits.proofs.WordBits.{word_bits-number_of}

one_times : (b : Bool) (p : ℕ) → cond b 1 0 * p ≡ cond b p 0
one_times true p = omega arith
one_times false p = omega arith

module _ (f : ℕ → Bool) where
  bits_long : (places : List ℕ) (k : ℕ) → k ≤ length places → length (map f (take k places)) ≡ k
  bits_long places k h = length-map (take k places) f ∙ length-take-le k places h

  -- the bits of k places are a number of k bits
  pub bits_below : (places : List ℕ) (k word : ℕ) → k ≤ length places → word ≡ number_of (map f (take k places)) → word < 2 ^ k
  bits_below places k word h e =
      let bits = map f (take k places) in
      subst (λ (n : ℕ). word < 2 ^ n) (bits_long places k h) (subst (λ (n : ℕ). n < 2 ^ length bits) (sym e) (number_below bits))

  -- with a bit more
  pub bit_more : (places : List ℕ) (k word new : ℕ) (bit : Bool) → k < length places → word ≡ number_of (map f (take k places)) → bit ≡ f (get_or places k 0) → new ≡ word + cond bit (2 ^ k) 0 → new ≡ number_of (map f (take (k + 1) places))
  bit_more places k word new bit h e own put =
      let bits = map f (take k places) in
      let b = f (get_or places k 0) in
      let more = ap number_of (map_more f places k 0 h) ∙ number_push bits b in
      let value : cond b 1 0 * 2 ^ length bits ≡ cond bit (2 ^ k) 0 =
      ap (λ n. cond b 1 0 * 2 ^ n) (bits_long places k (omega arith)) ∙ one_times b (2 ^ k) ∙ ap (λ v. cond v (2 ^ k) 0) (sym own) in
      put ∙ ap₂ ◌+◌ e (sym value) ∙ sym more

  -- the word of all of them
  pub bits_all : (places : List ℕ) (k word : ℕ) → length places ≤ k → word ≡ number_of (map f (take k places)) → word_bits word (length places) ≡ map f places
  bits_all places k word h e =
      let all : take k places ≡ places = take_all k places h in
      let same : word ≡ number_of (map f places) = e ∙ ap (λ l. number_of (map f l)) all in
      let long : length places ≡ length (map f places) + 0 = omega (arith, length-map places f) in
      ap₂ word_bits same long ∙ word_bits-number_of (map f places) 0 ∙ append-nil (map f places)

  -- the bits of one more word of places
  pub word_more : (places : List ℕ) (w end word : ℕ) (bits new : List Bool) → 64 * w ≤ length places → end ≡ min (length places) (64 * w + 64) → bits ≡ map f (take (64 * w) places) → word_bits word (length (take (end - 64 * w) (drop (64 * w) places))) ≡ map f (take (end - 64 * w) (drop (64 * w) places)) → new ≡ bits ++ word_bits word (end - 64 * w) → new ≡ map f (take (64 * (w + 1)) places)
  word_more places w end word bits new h cut e own put =
      let from = 64 * w in
      let rest = drop from places in
      let n = end - from in
      let next : 64 * (w + 1) ≡ from + 64 = omega arith in
      let left : length rest ≡ length places - from = length-drop from places in
      let short : n ≡ min 64 (length rest) = omega (arith, left) in
      let fits : n ≤ length rest = omega (arith, left) in
      let here : take n rest ≡ take 64 rest = ap (λ m. take m rest) short ∙ take_min 64 rest in
      let long : length (take n rest) ≡ n = length-take-le n rest fits in
      let within : from ≤ from + 64 = omega arith in
      let both = sym (take-append-drop from (take (from + 64) places)) ∙ ap₂ ◌++◌ (take-take from (from + 64) places within) (drop-take from 64 places ∙ sym here) in
      let own_bits : word_bits word n ≡ map f (take n rest) = ap (word_bits word) (sym long) ∙ own in
      put ∙ ap₂ ◌++◌ e own_bits ∙ sym (map-append f (take from places) (take n rest)) ∙ ap (map f) (sym both) ∙ ap (λ m. map f (take m places)) (sym next)
