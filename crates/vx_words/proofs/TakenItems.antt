-- Picks of which some are null, and the items at them.
use Rattle.std.proofs.Common.{◌≡◌, ℕ, ◌+◌, ◌*◌, ◌/◌, ◌%◌, ◌<◌, ◌≤◌, true, cond, eqb, ltb, List, [], ◌∷◌, ◌++◌, length, get_or, take, drop, set, map, eq-eqb, refl, subst, sym, ap, ap₂, ◌∙◌, arith}
use Rattle.std.specs.Int.{bit_at}
use Rattle.std.specs.List.{range_with_len}
use Rattle.std.proofs.lemmas.Bool.{le-ltb, lt-ltb}
use Rattle.std.proofs.Math.ListN.{length-set}
use Rattle.std.proofs.lemmas.List.{get_or-drop, get_or_append_left, map-append, take-append-drop, take_more_set}
use Rattle.std.proofs.lemmas.List.FromFn.{map-range_with_len_more}
use Rattle.vx_bits.specs.Words.{word_bits}
use Rattle.vx_bits.proofs.WordBits.{get_or-word_bits, length-word_bits}
use Rattle.vx_filter.specs.Compact.{bits_of_words}
use Rattle.vx_take.specs.Picks.{at, item_at}
use Rattle.vx_words.specs.Masks.{mask_fault}
use Rattle.vx_words.specs.Takes.{IsFront, front_at, is_there, pick_at, take_fault, valid_fault}
use Rattle.vx_words.proofs.MaskRows.{bits_from}

-- ---- which picks are not null

pub all_there : (valid : List ℕ) (k : ℕ) → length valid ≡ 0 → is_there valid k ≡ true
all_there [] k e = refl
all_there (x ∷ valid) k e = absurd (omega (arith, e))

pub there_bit : (valid : List ℕ) (k : ℕ) → k / 64 < length valid → is_there valid k ≡ eqb (bit_at (get_or valid (k / 64) 0) (k % 64)) 1
there_bit valid k h =
    let w = k / 64 in
    let r = k % 64 in
    let x = get_or valid w 0 in
    let place : k ≡ 64 * w + r = omega arith in
    let low : r < 64 = omega arith in
    ap (λ n. get_or (bits_of_words valid) n true) place
    ∙ sym (get_or-drop (64 * w) (bits_of_words valid) r true)
    ∙ ap (λ l. get_or l r true) (bits_from valid w h)
    ∙ get_or_append_left (word_bits x 64) (bits_of_words (drop (w + 1) valid)) true r (omega (arith, length-word_bits x 64))
    ∙ get_or-word_bits x 64 r true low

-- ---- faults

-- without a word the words are none
pub no_word : (valid : List ℕ) → length valid ≡ 0 → [] ≡ valid
no_word [] e = refl
no_word (x ∷ valid) e = absurd (omega (arith, e))

pub no_words : (picks : ℕ) (valid : List ℕ) → length valid ≡ 0 → 0 ≡ valid_fault picks valid
no_words picks valid e = sym (ap (λ b. cond b 0 (mask_fault picks valid)) (eq-eqb (length valid) 0 e))

valid_passed : (picks : ℕ) (valid : List ℕ) (room : ℕ) → valid_fault picks valid ≡ 0 → take_fault picks valid room ≡ cond (ltb room picks) 3 0
valid_passed picks valid room e = ap (λ b. cond b (cond (ltb room picks) 3 0) (valid_fault picks valid)) (eq-eqb (valid_fault picks valid) 0 e)

pub no_room : (picks : ℕ) (valid : List ℕ) (room : ℕ) → valid_fault picks valid ≡ 0 → room < picks → 3 ≡ take_fault picks valid room
no_room picks valid room e h = sym (valid_passed picks valid room e ∙ ap (λ b. cond b 3 0) (lt-ltb room picks h))

pub some_room : (picks : ℕ) (valid : List ℕ) (room : ℕ) → valid_fault picks valid ≡ 0 → picks ≤ room → 0 ≡ take_fault picks valid room
some_room picks valid room e h = sym (valid_passed picks valid room e ∙ ap (λ b. cond b 3 0) (le-ltb room picks h))

-- ---- items

module _ {X : Type 0} (fill : X) (src : List X) (indices valid : List ℕ) where
  -- the items at one more pick
  pub items_more : (k : ℕ) → at fill src (map (pick_at indices valid) (range_with_len 0 k)) ++ item_at fill src (pick_at indices valid k) ∷ [] ≡ at fill src (map (pick_at indices valid) (range_with_len 0 (k + 1)))
  items_more k =
      sym (map-append (item_at fill src) (map (pick_at indices valid) (range_with_len 0 k)) (pick_at indices valid k ∷ []))
      ∙ ap (at fill src) (sym (map-range_with_len_more (pick_at indices valid) 0 k k (omega arith)))

  -- the item at one more pick was written
  pub gathered_more : (dst : List X) (k : ℕ) (x : X) → k < length dst → take k dst ≡ at fill src (map (pick_at indices valid) (range_with_len 0 k)) → x ≡ item_at fill src (pick_at indices valid k) → take (k + 1) (set dst k x) ≡ at fill src (map (pick_at indices valid) (range_with_len 0 (k + 1)))
  gathered_more dst k x room before item = take_more_set dst k x room ∙ ap₂ (λ l y. l ++ y ∷ []) before item ∙ items_more k

  -- the item at one more pick was written, where the next place is named
  stored_next : (dst : List X) (k n : ℕ) (x : X) → n ≡ k + 1 → k < length dst → take k dst ≡ front_at fill src indices valid k → x ≡ item_at fill src (pick_at indices valid k) → take n (set dst k x) ≡ front_at fill src indices valid n
  stored_next dst k n x e room before item =
      subst (λ m. take m (set dst k x) ≡ front_at fill src indices valid m) (sym e) (gathered_more dst k x room before item)

  -- the items at four more picks were written
  pub four_more : (dst : List X) (k : ℕ) (a b c d : X) → k + 4 ≤ length dst → take k dst ≡ front_at fill src indices valid k → a ≡ item_at fill src (pick_at indices valid k) → b ≡ item_at fill src (pick_at indices valid (k + 1)) → c ≡ item_at fill src (pick_at indices valid (k + 2)) → d ≡ item_at fill src (pick_at indices valid (k + 3)) → take (k + 4) (set (set (set (set dst k a) (k + 1) b) (k + 2) c) (k + 3) d) ≡ front_at fill src indices valid (k + 4)
  four_more dst k a b c d room before ea eb ec ed =
      let one = set dst k a in
      let two = set one (k + 1) b in
      let three = set two (k + 2) c in
      let n1 : length one ≡ length dst = length-set dst k a in
      let n2 : length two ≡ length one = length-set one (k + 1) b in
      let n3 : length three ≡ length two = length-set two (k + 2) c in
      let s1 = stored_next dst k (k + 1) a refl (omega arith) before ea in
      let s2 = stored_next one (k + 1) (k + 2) b (omega arith) (omega arith) s1 eb in
      let s3 = stored_next two (k + 2) (k + 3) c (omega arith) (omega arith) s2 ec in
      stored_next three (k + 3) (k + 4) d (omega arith) (omega arith) s3 ed

  -- the whole list behind the first k items
  pub front_whole : (old new : List X) (k : ℕ) → IsFront fill src indices valid old new k → new ≡ front_at fill src indices valid k ++ drop k old
  front_whole old new k f = sym (take-append-drop k new) ∙ ap₂ (λ a b. a ++ b) f.items f.rest
