-- The set positions of bytes, one after another.
use Rattle.std.proofs.Common.{◌≡◌, ℕ, ◌+◌, ◌-◌, ◌*◌, ◌/◌, ◌%◌, ◌^◌, ◌<◌, ◌≤◌, Bool, true, false, List, [], ◌∷◌, ◌++◌, length, get_or, take, drop, set, map, eqb, bit_and, Option, Some, inl, inr, refl, sym, ap, ap₂, subst, ◌∙◌, arith, append_assoc, append-nil, take_all}
use Rattle.std.specs.Int.{bit_at}
use Rattle.std.specs.Int.RustNames.{count_ones}
use Rattle.std.specs.List.{All, items_where_true, slice_get}
use Rattle.std.proofs.lemmas.Bool.{cases_lt}
use Rattle.std.proofs.lemmas.List.{drop-append-le, get_or-append-add, length-append, length-drop, length-map, length-take-le, map-append, take-append-le, take-map, take-set, take_more, take_more_set}
use Rattle.std.proofs.lemmas.Option.{slice_get-get_or}
use Rattle.std.proofs.Math.Seq.{drop-append_seam, take-append-add}
use Rattle.std.proofs.lemmas.Nat.{div-add-mod', mod_below, pow_pos}
use Rattle.std.proofs.lemmas.Nat.Bits.{bit_at-lt}
use Rattle.vx_bits.specs.BitBuffer.{true_count_of}
use Rattle.vx_bits.specs.Words.{word_bits}
use Rattle.vx_bits.proofs.WordBits.{length-word_bits, take-word_bits, true_count_of-word_bits, word_bits-append, word_bits_low, word_bits_more}
use Rattle.vx_mask.specs.Positions.{positions, set_of}
use Rattle.vx_mask.proofs.PositionLists.{length-positions, positions-append, positions-shift}
use Rattle.vx_mask.proofs.RankedItems.{items_at_the_set}
use Rattle.vx_mask.proofs.WordCounts.{counts_rise}
use Rattle.vx_filter.proofs.WordItems.{items_behind}
use Rattle.vx_filter.specs.Compress.{IsPlacesRow, IsTable, places_of}
use Rattle.vx_lemmas.proofs.Numbers.{low_bits}
use Rattle.vx_lemmas.proofs.Picked.{same_items}

-- ---- the table

-- one bit more of a byte
place_set : (byte bit : ℕ) → bit_at byte bit ≡ 1 → set_of (word_bits byte (bit + 1)) ≡ set_of (word_bits byte bit) ++ bit ∷ []
place_set byte bit e =
    let at : 0 + length (word_bits byte bit) ≡ bit = omega (arith, length-word_bits byte bit) in
    ap set_of (word_bits_more byte bit ∙ ap (λ r. word_bits byte bit ++ eqb r 1 ∷ []) e)
    ∙ positions-append 0 (word_bits byte bit) (true ∷ [])
    ∙ ap (λ n. set_of (word_bits byte bit) ++ n ∷ []) at

place_clear : (byte bit : ℕ) → bit_at byte bit ≡ 0 → set_of (word_bits byte (bit + 1)) ≡ set_of (word_bits byte bit)
place_clear byte bit e =
    ap set_of (word_bits_more byte bit ∙ ap (λ r. word_bits byte bit ++ eqb r 1 ∷ []) e)
    ∙ positions-append 0 (word_bits byte bit) (false ∷ [])
    ∙ append-nil (set_of (word_bits byte bit))

pub digit_below : (byte bit : ℕ) → bit_and (byte / 2 ^ bit) 1 < 2
digit_below byte bit = omega (arith, low_bits (byte / 2 ^ bit) 1 (omega arith))

-- a bit's position was written behind those of the set bits, and stays if the bit is set
pub place_written : (byte bit count x : ℕ) (row : List ℕ) → x ≡ bit_and (byte / 2 ^ bit) 1 → count < length row → take count row ≡ set_of (word_bits byte bit) → take (count + x) (set row count bit) ≡ set_of (word_bits byte (bit + 1))
place_written byte bit count x row is h f =
    let value : x ≡ bit_at byte bit = is ∙ low_bits (byte / 2 ^ bit) 1 (omega arith) in
    elim (cases_lt (bit_at byte bit) 1) [
      | inl none ↦
          let clear : bit_at byte bit ≡ 0 = omega arith in
          let same : count + x ≡ count = omega arith in
          ap (λ n. take n (set row count bit)) same ∙ take-set row count bit ∙ f ∙ sym (place_clear byte bit clear)
      | inr some ↦
          let one : bit_at byte bit ≡ 1 = omega (arith, bit_at-lt byte bit) in
          let next : count + x ≡ count + 1 = omega arith in
          ap (λ n. take n (set row count bit)) next ∙ take_more_set row count bit h ∙ ap (λ l. l ++ bit ∷ []) f ∙ sym (place_set byte bit one)
    ]

-- all eight bits were written
pub row_written : (byte bit count : ℕ) (row : List ℕ) → byte < 2 ^ 8 → bit ≡ 8 → length row ≡ 8 → count ≤ 8 → All (λ place. place < 8) row → take count row ≡ set_of (word_bits byte bit) → IsPlacesRow byte row
row_written byte bit count row fits all eight h small f =
    let whole : take count row ≡ places_of byte = f ∙ ap (λ n. set_of (word_bits byte n)) all in
    let ones : count_ones byte ≡ count = omega (arith, true_count_of-word_bits byte 8 fits, length-positions 0 (word_bits byte 8), ap length whole, length-take-le count row (omega arith)) in
    record { eight = eight; small = small; front = ap (λ n. take n row) ones ∙ whole }

-- one row more
pub rows_more : (b : ℕ) (places new row : List ℕ) → new ≡ places ++ row → IsPlacesRow b row → IsTable b places → IsTable (b + 1) new
rows_more b places new row e r t = record {
  long = omega (arith, ap length e, length-append places row, r.eight, t.long);
  row = λ k h. elim (cases_lt k b) [
    | inl below ↦
        let long : 8 ≤ length (drop (8 * k) places) = omega (arith, length-drop (8 * k) places, t.long) in
        let same : take 8 (drop (8 * k) new) ≡ take 8 (drop (8 * k) places) = ap (λ l. take 8 (drop (8 * k) l)) e ∙ ap (take 8) (drop-append-le (8 * k) places row (omega (arith, t.long))) ∙ take-append-le 8 (drop (8 * k) places) row long in
        subst (IsPlacesRow k) (sym same) (t.row k below)
    | inr past ↦
        let last : b ≡ k = omega arith in
        let at : 8 * k ≡ length places = omega (arith, t.long) in
        let own : take 8 (drop (8 * k) new) ≡ row = ap (λ l. take 8 (drop (8 * k) l)) e ∙ ap (λ n. take 8 (drop n (places ++ row))) at ∙ ap (take 8) (drop-append_seam places row) ∙ take_all 8 row (omega (arith, r.eight)) in
        subst (λ (n : ℕ). IsPlacesRow n (take 8 (drop (8 * k) new))) last (subst (IsPlacesRow b) (sym own) r)
  ];
}

-- ---- the bytes of a word

-- the places of the bits of one byte more
byte_places : (word n byte : ℕ) → byte ≡ bit_and (word / 2 ^ n) 255 → set_of (word_bits word (n + 8)) ≡ set_of (word_bits word n) ++ map (λ p. n + p) (places_of byte)
byte_places word n byte e =
    let y = word / 2 ^ n in
    let low = word_bits_low word n in
    let is : byte ≡ y % 2 ^ 8 = e ∙ low_bits y 8 (omega arith) in
    let own : word_bits y 8 ≡ word_bits byte 8 = sym (word_bits_low y 8) ∙ ap (λ x. word_bits x 8) (sym is) in
    let split : word_bits word (n + 8) ≡ word_bits word n ++ word_bits byte 8 =
    ap (λ x. word_bits x (n + 8)) (sym (div-add-mod' word (2 ^ n))) ∙ word_bits-append (word % 2 ^ n) n y 8 (mod_below word (2 ^ n) (pow_pos n)) ∙ ap₂ ◌++◌ low own in
    let at : 0 + length (word_bits word n) ≡ n + 0 = omega (arith, length-word_bits word n) in
    ap set_of split ∙ positions-append 0 (word_bits word n) (word_bits byte 8)
    ∙ ap (λ l. set_of (word_bits word n) ++ l) (ap (λ a. positions a (word_bits byte 8)) at ∙ positions-shift n 0 (word_bits byte 8))

-- a map of a map
map-map : {X Y Z : Type 0} (f : Y → Z) (g : X → Y) (xs : List X) → map f (map g xs) ≡ map (λ x. f (g x)) xs
map-map f g [] = refl
map-map f g (x ∷ xs) = ap (λ l. f (g x) ∷ l) (map-map f g xs)

module _ {X : Type 0} where
  pub All-right : (P : X → Type 0) (xs ys : List X) → All P (xs ++ ys) → All P ys
  All-right P xs ys h k d p = subst P (get_or-append-add xs ys k d) (h (length xs + k) d (omega (arith, length-append xs ys)))

  -- the item at one more place of a byte was put out
  pub byte_pick_pushed : (src kept new : List X) (all : List (Option X)) (base i : ℕ) (places : List ℕ) (x : X) → i < length places → base + get_or places i 0 < length src → x ≡ get_or src (base + get_or places i 0) x → new ≡ kept ++ x ∷ [] → map Some kept ≡ all ++ map (λ p. slice_get src (base + p)) (take i places) → map Some new ≡ all ++ map (λ p. slice_get src (base + p)) (take (i + 1) places)
  byte_pick_pushed src kept new all base i places x h within item e f =
      let p = get_or places i 0 in
      let pick = λ (q : ℕ). slice_get src (base + q) in
      let here : Some x ≡ slice_get src (base + p) = ap Some item ∙ sym (slice_get-get_or src (base + p) x within) in
      ap (map Some) e ∙ map-append Some kept (x ∷ []) ∙ ap₂ (λ l y. l ++ y ∷ []) f here
      ∙ append_assoc all (map pick (take i places)) (pick p ∷ [])
      ∙ ap (λ l. all ++ l) (sym (map-append pick (take i places) (p ∷ [])) ∙ ap (map pick) (sym (take_more places i 0 h)))

  -- the items at all of a row were put out, and those behind the first places cut off again
  pub row_cut : (old kept new : List X) (pick : ℕ → Option X) (row : List ℕ) (i count end : ℕ) → length row ≤ i → end ≡ length old + count → new ≡ take end kept → map Some kept ≡ map Some old ++ map pick (take i row) → map Some new ≡ map Some old ++ map pick (take count row)
  row_cut old kept new pick row i count end all at cut f =
      let front = map Some old in
      let place : end ≡ length front + count = omega (arith, at, length-map old (λ x. Some x)) in
      ap (map Some) cut ∙ sym (take-map Some end kept) ∙ ap (take end) (f ∙ ap (λ l. front ++ map pick l) (take_all i row all))
      ∙ ap (λ n. take n (front ++ map pick row)) place ∙ take-append-add front (map pick row) count
      ∙ ap (λ l. front ++ l) (take-map pick count row)

  -- the items of one more byte were put out
  pub byte_pushed : (src kept new : List X) (all : List (Option X)) (word n byte : ℕ) (places : List ℕ) → byte ≡ bit_and (word / 2 ^ n) 255 → places ≡ places_of byte → map Some new ≡ map Some kept ++ map (λ p. slice_get src (n + p)) places → map Some kept ≡ all ++ map (slice_get src) (set_of (word_bits word n)) → map Some new ≡ all ++ map (slice_get src) (set_of (word_bits word (n + 8)))
  byte_pushed src kept new all word n byte places e is step f =
      let front = set_of (word_bits word n) in
      let shift = λ (p : ℕ). n + p in
      step ∙ ap₂ ◌++◌ f (ap (map (λ p. slice_get src (n + p))) is ∙ sym (map-map (slice_get src) shift (places_of byte)))
      ∙ append_assoc all (map (slice_get src) front) (map (slice_get src) (map shift (places_of byte)))
      ∙ ap (λ l. all ++ l) (sym (map-append (slice_get src) front (map shift (places_of byte))) ∙ ap (map (slice_get src)) (sym (byte_places word n byte e)))

  -- the first bytes of a word put out no more items than the word has set bits
  pub bytes_fit : (src kept old : List X) (word n : ℕ) → word < 2 ^ 64 → n ≤ 64 → map Some kept ≡ map Some old ++ map (slice_get src) (set_of (word_bits word n)) → length kept ≤ length old + count_ones word
  bytes_fit src kept old word n fits h f =
      let places = set_of (word_bits word n) in
      let fewer : true_count_of (word_bits word n) ≤ true_count_of (word_bits word 64) = omega (arith, counts_rise (word_bits word 64) n, ap true_count_of (take-word_bits word n 64 h)) in
      omega (arith, ap length f, length-append (map Some old) (map (slice_get src) places), length-map places (slice_get src), length-map kept (λ x. Some x), length-map old (λ x. Some x), length-positions 0 (word_bits word n), fewer, true_count_of-word_bits word 64 fits)

  -- all bytes of a word put out what the word picks
  pub bytes_done : (src kept old : List X) (word n : ℕ) → n ≡ 64 → length src ≡ 64 → map Some kept ≡ map Some old ++ map (slice_get src) (set_of (word_bits word n)) → kept ≡ old ++ items_where_true (word_bits word 64) src
  bytes_done src kept old word n all long f =
      let bits = word_bits word 64 in
      let picked = items_where_true bits src in
      same_items kept (old ++ picked) (
      f ∙ ap (λ k. map Some old ++ map (slice_get src) (set_of (word_bits word k))) all
      ∙ ap (λ l. map Some old ++ l) (sym (items_at_the_set bits src (length-word_bits word 64 ∙ sym long)))
      ∙ sym (map-append Some old picked)
      )

  -- what bits pick of a list they pick of as many of its items
  picked_first : (bits : List Bool) (xs : List X) → length bits ≤ length xs → items_where_true bits (take (length bits) xs) ≡ items_where_true bits xs
  picked_first [] xs h = refl
  picked_first (b ∷ bits) [] h = absurd (omega arith)
  picked_first (true ∷ bits) (x ∷ xs) h = ap (λ l. x ∷ l) (picked_first bits xs (omega arith))
  picked_first (false ∷ bits) (x ∷ xs) h = picked_first bits xs (omega arith)

  -- so what a word picks behind a place it picks of the 64 items there
  pub first_picked : (word : ℕ) (src : List X) (at : ℕ) → 64 ≤ length (take (length src - at) (drop at src)) → items_where_true (word_bits word 64) (take 64 (take (length src - at) (drop at src))) ≡ items_where_true (word_bits word 64) (drop at src)
  first_picked word src at h =
      let bits = word_bits word 64 in
      let whole = items_behind src at in
      let same : 64 ≡ length bits = sym (length-word_bits word 64) in
      ap (λ l. items_where_true bits (take 64 l)) whole ∙ ap (λ n. items_where_true bits (take n (drop at src))) same
      ∙ picked_first bits (drop at src) (omega (arith, h, ap length whole, same))
