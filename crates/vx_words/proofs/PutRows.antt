-- Rows that are put one behind another, each over the one before where that is not selected.
use Rattle.std.proofs.Common.{◌≡◌, ℕ, ◌+◌, ◌*◌, ◌/◌, ◌%◌, ◌^◌, ◌<◌, ◌≤◌, cond, eqb, List, [], ◌∷◌, ◌++◌, length, get_or, take, drop, set, map, Some, bit_and, inl, inr, refl, sym, ap, subst, ◌∙◌, arith, append_assoc, append-nil}
use Rattle.std.specs.List.{slice_get}
use Rattle.std.specs.Int.RustNames.{count_ones}
use Rattle.std.proofs.lemmas.Bool.{cases_eq}
use Rattle.std.proofs.lemmas.List.{drop-set-lt, map-append, take-set-le, take_more_set}
use Rattle.std.proofs.lemmas.List.Sums.{count_by-le-length, sum_by-append}
use Rattle.std.proofs.lemmas.Nat.{and_mask}
use Rattle.std.proofs.lemmas.Option.{slice_get-get_or}
use Rattle.vx_bits.specs.BitBuffer.{true_count_of}
use Rattle.vx_bits.specs.Words.{word_bits}
use Rattle.vx_bits.proofs.WordBits.{length-word_bits, word_bits-none}
use Rattle.vx_filter.specs.Compact.{bits_of_words}
use Rattle.vx_filter.proofs.Copies.{IsCompacted, words_more}
use Rattle.vx_filter.proofs.Moves.{same_further}
use Rattle.vx_mask.specs.Positions.{positions, set_of}
use Rattle.vx_mask.proofs.PositionLists.{positions-append}
use Rattle.vx_words.specs.Filters.{AreRowsPut}
use Rattle.vx_words.specs.Masks.{count_of}
use Rattle.vx_words.proofs.MaskWords.{count_more}
use Rattle.vx_bits.proofs.ByteWords.{word_split}

-- the only bit
only_bit : (word : ℕ) → word_bits word 1 ≡ eqb (word % 2) 1 ∷ []
unfolding word_bits
only_bit word = refl

module _ {X : Type 0} where
  -- no more places than rows
  pub rows_within : (src : List X) (from word n : ℕ) (old new : List X) (to next : ℕ) → AreRowsPut src from word n old new to next → next ≤ to + n
  rows_within src from word n old new to next v =
      omega (arith, v.count, count_by-le-length (λ bit. bit) (word_bits word n), length-word_bits word n)

  -- some rows, and those behind them
  pub rows_joined : (src : List X) (from word m n : ℕ) (old mid new : List X) (to next last : ℕ) → AreRowsPut src from word m old mid to next → AreRowsPut src (from + m) (word / 2 ^ m) n mid new next last → AreRowsPut src from word (m + n) old new to last
  rows_joined src from word m n old mid new to next last a b =
      let front = word_bits word m in
      let back = word_bits (word / 2 ^ m) n in
      let cut = word_split word m n in
      let places : positions from (word_bits word (m + n)) ≡ positions from front ++ positions (from + m) back =
      ap (positions from) cut ∙ positions-append from front back ∙ ap (λ k. positions from front ++ positions (from + k) back) (length-word_bits word m) in
      let within = rows_within src from word m old mid to next a in
      record {
        count = omega (arith, a.count, b.count, ap true_count_of cut, sum_by-append (λ bit. cond bit 1 0) front back);
        front =
            b.front ∙ ap (λ l. l ++ map (slice_get src) (positions (from + m) back)) a.front
            ∙ append_assoc (map Some (take to old)) (map (slice_get src) (positions from front)) (map (slice_get src) (positions (from + m) back))
            ∙ ap (λ l. map Some (take to old) ++ l) (sym (map-append (slice_get src) (positions from front) (positions (from + m) back)) ∙ ap (map (slice_get src)) (sym places));
        rest = same_further mid new (next + n) (to + (m + n)) (omega arith) b.rest ∙ same_further old mid (to + m) (to + (m + n)) (omega arith) a.rest;
      }

  -- no row
  pub no_rows : (src : List X) (from word : ℕ) (old : List X) (to : ℕ) → AreRowsPut src from word 0 old old to to
  no_rows src from word old to =
      let none = word_bits-none word in
      record {
        count = omega (arith, ap true_count_of none);
        front = sym (append-nil (map Some (take to old))) ∙ ap (λ l. map Some (take to old) ++ map (slice_get src) (positions from l)) (sym none);
        rest = refl;
      }

  put_set : (src old : List X) (from bits to next : ℕ) (x : X) → Some x ≡ slice_get src from → to < length old → next ≡ to + bits % 2 → AreRowsPut src from bits 1 old (set old to x) to next
  put_set src old from bits to next x item room e =
      let one = only_bit bits in
      elim (cases_eq (bits % 2) 1) [
        | inl s ↦
            let is = one ∙ ap (λ r. eqb r 1 ∷ []) s in
            let more : next ≡ to + 1 = omega arith in
            record {
              count = omega (arith, ap true_count_of is);
              front =
                  ap (λ n. map Some (take n (set old to x))) more
                  ∙ ap (map Some) (take_more_set old to x room)
                  ∙ map-append Some (take to old) (x ∷ [])
                  ∙ ap (λ y. map Some (take to old) ++ y ∷ []) item
                  ∙ ap (λ l. map Some (take to old) ++ map (slice_get src) (positions from l)) (sym is);
              rest = drop-set-lt (to + 1) old to x (omega arith);
            }
        | inr c ↦
            let none : bits % 2 ≡ 0 = omega arith in
            let is = one ∙ ap (λ r. eqb r 1 ∷ []) none in
            let same : next ≡ to = omega arith in
            record {
              count = omega (arith, ap true_count_of is);
              front =
                  ap (λ n. map Some (take n (set old to x))) same
                  ∙ ap (map Some) (take-set-le to old to x (omega arith))
                  ∙ sym (append-nil (map Some (take to old)))
                  ∙ ap (λ l. map Some (take to old) ++ map (slice_get src) (positions from l)) (sym is);
              rest = drop-set-lt (to + 1) old to x (omega arith);
            }
      ]

  -- one row
  pub row_put : (src old new : List X) (from bits to next : ℕ) → from < length src → to < length old → ((d : X) → new ≡ set old to (get_or src from d)) → next ≡ to + bit_and bits 1 → AreRowsPut src from bits 1 old new to next
  row_put [] old new from bits to next within room e count = absurd (omega arith)
  row_put (y ∷ ys) old new from bits to next within room e count =
      let src = y ∷ ys in
      let x = get_or src from y in
      let low : bit_and bits 1 ≡ bits % 2 = and_mask bits 1 in
      subst (λ (l : List X). AreRowsPut src from bits 1 old l to next) (sym (e y)) (put_set src old from bits to next x (sym (slice_get-get_or src from y within)) room (omega (arith, low)))

  -- ---- word after word

  -- the items of the first words stand at the front, and behind `end` dst is as it was
  pub record IsPutTo (src old now : List X) (words : List ℕ) (kept end w : ℕ) : Type 0 where
    pub front : map Some (take kept now) ≡ map (slice_get src) (set_of (bits_of_words (take w words)))
    pub rest : drop end now ≡ drop end old
    pub count : kept ≡ count_of (take w words)

  pub put_more : (src old now new : List X) (words : List ℕ) (kept next end w : ℕ) → w < length words → get_or words w 0 < 2 ^ 64 → next ≡ kept + count_ones (get_or words w 0) → map Some (take next new) ≡ map Some (take kept now) ++ map (slice_get src) (positions (64 * w) (word_bits (get_or words w 0) 64)) → drop end new ≡ drop end now → IsPutTo src old now words kept end w → IsPutTo src old new words next end (w + 1)
  put_more src old now new words kept next end w h fits count step rest v =
      let places = positions (64 * w) (word_bits (get_or words w 0) 64) in
      record {
        front = step ∙ ap (λ l. l ++ map (slice_get src) places) v.front
            ∙ sym (map-append (slice_get src) (set_of (bits_of_words (take w words))) places)
            ∙ ap (map (slice_get src)) (sym (words_more words w h));
        rest = rest ∙ v.rest;
        count = omega (arith, count, v.count, count_more words w h fits);
      }

  pub put_compacted : (src old now : List X) (words : List ℕ) (kept end w : ℕ) → IsPutTo src old now words kept end w → IsCompacted src now now words kept w
  put_compacted src old now words kept end w v = record { front = v.front; rest = refl; count = v.count }
