-- Items that are copied by the bits of a mask, word after word.
use Rattle.std.proofs.Common.{◌≡◌, ℕ, ◌+◌, ◌*◌, ◌≤◌, Bool, List, ◌++◌, length, take, drop, map, Some, refl, sym, ap, ◌∙◌, arith}
use Rattle.std.specs.List.{slice_get}
use Rattle.std.specs.Int.RustNames.{count_ones}
use Rattle.std.proofs.lemmas.List.{map-append}
use Rattle.vx_bits.specs.BitBuffer.{true_count_of}
use Rattle.vx_bits.specs.Words.{word_at, word_bits}
use Rattle.vx_filter.proofs.Moves.{same_further}
use Rattle.vx_mask.specs.Positions.{positions, set_of}
use Rattle.vx_mask.proofs.WordCounts.{count_of_word}
use Rattle.vx_mask.proofs.WordPositions.{word_pushed}

module _ {X : Type 0} where
  -- the items at the set ones of the bits of the first words stand at the front, and the rest is as
  -- it was
  pub record IsPicked (src : List X) (bits : List Bool) (old now : List X) (kept w : ℕ) : Type 0 where
    pub front : map Some (take kept now) ≡ map (slice_get src) (set_of (take (64 * w) bits))
    pub rest : drop kept now ≡ drop kept old
    pub count : kept ≡ true_count_of (take (64 * w) bits)

  -- one more word was gone through
  pub picked_more : (src : List X) (bits : List Bool) (old now new : List X) (kept next w word : ℕ) → 64 * w ≤ length bits → word ≡ word_at bits w → next ≡ kept + count_ones word → map Some (take next new) ≡ map Some (take kept now) ++ map (slice_get src) (positions (64 * w) (word_bits word 64)) → drop next new ≡ drop next now → IsPicked src bits old now kept w → IsPicked src bits old new next (w + 1)
  picked_more src bits old now new kept next w word h e count step rest v =
      let places = positions (64 * w) (word_bits word 64) in
      let before = set_of (take (64 * w) bits) in
      record {
        front = step ∙ ap (λ l. l ++ map (slice_get src) places) v.front
            ∙ sym (map-append (slice_get src) before places)
            ∙ ap (map (slice_get src)) (word_pushed bits before (before ++ places) w word h e refl refl);
        rest = rest ∙ same_further old now kept next (omega (arith, count)) v.rest;
        count = omega (arith, count, v.count, count_of_word bits w word e);
      }
