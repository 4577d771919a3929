-- The bits at a list of places, 64 at a time.
use Rattle.std.proofs.Common.{◌≡◌, ℕ, ◌+◌, ◌*◌, ◌%◌, ◌^◌, ◌<◌, ◌≤◌, min, Bool, true, false, eqb, List, [], ◌∷◌, ◌++◌, length, get_or, map, take, drop, Some, bit_or, refl, sym, ap, ap₂, ◌∙◌, arith}
use mir.Val.{bool_byte}
use Rattle.std.specs.List.{All, items_where_true, slice_get}
use Rattle.std.proofs.lemmas.List.{drop-take, map-append, take-append-drop, take-take, take_min, take_more}
use Rattle.std.proofs.lemmas.List.Elements.{All-from_get_or}
use Rattle.std.proofs.lemmas.Option.{get_or_from_slice_get}
use Rattle.vx_bits.specs.Words.{word_bits}
use Rattle.vx_mask.specs.Positions.{rank_of, set_of}
use Rattle.vx_mask.proofs.PositionLists.{length-positions, rank_within}
use Rattle.vx_mask.proofs.RankedItems.{items_at_the_set}
use Rattle.vx_bitfilter.proofs.PackedBits.{bit_pushed}

-- the bits at places
abbrev pub bits_at : List Bool → List ℕ → List Bool
bits_at src places = map (λ place. get_or src place false) places

-- ---- one word of them

-- a word that holds the bits at the first k places, and nothing above them
pub record HoldsFirst (src : List Bool) (places : List ℕ) (word k : ℕ) : Type 0 where
  pub value : word_bits word k ≡ bits_at src (take k places)
  pub below : word < 2 ^ k

digit : (b : Bool) → (bool_byte b < 2) × (eqb (bool_byte b) 1 ≡ b)
digit true = (omega arith, refl)
digit false = (omega arith, refl)

pub next_place : (src : List Bool) (places : List ℕ) (word after k bit : ℕ) → k < length places → length places ≤ 64 → bit ≡ bool_byte (get_or src (get_or places k 0) false) → after ≡ bit_or word (bit * 2 ^ k % 2 ^ 64) → HoldsFirst src places word k → HoldsFirst src places after (k + 1)
next_place src places word after k bit within short is e v =
    let set = get_or src (get_or places k 0) false in
    let d = digit set in
    let small : bit < 2 = omega (arith, d.0, is) in
    let pushed = bit_pushed word after k bit v.below small (omega arith) e in
    record {
      value = pushed.bits ∙ ap₂ (λ l b. l ++ b ∷ []) v.value (ap (λ x. eqb x 1) is ∙ d.1)
          ∙ sym (ap (bits_at src) (take_more places k 0 within) ∙ map-append (λ place. get_or src place false) (take k places) (get_or places k 0 ∷ []));
      below = pushed.below;
    }

-- ---- one word after another

pub next_places : (src : List Bool) (places : List ℕ) (k n : ℕ) → n ≡ min 64 (length (drop (64 * k) places)) → bits_at src (take (64 * (k + 1)) places) ≡ bits_at src (take (64 * k) places) ++ bits_at src (take n (drop (64 * k) places))
next_places src places k n e =
    let f = λ (place : ℕ). get_or src place false in
    let next : 64 * (k + 1) ≡ 64 * k + 64 = omega arith in
    let cut : take (64 * k + 64) places ≡ take (64 * k) places ++ take 64 (drop (64 * k) places) =
    sym (take-append-drop (64 * k) (take (64 * k + 64) places)) ∙ ap₂ ◌++◌ (take-take (64 * k) (64 * k + 64) places (omega arith)) (drop-take (64 * k) 64 places) in
    ap (λ m. map f (take m places)) next ∙ ap (map f) cut ∙ map-append f (take (64 * k) places) (take 64 (drop (64 * k) places))
    ∙ ap (λ l. map f (take (64 * k) places) ++ map f l) (sym (ap (λ m. take m (drop (64 * k) places)) e ∙ take_min 64 (drop (64 * k) places)))

-- ---- the set positions

-- each is a place of the bits
pub set_within : (bits : List Bool) (places : List ℕ) (n : ℕ) → places ≡ set_of bits → n ≡ length bits → All (λ place. place < n) places
set_within bits places n is e = All-from_get_or (λ place. place < n) places 0 (λ k h.
    let here : get_or places k 0 ≡ rank_of bits k = ap (λ l. get_or l k 0) is in
    omega (arith, here, rank_within bits k (omega (arith, length-positions 0 bits, ap length is)), e))

found : (src : List Bool) (places : List ℕ) (bits : List Bool) → map Some bits ≡ map (slice_get src) places → bits_at src places ≡ bits
found src [] [] e = refl
found src [] (b ∷ bits) e = cc
found src (p ∷ places) [] e = cc
found src (p ∷ places) (b ∷ bits) e =
    let here : slice_get src p ≡ Some b = cc in
    let rest : map Some bits ≡ map (slice_get src) places = cc in
    ap₂ ◌∷◌ (get_or_from_slice_get src p b false here) (found src places bits rest)

-- the bits at the set positions are those where the mask's are set
pub bits_at_the_set : (mask src : List Bool) → length src ≡ length mask → bits_at src (set_of mask) ≡ items_where_true mask src
bits_at_the_set mask src h = found src (set_of mask) (items_where_true mask src) (items_at_the_set mask src (sym h))
