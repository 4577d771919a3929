-- Lemmas on bits that are turned on at places, and on picks among the set positions.
use Rattle.std.proofs.Common.{◌≡◌, ◌-◌, ◌+◌, ◌^◌, ◌*◌, ◌/◌, ◌%◌, bit_and, ℕ, zero, suc, ◌<◌, ◌≤◌, Bool, true, false, cond, List, [], ◌∷◌, length, get_or, map, take, None, Some, refl, sym, ap, ap₂, subst, ◌∙◌, arith}
use Rattle.std.specs.Prelude.{IfSome, Option, ◌==◌}
use Rattle.std.specs.Int.RustNames.{count_ones}
use Rattle.std.specs.List.{All, slice_get}
use Rattle.std.specs.Option.{option_map}
use Rattle.std.proofs.lemmas.Bool.{eqb-false}
use Rattle.std.proofs.lemmas.List.{get_or_default, get_or-map, length-map}
use Rattle.std.proofs.lemmas.List.FromFn.{get_or-map-range_with_len, length-map-range_with_len}
use Rattle.std.proofs.lemmas.Option.{slice_get-get_or, slice_get_within}
use Rattle.vx_bits.specs.BitBuffer.{true_count_of}
use Rattle.vx_bits.specs.Words.{word_at}
use Rattle.vx_mask.specs.Positions.{rank_of}
use Rattle.vx_mask.proofs.BlockCounts.{count_fits}
use Rattle.vx_mask.proofs.WordCounts.{count_before}
use Rattle.vx_mask.proofs.PositionLists.{get_or_of_slice_get, position_at, true_count_before_set}
use Rattle.vx_take.specs.Picks.{ArePlaces, IsPlace, null_place, pick_of, picks_of}
use Rattle.vx_take.specs.Ranks.{AreJustSet, AreSet, place_before, ranks_of_picks, positions_by_rank, word_counts}
use Rattle.vx_take.proofs.RankedPicks.{pick_there}

-- ---- bits at places

-- the bits are set at just the first k places that stand for no null
pub record AreMarkedTo (bits : List Bool) (len : ℕ) (places : List ℕ) (k : ℕ) : Type 0 where
  pub long : length bits ≡ len
  pub set : (i : ℕ) → i < k → (get_or places i 0 ≡ null_place → ⊥) → get_or bits (get_or places i 0) false ≡ true
  pub only : (p : ℕ) → get_or bits p false ≡ true → (i : ℕ) × (i < k) × (get_or places i 0 ≡ p)

-- the pick of a place is there
pub record IsPick (place p : ℕ) : Type 0 where
  pub there : place ≡ null_place → ⊥
  pub same : place ≡ p

pick_tested : (place p : ℕ) (null : Bool) → (place == null_place) ≡ null → cond null None (Some place) ≡ Some p → IsPick place p
pick_tested place p true e h = let none : None ≡ Some p = h in cc
pick_tested place p false e h = let some : Some place ≡ Some p = h in record { there = eqb-false place null_place e; same = cc }

pub pick_was : (place p : ℕ) → pick_of place ≡ Some p → IsPick place p
pick_was place p h = pick_tested place p (place == null_place) refl h

marked_picks : (bits : List Bool) (len : ℕ) (places : List ℕ) (k : ℕ) → AreMarkedTo bits len places k → k ≡ length places → ArePlaces places len → len ≤ null_place → AreJustSet bits (picks_of places)
marked_picks bits len places k marked all are fits p = (
  λ set.
      let within = slice_get_within bits p true set in
      let found = marked.only p (get_or_of_slice_get bits p set) in
      let i = found.0 in
      let inside : i < length places = omega (arith, found.1) in
      let there : p ≡ null_place → ⊥ = λ null. omega (arith, null, within, marked.long, fits) in
      (i, omega (arith, inside, length-map places pick_of), get_or-map pick_of places i 0 (Some p) inside ∙ ap pick_of found.2 ∙ pick_there p there),
  λ has.
      let i = has.0 in
      let inside : i < length places = omega (arith, has.1, length-map places pick_of) in
      let was = pick_was (get_or places i 0) p (sym (get_or-map pick_of places i 0 (Some p) inside) ∙ has.2) in
      let within : get_or places i 0 < length bits = omega (arith, are.each i inside was.there, marked.long) in
      ap (slice_get bits) (sym was.same) ∙ slice_get-get_or bits (get_or places i 0) false within ∙ ap Some (marked.set i (omega (arith, inside)) was.there),
)

-- the set positions are just the picks
pub just_set : (bits : List Bool) (len : ℕ) (places : List ℕ) (k : ℕ) (picks : List (Option ℕ)) → AreMarkedTo bits len places k → k ≡ length places → ArePlaces places len → len ≤ null_place → picks_of places ≡ picks → AreJustSet bits picks
just_set bits len places k picks marked all are fits e =
    let P : List (Option ℕ) → Type 0 = λ l. AreJustSet bits l in
    subst P e (marked_picks bits len places k marked all are fits)

set_tested : (bits : List Bool) (picks : List (Option ℕ)) (k : ℕ) (d pick : Option ℕ) → AreJustSet bits picks → k < length picks → get_or picks k d ≡ pick → IfSome pick (λ p. slice_get bits p ≡ Some true)
set_tested bits picks k d None just h e = tt
set_tested bits picks k d (Some p) just h e = (just p).1 (k, h, get_or_default picks k (Some p) d h ∙ e)

pub each_set : (bits : List Bool) (picks : List (Option ℕ)) → AreJustSet bits picks → AreSet bits picks
each_set bits picks just k d h = set_tested bits picks k d (get_or picks k d) just h refl

-- ---- the ranks of picks

within_bits : (bits : List Bool) (pick : Option ℕ) → IfSome pick (λ p. slice_get bits p ≡ Some true) → IfSome pick (λ p. p < length bits)
within_bits bits None h = tt
within_bits bits (Some p) h = slice_get_within bits p true h

-- places that stand for set positions are within the bits
pub places_within : (bits : List Bool) (places : List ℕ) (picks : List (Option ℕ)) → AreSet bits picks → picks_of places ≡ picks → All (λ place. IfSome (pick_of place) (λ p. p < length bits)) places
places_within bits places picks set e k d h =
    let P : List (Option ℕ) → Type 0 = λ l. AreSet bits l in
    let own = subst P (sym e) set k None (omega (arith, h, length-map places pick_of)) in
    let Q : Option ℕ → Type 0 = λ o. IfSome o (λ p. slice_get bits p ≡ Some true) in
    within_bits bits (pick_of (get_or places k d)) (subst Q (get_or-map pick_of places k d None h) own)

-- a pick among the set positions: its rank, as a place and as a pick
record IsRanked (bits : List Bool) (pick : Option ℕ) : Type 0 where
  pub stands : pick_of (place_before bits pick) ≡ option_map (λ p. true_count_of (take p bits)) pick
  pub below : IsPlace (place_before bits pick) (true_count_of bits)

is_ranked : (bits : List Bool) (pick : Option ℕ) → length bits ≤ null_place → IfSome pick (λ p. slice_get bits p ≡ Some true) → IsRanked bits pick
is_ranked bits None fits h = record { stands = refl; below = λ there. absurd (there refl) }
is_ranked bits (Some p) fits h =
    let within = slice_get_within bits p true h in
    record {
      stands = pick_there (true_count_of (take p bits)) (λ null. omega (arith, null, within, count_fits bits p, fits));
      below = λ there. true_count_before_set bits p within (get_or_of_slice_get bits p h);
    }

module _ (bits : List Bool) (fits : length bits ≤ null_place) where
  pub ranked_picks : (picks : List (Option ℕ)) → AreSet bits picks → picks_of (map (place_before bits) picks) ≡ ranks_of_picks bits picks
  ranked_picks [] set = refl
  ranked_picks (pick ∷ picks) set = ap₂ ◌∷◌ (is_ranked bits pick fits (set zero None (omega arith))).stands (ranked_picks picks (λ k d h. set (suc k) d (omega arith)))

  pub ranked_places : (picks : List (Option ℕ)) → AreSet bits picks → ArePlaces (map (place_before bits) picks) (true_count_of bits)
  ranked_places picks set = record {
    each = λ k h.
        let inside : k < length picks = omega (arith, h, length-map picks (place_before bits)) in
        let P : ℕ → Type 0 = λ n. IsPlace n (true_count_of bits) in
        subst P (sym (get_or-map (place_before bits) picks k None 0 inside)) (is_ranked bits (get_or picks k None) fits (set k None inside)).below;
  }

-- the position of the rank of a set position is that position
one_back : (bits : List Bool) (pick : Option ℕ) → IfSome pick (λ p. slice_get bits p ≡ Some true) → option_map (rank_of bits) (option_map (λ p. true_count_of (take p bits)) pick) ≡ pick
one_back bits None h = refl
one_back bits (Some p) h =
    ap Some (position_at 0 bits p 0 (slice_get_within bits p true h) (get_or_of_slice_get bits p h) ∙ omega arith)

pub ranked_back : (bits : List Bool) (picks : List (Option ℕ)) → AreSet bits picks → positions_by_rank bits (ranks_of_picks bits picks) ≡ picks
ranked_back bits [] set = refl
ranked_back bits (pick ∷ picks) set = ap₂ ◌∷◌ (one_back bits pick (set zero None (omega arith))) (ranked_back bits picks (λ k d h. set (suc k) d (omega arith)))

-- ---- counts before words

pub position_below : (bits : List Bool) (place : ℕ) → (place ≡ null_place → ⊥) → IfSome (pick_of place) (λ p. p < length bits) → place < length bits
position_below bits place there h =
    let P : Option ℕ → Type 0 = λ o. IfSome o (λ p. p < length bits) in
    subst P (pick_there place there) h

pub counts_long : (bits : List Bool) (counts : List ℕ) → counts ≡ word_counts bits → length counts ≡ length bits / 64 + 1
counts_long bits counts e = ap length e ∙ length-map-range_with_len (λ w. true_count_of (take (64 * w) bits)) 0 (length bits / 64 + 1)

-- the set bits before the word, and those of the word before the place
pub counted_before : (bits : List Bool) (counts : List ℕ) (p word : ℕ) → counts ≡ word_counts bits → p < length bits → word ≡ word_at bits (p / 64) → get_or counts (p / 64) 0 + count_ones (bit_and word (1 * 2 ^ (p % 64) % 2 ^ 64 - 1)) ≡ true_count_of (take p bits)
counted_before bits counts p word e h own =
    let within : p / 64 < length bits / 64 + 1 = omega arith in
    let first = ap (λ l. get_or l (p / 64) 0) e ∙ get_or-map-range_with_len (λ w. true_count_of (take (64 * w) bits)) 0 (length bits / 64 + 1) (p / 64) (p / 64) 0 within (omega arith) in
    ap (λ n. n + count_ones (bit_and word (1 * 2 ^ (p % 64) % 2 ^ 64 - 1))) first ∙ count_before bits p word own
