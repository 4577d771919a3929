-- Lemmas on ranks, and on the places of the set positions that they name.
use Rattle.std.proofs.Common.{◌≡◌, ℕ, zero, suc, ◌+◌, ◌<◌, ◌≤◌, Bool, cond, List, [], ◌∷◌, length, get_or, None, Some, refl, sym, ap, ap₂, subst, ◌∙◌, arith}
use Rattle.std.specs.Prelude.{IfSome, Option}
use Rattle.std.specs.List.{range_with_len}
use Rattle.std.specs.Option.{option_map}
use Rattle.std.proofs.lemmas.Bool.{ne_eqb}
use Rattle.std.proofs.lemmas.List.{get_or_default, get_or-map, length-map}
use Rattle.std.proofs.lemmas.List.FromFn.{get_or-range_with_len}
use Rattle.vx_bits.specs.BitBuffer.{true_count_of}
use Rattle.vx_mask.specs.Positions.{set_of, rank_of}
use Rattle.vx_mask.proofs.PositionLists.{length-positions, rank_within}
use Rattle.vx_take.specs.Picks.{ArePlaces, AreBelow, IsPlace, item_at, at, null_place, pick_of, picks_of}
use Rattle.vx_take.specs.Ranks.{positions_by_rank}

-- a place that stands for no null
pub pick_there : (place : ℕ) → (place ≡ null_place → ⊥) → pick_of place ≡ Some place
pick_there place h = ap (λ t. cond t None (Some place)) (ne_eqb place null_place h)

pub item_there : (items : List ℕ) (place : ℕ) → (place ≡ null_place → ⊥) → item_at null_place items (pick_of place) ≡ get_or items place null_place
item_there items place h = ap (item_at null_place items) (pick_there place h)

-- the place of a rank in a run
pub in_run : (start n rank : ℕ) → (rank ≡ null_place → ⊥) → rank < n → start + rank ≡ item_at null_place (range_with_len start n) (pick_of rank)
in_run start n rank h p = sym (item_there (range_with_len start n) rank h ∙ get_or-range_with_len start n rank null_place p)

-- the set position of a rank, whatever stands behind the last
rank_at : (bits : List Bool) (k d : ℕ) → k < true_count_of bits → rank_of bits k ≡ get_or (set_of bits) k d
rank_at bits k d h = get_or_default (set_of bits) k 0 d (omega (arith, length-positions 0 bits))

pub in_set : (bits : List Bool) (rank : ℕ) → (rank ≡ null_place → ⊥) → rank < true_count_of bits → rank_of bits rank ≡ item_at null_place (set_of bits) (pick_of rank)
in_set bits rank h p = rank_at bits rank null_place p ∙ sym (item_there (set_of bits) rank h)

-- what stands at a rank, as a place and as a pick
record IsSetPlace (bits : List Bool) (rank : Option ℕ) (place : ℕ) : Type 0 where
  pub pick : pick_of place ≡ option_map (rank_of bits) rank
  pub below : IsPlace place (length bits)

set_place : (bits : List Bool) (bound : ℕ) (rank : Option ℕ) → bound ≤ true_count_of bits → length bits ≤ null_place → IfSome rank (λ k. k < bound) → IsSetPlace bits rank (item_at null_place (set_of bits) rank)
set_place bits bound None few fits h = record { pick = refl; below = λ there. absurd (there refl) }
set_place bits bound (Some k) few fits h =
    let below : k < true_count_of bits = omega (arith, h) in
    let same = rank_at bits k null_place below in
    let within : get_or (set_of bits) k null_place < length bits = omega (arith, same, rank_within bits k below) in
    record {
      pick = pick_there (get_or (set_of bits) k null_place) (λ null. omega (arith, null, within, fits)) ∙ ap Some (sym same);
      below = λ there. within;
    }

-- the places of ranks stand for the set positions that the ranks name
pub set_picks : (bits : List Bool) (bound : ℕ) (ranks : List (Option ℕ)) → bound ≤ true_count_of bits → length bits ≤ null_place → AreBelow ranks bound → picks_of (at null_place (set_of bits) ranks) ≡ positions_by_rank bits ranks
set_picks bits bound [] few fits h = refl
set_picks bits bound (rank ∷ ranks) few fits h =
    ap₂ ◌∷◌ (set_place bits bound rank few fits (h zero None (omega arith))).pick (set_picks bits bound ranks few fits (λ k d p. h (suc k) d (omega arith)))

pub set_places : (bits : List Bool) (bound : ℕ) (ranks : List (Option ℕ)) → bound ≤ true_count_of bits → length bits ≤ null_place → AreBelow ranks bound → ArePlaces (at null_place (set_of bits) ranks) (length bits)
set_places bits bound ranks few fits h = record {
  each = λ k p.
      let within : k < length ranks = omega (arith, p, length-map ranks (item_at null_place (set_of bits))) in
      let P : ℕ → Type 0 = λ n. IsPlace n (length bits) in
      subst P (sym (get_or-map (item_at null_place (set_of bits)) ranks k None 0 within)) (set_place bits bound (get_or ranks k None) few fits (h k None within)).below;
}
