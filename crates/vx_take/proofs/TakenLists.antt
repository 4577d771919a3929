-- Lemmas on lists at picks, at set positions and at ranks.
use Rattle.std.proofs.Common.{◌≡◌, ℕ, zero, suc, ◌+◌, ◌<◌, Bool, true, false, List, [], ◌∷◌, length, get_or, map, take, None, Some, inl, inr, refl, sym, ap, ap₂, ◌∙◌, arith}
use Rattle.std.specs.Prelude.{IfSome, Option, unwrap_or}
use Rattle.std.specs.List.{items_where_true, slice_get, list_all}
use Rattle.std.specs.Option.{option_map}
use Rattle.std.proofs.lemmas.Bool.{cases_lt, and_from}
use Rattle.std.proofs.lemmas.List.{get_or_default, get_or-map}
use Rattle.std.proofs.lemmas.Option.{slice_get_within}
use Rattle.std.proofs.lemmas.Simd.{map-map}
use Rattle.vx_bits.specs.BitBuffer.{true_count_of}
use Rattle.vx_mask.specs.Positions.{rank_of, set_of}
use Rattle.vx_mask.proofs.PositionLists.{get_or_of_slice_get, length-positions, position_at, ranks_ascend, true_count_before_set, true_count_of-cons}
use Rattle.vx_mask.proofs.RankedItems.{items_at_the_set}
use Rattle.vx_take.specs.Laws.{EachIsOneRank, SetAscends}
use Rattle.vx_take.specs.Picks.{AreBelow, at, item_at}
use Rattle.vx_take.specs.Ranks.{AreSet, ranks_of_picks, positions_by_rank}
use Rattle.vx_lemmas.proofs.Lists.{map_alike}
use Rattle.vx_lemmas.proofs.Tests.{all-get}

pub set_ascends : (bits : List Bool) → SetAscends bits
set_ascends bits k d h =
    let here : k < length (set_of bits) = omega arith in
    let first = get_or_default (set_of bits) k d 0 here in
    let next = get_or_default (set_of bits) (k + 1) d 0 h in
    omega (arith, first, next, ranks_ascend bits k (k + 1) (omega arith) (omega (arith, h, length-positions 0 bits)))

module _ {X : Type 0} (missing : X) where
  get_or_got : (items : List X) (p : ℕ) → unwrap_or (slice_get items p) missing ≡ get_or items p missing
  get_or_got [] p = refl
  get_or_got (x ∷ items) zero = refl
  get_or_got (x ∷ items) (suc p) = get_or_got items p

  unwrapped : (items : List X) → map (λ o. unwrap_or o missing) (map Some items) ≡ items
  unwrapped [] = refl
  unwrapped (x ∷ items) = ap (λ l. x ∷ l) (unwrapped items)

  pub take_at_the_set : (bits : List Bool) (items : List X) → length bits ≡ length items → items_where_true bits items ≡ at missing items (map Some (set_of bits))
  take_at_the_set bits items h =
      let out : Option X → X = λ o. unwrap_or o missing in
      sym (unwrapped (items_where_true bits items))
      ∙ ap (map out) (items_at_the_set bits items h)
      ∙ map-map out (slice_get items) (set_of bits)
      ∙ map_alike (λ p. out (slice_get items p)) (λ p. get_or items p missing) (get_or_got items) (set_of bits)
      ∙ sym (map-map (item_at missing items) Some (set_of bits))

  -- an item of the items at picks, whatever place it has
  item_of_items : (items : List X) (picks : List (Option ℕ)) (j : ℕ) → get_or (at missing items picks) j missing ≡ item_at missing items (get_or picks j None)
  item_of_items items [] j = refl
  item_of_items items (pick ∷ picks) zero = refl
  item_of_items items (pick ∷ picks) (suc j) = item_of_items items picks j

  looked_up_in : (items : List X) (picks : List (Option ℕ)) (pick : Option ℕ) → item_at missing (at missing items picks) pick ≡ item_at missing items (item_at None picks pick)
  looked_up_in items picks None = refl
  looked_up_in items picks (Some j) = item_of_items items picks j

  pub takes_join : (items : List X) (picks later : List (Option ℕ)) → at missing (at missing items picks) later ≡ at missing items (at None picks later)
  takes_join items picks later =
      map_alike (item_at missing (at missing items picks)) (λ pick. item_at missing items (item_at None picks pick)) (looked_up_in items picks) later
      ∙ sym (map-map (item_at missing items) (item_at None picks) later)

  -- the item where the bit is set stands behind those where earlier bits are
  kept_at : (bits : List Bool) (items : List X) (p : ℕ) → length bits ≡ length items → slice_get bits p ≡ Some true → get_or items p missing ≡ get_or (items_where_true bits items) (true_count_of (take p bits)) missing
  kept_at [] items p h set = let no : None ≡ Some true = set in cc
  kept_at (b ∷ bits) [] p h set = absurd (omega arith)
  kept_at (true ∷ bits) (x ∷ items) zero h set = refl
  kept_at (false ∷ bits) (x ∷ items) zero h set = let no : Some false ≡ Some true = set in cc
  kept_at (true ∷ bits) (x ∷ items) (suc p) h set =
      let one : suc (true_count_of (take p bits)) ≡ true_count_of (true ∷ take p bits) = omega (arith, true_count_of-cons true (take p bits)) in
      kept_at bits items p (omega arith) set ∙ ap (λ n. get_or (x ∷ items_where_true bits items) n missing) one
  kept_at (false ∷ bits) (x ∷ items) (suc p) h set =
      let none : true_count_of (take p bits) ≡ true_count_of (false ∷ take p bits) = omega (arith, true_count_of-cons false (take p bits)) in
      kept_at bits items p (omega arith) set ∙ ap (λ n. get_or (items_where_true bits items) n missing) none

  one_looked_up : (bits : List Bool) (items : List X) (pick : Option ℕ) → length bits ≡ length items → IfSome pick (λ p. slice_get bits p ≡ Some true) → item_at missing items pick ≡ item_at missing (items_where_true bits items) (option_map (λ p. true_count_of (take p bits)) pick)
  one_looked_up bits items None h set = refl
  one_looked_up bits items (Some p) h set = kept_at bits items p h set

  pub looked_up : (bits : List Bool) (items : List X) (picks : List (Option ℕ)) → length bits ≡ length items → AreSet bits picks → at missing items picks ≡ at missing (items_where_true bits items) (ranks_of_picks bits picks)
  looked_up bits items [] h set = refl
  looked_up bits items (pick ∷ picks) h set =
      ap₂ ◌∷◌ (one_looked_up bits items pick h (set zero None (omega arith))) (looked_up bits items picks h (λ k d p. set (suc k) d (omega arith)))

-- the set position at a rank, as a pick
set_pick : (bits : List Bool) (rank : Option ℕ) → IfSome rank (λ k. k < true_count_of bits) → item_at None (map Some (set_of bits)) rank ≡ option_map (rank_of bits) rank
set_pick bits None h = refl
set_pick bits (Some k) h = get_or-map Some (set_of bits) k 0 None (omega (arith, h, length-positions 0 bits))

set_picks : (bits : List Bool) (ranks : List (Option ℕ)) → AreBelow ranks (true_count_of bits) → at None (map Some (set_of bits)) ranks ≡ positions_by_rank bits ranks
set_picks bits [] h = refl
set_picks bits (rank ∷ ranks) h = ap₂ ◌∷◌ (set_pick bits rank (h zero None (omega arith))) (set_picks bits ranks (λ k d p. h (suc k) d (omega arith)))

pub take_of_filter : {X : Type 0} (missing : X) (bits : List Bool) (items : List X) (ranks : List (Option ℕ)) → length bits ≡ length items → AreBelow ranks (true_count_of bits) → at missing (items_where_true bits items) ranks ≡ at missing items (positions_by_rank bits ranks)
take_of_filter missing bits items ranks h below =
    ap (λ l. at missing l ranks) (take_at_the_set missing bits items h)
    ∙ takes_join missing items (map Some (set_of bits)) ranks
    ∙ ap (at missing items) (set_picks bits ranks below)

pub one_rank : (bits : List Bool) (picks : List (Option ℕ)) → EachIsOneRank bits picks
one_rank bits picks just p has =
    let set = (just p).1 has in
    let within = slice_get_within bits p true set in
    let here = get_or_of_slice_get bits p set in
    let k = true_count_of (take p bits) in
    let position : rank_of bits k ≡ p = position_at 0 bits p 0 within here ∙ omega arith in
    let below = true_count_before_set bits p within here in
    record {
      rank = k;
      below = below;
      position = position;
      only = λ j h e. elim (cases_lt j k) [
        | inl less ↦ absurd (omega (arith, e, position, ranks_ascend bits j k less below))
        | inr more ↦ elim (cases_lt k j) [
          | inl less ↦ absurd (omega (arith, e, position, ranks_ascend bits k j less h))
          | inr same ↦ omega arith
        ]
      ];
    }

-- what a test says of all items and of the one for a null it says of the items at picks
pub all-at : {X : Type 0} (p : X → Bool) (fill : X) (xs : List X) (picks : List (Option ℕ)) → p fill ≡ true → list_all p xs ≡ true → list_all p (at fill xs picks) ≡ true
all-at p fill xs [] f h = refl
all-at p fill xs (None ∷ picks) f h = and_from (p fill) _ f (all-at p fill xs picks f h)
all-at p fill xs (Some k ∷ picks) f h = and_from (p (get_or xs k fill)) _ (all-get p fill xs k f h) (all-at p fill xs picks f h)
