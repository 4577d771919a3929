-- What a slice, or a take by numbers of which none is null, leaves alone.
use Rattle.std.proofs.Common.{◌≡◌, ℕ, ◌+◌, ◌-◌, ◌≤◌, ◌++◌, Bool, true, false, List, [], ◌∷◌, map, length, drop, get_or, Option, Some, None, ℤ, pos, negsuc, refl, sym, ap, ap₂, ◌∙◌, subst, arith}
use Rattle.std.specs.List.{items_where_true, list_all, range_with_len}
use Rattle.std.specs.Cmp.{first_so, second_so}
use Rattle.std.specs.Prelude.{IfSome, slice_range}
use Rattle.std.proofs.lemmas.Bool.{eq-eqb, ltb-true}
use Rattle.std.proofs.lemmas.Bool.Decides.{nat_tests}
use Rattle.std.proofs.lemmas.List.{length-map}
use Rattle.std.proofs.lemmas.List.FromFn.{get_or-map-range_with_len, length-map-range_with_len}
use Rattle.std.proofs.lemmas.Simd.{map-map}
use Rattle.vx_bits.specs.BitBuffer.{PlacedBits, bits_of}
use Rattle.vx_bits.proofs.BitLists.{length_bits}
use Rattle.vx_mask.specs.Positions.{positions}
use Rattle.vx_model.proofs.Items.{map-items_where_true}
use Rattle.vx_types.specs.PType.{number, width}
use Rattle.vx_types.specs.declared.nullability.Nullability.TheVariants.{NonNullable}
use Rattle.vx_take.specs.Picks.{at, item_at}
use Rattle.vx_positions.specs.Positions.{is_position, position_of, positions_of}
use Rattle.vx_positions.specs.Stored.{present_numbers}
use Rattle.vx_positions.proofs.NumberLists.{all_there-positions, none_bad-present, present_picks}
use Rattle.vx_types.specs.Nullability.{either_nullable}
use Rattle.vx_types.specs.RowValue.{bytes}
use Rattle.vx_model.proofs.ShownRows.{shown_rows-all}
use Rattle.vx_pieces.specs.Indices.{by_column}
use Rattle.vx_model.specs.Column.{Column}
use Rattle.vx_model.specs.Numbers.{numbers_of}
use Rattle.vx_model.specs.Valid.{non_nullable}
use Rattle.vx_column.proofs.NumberLists.{numbers-present}
use Rattle.vx_steps.specs.Compose.{takes_nullability}
use Rattle.vx_steps.specs.Step.{StepValue, filter_step, slice_step, take_step}
use Rattle.vx_steps.specs.Walk.{Walk, all_positions, apply, broken, unless_broken, walk, walk_picks}
use Rattle.vx_steps.proofs.ComposedPicks.{all_positions-range, range-part}
use Rattle.vx_steps.proofs.Walks.{length-all_positions}
use Rattle.vx_arrow.specs.Known.{IsAlone, IsHeld, Leaves, are_positions, number_bytes, numbers_at, places_of}
use Rattle.vx_arrow.specs.Answer.{HasNeed, IfPicks, walk_in}
use Rattle.vx_arrow.specs.Image.{StepParts, filter_by_bits, kind_in, numbers_in, record_at, step_by, step_in, step_parts, steps_in, valid_in}
use Rattle.vx_arrow.specs.declared.image.StepKind.TheVariants.{Filter}
use Rattle.vx_arrow.specs.Written.{ArePlaced, AreShown, need_of, place_of}
use Rattle.vx_arrow.specs.declared.image.StepImage.{StepImage}
use Rattle.vx_arrow.specs.declared.known.KnownPicks.{KnownPicks}
use Rattle.vx_arrow.specs.declared.known.KnownPicks.TheVariants as variants
use Rattle.vx_arrow.specs.declared.known.Numbers.{Numbers}

-- a position of n rows, looked up among all of them
position_at : (n : ℕ) (z : ℤ) → is_position n z ≡ true → item_at None (all_positions n) (Some (position_of z)) ≡ Some (position_of z)
position_at n (pos i) h = get_or-map-range_with_len (λ (p : ℕ). Some p) 0 n i i None (ltb-true i n h) (omega arith)
position_at n (negsuc i) h = absurd (let f : false ≡ true = h in cc)

-- positions of n rows, looked up among all of them
positions_at : (n : ℕ) (f : List ℕ → ℤ) (records : List (List ℕ)) → list_all (λ r. is_position n (f r)) records ≡ true → at None (all_positions n) (map (λ r. Some (position_of (f r))) records) ≡ map (λ r. Some (position_of (f r))) records
positions_at n f [] h = refl
positions_at n f (r ∷ records) h =
    ap₂ (λ (x : Option ℕ) (l : List (Option ℕ)). x ∷ l) (position_at n (f r) (first_so (is_position n (f r)) _ h)) (positions_at n f records (second_so (is_position n (f r)) _ h))

places_of_some : (places : List ℕ) → map place_of (map Some places) ≡ places
places_of_some [] = refl
places_of_some (p ∷ places) = ap (λ l. p ∷ l) (places_of_some places)

-- ---- a slice

pub range_leaves : (n start end : ℕ) → start ≤ end → end ≤ n → Leaves n (slice_step start end) (variants.Range start (end - start))
range_leaves n start end h k =
    record {
      sound = omega arith;
      whole = grind (arith, nat_tests);
      picks = ap (λ l. slice_range l start end) (all_positions-range n) ∙ sym (range-part 0 n start end start end h (omega arith) (omega arith) (omega arith));
      bare = refl;
    }

-- ---- a mask

set_picked : (at : ℕ) (bits : List Bool) → positions at bits ≡ items_where_true bits (range_with_len at (length bits))
set_picked at [] = refl
set_picked at (true ∷ bits) = ap (λ l. at ∷ l) (set_picked (at + 1) bits)
set_picked at (false ∷ bits) = set_picked (at + 1) bits

pub mask_leaves : (n : ℕ) (b : PlacedBits) → length b.bits ≡ n → Leaves n (filter_step b.bits) (variants.Mask b)
mask_leaves n b h =
    record {
      sound = h;
      whole = rw (h, eq-eqb n n refl) refl;
      picks = sym (map-items_where_true (λ (p : ℕ). Some p) b.bits (range_with_len 0 n))
          ∙ ap (map Some) (ap (λ m. items_where_true b.bits (range_with_len 0 m)) (sym h) ∙ sym (set_picked 0 b.bits));
      bare = refl;
    }

no_valid : (valid : List ℕ) (offset n : ℕ) → length valid ≡ 0 → valid_in valid offset n ≡ non_nullable
no_valid [] offset n h = refl
no_valid (v ∷ valid) offset n h = absurd (omega arith)

pub filter_leaves : (n : ℕ) (s : StepParts) (b : PlacedBits) → kind_in s.kind ≡ Some Filter → length s.valid ≡ 0 → s.len ≡ n → b.bits ≡ bits_of s.values s.offset n → Leaves n (step_in s) (variants.Mask b)
filter_leaves n s b kind none len is =
    let means : step_in s ≡ filter_step b.bits =
    ap (λ k. step_by k s) kind ∙ ap (filter_by_bits (bits_of s.values s.offset s.len)) (no_valid s.valid s.offset s.len none)
    ∙ ap filter_step (ap (bits_of s.values s.offset) len ∙ sym is) in
    subst (λ (step : StepValue). Leaves n step (variants.Mask b)) (sym means) (mask_leaves n b (ap length is ∙ length_bits s.values s.offset n))

-- ---- numbers

module _ (n : ℕ) (t : Numbers) (held : IsHeld t) (all : are_positions n t ≡ true) where
  abbrev pub column : Column
  column = numbers_in t.ptype t.bytes.now non_nullable t.offset t.len

  column_numbers : numbers_of column ≡ present_numbers t.ptype (number_bytes t)
  column_numbers = numbers-present column t.ptype (number_bytes t) (rw (held.int) refl) (shown_rows-all _ (map bytes (number_bytes t)) refl)

  looked_up : at None (all_positions n) (map Some (numbers_at t)) ≡ map Some (numbers_at t)
  looked_up =
      let one = map-map (λ (p : ℕ). Some p) (λ r. position_of (number t.ptype r)) (number_bytes t) in
      ap (at None (all_positions n)) one ∙ positions_at n (number t.ptype) (number_bytes t) all ∙ sym one

  pub numbers_leave : Leaves n (take_step (by_column column)) (variants.Numbers t)
  numbers_leave = record {
    sound = (held, all);
    whole = rw (held.int, column_numbers, none_bad-present n t.ptype (number_bytes t) all) refl;
    picks = ap (at None (all_positions n)) (ap positions_of column_numbers ∙ sym (present_picks t.ptype (number_bytes t))) ∙ looked_up;
    bare = refl;
  }

pub length-number_bytes : (t : Numbers) → length (number_bytes t) ≡ t.len
length-number_bytes t = length-map-range_with_len (record_at (width t.ptype) t.bytes.now) t.offset t.len

pub length-numbers_at : (t : Numbers) → length (numbers_at t) ≡ t.len
length-numbers_at t =
    length-map (number_bytes t) (λ r. position_of (number t.ptype r)) ∙ length-number_bytes t

-- ---- one of them, alone

pub some_is : {X : Type 0} (o : Option X) (x : X) (P : X → Type 0) → o ≡ Some x → IfSome o P → P x
some_is {X = X} o x P e h = subst (λ (q : Option X). IfSome q P) e h

pub only_step : (images : List StepImage) (d : StepImage) → length images ≡ 1 → steps_in (map step_parts images) ≡ step_in (step_parts (get_or images 0 d)) ∷ []
only_step [] d h = absurd (omega arith)
only_step (x ∷ []) d h = refl
only_step (x ∷ y ∷ images) d h = absurd (omega arith)

module _ (n : ℕ) (steps : List StepParts) (a : KnownPicks) (is : IsAlone n steps a) where
  abbrev pub picks : List (Option ℕ)
  picks = map Some (places_of a)

  long : length picks ≡ length (places_of a)
  long = length-map (places_of a) (λ (p : ℕ). Some p)

  pub alone_walk : walk_in n steps ≡ walk_picks picks
  alone_walk =
      ap (walk n) is.means
      ∙ ap (λ b. unless_broken b 0 (walk_picks (apply None is.step (all_positions n)))) (ap (broken is.step) (length-all_positions n) ∙ is.leaves.whole)
      ∙ ap walk_picks is.leaves.picks

  by_walk : (P : List (Option ℕ) → Type 0) → P picks → IfPicks (walk_in n steps) P
  by_walk P p = let Q : Walk → Type 0 = λ w. IfPicks w P in subst Q (sym alone_walk) p

  pub alone_need : HasNeed n steps (need_of (length (places_of a)) NonNullable)
  alone_need =
      let bare : takes_nullability (steps_in steps) ≡ NonNullable = ap takes_nullability is.means ∙ ap (λ m. either_nullable m NonNullable) is.leaves.bare in
      by_walk (λ ps. need_of (length (places_of a)) NonNullable ≡ need_of (length ps) (takes_nullability (steps_in steps))) (ap₂ need_of (sym long) (sym bare))

  pub alone_placed : (old new : List ℕ) → new ≡ places_of a ++ drop (length (places_of a)) old → IfPicks (walk_in n steps) (λ ps. ArePlaced ps old new)
  alone_placed old new e =
      by_walk (λ ps. ArePlaced ps old new) (e ∙ ap₂ (λ (l : List ℕ) (m : ℕ). l ++ drop m old) (sym (places_of_some (places_of a))) (sym long))

  pub alone_shown : (old : List ℕ) → IfPicks (walk_in n steps) (λ ps. AreShown 0 ps old old)
  alone_shown old =
      by_walk (λ ps. AreShown 0 ps old old) (record { there = λ e. all_there-positions (places_of a); same = λ e. refl; marks = λ other. absurd (other refl) })
