-- Picks that steps leave, as a range and as a list.
use Rattle.std.proofs.Common.{◌≡◌, ℕ, zero, suc, ◌+◌, ◌-◌, ◌<◌, ◌≤◌, Bool, true, false, List, [], ◌∷◌, map, length, take, drop, get_or, Option, Some, None, refl, sym, ap, ap₂, ◌∙◌, subst, arith}
use Rattle.std.specs.Prelude.{is_some, slice_range}
use Rattle.std.specs.List.{All, list_all, range_with_len, items_where_true}
use Rattle.std.proofs.lemmas.List.{get_or_default}
use Rattle.std.proofs.lemmas.List.FromFn.{get_or-map-range_with_len, length-map-range_with_len, take-map-range_with_len}
use Rattle.std.proofs.lemmas.Simd.{map-map}
use Rattle.vx_bits.specs.BitBuffer.{true_count_of}
use Rattle.vx_mask.specs.Positions.{set_of}
use Rattle.vx_mask.proofs.PositionLists.{length-positions, rank_within}
use Rattle.vx_types.specs.Nullability.{either_nullable}
use Rattle.vx_types.specs.declared.nullability.Nullability.{Nullability}
use Rattle.vx_types.specs.declared.nullability.Nullability.TheVariants.{NonNullable, Nullable}
use Rattle.vx_take.specs.Picks.{AreBelow, at, item_at}
use Rattle.vx_take.proofs.TakenLists.{take_at_the_set}
use Rattle.vx_positions.specs.Positions.{AllThere}
use Rattle.vx_steps.specs.Step.{StepValue}
use Rattle.vx_steps.specs.Walk.{all_positions}
use Rattle.vx_steps.specs.Compose.{picks_by_number, range_picks, step_nullability, takes_nullability}
use Rattle.std.proofs.lemmas.Bool.{and_parts, and_from}
use Rattle.vx_model.proofs.Nullabilities.{either_nullable-none, either_nullable-assoc}

-- ---- ranges

drop-range : (a n k : ℕ) → k ≤ n → drop k (map (λ (p : ℕ). Some p) (range_with_len a n)) ≡ map (λ (p : ℕ). Some p) (range_with_len (a + k) (n - k))
drop-range a n zero h = ap₂ (λ x m. map (λ (p : ℕ). Some p) (range_with_len x m)) (omega arith) (omega arith)
drop-range a zero (suc k) h = absurd (omega arith)
drop-range a (suc n) (suc k) h = drop-range (a + 1) n k (omega arith) ∙ ap₂ (λ x m. map (λ (p : ℕ). Some p) (range_with_len x m)) (omega arith) (omega arith)

-- a part of a range is the range of that part
pub range-part : (start end a b from to : ℕ) → a ≤ b → b ≤ end - start → from ≡ start + a → to ≡ start + b → range_picks from to ≡ slice_range (range_picks start end) a b
range-part start end a b from to h k f t =
    let rest = end - start - a in
    let few : b - a ≤ rest = omega arith in
    let same : to - from ≡ b - a = omega arith in
    ap₂ (λ x m. map (λ (p : ℕ). Some p) (range_with_len x m)) f same
    ∙ sym (ap (take (b - a)) (drop-range start (end - start) a (omega arith)) ∙ take-map-range_with_len (λ (p : ℕ). Some p) (start + a) rest (b - a) few)

pub length-range_picks : (start end : ℕ) → length (range_picks start end) ≡ end - start
length-range_picks start end = length-map-range_with_len (λ (p : ℕ). Some p) start (end - start)

-- all positions are a range
pub all_positions-range : (n : ℕ) → all_positions n ≡ range_picks 0 n
all_positions-range n = let all : n ≡ n - 0 = omega arith in ap (λ m. map (λ (p : ℕ). Some p) (range_with_len 0 m)) all

-- picks that are a range
module _ (picks : List (Option ℕ)) (start end : ℕ) (is : picks ≡ range_picks start end) where
  pub length_in : length picks ≡ end - start
  length_in = ap length is ∙ length-range_picks start end

  pub get_in : (i : ℕ) → i < end - start → Some (start + i) ≡ get_or picks i None
  get_in i h =
      sym (ap (λ l. get_or l i None) is ∙ get_or-map-range_with_len (λ (p : ℕ). Some p) start (end - start) i (start + i) None h refl)

  pub part_in : (a b from to : ℕ) → a ≤ b → b ≤ end - start → from ≡ start + a → to ≡ start + b → range_picks from to ≡ slice_range picks a b
  part_in a b from to h k f t = range-part start end a b from to h k f t ∙ ap (λ l. slice_range l a b) (sym is)

-- ---- set positions

pub numbered-set : (picks : List (Option ℕ)) (bits : List Bool) → length bits ≡ length picks → picks_by_number picks (set_of bits) ≡ items_where_true bits picks
numbered-set picks bits h =
    sym (map-map (item_at None picks) Some (set_of bits)) ∙ sym (take_at_the_set None bits picks h)

-- set positions number picks
pub numbers_within : (bits : List Bool) (picks : List (Option ℕ)) (numbers : List ℕ) → length bits ≡ length picks → numbers ≡ set_of bits → All (λ i. i < length picks) numbers
numbers_within bits picks numbers h is = subst (All (λ i. i < length picks)) (sym is) (λ k d l.
    let ranked : k < true_count_of bits = omega (arith, l, length-positions 0 bits) in
    omega (arith, h, get_or_default (set_of bits) k d 0 l, rank_within bits k ranked))

-- ---- picks that are all there

there-drop : (n : ℕ) (picks : List (Option ℕ)) → AllThere picks → AllThere (drop n picks)
there-drop zero picks h = h
there-drop (suc n) [] h = h
there-drop (suc n) (x ∷ picks) h = there-drop n picks (and_parts (is_some x) (list_all is_some picks) h).1

there-take : (n : ℕ) (picks : List (Option ℕ)) → AllThere picks → AllThere (take n picks)
there-take zero picks h = refl
there-take (suc n) [] h = refl
there-take (suc n) (x ∷ picks) h =
    let parts = and_parts (is_some x) (list_all is_some picks) h in
    and_from (is_some x) (list_all is_some (take n picks)) parts.0 (there-take n picks parts.1)

pub there-slice : (picks : List (Option ℕ)) (start end : ℕ) → AllThere picks → AllThere (slice_range picks start end)
there-slice picks start end h = there-take (end - start) (drop start picks) (there-drop start picks h)

pub there-filter : (bits : List Bool) (picks : List (Option ℕ)) → AllThere picks → AllThere (items_where_true bits picks)
there-filter [] picks h = refl
there-filter (b ∷ bits) [] h = refl
there-filter (true ∷ bits) (x ∷ picks) h =
    let parts = and_parts (is_some x) (list_all is_some picks) h in
    and_from (is_some x) (list_all is_some (items_where_true bits picks)) parts.0 (there-filter bits picks parts.1)
there-filter (false ∷ bits) (x ∷ picks) h = there-filter bits picks (and_parts (is_some x) (list_all is_some picks) h).1

there_at : (picks : List (Option ℕ)) (i : ℕ) → AllThere picks → i < length picks → is_some (get_or picks i None) ≡ true
there_at [] i h l = absurd (omega arith)
there_at (x ∷ picks) zero h l = (and_parts (is_some x) (list_all is_some picks) h).0
there_at (x ∷ picks) (suc i) h l = there_at picks i (and_parts (is_some x) (list_all is_some picks) h).1 (omega arith)

pub there-at : (picks later : List (Option ℕ)) → AllThere picks → AllThere later → AreBelow later (length picks) → AllThere (at None picks later)
there-at picks [] h k below = refl
there-at picks (None ∷ later) h k below = let no : false ≡ true = k in cc
there-at picks (Some i ∷ later) h k below =
    and_from (is_some (get_or picks i None)) (list_all is_some (at None picks later)) (there_at picks i h (below zero None (omega arith)))
    (there-at picks later h k (λ j d l. below (suc j) d (omega arith)))

pub there-range : (a n : ℕ) → AllThere (map (λ (p : ℕ). Some p) (range_with_len a n))
there-range a zero = refl
there-range a (suc n) = there-range (a + 1) n

-- ---- whether steps may leave nulls

neither : (a b : Nullability) → either_nullable a b ≡ NonNullable → (a ≡ NonNullable) × (b ≡ NonNullable)
neither NonNullable b h = (refl, h)
neither Nullable b h = let no : Nullable ≡ NonNullable = h in cc

-- where all leave none, each does
pub each_leaves_none : (steps : List StepValue) (k : ℕ) (s : StepValue) → takes_nullability steps ≡ NonNullable → k < length steps → s ≡ get_or steps k s → step_nullability s ≡ NonNullable
each_leaves_none [] k s h l is = absurd (omega arith)
each_leaves_none (x ∷ steps) zero s h l is = ap step_nullability is ∙ (neither (step_nullability x) (takes_nullability steps) h).0
each_leaves_none (x ∷ steps) (suc k) s h l is = each_leaves_none steps k s (neither (step_nullability x) (takes_nullability steps) h).1 (omega arith) is

-- of the steps up to the next one
pub takes_nullability-more : (steps : List StepValue) (k : ℕ) (s : StepValue) → k < length steps → s ≡ get_or steps k s → takes_nullability (take (k + 1) steps) ≡ either_nullable (takes_nullability (take k steps)) (step_nullability s)
takes_nullability-more [] k s l is = absurd (omega arith)
takes_nullability-more (x ∷ steps) zero s l is = either_nullable-none (step_nullability x) ∙ ap step_nullability (sym is)
takes_nullability-more (x ∷ steps) (suc k) s l is =
    let next : suc k + 1 ≡ suc (k + 1) = omega arith in
    ap (λ n. takes_nullability (take n (x ∷ steps))) next ∙ ap (either_nullable (step_nullability x)) (takes_nullability-more steps k s (omega arith) is)
    ∙ sym (either_nullable-assoc (step_nullability x) (takes_nullability (take k steps)) (step_nullability s))

-- ---- picks of all positions

-- picks are their own among all positions
pub at-whole : (n : ℕ) (later : List (Option ℕ)) → AreBelow later n → at None (range_picks 0 n) later ≡ later
at-whole n [] below = refl
at-whole n (None ∷ later) below = ap (λ l. None ∷ l) (at-whole n later (λ j d l. below (suc j) d (omega arith)))
at-whole n (Some p ∷ later) below =
    let low : p < n - 0 = omega (arith, below zero None (omega arith)) in
    ap₂ (λ x l. x ∷ l) (get_or-map-range_with_len (λ (q : ℕ). Some q) 0 (n - 0) p p None low (omega arith)) (at-whole n later (λ j d l. below (suc j) d (omega arith)))
