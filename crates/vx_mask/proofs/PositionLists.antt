-- Lemmas on the set positions of a list of bits.
use Rattle.std.proofs.Common.{◌≡◌, ℕ, zero, suc, ◌+◌, ◌<◌, ◌-◌, ◌≤◌, Bool, true, false, cond, List, [], ◌∷◌, ◌++◌, length, get_or, take, drop, replicate, Some, refl, sym, ap, ◌∙◌, arith, map}
use Rattle.std.specs.List.{slice_get, slice_range, range_with_len, All}
use Rattle.std.proofs.lemmas.List.{length-replicate, append-nil, take-take, drop-take, get_or_default}
use Rattle.std.proofs.lemmas.List.Sums.{sum_by-cons, sum_by-take-drop, sum_by_more, count_by-le-length}
use Rattle.std.proofs.lemmas.Option.{slice_get-get_or, slice_get_within}
use Rattle.vx_bits.specs.BitBuffer.{true_count_of}
use Rattle.vx_mask.specs.Positions.{positions, set_of, rank_of, RanksAscend, RanksAreTheSet}

pub true_count_of-cons : (bit : Bool) (bits : List Bool) → true_count_of (bit ∷ bits) ≡ cond bit 1 0 + true_count_of bits
true_count_of-cons bit bits = sum_by-cons (λ b. cond b 1 0) bit bits

-- a clear bit is not counted
pub true_count_of-clear : (bits : List Bool) → true_count_of (false ∷ bits) ≡ true_count_of bits
true_count_of-clear bits = omega (arith, true_count_of-cons false bits)

pub length-positions : (at : ℕ) (bits : List Bool) → length (positions at bits) ≡ true_count_of bits
length-positions at [] = refl
length-positions at (true ∷ bits) = omega (arith, length-positions (at + 1) bits, true_count_of-cons true bits)
length-positions at (false ∷ bits) = omega (arith, length-positions (at + 1) bits, true_count_of-cons false bits)

-- the k-th position, where the bit is set and k bits are set before it
pub position_at : (at : ℕ) (bits : List Bool) (i d : ℕ) → i < length bits → get_or bits i false ≡ true → get_or (positions at bits) (true_count_of (take i bits)) d ≡ at + i
position_at at [] i d h e = absurd (omega arith)
position_at at (true ∷ bits) zero d h e = omega arith
position_at at (false ∷ bits) zero d h e = cc
position_at at (true ∷ bits) (suc i) d h e =
    let one : true_count_of (true ∷ take i bits) ≡ suc (true_count_of (take i bits)) = omega (arith, true_count_of-cons true (take i bits)) in
    ap (λ n. get_or (at ∷ positions (at + 1) bits) n d) one ∙ position_at (at + 1) bits i d (omega arith) e ∙ omega arith
position_at at (false ∷ bits) (suc i) d h e =
    let none : true_count_of (false ∷ take i bits) ≡ true_count_of (take i bits) = omega (arith, true_count_of-cons false (take i bits)) in
    ap (λ n. get_or (positions (at + 1) bits) n d) none ∙ position_at (at + 1) bits i d (omega arith) e ∙ omega arith

-- 1 for a set bit, and 0 for a clear one
abbrev one_if : Bool → ℕ
one_if b = cond b 1 0

-- up to a place are the set bits up to an earlier one, and those between
pub true_count_between : (bits : List Bool) (low high : ℕ) → low ≤ high → true_count_of (take low bits) + true_count_of (slice_range bits low high) ≡ true_count_of (take high bits)
true_count_between bits low high h =
    let whole : low + (high - low) ≡ high = omega arith in
    let after = sym (drop-take low (high - low) bits) ∙ ap (λ n. drop low (take n bits)) whole in
    let before = take-take low high bits h in
    let parts : true_count_of (take low (take high bits)) + true_count_of (drop low (take high bits)) ≡ true_count_of (take high bits) = sum_by-take-drop one_if (take high bits) low in
    omega (arith, parts, ap true_count_of before, ap true_count_of after)

-- where a count is passed by one bit, that bit is set
pub record IsPassed (bits : List Bool) (k i : ℕ) : Type 0 where
  pub before : true_count_of (take i bits) ≡ k
  pub set : get_or bits i false ≡ true

passed_by : (bits : List Bool) (k i : ℕ) (b : Bool) → get_or bits i false ≡ b → true_count_of (take (i + 1) bits) ≡ true_count_of (take i bits) + one_if (get_or bits i false) → true_count_of (take i bits) ≤ k → k < true_count_of (take (i + 1) bits) → IsPassed bits k i
passed_by bits k i true e more p q =
    let value : one_if (get_or bits i false) ≡ 1 = ap one_if e in
    record { before = omega (arith, more, value, p, q); set = e }
passed_by bits k i false e more p q =
    let value : one_if (get_or bits i false) ≡ 0 = ap one_if e in
    absurd (omega (arith, more, value, p, q))

pub is_passed : (bits : List Bool) (k i : ℕ) → i < length bits → true_count_of (take i bits) ≤ k → k < true_count_of (take (i + 1) bits) → IsPassed bits k i
is_passed bits k i h p q = passed_by bits k i (get_or bits i false) refl (sum_by_more one_if bits i false h) p q

-- fewer bits are set before a set bit than in all
pub true_count_before_set : (bits : List Bool) (i : ℕ) → i < length bits → get_or bits i false ≡ true → true_count_of (take i bits) < true_count_of bits
true_count_before_set [] i h e = absurd (omega arith)
true_count_before_set (true ∷ bits) zero h e = omega (arith, true_count_of-cons true bits)
true_count_before_set (false ∷ bits) zero h e = cc
true_count_before_set (true ∷ bits) (suc i) h e = omega (arith, true_count_before_set bits i (omega arith) e, true_count_of-cons true bits, true_count_of-cons true (take i bits))
true_count_before_set (false ∷ bits) (suc i) h e = omega (arith, true_count_before_set bits i (omega arith) e, true_count_of-cons false bits, true_count_of-cons false (take i bits))

-- what a rank is the position of
pub record IsPlace (at : ℕ) (bits : List Bool) (k d i : ℕ) : Type 0 where
  pub position : get_or (positions at bits) k d ≡ at + i
  pub within : i < length bits
  pub set : get_or bits i false ≡ true
  pub passed : true_count_of (take i bits) ≡ k

pub place_of : (at : ℕ) (bits : List Bool) (k d : ℕ) → k < true_count_of bits → (i : ℕ) × IsPlace at bits k d i
place_of at [] k d h = absurd (omega arith)
place_of at (true ∷ bits) zero d h = (0, record { position = omega arith; within = omega arith; set = refl; passed = refl })
place_of at (true ∷ bits) (suc k) d h =
    let r = place_of (at + 1) bits k d (omega (arith, true_count_of-cons true bits)) in
    (suc r.0, record { position = r.1.position ∙ omega arith; within = omega (arith, r.1.within); set = r.1.set; passed = omega (arith, r.1.passed, true_count_of-cons true (take r.0 bits)) })
place_of at (false ∷ bits) k d h =
    let r = place_of (at + 1) bits k d (omega (arith, true_count_of-cons false bits)) in
    (suc r.0, record { position = r.1.position ∙ omega arith; within = omega (arith, r.1.within); set = r.1.set; passed = omega (arith, r.1.passed, true_count_of-cons false (take r.0 bits)) })

positions_from : (at : ℕ) (bits : List Bool) (k d : ℕ) → k < true_count_of bits → at ≤ get_or (positions at bits) k d
positions_from at bits k d h = let r = place_of at bits k d h in omega (arith, r.1.position)

positions_ascend : (at : ℕ) (bits : List Bool) (j k d : ℕ) → j < k → k < true_count_of bits → get_or (positions at bits) j d < get_or (positions at bits) k d
positions_ascend at [] j k d p q = absurd (omega arith)
positions_ascend at (true ∷ bits) j zero d p q = absurd (omega arith)
positions_ascend at (true ∷ bits) zero (suc k) d p q = omega (arith, positions_from (at + 1) bits k d (omega (arith, true_count_of-cons true bits)))
positions_ascend at (true ∷ bits) (suc j) (suc k) d p q = positions_ascend (at + 1) bits j k d (omega arith) (omega (arith, true_count_of-cons true bits))
positions_ascend at (false ∷ bits) j k d p q = positions_ascend (at + 1) bits j k d p (omega (arith, true_count_of-cons false bits))

pub ranks_ascend : (bits : List Bool) → RanksAscend bits
ranks_ascend bits j k p q = positions_ascend 0 bits j k 0 p q

pub get_or_of_slice_get : (bits : List Bool) (i : ℕ) → slice_get bits i ≡ Some true → get_or bits i false ≡ true
get_or_of_slice_get [] i e = cc
get_or_of_slice_get (bit ∷ bits) zero e = cc
get_or_of_slice_get (bit ∷ bits) (suc i) e = get_or_of_slice_get bits i e

pub ranks_are_the_set : (bits : List Bool) → RanksAreTheSet bits
ranks_are_the_set bits p = (
  λ set.
      let within = slice_get_within bits p true set in
      let here = get_or_of_slice_get bits p set in
      (true_count_of (take p bits), true_count_before_set bits p within here, position_at 0 bits p 0 within here ∙ omega arith),
  λ rank.
      let place = place_of 0 bits rank.0 0 rank.1 in
      let same : place.0 ≡ p = omega (arith, place.1.position, rank.2) in
      ap (slice_get bits) (sym same) ∙ slice_get-get_or bits place.0 false place.1.within ∙ ap Some place.1.set,
)

pub rank_within : (bits : List Bool) (k : ℕ) → k < true_count_of bits → rank_of bits k < length bits
rank_within bits k h = let r = place_of 0 bits k 0 h in omega (arith, r.1.position, r.1.within)

pub all_are_set : (bits : List Bool) → true_count_of bits ≡ length bits → bits ≡ replicate (length bits) true
all_are_set [] e = refl
all_are_set (true ∷ bits) e = ap (λ l. true ∷ l) (all_are_set bits (omega (arith, true_count_of-cons true bits)))
all_are_set (false ∷ bits) e = absurd (omega (arith, true_count_of-cons false bits, count_by-le-length (λ b. b) bits))

position_true : (at n k d : ℕ) → k < n → get_or (positions at (replicate n true)) k d ≡ at + k
position_true at zero k d h = absurd (omega arith)
position_true at (suc n) zero d h = omega arith
position_true at (suc n) (suc k) d h = position_true (at + 1) n k d (omega arith) ∙ omega arith

pub rank_true : (n k : ℕ) → k < true_count_of (replicate n true) → k ≡ rank_of (replicate n true) k
rank_true n k h = sym (position_true 0 n k 0 (omega (arith, count_by-le-length (λ b. b) (replicate n true), length-replicate n true)) ∙ omega arith)

-- of rows that are all selected, as many as lie before a place
pub true_before_all : (n p : ℕ) → p ≤ length (replicate n true) → p ≡ true_count_of (take p (replicate n true))
true_before_all n zero h = refl
true_before_all zero (suc p) h = absurd (omega arith)
true_before_all (suc n) (suc p) h = omega (arith, true_before_all n p (omega arith), true_count_of-cons true (take p (replicate n true)))

pub positions-append : (at : ℕ) (xs ys : List Bool) → positions at (xs ++ ys) ≡ positions at xs ++ positions (at + length xs) ys
positions-append at [] ys = ap (λ n. positions n ys) (omega arith)
positions-append at (true ∷ xs) ys = ap (λ l. at ∷ l) (positions-append (at + 1) xs ys ∙ ap (λ n. positions (at + 1) xs ++ positions n ys) (omega arith))
positions-append at (false ∷ xs) ys = positions-append (at + 1) xs ys ∙ ap (λ n. positions (at + 1) xs ++ positions n ys) (omega arith)

pub positions_false : (at n : ℕ) → positions at (replicate n false) ≡ []
positions_false at zero = refl
positions_false at (suc n) = positions_false (at + 1) n

pub positions_true : (at n : ℕ) → positions at (replicate n true) ≡ range_with_len at n
positions_true at zero = refl
positions_true at (suc n) = ap (λ l. at ∷ l) (positions_true (at + 1) n)

-- clear bits at the end add no position
pub set_of_clear : (bits : List Bool) (n : ℕ) → set_of (bits ++ replicate n false) ≡ set_of bits
set_of_clear bits n = positions-append 0 bits (replicate n false) ∙ ap (λ l. set_of bits ++ l) (positions_false (0 + length bits) n) ∙ append-nil (set_of bits)

-- set bits at the end add theirs
pub set_of_set : (bits : List Bool) (n : ℕ) → set_of (bits ++ replicate n true) ≡ set_of bits ++ range_with_len (length bits) n
set_of_set bits n = positions-append 0 bits (replicate n true) ∙ ap (λ l. set_of bits ++ l) (positions_true (0 + length bits) n) ∙ ap (λ a. set_of bits ++ range_with_len a n) (omega arith)

-- item k of a run
pub get_or-range : (a n k : ℕ) → k < n → get_or (range_with_len a n) k 0 ≡ a + k
get_or-range a zero k h = absurd (omega arith)
get_or-range a (suc n) zero h = omega arith
get_or-range a (suc n) (suc k) h = get_or-range (a + 1) n k (omega arith) ∙ omega arith

-- each set position is below the number of bits
pub set_below : (bits : List Bool) (n : ℕ) → length bits ≡ n → All (λ p. p < n) (set_of bits)
set_below bits n h k d l =
    let ranked : k < true_count_of bits = omega (arith, l, length-positions 0 bits) in
    omega (arith, h, get_or_default (set_of bits) k d 0 l, rank_within bits k ranked)

-- positions that count from further on
pub positions-shift : (a b : ℕ) (bits : List Bool) → positions (a + b) bits ≡ map (λ p. a + p) (positions b bits)
positions-shift a b [] = refl
positions-shift a b (true ∷ bits) = let next : a + b + 1 ≡ a + (b + 1) = omega arith in ap (λ l. (a + b) ∷ l) (ap (λ n. positions n bits) next ∙ positions-shift a (b + 1) bits)
positions-shift a b (false ∷ bits) = let next : a + b + 1 ≡ a + (b + 1) = omega arith in ap (λ n. positions n bits) next ∙ positions-shift a (b + 1) bits
