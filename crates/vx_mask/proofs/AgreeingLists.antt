-- Whether lists beside bits agree with them.
use Rattle.std.proofs.Common.{◌≡◌, ℕ, zero, suc, ◌+◌, ◌-◌, ◌<◌, ◌≤◌, Bool, true, false, ◌&&◌, ◌||◌, not, cond, List, [], ◌∷◌, ◌++◌, Option, None, Some, IfSome, length, get_or, take, drop, replicate, refl, sym, ap, ap₂, ◌∙◌, subst, inl, inr, arith, eqb, ltb}
use Rattle.std.specs.List.{range_with_len, list_all, slice_range}
use Rattle.std.proofs.lemmas.List.{append_cancel_left, drop_more, take-append-drop, take_more, take_all, length-take-le, length-drop, length-append, length-replicate, get_or-take, get_or-drop, get_or-replicate, get_or_append_left, get_or-append_right}
use Rattle.std.proofs.lemmas.List.Folds.{list_all_at, list_all_more}
use Rattle.std.proofs.lemmas.Bool.{cases_lt, lt-ltb, eq-eqb, ne_eqb, and_parts, both_ways, or_parts}
use Rattle.std.proofs.lemmas.Slice.Eq.{bytes_eq-Decides}
use Rattle.std.proofs.lemmas.Bool.Decides.{nat_tests}
use Rattle.std.proofs.lemmas.List.FromFn.{length-range_with_len}
use Rattle.std.proofs.lemmas.List.Concat.{flat_map-append}
use Rattle.std.proofs.lemmas.List.Sums.{count_by-le-length}
use Rattle.vx_bits.specs.BitBuffer.{PlacedBits, true_count_of}
use Rattle.vx_mask.specs.declared.error.MaskError.{MaskError}
use Rattle.vx_mask.specs.declared.error.MaskError.TheVariants.{Count, NotSelective, Indices, Slices}
use Rattle.vx_mask.specs.MaskValues.{PartialMask, IsPartial, AreSlicesOf, are_set_positions, are_set_runs, parts_fault, passes}
use Rattle.vx_mask.specs.Positions.{AllBits, BeginsWithRun, positions, set_of, run_positions, same_numbers}
use Rattle.vx_mask.proofs.PositionLists.{positions-append, length-positions, position_at, true_count_before_set, all_are_set, set_of_set}
use Rattle.vx_mask.proofs.AscendingLists.{covered_more}
use Rattle.vx_mask.proofs.RunLists.{some_run, part_filled, set_of_passed, set_of_bit, set_of_run}

differ : (xs ys : List ℕ) (b : Bool) → same_numbers xs ys ≡ b → (xs ≡ ys → ⊥) → false ≡ b
differ xs ys true e h = absurd (h ((bytes_eq-Decides xs ys).0 e))
differ xs ys false e h = refl

-- as many bits are set up to a place as positions were found
found_count : (bits : List Bool) (set : List ℕ) (low : ℕ) → set ≡ set_of (take low bits) → true_count_of (take low bits) ≡ length set
found_count bits set low e = sym (length-positions 0 (take low bits)) ∙ ap length (sym e)

first_same : (x : ℕ) (xs : List ℕ) (y : ℕ) (ys : List ℕ) → x ∷ xs ≡ y ∷ ys → x ≡ y
first_same x xs y ys e = cc

rest_same : (x : ℕ) (xs : List ℕ) (y : ℕ) (ys : List ℕ) → x ∷ xs ≡ y ∷ ys → xs ≡ ys
rest_same x xs y ys e = cc

-- ---- positions

-- one more position was found
pub position_more : (bits : List Bool) (indices : List ℕ) (k low next : ℕ) → k < length indices → low ≤ next → next < length bits → AllBits bits low next false → get_or bits next false ≡ true → get_or indices k 0 ≡ next → take k indices ≡ set_of (take low bits) → take (k + 1) indices ≡ set_of (take (next + 1) bits)
position_more bits indices k low next h p q clear set is found =
    take_more indices k 0 h ∙ ap₂ (λ l x. l ++ x ∷ []) (found ∙ sym (set_of_passed bits low next p (omega arith) clear)) is
    ∙ sym (set_of_bit bits next q set)

-- in the set positions the next one is the next index
pub record IsNextPosition (bits : List Bool) (indices : List ℕ) (k next : ℕ) : Type 0 where
  pub within : next < length bits
  pub is : get_or indices k 0 ≡ next

pub position_is : (bits : List Bool) (indices : List ℕ) (k low next : ℕ) → k < length indices → low ≤ next → next ≤ length bits → AllBits bits low next false → (next < length bits → get_or bits next false ≡ true) → take k indices ≡ set_of (take low bits) → indices ≡ set_of bits → IsNextPosition bits indices k next
position_is bits indices k low next h p q clear set found all =
    let passed = set_of_passed bits low next p q clear in
    let count : true_count_of (take next bits) ≡ k = found_count bits (take k indices) next (found ∙ sym passed) ∙ length-take-le k indices (omega arith) in
    elim (cases_lt next (length bits)) [
      | inl within ↦ record {
        within = within;
        is = ap (λ l. get_or l k 0) all ∙ ap (λ n. get_or (set_of bits) n 0) (sym count) ∙ position_at 0 bits next 0 within (set within) ∙ omega arith;
      }
      | inr end ↦
          let whole = ap true_count_of (take_all next bits end) in
          absurd (omega (arith, count, whole, length-positions 0 bits, ap length all))
    ]

-- all positions were found just where no bit is set behind them
pub ends : (bits : List Bool) (set : List ℕ) (low next : ℕ) → low ≤ next → next ≤ length bits → AllBits bits low next false → (next < length bits → get_or bits next false ≡ true) → set ≡ set_of (take low bits) → eqb next (length bits) ≡ same_numbers set (set_of bits)
ends bits set low next p q clear here found =
    let passed = set_of_passed bits low next p q clear in
    elim (cases_lt next (length bits)) [
      | inl within ↦
          let apart : (next ≡ length bits → ⊥) = λ e. absurd (omega (arith, e, within)) in
          let few = true_count_before_set bits next within (here within) in
          let other : (set ≡ set_of bits → ⊥) = λ e. absurd (omega (arith, few, found_count bits set next (found ∙ sym passed), ap length e, length-positions 0 bits)) in
          ne_eqb next (length bits) apart ∙ differ set (set_of bits) (same_numbers set (set_of bits)) refl other
      | inr past ↦
          let at : next ≡ length bits = omega arith in
          eq-eqb next (length bits) at ∙ sym ((bytes_eq-Decides set (set_of bits)).1 (found ∙ sym passed ∙ ap set_of (take_all next bits past)))
    ]

pub no_position : (bits : List Bool) (indices : List ℕ) → (indices ≡ set_of bits → ⊥) → false ≡ are_set_positions bits indices
no_position bits indices h = differ indices (set_of bits) (same_numbers indices (set_of bits)) refl h

-- ---- runs

-- bits whose positions begin with a run
pub record HeadRun (at start n : ℕ) (bits : List Bool) : Type 0 where
  pub clear : ℕ
  pub rest : List Bool
  pub place : start ≡ at + clear
  pub is : bits ≡ replicate clear false ++ (replicate (suc n) true ++ rest)

head_true : (at start n : ℕ) (bits : List Bool) → at ≡ start → HeadRun (at + 1) (start + 1) n bits → HeadRun at start (suc n) (true ∷ bits)
head_true at start n bits e h =
    let none : h.clear ≡ 0 = omega (arith, h.place) in
    record {
      clear = 0;
      rest = h.rest;
      place = omega arith;
      is = ap (λ l. true ∷ l) (h.is ∙ ap (λ k. replicate k false ++ (replicate (suc n) true ++ h.rest)) none);
    }

head_run : (at start n : ℕ) (bits : List Bool) (more : List ℕ) → positions at bits ≡ range_with_len start (suc n) ++ more → HeadRun at start n bits
head_run at start n [] more e = cc
head_run at start zero (true ∷ bits) more e =
    let same : at ≡ start = first_same at (positions (at + 1) bits) start more e in
    record { clear = 0; rest = bits; place = omega arith; is = refl }
head_run at start (suc n) (true ∷ bits) more e =
    let same : at ≡ start = first_same at (positions (at + 1) bits) start (range_with_len (start + 1) (suc n) ++ more) e in
    head_true at start n bits same (head_run (at + 1) (start + 1) n bits more (rest_same at (positions (at + 1) bits) start (range_with_len (start + 1) (suc n) ++ more) e))
head_run at start n (false ∷ bits) more e =
    let h = head_run (at + 1) start n bits more e in
    record { clear = suc h.clear; rest = h.rest; place = omega (arith, h.place); is = ap (λ l. false ∷ l) h.is }

-- a run that comes first in these bits
head_begins : (bits : List Bool) (low start n : ℕ) → low ≤ length bits → HeadRun low start n (drop low bits) → BeginsWithRun bits low start (start + suc n)
head_begins bits low start n p h =
    let before = replicate h.clear false in
    let ones = replicate (suc n) true in
    let lb = length-replicate h.clear false in
    let lo = length-replicate (suc n) true in
    let la = length-append before (ones ++ h.rest) in
    let lc = length-append ones h.rest in
    let long : length (drop low bits) ≡ length bits - low = length-drop low bits in
    let place = h.place in
    record {
      from = omega arith;
      some = omega arith;
      within = omega (arith, ap length h.is);
      clear = λ k u v.
          let i = k - low in
          let at : low + i ≡ k = omega arith in
          sym (get_or-drop low bits i false ∙ ap (λ j. get_or bits j false) at) ∙ ap (λ l. get_or l i false) h.is
          ∙ get_or_append_left before (ones ++ h.rest) false i (omega arith) ∙ get_or-replicate h.clear i false false (omega arith);
      set = λ k u v.
          let i = k - low in
          let j = i - h.clear in
          let at : low + i ≡ k = omega arith in
          sym (get_or-drop low bits i false ∙ ap (λ j. get_or bits j false) at) ∙ ap (λ l. get_or l i false) h.is
          ∙ get_or-append_right before (ones ++ h.rest) h.clear i false lb (omega arith)
          ∙ get_or_append_left ones h.rest false j (omega arith) ∙ get_or-replicate (suc n) j true false (omega arith);
    }

-- what the runs from a place on cover, where those before it cover what is set before it
rest_covered : (bits : List Bool) (runs : List (ℕ × ℕ)) (k low : ℕ) → low ≤ length bits → run_positions (take k runs) ≡ set_of (take low bits) → run_positions runs ≡ set_of bits → positions low (drop low bits) ≡ run_positions (drop k runs)
rest_covered bits runs k low p found all =
    let split_set : set_of bits ≡ set_of (take low bits) ++ positions low (drop low bits) =
    ap set_of (sym (take-append-drop low bits)) ∙ positions-append 0 (take low bits) (drop low bits)
    ∙ ap (λ n. set_of (take low bits) ++ positions n (drop low bits)) (omega (arith, length-take-le low bits p)) in
    let split_runs : run_positions runs ≡ run_positions (take k runs) ++ run_positions (drop k runs) =
    ap run_positions (sym (take-append-drop k runs)) ∙ flat_map-append (λ (run : ℕ × ℕ). range_with_len run.0 (run.1 - run.0)) (take k runs) (drop k runs) in
    append_cancel_left (set_of (take low bits)) (positions low (drop low bits)) (run_positions (drop k runs))
    (sym split_set ∙ sym all ∙ split_runs ∙ ap (λ l. l ++ run_positions (drop k runs)) found)

abbrev is_some_run : ℕ × ℕ → Bool
is_some_run run = ltb run.0 run.1

ltb-none : (a b : ℕ) → b ≤ a → ltb a b ≡ false
ltb-none a b p = grind (arith, nat_tests)

-- in runs that cover just the set positions, and of which none is empty, the next one begins with
-- the next set bit
next_begins : (bits : List Bool) (runs : List (ℕ × ℕ)) (k low : ℕ) → k < length runs → low ≤ length bits → run_positions (take k runs) ≡ set_of (take low bits) → run_positions runs ≡ set_of bits → (get_or runs k (0, 0)).0 < (get_or runs k (0, 0)).1 → BeginsWithRun bits low (get_or runs k (0, 0)).0 (get_or runs k (0, 0)).1
next_begins bits runs k low h p found all some =
    let run = get_or runs k (0, 0) in
    let n = run.1 - run.0 - 1 in
    let long : run.1 - run.0 ≡ suc n = omega arith in
    let whole : run.0 + suc n ≡ run.1 = omega arith in
    let rest = rest_covered bits runs k low p found all ∙ ap run_positions (drop_more runs k (0, 0) h) ∙ ap (λ m. range_with_len run.0 m ++ run_positions (drop (k + 1) runs)) long in
    let begins = head_begins bits low run.0 n p (head_run low run.0 n (drop low bits) (run_positions (drop (k + 1) runs)) rest) in
    subst (λ (e : ℕ). BeginsWithRun bits low run.0 e) whole begins

pub no_run : (bits : List Bool) (runs : List (ℕ × ℕ)) (k low : ℕ) → k < length runs → low ≤ length bits → run_positions (take k runs) ≡ set_of (take low bits) → (BeginsWithRun bits low (get_or runs k (0, 0)).0 (get_or runs k (0, 0)).1 → ⊥) → false ≡ are_set_runs bits runs
no_run bits runs k low h p found not_next = by_test (are_set_runs bits runs) refl
  where
    by_test : (b : Bool) → are_set_runs bits runs ≡ b → false ≡ b
    by_test false e = refl
    by_test true e =
        let both = and_parts (list_all is_some_run runs) (same_numbers (run_positions runs) (set_of bits)) e in
        let all = (bytes_eq-Decides (run_positions runs) (set_of bits)).0 both.1 in
        elim (cases_lt (get_or runs k (0, 0)).0 (get_or runs k (0, 0)).1) [
          | inl some ↦ absurd (not_next (next_begins bits runs k low h p found all some))
          | inr empty ↦ absurd (both_ways (list_all is_some_run runs) (list_all_at is_some_run runs k (0, 0) h (ltb-none (get_or runs k (0, 0)).0 (get_or runs k (0, 0)).1 empty)) both.0)
        ]

-- what was found of the runs
pub record AreRunsTo (bits : List Bool) (runs : List (ℕ × ℕ)) (low : ℕ) : Type 0 where
  pub some : list_all (λ run. ltb run.0 run.1) runs ≡ true
  pub cover : run_positions runs ≡ set_of (take low bits)

pub run_more : (bits : List Bool) (runs : List (ℕ × ℕ)) (k low : ℕ) → k < length runs → AreRunsTo bits (take k runs) low → BeginsWithRun bits low (get_or runs k (0, 0)).0 (get_or runs k (0, 0)).1 → AreRunsTo bits (take (k + 1) runs) (get_or runs k (0, 0)).1
run_more bits runs k low h found next =
    let run = get_or runs k (0, 0) in
    let some = next.some in
    let within = next.within in
    record {
      some = list_all_more is_some_run runs k (0, 0) h ∙ ap₂ ◌&&◌ found.some (lt-ltb run.0 run.1 some);
      cover = covered_more runs k (0, 0) h
          ∙ ap (λ l. l ++ range_with_len run.0 (run.1 - run.0)) (found.cover ∙ sym (set_of_passed bits low run.0 next.from (omega arith) next.clear))
          ∙ sym (set_of_run bits run.0 run.1 (omega arith) within next.set);
    }

pub runs_end : (bits : List Bool) (runs : List (ℕ × ℕ)) (k low next : ℕ) → length runs ≤ k → low ≤ next → next ≤ length bits → AllBits bits low next false → (next < length bits → get_or bits next false ≡ true) → AreRunsTo bits (take k runs) low → eqb next (length bits) ≡ are_set_runs bits runs
runs_end bits runs k low next h p q clear here found =
    let whole = take_all k runs h in
    ends bits (run_positions runs) low next p q clear here (ap run_positions (sym whole) ∙ found.cover)
    ∙ sym (ap (λ b. b && same_numbers (run_positions runs) (set_of bits)) (ap (list_all is_some_run) (sym whole) ∙ found.some))

-- ---- one run

set_between : (bits : List Bool) (start end : ℕ) → start ≤ end → end ≤ length bits → true_count_of (slice_range bits start end) ≡ end - start → AllBits bits start end true
set_between bits start end p q e = λ k u v.
    let part = slice_range bits start end in
    let n = end - start in
    let i = k - start in
    let at : start + i ≡ k = omega arith in
    let long : length part ≡ n = length-take-le n (drop start bits) (omega (arith, length-drop start bits)) in
    let all = all_are_set part (e ∙ sym long) ∙ ap (λ m. replicate m true) long in
    ap (λ j. get_or bits j false) (sym at) ∙ sym (get_or-drop start bits i false) ∙ sym (get_or-take n (drop start bits) i false (omega arith))
    ∙ ap (λ l. get_or l i false) all ∙ get_or-replicate n i true false (omega arith)

count_between : (bits : List Bool) (start end : ℕ) → start ≤ end → end ≤ length bits → AllBits bits start end true → true_count_of (slice_range bits start end) ≡ end - start
count_between bits start end p q set =
    let n = end - start in
    ap true_count_of (part_filled bits start end true p q set)
    ∙ omega (arith, length-positions 0 (replicate n true), ap length (set_of_set [] n), length-range_with_len 0 n)

pub run_begins : (bits : List Bool) (low start end : ℕ) → low ≤ start → start < end → end ≤ length bits → AllBits bits low start false → true_count_of (slice_range bits start end) ≡ end - start → BeginsWithRun bits low start end
run_begins bits low start end p q r clear count = record { from = p; some = q; within = r; clear = clear; set = set_between bits start end (omega arith) r count }

pub run_counts : (bits : List Bool) (low start end : ℕ) → BeginsWithRun bits low start end → true_count_of (slice_range bits start end) ≡ end - start
run_counts bits low start end h = let some = h.some in count_between bits start end (omega arith) h.within h.set

-- the run begins at the first set bit
pub run_starts : (bits : List Bool) (low start end next : ℕ) → low ≤ next → next ≤ length bits → AllBits bits low next false → (next < length bits → get_or bits next false ≡ true) → BeginsWithRun bits low start end → next ≡ start
run_starts bits low start end next p q clear here h =
    let some = h.some in
    let within = h.within in
    let set = h.set start (omega arith) (omega arith) in
    elim (cases_lt next start) [
      | inl early ↦ let at = here (omega arith) in let none = h.clear next p early in cc
      | inr late ↦ elim (cases_lt start next) [
        | inl past ↦ let none = clear start h.from past in cc
        | inr not_past ↦ omega arith
      ]
    ]

-- ---- parts that agree

runs_agree : (bits : PlacedBits) (runs : List (ℕ × ℕ)) → 0 < true_count_of bits.bits → are_set_runs bits.bits runs ≡ true → (mask : PartialMask) → mask.bits ≡ bits → AreSlicesOf mask runs
runs_agree bits runs some e mask same =
    let both = and_parts (list_all is_some_run runs) (same_numbers (run_positions runs) (set_of bits.bits)) e in
    let cover = (bytes_eq-Decides (run_positions runs) (set_of bits.bits)).0 both.1 in
    record {
      some = some_run bits.bits runs cover some;
      none_empty = λ k d p. elim (cases_lt (get_or runs k d).0 (get_or runs k d).1) [
        | inl less ↦ less
        | inr empty ↦ absurd (both_ways (list_all is_some_run runs) (list_all_at is_some_run runs k d p (ltb-none (get_or runs k d).0 (get_or runs k d).1 empty)) both.0)
      ];
      cover = cover ∙ ap (λ (p : PlacedBits). set_of p.bits) (sym same);
    }

indices_part : (bits : PlacedBits) (indices : Option (List ℕ)) → true ≡ passes (are_set_positions bits.bits) indices → IfSome indices (λ is. is ≡ set_of bits.bits)
indices_part bits None e = tt
indices_part bits (Some indices) e = (bytes_eq-Decides indices (set_of bits.bits)).0 (sym e)

slices_part : (bits : PlacedBits) (slices : Option (List (ℕ × ℕ))) → 0 < true_count_of bits.bits → true ≡ passes (are_set_runs bits.bits) slices → (mask : PartialMask) → mask.bits ≡ bits → IfSome slices (λ s. AreSlicesOf mask s)
slices_part bits None some e mask same = tt
slices_part bits (Some slices) some e mask same = runs_agree bits slices some (sym e) mask same

parts_agree : (bits : PlacedBits) (count : ℕ) (indices : Option (List ℕ)) (slices : Option (List (ℕ × ℕ))) → count ≡ true_count_of bits.bits → (count ≡ 0 → ⊥) → (count ≡ length bits.bits → ⊥) → true ≡ passes (are_set_positions bits.bits) indices → true ≡ passes (are_set_runs bits.bits) slices → IsPartial (record { bits = bits; indices = indices; slices = slices; blocks = None }) count
parts_agree bits count indices slices e some not_all i s =
    let fits = count_by-le-length (λ b. b) bits.bits in
    let more : 0 < count = elim (cases_lt 0 count) [ inl more ↦ more | inr none ↦ absurd (some (omega arith)) ] in
    record {
      counted = e;
      some = more;
      not_all = elim (cases_lt count (length bits.bits)) [ inl less ↦ less | inr all ↦ absurd (not_all (omega (arith, fits))) ];
      indices_agree = indices_part bits indices i;
      slices_agree = slices_part bits slices (omega arith) s _ refl;
      blocks_agree = tt;
    }

no_fault : (b : Bool) (fault : MaskError) (rest : Option MaskError) → None ≡ cond b (Some fault) rest → (b ≡ false) × (None ≡ rest)
no_fault true fault rest e = cc
no_fault false fault rest e = (refl, e)

not_false : (b : Bool) → not b ≡ false → true ≡ b
not_false true e = refl
not_false false e = cc

apart : (a b : ℕ) → eqb a b ≡ false → a ≡ b → ⊥
apart a b e same = both_ways (eqb a b) e (eq-eqb a b same)

same_counts : (a b : ℕ) → true ≡ eqb a b → a ≡ b
same_counts a b e = grind (arith, nat_tests)

pub faultless_parts : (bits : PlacedBits) (count : ℕ) (indices : Option (List ℕ)) (slices : Option (List (ℕ × ℕ))) → None ≡ parts_fault bits.bits count indices slices → IsPartial (record { bits = bits; indices = indices; slices = slices; blocks = None }) count
faultless_parts bits count indices slices e =
    let counted = no_fault (not (eqb count (true_count_of bits.bits))) Count _ e in
    let selective = no_fault (eqb count 0 || eqb count (length bits.bits)) NotSelective _ counted.1 in
    let indexed = no_fault (not (passes (are_set_positions bits.bits) indices)) Indices _ selective.1 in
    let sliced = no_fault (not (passes (are_set_runs bits.bits) slices)) Slices _ indexed.1 in
    let edges = or_parts (eqb count 0) (eqb count (length bits.bits)) selective.0 in
    parts_agree bits count indices slices (same_counts count (true_count_of bits.bits) (not_false _ counted.0)) (apart count 0 edges.0) (apart count (length bits.bits) edges.1)
    (not_false _ indexed.0) (not_false _ sliced.0)
