-- Stretches of bits that are all the same, and maximal runs.
use Rattle.std.proofs.Common.{◌≡◌, ℕ, zero, suc, ◌+◌, ◌-◌, ◌<◌, ◌≤◌, Bool, true, false, cond, List, [], ◌∷◌, ◌++◌, length, get_or, take, drop, replicate, refl, sym, ap, ap₂, ◌∙◌, subst, inl, inr, arith, add-one, eqb}
use Rattle.std.specs.List.{All, range_with_len}
use Rattle.std.proofs.lemmas.List.{take-append-drop, take_all, drop-drop, drop_all, length-take-le, length-drop, length-replicate, get_or-take, get_or-drop, get_or-replicate, get_or_default, same_lists, append_assoc, append-nil, drop_more, take_more, length-append}
use Rattle.std.proofs.lemmas.Bool.{cases_lt}
use Rattle.std.proofs.lemmas.Bool.Decides.{nat_tests}
use Rattle.vx_bits.specs.BitBuffer.{true_count_of}
use Rattle.vx_mask.specs.Positions.{AllBits, AreMaximalRuns, positions, set_of, run_positions, runs_with, runs_from, maximal_runs}
use Rattle.vx_mask.proofs.PositionLists.{set_of_set, set_of_clear, length-positions}
use Rattle.std.proofs.lemmas.List.Concat.{flat_map-append}
use Rattle.std.proofs.lemmas.List.FromFn.{length-range_with_len}
use Rattle.std.proofs.Math.Seq.{take-add}

-- bits that are all the same are that bit again and again
pub part_filled : (bits : List Bool) (a b : ℕ) (value : Bool) → a ≤ b → b ≤ length bits → AllBits bits a b value → take (b - a) (drop a bits) ≡ replicate (b - a) value
part_filled bits a b value p q h =
    let n = b - a in
    let part = take n (drop a bits) in
    let long : length part ≡ n = length-take-le n (drop a bits) (omega (arith, length-drop a bits)) in
    same_lists part (replicate n value) (long ∙ sym (length-replicate n value)) (λ k d below.
    let k_in : k < n = omega arith in
    get_or-take n (drop a bits) k d k_in ∙ get_or-drop a bits k d ∙ get_or_default bits (a + k) d false (omega arith)
    ∙ h (a + k) (omega arith) (omega arith) ∙ sym (get_or-replicate n k value d k_in))

pub filled : (bits : List Bool) (a b : ℕ) (value : Bool) → a ≤ b → b ≤ length bits → AllBits bits a b value → take b bits ≡ take a bits ++ replicate (b - a) value
filled bits a b value p q h =
    let whole : b ≡ a + (b - a) = omega arith in
    ap (λ m. take m bits) whole ∙ take-add a (b - a) bits ∙ ap (λ l. take a bits ++ l) (part_filled bits a b value p q h)

pub drop_filled : (bits : List Bool) (a b : ℕ) (value : Bool) → a ≤ b → b ≤ length bits → AllBits bits a b value → drop a bits ≡ replicate (b - a) value ++ drop b bits
drop_filled bits a b value p q h =
    let whole : a + (b - a) ≡ b = omega arith in
    sym (take-append-drop (b - a) (drop a bits))
    ∙ ap₂ ◌++◌ (part_filled bits a b value p q h) (drop-drop (b - a) a bits ∙ ap (λ n. drop n bits) whole)

-- clear bits add no set position
pub set_of_passed : (bits : List Bool) (a b : ℕ) → a ≤ b → b ≤ length bits → AllBits bits a b false → set_of (take b bits) ≡ set_of (take a bits)
set_of_passed bits a b p q h = ap set_of (filled bits a b false p q h) ∙ set_of_clear (take a bits) (b - a)

-- set bits add theirs
pub set_of_run : (bits : List Bool) (a b : ℕ) → a ≤ b → b ≤ length bits → AllBits bits a b true → set_of (take b bits) ≡ set_of (take a bits) ++ range_with_len a (b - a)
set_of_run bits a b p q h =
    ap set_of (filled bits a b true p q h) ∙ set_of_set (take a bits) (b - a)
    ∙ ap (λ n. set_of (take a bits) ++ range_with_len n (b - a)) (length-take-le a bits (omega arith))

one_bit : (bits : List Bool) (a : ℕ) (value : Bool) → get_or bits a false ≡ value → AllBits bits a (a + 1) value
one_bit bits a value e = λ k p q. let same : k ≡ a = omega arith in ap (λ n. get_or bits n false) same ∙ e

-- a set bit adds its position
pub set_of_bit : (bits : List Bool) (a : ℕ) → a < length bits → get_or bits a false ≡ true → set_of (take (a + 1) bits) ≡ set_of (take a bits) ++ a ∷ []
set_of_bit bits a h e =
    let one : a + 1 - a ≡ 1 = omega arith in
    set_of_run bits a (a + 1) (omega arith) (omega arith) (one_bit bits a true e) ∙ ap (λ n. set_of (take a bits) ++ range_with_len a n) one

pub all_positions : (bits : List Bool) (indices : List ℕ) (at : ℕ) → length bits ≤ at → indices ≡ set_of (take at bits) → indices ≡ set_of bits
all_positions bits indices at h e = e ∙ ap set_of (take_all at bits h)

-- ---- maximal runs

runs_with-first : (at : ℕ) (runs : List (ℕ × ℕ)) (run : ℕ × ℕ) (more : List (ℕ × ℕ)) → runs_with at runs ≡ run ∷ more → run.0 ≡ at
runs_with-first at [] run more e = ap (λ (r : ℕ × ℕ). r.0) (sym (head_is (at, at + 1) [] run more e))
  where
    head_is : (x : ℕ × ℕ) (xs : List (ℕ × ℕ)) (y : ℕ × ℕ) (ys : List (ℕ × ℕ)) → x ∷ xs ≡ y ∷ ys → x ≡ y
    head_is x xs y ys e = cc
runs_with-first at (first ∷ runs) run more e = by_test (eqb first.0 (at + 1)) e
  where
    head_is : (x : ℕ × ℕ) (xs : List (ℕ × ℕ)) (y : ℕ × ℕ) (ys : List (ℕ × ℕ)) → x ∷ xs ≡ y ∷ ys → x ≡ y
    head_is x xs y ys e = cc

    by_test : (b : Bool) → cond b ((at, first.1) ∷ runs) ((at, at + 1) ∷ first ∷ runs) ≡ run ∷ more → run.0 ≡ at
    by_test true e = ap (λ (r : ℕ × ℕ). r.0) (sym (head_is (at, first.1) runs run more e))
    by_test false e = ap (λ (r : ℕ × ℕ). r.0) (sym (head_is (at, at + 1) (first ∷ runs) run more e))

-- no run begins before the first bit
runs_from-first : (at : ℕ) (bits : List Bool) (run : ℕ × ℕ) (more : List (ℕ × ℕ)) → runs_from at bits ≡ run ∷ more → at ≤ run.0
runs_from-first at [] run more e = cc
runs_from-first at (true ∷ bits) run more e = omega (arith, runs_with-first at (runs_from (at + 1) bits) run more e)
runs_from-first at (false ∷ bits) run more e = omega (arith, runs_from-first (at + 1) bits run more e)

-- a set bit before runs that do not begin just behind it
runs_with-apart : (at : ℕ) (runs : List (ℕ × ℕ)) → ((run : ℕ × ℕ) (more : List (ℕ × ℕ)) → runs ≡ run ∷ more → at + 2 ≤ run.0) → runs_with at runs ≡ (at, at + 1) ∷ runs
runs_with-apart at [] h = refl
runs_with-apart at (run ∷ runs) h =
    let past : at + 2 ≤ run.0 = h run runs refl in
    let apart : eqb run.0 (at + 1) ≡ false = grind (arith, nat_tests) in
    ap (λ b. cond b ((at, run.1) ∷ runs) ((at, at + 1) ∷ run ∷ runs)) apart

pub runs_from-clear : (at n : ℕ) (bits : List Bool) → runs_from at (replicate n false ++ bits) ≡ runs_from (at + n) bits
runs_from-clear at zero bits = ap (λ a. runs_from a bits) (omega arith)
runs_from-clear at (suc n) bits = runs_from-clear (at + 1) n bits ∙ ap (λ a. runs_from a bits) (omega arith)

-- one set bit and then none
runs_from-bit : (at : ℕ) (bits : List Bool) → get_or bits 0 false ≡ false → runs_from at (true ∷ bits) ≡ (at, at + 1) ∷ runs_from (at + 1) bits
runs_from-bit at [] e = refl
runs_from-bit at (true ∷ bits) e = cc
runs_from-bit at (false ∷ bits) e = runs_with-apart at (runs_from (at + 1 + 1) bits) (λ run more f. omega (arith, runs_from-first (at + 1 + 1) bits run more f))

pub runs_from-set : (at n : ℕ) (bits : List Bool) → get_or bits 0 false ≡ false → runs_from at (replicate (suc n) true ++ bits) ≡ (at, at + suc n) ∷ runs_from (at + suc n) bits
runs_from-set at zero bits e = runs_from-bit at bits e ∙ ap (λ a. (at, a) ∷ runs_from a bits) (omega arith)
runs_from-set at (suc n) bits e =
    let same : eqb (at + 1) (at + 1) ≡ true = grind (arith, nat_tests) in
    let more : at + 1 + suc n ≡ at + suc (suc n) = omega arith in
    ap (runs_with at) (runs_from-set (at + 1) n bits e)
    ∙ ap (λ b. cond b ((at, at + 1 + suc n) ∷ runs_from (at + 1 + suc n) bits) ((at, at + 1) ∷ (at + 1, at + 1 + suc n) ∷ runs_from (at + 1 + suc n) bits)) same
    ∙ ap (λ a. (at, a) ∷ runs_from a bits) more

-- a run that ends before a clear bit or at the end
runs_by : (bits : List Bool) (start end : ℕ) → start < end → end ≤ length bits → AllBits bits start end true → (end < length bits → get_or bits end false ≡ false) → runs_from start (drop start bits) ≡ (start, end) ∷ runs_from end (drop end bits)
runs_by bits start end p q ones stop =
    let n = end - start - 1 in
    let long : end - start ≡ suc n = omega arith in
    let whole : start + suc n ≡ end = omega arith in
    let behind : get_or (drop end bits) 0 false ≡ false = get_or-drop end bits 0 false ∙ ap (λ k. get_or bits k false) (omega arith) ∙ elim (cases_lt end (length bits)) [
      | inl more ↦ stop more
      | inr last ↦ let none = drop_all end bits last in sym (get_or-drop end bits 0 false ∙ ap (λ k. get_or bits k false) (omega arith)) ∙ ap (λ l. get_or l 0 false) none
    ] in
    ap (runs_from start) (drop_filled bits start end true (omega arith) q ones ∙ ap (λ k. replicate k true ++ drop end bits) long)
    ∙ runs_from-set start n (drop end bits) behind
    ∙ ap (λ a. (start, a) ∷ runs_from a (drop end bits)) whole

-- clear bits up to a place
runs_past : (bits : List Bool) (from to : ℕ) → from ≤ to → to ≤ length bits → AllBits bits from to false → runs_from from (drop from bits) ≡ runs_from to (drop to bits)
runs_past bits from to p q zeros =
    let whole : from + (to - from) ≡ to = omega arith in
    ap (runs_from from) (drop_filled bits from to false p q zeros) ∙ runs_from-clear from (to - from) (drop to bits) ∙ ap (λ a. runs_from a (drop to bits)) whole

pub runs_start : (bits : List Bool) (runs : List (ℕ × ℕ)) (start : ℕ) → start ≤ length bits → AllBits bits 0 start false → runs ≡ [] → runs ++ runs_from start (drop start bits) ≡ maximal_runs bits
runs_start bits runs start h zeros e = ap (λ l. l ++ runs_from start (drop start bits)) e ∙ sym (runs_past bits 0 start (omega arith) h zeros)

-- one more run, and the clear bits behind it
pub runs_more : (bits : List Bool) (runs new : List (ℕ × ℕ)) (start end next : ℕ) → start < length bits → get_or bits start false ≡ true → start ≤ end → end ≤ length bits → AllBits bits start end true → (end < length bits → get_or bits end false ≡ false) → end ≤ next → next ≤ length bits → AllBits bits end next false → runs ++ runs_from start (drop start bits) ≡ maximal_runs bits → new ≡ runs ++ (start, end) ∷ [] → new ++ runs_from next (drop next bits) ≡ maximal_runs bits
runs_more bits runs new start end next here set p q ones stop r s zeros e f =
    let some : start < end = elim (cases_lt start end) [
      | inl more ↦ more
      | inr less ↦ let same : end ≡ start = omega arith in let clear = subst (λ (n : ℕ). get_or bits n false ≡ false) same (stop (omega arith)) in cc
    ] in
    ap (λ l. l ++ runs_from next (drop next bits)) f ∙ append_assoc runs ((start, end) ∷ []) (runs_from next (drop next bits))
    ∙ ap (λ l. runs ++ l) (ap (λ l. (start, end) ∷ l) (sym (runs_past bits end next r s zeros)) ∙ sym (runs_by bits start end some q ones stop))
    ∙ e

pub runs_all : (bits : List Bool) (runs : List (ℕ × ℕ)) (at : ℕ) → length bits ≤ at → runs ++ runs_from at (drop at bits) ≡ maximal_runs bits → runs ≡ maximal_runs bits
runs_all bits runs at h e = sym (append-nil runs) ∙ sym (ap (λ l. runs ++ runs_from at l) (drop_all at bits h)) ∙ e

-- ---- what maximal runs cover

-- runs that are not empty and cover these positions
pub record Cover (runs : List (ℕ × ℕ)) (set : List ℕ) : Type 0 where
  pub none_empty : All (λ run. run.0 < run.1) runs
  pub cover : run_positions runs ≡ set

All-first : (run : ℕ × ℕ) (runs : List (ℕ × ℕ)) → run.0 < run.1 → All (λ run. run.0 < run.1) runs → All (λ run. run.0 < run.1) (run ∷ runs)
All-first run runs p h = λ k d q. place k d q
  where
    place : (k : ℕ) (d : ℕ × ℕ) → k < length (run ∷ runs) → (get_or (run ∷ runs) k d).0 < (get_or (run ∷ runs) k d).1
    place zero d q = p
    place (suc k) d q = h k d (omega arith)

range_first : (a b : ℕ) → a + 1 ≤ b → range_with_len a (b - a) ≡ a ∷ range_with_len (a + 1) (b - (a + 1))
range_first a b p = let more : b - a ≡ suc (b - (a + 1)) = omega arith in ap (range_with_len a) more

one_covered : (at : ℕ) (runs : List (ℕ × ℕ)) → run_positions ((at, at + 1) ∷ runs) ≡ at ∷ run_positions runs
one_covered at runs = let one : at + 1 - at ≡ 1 = omega arith in ap (λ n. range_with_len at n ++ run_positions runs) one

Cover-with : (at : ℕ) (runs : List (ℕ × ℕ)) (set : List ℕ) → Cover runs set → Cover (runs_with at runs) (at ∷ set)
Cover-with at [] set h = record {
  none_empty = All-first (at, at + 1) [] (omega arith) (λ k d q. absurd (omega arith));
  cover = one_covered at [] ∙ ap (λ l. at ∷ l) h.cover;
}
Cover-with at (run ∷ runs) set h = by_test (eqb run.0 (at + 1)) refl
  where
    by_test : (b : Bool) → eqb run.0 (at + 1) ≡ b → Cover (cond b ((at, run.1) ∷ runs) ((at, at + 1) ∷ run ∷ runs)) (at ∷ set)
    by_test true e =
        let same : run.0 ≡ at + 1 = grind (arith, nat_tests) in
        let some : run.0 < run.1 = h.none_empty 0 (0, 0) (omega arith) in
        record {
          none_empty = All-first (at, run.1) runs (omega arith) (λ k d q. h.none_empty (suc k) d (omega arith));
          cover = ap (λ l. l ++ run_positions runs) (range_first at run.1 (omega arith) ∙ ap (λ a. at ∷ range_with_len a (run.1 - a)) (sym same)) ∙ ap (λ l. at ∷ l) h.cover;
        }
    by_test false e = record {
      none_empty = All-first (at, at + 1) (run ∷ runs) (omega arith) h.none_empty;
      cover = one_covered at (run ∷ runs) ∙ ap (λ l. at ∷ l) h.cover;
    }

Cover-from : (at : ℕ) (bits : List Bool) → Cover (runs_from at bits) (positions at bits)
Cover-from at [] = record { none_empty = λ k d q. absurd (omega arith); cover = refl }
Cover-from at (true ∷ bits) = Cover-with at (runs_from (at + 1) bits) (positions (at + 1) bits) (Cover-from (at + 1) bits)
Cover-from at (false ∷ bits) = Cover-from (at + 1) bits

pub maximal_runs_cover : (bits : List Bool) → Cover (maximal_runs bits) (set_of bits)
maximal_runs_cover bits = Cover-from 0 bits

-- each run starts beyond the end of the one before
abbrev Apart : List (ℕ × ℕ) → Type 0
Apart runs = (k : ℕ) (d : ℕ × ℕ) → suc k < length runs → (get_or runs k d).1 < (get_or runs (suc k) d).0

Apart-joined : (at : ℕ) (run : ℕ × ℕ) (runs : List (ℕ × ℕ)) → Apart (run ∷ runs) → Apart ((at, run.1) ∷ runs)
Apart-joined at run runs h zero d p = h zero d (omega arith)
Apart-joined at run runs h (suc k) d p = h (suc k) d (omega arith)

Apart-first : (at : ℕ) (run : ℕ × ℕ) (runs : List (ℕ × ℕ)) → at + 1 < run.0 → Apart (run ∷ runs) → Apart ((at, at + 1) ∷ run ∷ runs)
Apart-first at run runs past h zero d p = past
Apart-first at run runs past h (suc k) d p = h k d (omega arith)

Apart-with : (at : ℕ) (runs : List (ℕ × ℕ)) → ((run : ℕ × ℕ) (more : List (ℕ × ℕ)) → runs ≡ run ∷ more → at + 1 ≤ run.0) → Apart runs → Apart (runs_with at runs)
Apart-with at [] first h = λ k d p. absurd (omega arith)
Apart-with at (run ∷ runs) first h = by_test (eqb run.0 (at + 1)) refl
  where
    by_test : (b : Bool) → eqb run.0 (at + 1) ≡ b → Apart (cond b ((at, run.1) ∷ runs) ((at, at + 1) ∷ run ∷ runs))
    by_test true e = Apart-joined at run runs h
    by_test false e =
        let from : at + 1 ≤ run.0 = first run runs refl in
        let past : at + 1 < run.0 = grind (arith, nat_tests) in
        Apart-first at run runs past h

Apart-from : (at : ℕ) (bits : List Bool) → Apart (runs_from at bits)
Apart-from at [] = λ k d p. absurd (omega arith)
Apart-from at (true ∷ bits) = Apart-with at (runs_from (at + 1) bits) (runs_from-first (at + 1) bits) (Apart-from (at + 1) bits)
Apart-from at (false ∷ bits) = Apart-from (at + 1) bits

pub are_maximal_runs : (bits : List Bool) → AreMaximalRuns bits (maximal_runs bits)
are_maximal_runs bits =
    let covered = maximal_runs_cover bits in
    let runs = maximal_runs bits in
    record {
      none_empty = covered.none_empty;
      apart = λ k d p. subst (λ (n : ℕ). (get_or runs k d).1 < (get_or runs n d).0) (sym (add-one k)) (Apart-from 0 bits k d (omega arith));
      cover = covered.cover;
    }

-- where some bit is set there is a run
pub some_run : (bits : List Bool) (runs : List (ℕ × ℕ)) → run_positions runs ≡ set_of bits → 0 < true_count_of bits → 0 < length runs
some_run bits [] e h = absurd (omega (arith, length-positions 0 bits, ap length e))
some_run bits (run ∷ runs) e h = omega arith

-- the places of a run and of the runs behind it
pub covered_first : (runs : List (ℕ × ℕ)) (k : ℕ) (d : ℕ × ℕ) → k < length runs → run_positions (drop k runs) ≡ range_with_len (get_or runs k d).0 ((get_or runs k d).1 - (get_or runs k d).0) ++ run_positions (drop (k + 1) runs)
covered_first runs k d h = ap run_positions (drop_more runs k d h)

-- one more run is counted
pub run_count : (runs : List (ℕ × ℕ)) (k : ℕ) → k < length runs → length (run_positions (take (k + 1) runs)) ≡ length (run_positions (take k runs)) + ((get_or runs k (0, 0)).1 - (get_or runs k (0, 0)).0)
run_count runs k p =
    let r = get_or runs k (0, 0) in
    ap (λ l. length (run_positions l)) (take_more runs k (0, 0) p)
    ∙ ap length (flat_map-append (λ (q : ℕ × ℕ). range_with_len q.0 (q.1 - q.0)) (take k runs) (r ∷ []))
    ∙ length-append (run_positions (take k runs)) (run_positions (r ∷ []))
    ∙ ap (λ n. length (run_positions (take k runs)) + n) (ap length (append-nil (range_with_len r.0 (r.1 - r.0))) ∙ length-range_with_len r.0 (r.1 - r.0))
