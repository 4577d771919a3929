-- Set positions that are a single run.
use Rattle.std.proofs.Common.{◌≡◌, ℕ, ◌+◌, ◌-◌, ◌<◌, ◌≤◌, Bool, true, false, cond, ◌&&◌, List, [], ◌++◌, None, Some, length, get_or, take, drop, replicate, refl, sym, ap, ap₂, ◌∙◌, subst, inl, inr, arith, ltb}
use Rattle.std.specs.List.{range_with_len}
use Rattle.std.proofs.lemmas.List.{length-append, take-append-drop, take_all, length-take-le, get_or_append_left, append-nil, nil_from_length}
use Rattle.std.proofs.lemmas.List.FromFn.{length-range_with_len}
use Rattle.std.proofs.lemmas.Bool.{cases_lt, cases_eq, lt-ltb}
use Rattle.std.proofs.lemmas.Option.{slice_get_within}
use Rattle.std.proofs.lemmas.Slice.Eq.{bytes_eq-Decides}
use Rattle.vx_bits.specs.BitBuffer.{true_count_of}
use Rattle.vx_mask.specs.Positions.{AllBits, IsSpan, positions, set_of, rank_of, span_of, same_numbers}
use Rattle.vx_mask.proofs.PositionLists.{positions-append, length-positions, positions_true, get_or-range, ranks_are_the_set, get_or_of_slice_get}
use Rattle.vx_mask.proofs.RunLists.{set_of_passed, set_of_run}

-- the first run of set bits, and what is behind it
pub record FirstRun (bits : List Bool) (start end : ℕ) : Type 0 where
  pub some : start < end
  pub within : end ≤ length bits
  pub stop : end < length bits → get_or bits end false ≡ false
  pub set : set_of bits ≡ range_with_len start (end - start) ++ positions end (drop end bits)

pub first_run : (bits : List Bool) (start end : ℕ) → 0 < true_count_of bits → start ≤ end → start ≤ length bits → end ≤ length bits → AllBits bits 0 start false → (start < length bits → get_or bits start false ≡ true) → AllBits bits start end true → (end < length bits → get_or bits end false ≡ false) → FirstRun bits start end
first_run bits start end count p within q zeros here ones stop =
    let passed : set_of (take start bits) ≡ [] = set_of_passed bits 0 start (omega arith) within zeros in
    let inside : start < length bits = elim (cases_lt start (length bits)) [
      | inl less ↦ less
      | inr all ↦
          let none = ap set_of (sym (take_all start bits all)) ∙ passed in
          absurd (omega (arith, count, length-positions 0 bits, ap length none))
    ] in
    let some : start < end = elim (cases_lt start end) [
      | inl more ↦ more
      | inr less ↦ let same : end ≡ start = omega arith in let clear = subst (λ (n : ℕ). get_or bits n false ≡ false) same (stop (omega arith)) in let set = here inside in cc
    ] in
    let front = set_of_run bits start end p q ones ∙ ap (λ l. l ++ range_with_len start (end - start)) passed in
    record {
      some = some;
      within = q;
      stop = stop;
      set = ap set_of (sym (take-append-drop end bits)) ∙ positions-append 0 (take end bits) (drop end bits)
          ∙ ap₂ (λ l n. l ++ positions n (drop end bits)) front (omega (arith, length-take-le end bits q));
    }

first_rank : (bits : List Bool) (start end : ℕ) → FirstRun bits start end → rank_of bits 0 ≡ start
first_rank bits start end run =
    let some = run.some in
    let n = end - start in
    let long = length-range_with_len start n in
    ap (λ l. get_or l 0 0) run.set ∙ get_or_append_left (range_with_len start n) (positions end (drop end bits)) 0 0 (omega arith) ∙ get_or-range start n 0 (omega arith) ∙ omega arith

-- where all set bits are in the first run, the set positions are that run
pub one_span : (bits : List Bool) (start end : ℕ) → FirstRun bits start end → end - start ≡ true_count_of bits → IsSpan bits start end
one_span bits start end run count =
    let n = end - start in
    let rest = positions end (drop end bits) in
    let parts = length-append (range_with_len start n) rest in
    let none : rest ≡ [] = nil_from_length rest (omega (arith, count, parts, length-range_with_len start n, length-positions 0 bits, ap length run.set)) in
    record { some = run.some; set = run.set ∙ ap (λ l. range_with_len start n ++ l) none ∙ append-nil (range_with_len start n) }

-- how `span_of` sees a single run
pub span_is : (bits : List Bool) (start end : ℕ) → IsSpan bits start end → Some (start, end) ≡ span_of bits
span_is bits start end span =
    let some = span.some in
    let n = end - start in
    let first : rank_of bits 0 ≡ start = ap (λ l. get_or l 0 0) span.set ∙ get_or-range start n 0 (omega arith) ∙ omega arith in
    let count : true_count_of bits ≡ n = sym (length-positions 0 bits) ∙ ap length span.set ∙ length-range_with_len start n in
    let same : same_numbers (set_of bits) (range_with_len (rank_of bits 0) (true_count_of bits)) ≡ true = (bytes_eq-Decides (set_of bits) (range_with_len (rank_of bits 0) (true_count_of bits))).1 (span.set ∙ sym (ap₂ range_with_len first count)) in
    let more : ltb 0 (true_count_of bits) ≡ true = lt-ltb 0 (true_count_of bits) (omega (arith, count)) in
    let end_is : start + n ≡ end = omega arith in
    sym (ap₂ (λ a b. cond (a && b) (Some (rank_of bits 0, rank_of bits 0 + true_count_of bits)) None) more same
    ∙ ap₂ (λ a b. Some (a, a + b)) first count ∙ ap (λ e. Some (start, e)) end_is)

no_span : (bits : List Bool) (a b : Bool) → (b ≡ true → ⊥) → (x : ℕ × ℕ) → None ≡ cond (a && b) (Some x) None
no_span bits true true h x = absurd (h refl)
no_span bits true false h x = refl
no_span bits false b h x = refl

-- where some set bits are behind the first run, there is none
pub span_none : (bits : List Bool) (start end : ℕ) → FirstRun bits start end → (end - start ≡ true_count_of bits → ⊥) → None ≡ span_of bits
span_none bits start end run apart =
    let n = end - start in
    let all = true_count_of bits in
    let rest = positions end (drop end bits) in
    let parts = length-append (range_with_len start n) rest in
    let fewer : n < all = elim (cases_eq n all) [
      | inl same ↦ absurd (apart same)
      | inr other ↦ omega (arith, other, parts, length-range_with_len start n, length-positions 0 bits, ap length run.set)
    ] in
    no_span bits (ltb 0 all) (same_numbers (set_of bits) (range_with_len (rank_of bits 0) all))
    (λ e.
    let set = (bytes_eq-Decides (set_of bits) (range_with_len (rank_of bits 0) all)).0 e ∙ ap (λ a. range_with_len a all) (first_rank bits start end run) in
    let some = run.some in
    let at : rank_of bits n ≡ end = ap (λ l. get_or l n 0) set ∙ get_or-range start all n fewer ∙ omega arith in
    let there = (ranks_are_the_set bits end).1 (n, fewer, at) in
    let clear = run.stop (slice_get_within bits end true there) in
    let bit = get_or_of_slice_get bits end there in
    cc)
    (rank_of bits 0, rank_of bits 0 + all)

-- rows that are all selected
pub span_all : (len : ℕ) → 0 < len → IsSpan (replicate len true) 0 len
span_all len h = let n : len ≡ len - 0 = omega arith in record { some = h; set = positions_true 0 len ∙ ap (range_with_len 0) n }
