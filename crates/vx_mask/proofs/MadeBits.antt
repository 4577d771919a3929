-- Bits that are made from positions and from runs.
use Rattle.std.proofs.Common.{◌≡◌, ◌≢◌, ℕ, ◌+◌, ◌-◌, ◌<◌, ◌≤◌, Bool, true, false, List, [], ◌∷◌, ◌++◌, length, get_or, take, drop, set, replicate, refl, sym, ap, ap₂, ◌∙◌, arith}
use Rattle.std.specs.List.{range_with_len}
use Rattle.std.proofs.lemmas.List.{length-set, length-append, length-replicate, get_or-replicate, get_or-set_same, get_or-set_other, take_all, take_more, take-set}
use Rattle.vx_mask.specs.Positions.{AllBits, set_of, run_positions, ascending, runs_ascend, bits_with}
use Rattle.vx_mask.proofs.PositionLists.{set_of_clear, set_of_set}
use Rattle.vx_mask.proofs.AscendingLists.{next_index, next_run, covered_more}
use Rattle.vx_mask.proofs.BitsWith.{bits_told}
use Rattle.vx_mask.proofs.RunLists.{set_of_passed, set_of_bit}

-- bits of which those at the first k indices are set
pub record IsMadeTo (bits : List Bool) (indices : List ℕ) (len k : ℕ) : Type 0 where
  pub low : ℕ
  pub found : set_of (take low bits) ≡ take k indices
  pub clear : AllBits bits low len false
  pub within : low ≤ len
  pub long : length bits ≡ len
  pub rest : ascending low len (drop k indices) ≡ true

pub none_made : (bits : List Bool) (indices : List ℕ) (len : ℕ) → bits ≡ replicate len false → ascending 0 len indices ≡ true → IsMadeTo bits indices len 0
none_made bits indices len e h = record {
  low = 0;
  found = refl;
  clear = λ k p q. ap (λ l. get_or l k false) e ∙ get_or-replicate len k false false q;
  within = omega arith;
  long = ap length e ∙ length-replicate len false;
  rest = h;
}

-- the next index is within
pub next_made : (bits : List Bool) (indices : List ℕ) (len k : ℕ) → k < length indices → IsMadeTo bits indices len k → get_or indices k 0 < length bits
next_made bits indices len k h made =
    let next = next_index made.low len k indices h made.rest in
    omega (arith, next.within, made.long)

pub one_made : (bits new : List Bool) (indices : List ℕ) (len k : ℕ) → k < length indices → IsMadeTo bits indices len k → new ≡ set bits (get_or indices k 0) true → IsMadeTo new indices len (k + 1)
one_made bits new indices len k h made e =
    let next = next_index made.low len k indices h made.rest in
    let i = get_or indices k 0 in
    let from = next.from in
    let within = next.within in
    let bits_long = made.long in
    let in_bits : i < length bits = omega arith in
    let long : length new ≡ len = ap length e ∙ length-set bits i true ∙ made.long in
    let in_new : i < length new = omega arith in
    let here : get_or new i false ≡ true = ap (λ l. get_or l i false) e ∙ get_or-set_same bits i true false in_bits in
    let before : take i new ≡ take i bits = ap (take i) e ∙ take-set bits i true in
    let passed = set_of_passed bits made.low i from (omega arith) (λ j p q. made.clear j p (omega arith)) in
    record {
      low = i + 1;
      found = set_of_bit new i in_new here ∙ ap (λ l. l ++ i ∷ []) (ap set_of before ∙ passed ∙ made.found) ∙ sym (take_more indices k 0 h);
      clear = λ j p q. let other : j ≢ i = omega arith in ap (λ l. get_or l j false) e ∙ get_or-set_other bits i j true false other ∙ made.clear j (omega arith) q;
      within = omega arith;
      long = long;
      rest = next.then;
    }

pub all_made : (bits : List Bool) (indices : List ℕ) (len k : ℕ) → length indices ≤ k → IsMadeTo bits indices len k → bits ≡ bits_with len indices
all_made bits indices len k h made =
    let bits_long = made.long in
    let all = set_of_passed bits made.low len made.within (omega arith) made.clear in
    bits_told bits len indices made.long (ap set_of (sym (take_all len bits (omega arith))) ∙ all ∙ made.found ∙ take_all k indices h)

-- bits up to the end of the first k runs
pub record AreMadeTo (bits : List Bool) (runs : List (ℕ × ℕ)) (len k at : ℕ) : Type 0 where
  pub found : set_of bits ≡ run_positions (take k runs)
  pub long : length bits ≡ at
  pub within : at ≤ len
  pub rest : runs_ascend at len (drop k runs) ≡ true

pub run_made : (bits first both : List Bool) (runs : List (ℕ × ℕ)) (len k at : ℕ) → k < length runs → AreMadeTo bits runs len k at → first ≡ bits ++ replicate ((get_or runs k (0, 0)).0 - at) false → both ≡ first ++ replicate ((get_or runs k (0, 0)).1 - (get_or runs k (0, 0)).0) true → AreMadeTo both runs len (k + 1) (get_or runs k (0, 0)).1
run_made bits first both runs len k at h made e f =
    let run = get_or runs k (0, 0) in
    let next = next_run at len k runs (0, 0) h made.rest in
    let from = next.from in
    let some = next.some in
    let bits_long = made.long in
    let n = run.1 - run.0 in
    let first_long : length first ≡ run.0 = ap length e ∙ length-append bits (replicate (run.0 - at) false) ∙ omega (arith, length-replicate (run.0 - at) false) in
    record {
      found = ap set_of f ∙ set_of_set first n ∙ ap₂ (λ l a. l ++ range_with_len a n) (ap set_of e ∙ set_of_clear bits (run.0 - at) ∙ made.found) first_long ∙ sym (covered_more runs k (0, 0) h);
      long = ap length f ∙ length-append first (replicate n true) ∙ omega (arith, length-replicate n true, first_long);
      within = next.within;
      rest = next.then;
    }

pub runs_made : (bits all : List Bool) (runs : List (ℕ × ℕ)) (len k at : ℕ) → length runs ≤ k → AreMadeTo bits runs len k at → all ≡ bits ++ replicate (len - at) false → all ≡ bits_with len (run_positions runs)
runs_made bits all runs len k at h made e =
    let bits_long = made.long in
    let within = made.within in
    bits_told all len (run_positions runs) (ap length e ∙ length-append bits (replicate (len - at) false) ∙ omega (arith, length-replicate (len - at) false))
    (ap set_of e ∙ set_of_clear bits (len - at) ∙ made.found ∙ ap run_positions (take_all k runs h))
