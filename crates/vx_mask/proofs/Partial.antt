-- Masks that select some rows and not all, and what they keep.
use Rattle.std.proofs.Common.{◌≡◌, ℕ, ◌<◌, true, false, ◌&&◌, cond, ltb, List, Option, None, Some, IfSome, length, replicate, unwrap_or, sym, ap, ◌∙◌, subst, inl, inr, arith}
use Rattle.std.proofs.lemmas.Bool.{cases_lt, lt-ltb, and_right}
use Rattle.std.proofs.lemmas.List.Sums.{count_by-le-length}
use Rattle.std.proofs.lemmas.Bool.Decides.{nat_tests}
use Rattle.vx_bits.specs.BitBuffer.{PlacedBits, true_count_of}
use Rattle.vx_mask.specs.declared.mask.Mask.{Mask}
use Rattle.vx_mask.specs.declared.mask.Mask.TheVariants.{AllTrue, AllFalse, Values}
use Rattle.vx_mask.specs.Mask.{IsMadeFrom, if_partial, at_front, mask_bits, mask_by_indices, mask_by_slices, partial_of}
use Rattle.vx_mask.specs.MaskValues.{PartialMask, IsPartial, AreSlicesOf, bits_alone, block_counts, keep_slices}
use Rattle.vx_mask.specs.Positions.{AreMaximalRuns, set_of, run_positions, bits_with, ascending, runs_ascend, maximal_runs}
use Rattle.vx_mask.proofs.PositionLists.{all_are_set}
use Rattle.vx_mask.proofs.AscendingLists.{ascending-run_positions, runs_not_empty}
use Rattle.vx_mask.proofs.BitsWith.{bits_with-made}
use Rattle.vx_mask.proofs.RunLists.{are_maximal_runs, some_run, maximal_runs_cover}
use Rattle.vx_bits.proofs.WordLists.{no_bits}

-- no bit is set
pub none_partial : (mask : PartialMask) → true_count_of mask.bits.bits ≡ 0 → None ≡ if_partial mask
none_partial mask h = ap (λ (n : ℕ). cond (ltb 0 n && ltb n (length mask.bits.bits)) (Some mask) None) (sym h)

not_below : (a b : ℕ) → a ≡ b → ltb a b ≡ false
not_below a b h = grind (arith, nat_tests)

-- all are
pub all_partial : (mask : PartialMask) → true_count_of mask.bits.bits ≡ length mask.bits.bits → None ≡ if_partial mask
all_partial mask h =
    let n = true_count_of mask.bits.bits in
    sym (ap (λ b. cond b (Some mask) None) (and_right (ltb 0 n) (ltb n (length mask.bits.bits)) (not_below n (length mask.bits.bits) h)))

-- ---- masks by positions

pub none_with : (len : ℕ) (set : List ℕ) → ascending 0 len set ≡ true → length set ≡ 0 → replicate len false ≡ bits_with len set
none_with len set h e =
    let made = bits_with-made len set h in
    sym (no_bits (bits_with len set) (made.count ∙ e) ∙ ap (λ n. replicate n false) made.long)

pub all_with : (len : ℕ) (set : List ℕ) → ascending 0 len set ≡ true → length set ≡ len → replicate len true ≡ bits_with len set
all_with len set h e =
    let made = bits_with-made len set h in
    sym (all_are_set (bits_with len set) (made.count ∙ e ∙ sym made.long) ∙ ap (λ n. replicate n true) made.long)

pub partial_by_indices : (len : ℕ) (indices : List ℕ) → ascending 0 len indices ≡ true → 0 < length indices → length indices < len → IsPartial (mask_by_indices len indices) (length indices)
partial_by_indices len indices h p q =
    let made = bits_with-made len indices h in
    record {
      counted = sym made.count;
      some = p;
      not_all = omega (arith, made.long);
      indices_agree = sym made.positions;
      slices_agree = tt;
      blocks_agree = tt;
    }

pub partial_by_slices : (len : ℕ) (slices : List (ℕ × ℕ)) → runs_ascend 0 len slices ≡ true → 0 < length (run_positions slices) → length (run_positions slices) < len → IsPartial (mask_by_slices len slices) (length (run_positions slices))
partial_by_slices len slices h p q =
    let made = bits_with-made len (run_positions slices) (ascending-run_positions 0 len slices h) in
    record {
      counted = sym made.count;
      some = p;
      not_all = omega (arith, made.long);
      indices_agree = tt;
      slices_agree = record {
        some = some_run (bits_with len (run_positions slices)) slices (sym made.positions) (omega (arith, made.count));
        none_empty = runs_not_empty 0 len slices h;
        cover = sym made.positions;
      };
      blocks_agree = tt;
    }

-- ---- what a mask gets beside its bits

slices_of_same : (old new : PartialMask) (slices : Option (List (ℕ × ℕ))) → new.bits ≡ old.bits → IfSome slices (λ s. AreSlicesOf old s) → IfSome slices (λ s. AreSlicesOf new s)
slices_of_same old new None e h = tt
slices_of_same old new (Some s) e h = record { some = h.some; none_empty = h.none_empty; cover = h.cover ∙ ap (λ (p : PlacedBits). set_of p.bits) (sym e) }

-- the same bits with lists that agree with them
pub agreeing : (old new : PartialMask) (count : ℕ) → IsPartial old count → new.bits ≡ old.bits → IfSome new.indices (λ is. is ≡ set_of old.bits.bits) → IfSome new.slices (λ s. AreSlicesOf old s) → IfSome new.blocks (λ bs. bs ≡ block_counts old) → IsPartial new count
agreeing old new count h e i s b = record {
  counted = h.counted ∙ ap (λ (p : PlacedBits). true_count_of p.bits) (sym e);
  some = h.some;
  not_all = subst (λ (p : PlacedBits). count < length p.bits) (sym e) h.not_all;
  indices_agree = subst (λ (p : PlacedBits). IfSome new.indices (λ is. is ≡ set_of p.bits)) (sym e) i;
  slices_agree = slices_of_same old new new.slices e s;
  blocks_agree = subst (λ (p : PlacedBits). IfSome new.blocks (λ bs. bs ≡ block_counts (bits_alone p))) (sym e) b;
}

-- maximal runs agree
pub maximal_agree : (mask : PartialMask) (count : ℕ) → IsPartial mask count → AreSlicesOf mask (maximal_runs mask.bits.bits)
maximal_agree mask count h =
    let bits = mask.bits.bits in
    let runs = maximal_runs_cover bits in
    record {
      some = some_run bits (maximal_runs bits) runs.cover (omega (arith, h.some, h.counted));
      none_empty = runs.none_empty;
      cover = runs.cover;
    }

-- slices are made where there are none
pub new_slices : (mask : PartialMask) → mask.slices ≡ None → IfSome (keep_slices mask).slices (AreMaximalRuns mask.bits.bits)
new_slices mask none =
    let bits = mask.bits.bits in
    subst (λ (slices : Option (List (ℕ × ℕ))). AreMaximalRuns bits (unwrap_or slices (maximal_runs bits))) (sym none) (are_maximal_runs bits)

-- the parts of a mask that keeps the indices that it is made from
pub partial_with_indices : (len count : ℕ) (bits : PlacedBits) (indices kept : List ℕ) → ascending 0 len indices ≡ true → count ≡ length indices → 0 < length indices → length indices < len → bits ≡ at_front (bits_with len indices) → kept ≡ indices → IsPartial (record { bits = bits; indices = Some kept; slices = None; blocks = None }) count
partial_with_indices len count bits indices kept h e some not_all f g =
    let is = partial_by_indices len indices h some not_all in
    let P : PlacedBits → List ℕ → ℕ → Type 0 = λ b l n. IsPartial (record { bits = b; indices = Some l; slices = None; blocks = None }) n in
    subst (λ n. P bits kept n) (sym e) (subst (λ l. P bits l (length indices)) (sym g) (subst (λ b. P b indices (length indices)) (sym f) is))

pub partial_with_slices : (len count : ℕ) (bits : PlacedBits) (slices kept : List (ℕ × ℕ)) → runs_ascend 0 len slices ≡ true → count ≡ length (run_positions slices) → 0 < count → count < len → bits ≡ at_front (bits_with len (run_positions slices)) → kept ≡ slices → IsPartial (record { bits = bits; indices = None; slices = Some kept; blocks = None }) count
partial_with_slices len count bits slices kept h e some not_all f g =
    let is = partial_by_slices len slices h (omega arith) (omega arith) in
    let P : PlacedBits → List (ℕ × ℕ) → ℕ → Type 0 = λ b l n. IsPartial (record { bits = b; indices = None; slices = Some l; blocks = None }) n in
    subst (λ n. P bits kept n) (sym e) (subst (λ l. P bits l (length (run_positions slices))) (sym g) (subst (λ b. P b slices (length (run_positions slices))) (sym f) is))

-- fewer set bits than rows, where they are not as many
pub fewer : (len count : ℕ) (set : List ℕ) → ascending 0 len set ≡ true → count ≡ length set → (count ≡ len → ⊥) → count < len
fewer len count set h e apart =
    let made = bits_with-made len set h in
    let fits = count_by-le-length (λ b. b) (bits_with len set) in
    elim (cases_lt count len) [
      | inl below ↦ below
      | inr above ↦ absurd (apart (omega (arith, made.count, made.long, fits)))
    ]

-- ---- what is said of a mask that is made from positions

made_from : (m : Mask) (len : ℕ) (set : List ℕ) (mask : PartialMask) → ascending 0 len set ≡ true → mask_bits m ≡ bits_with len set → partial_of m ≡ if_partial mask → IsMadeFrom m len set mask
made_from m len set mask h bits kept =
    let made = bits_with-made len set h in
    record { set = ap set_of bits ∙ made.positions; bits = bits; len = ap length bits ∙ made.long; kept = kept }

-- of no positions
pub made_from_none : (len count : ℕ) (set : List ℕ) (mask : PartialMask) → ascending 0 len set ≡ true → mask.bits ≡ at_front (bits_with len set) → count ≡ length set → count ≡ 0 → IsMadeFrom (AllFalse len) len set mask
made_from_none len count set mask h e counted none =
    let made = bits_with-made len set h in
    made_from (AllFalse len) len set mask h (none_with len set h (omega arith)) (none_partial mask (ap (λ (p : PlacedBits). true_count_of p.bits) e ∙ made.count ∙ omega arith))

-- of all
pub made_from_all : (len count : ℕ) (set : List ℕ) (mask : PartialMask) → ascending 0 len set ≡ true → mask.bits ≡ at_front (bits_with len set) → count ≡ length set → count ≡ len → IsMadeFrom (AllTrue len) len set mask
made_from_all len count set mask h e counted all =
    let made = bits_with-made len set h in
    made_from (AllTrue len) len set mask h (all_with len set h (omega arith)) (all_partial mask (ap (λ (p : PlacedBits). true_count_of p.bits) e ∙ made.count ∙ sym counted ∙ all ∙ sym (ap (λ (p : PlacedBits). length p.bits) e ∙ made.long)))

some_partial : (mask : PartialMask) → 0 < true_count_of mask.bits.bits → true_count_of mask.bits.bits < length mask.bits.bits → Some mask ≡ if_partial mask
some_partial mask some not_all =
    let n = true_count_of mask.bits.bits in
    sym (ap (λ b. cond (b && ltb n (length mask.bits.bits)) (Some mask) None) (lt-ltb 0 n some) ∙ ap (λ b. cond b (Some mask) None) (lt-ltb n (length mask.bits.bits) not_all))

-- of some
pub made_from_some : (m mask : PartialMask) (len count : ℕ) (set : List ℕ) → ascending 0 len set ≡ true → mask.bits ≡ at_front (bits_with len set) → count ≡ length set → 0 < count → count < len → m ≡ mask → IsMadeFrom (Values m) len set mask
made_from_some m mask len count set h e counted some not_all is =
    let made = bits_with-made len set h in
    let ones = ap (λ (p : PlacedBits). true_count_of p.bits) e ∙ made.count in
    let long = ap (λ (p : PlacedBits). length p.bits) e ∙ made.long in
    made_from (Values m) len set mask h (ap (λ (m : PartialMask). m.bits.bits) is ∙ ap (λ (p : PlacedBits). p.bits) e) (ap Some is ∙ some_partial mask (omega (arith, ones)) (omega (arith, ones, long)))

-- the indices that a mask keeps
pub kept_set : (mask seen : PartialMask) (count : ℕ) (indices : List ℕ) → IsPartial mask count → mask.indices ≡ Some indices → mask ≡ seen → indices ≡ set_of seen.bits.bits
kept_set mask seen count indices h e same =
    subst (λ (o : Option (List ℕ)). IfSome o (λ is. is ≡ set_of mask.bits.bits)) e h.indices_agree ∙ ap (λ (m : PartialMask). set_of m.bits.bits) same
