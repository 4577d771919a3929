-- Bits that go to their ranks: each set bit that is picked stands where the number of picks below
-- it says.
use Rattle.std.proofs.Common.{◌≡◌, ℕ, zero, suc, ◌+◌, ◌-◌, ◌*◌, ◌/◌, ◌%◌, ◌^◌, ◌<◌, ◌≤◌, min, bit_and, bit_or, inl, inr, sym, ap, ap₂, ◌∙◌, zero-add, arith}
use Rattle.std.specs.Int.{bit_at, w64}
use Rattle.std.specs.Int.RustNames.{count_ones}
use Rattle.std.proofs.lemmas.Bool.{cases_eq, cases_lt}
use Rattle.std.proofs.lemmas.Nat.{and_le_r, and_mask, mod-pow-add, mod_below, one_shl, ones_le_self, or_comm, or_shifted, pow_pos}
use Rattle.std.proofs.lemmas.Nat.Bits.{bit_at_above, bit_at_and, bit_at-lt, bit_at_lowest, bit_at-suc, bit_at-trailing_zeros}
use Rattle.std.proofs.Math.Nat.{add-mul-div_right, pow-suc}
use Rattle.std.proofs.Math.Pow.{pow_mono}
use lib.Bits.{and_step, and_self}
use lib.Count.{count_trailing_zeros, under, ones_step, ones-le}
use Rattle.vx_mask.proofs.WordCounts.{ones_more}
use Rattle.vx_bitfilter.specs.Pext.{pext}
use Rattle.vx_bits.proofs.WordLists.{one_less}
use Rattle.vx_bitfilter.proofs.PackedBytes.{pext_below}
use Rattle.vx_bitfilter.proofs.PackedHalves.{fewer_ones, packed_of, packed_odd, packed_even, packed_none, only_picked}

-- a picked bit adds the power of its rank
one_packed : (n p src mask : ℕ) → p < n → bit_at src p ≡ 1 → bit_at mask p ≡ 1 → packed_of n src mask ≡ 2 ^ count_ones (mask % 2 ^ p) + packed_of n (src - 2 ^ p) mask
one_packed zero p src mask h s m = absurd (omega arith)
one_packed (suc n) zero src mask h s m =
    let low = bit_at_lowest src in
    let picked : mask % 2 ≡ 1 = omega (arith, bit_at_lowest mask, m) in
    let one : src % 2 ≡ 1 = omega (arith, low, s) in
    let none : mask % 2 ^ 0 ≡ 0 = omega arith in
    let rank : count_ones (mask % 2 ^ 0) ≡ 0 = ap count_ones none ∙ omega (arith, ones-le 0 0 (omega arith)) in
    let unit : 2 ^ count_ones (mask % 2 ^ 0) ≡ 1 = ap (λ e. 2 ^ e) rank in
    let half : (src - 2 ^ 0) / 2 ≡ src / 2 = omega arith in
    let zero_low : (src - 2 ^ 0) % 2 ≡ 0 = omega arith in
    let less = packed_odd n (src - 2 ^ 0) mask picked ∙ ap₂ (λ u v. u + 2 * packed_of n v (mask / 2)) zero_low half in
    omega (arith, packed_odd n src mask picked, one, unit, less)
one_packed (suc n) (suc p) src mask h s m =
    let smaller = one_packed n p (src / 2) (mask / 2) (omega arith) (sym (bit_at-suc src p) ∙ s) (sym (bit_at-suc mask p) ∙ m) in
    let two = pow-suc 2 p in
    let more : p + 1 ≡ suc p = omega arith in
    let parts = ap (λ e. mask % 2 ^ e) (sym more) ∙ mod-pow-add mask p 1 in
    let low = mask % 2 ^ suc p in
    let low_half : low / 2 ≡ mask / 2 % 2 ^ p = omega (arith, parts) in
    let low_bit : low % 2 ≡ mask % 2 = omega (arith, parts) in
    let rank : count_ones low ≡ mask % 2 + count_ones (mask / 2 % 2 ^ p) = ones_step low ∙ ap₂ (λ u v. u + count_ones v) low_bit low_half in
    let half : (src - 2 ^ suc p) / 2 ≡ src / 2 - 2 ^ p = omega (arith, two) in
    let bit : (src - 2 ^ suc p) % 2 ≡ src % 2 = omega (arith, two, above src (suc p) s) in
    elim (cases_eq (mask % 2) 1) [
      | inl e ↦
          let up : 2 ^ count_ones low ≡ 2 * 2 ^ count_ones (mask / 2 % 2 ^ p) =
          let next : count_ones low ≡ suc (count_ones (mask / 2 % 2 ^ p)) = omega (arith, rank, e) in
          ap (λ k. 2 ^ k) next ∙ omega (arith, pow-suc 2 (count_ones (mask / 2 % 2 ^ p))) in
          let less = packed_odd n (src - 2 ^ suc p) mask e ∙ ap₂ (λ u v. u + 2 * packed_of n v (mask / 2)) bit half in
          omega (arith, packed_odd n src mask e, less, up, smaller)
      | inr e ↦
          let none : mask % 2 ≡ 0 = omega arith in
          let same : count_ones low ≡ count_ones (mask / 2 % 2 ^ p) = omega (arith, rank, none) in
          let up = ap (λ k. 2 ^ k) same in
          let less = packed_even n (src - 2 ^ suc p) mask none ∙ ap (λ v. packed_of n v (mask / 2)) half in
          omega (arith, packed_even n src mask none, less, up, smaller)
    ]
  where
    -- a number with bit p is no less than its power
    above : (x p : ℕ) → bit_at x p ≡ 1 → 2 ^ p ≤ x
    above x p e = elim (cases_lt x (2 ^ p)) [
      | inl less ↦ absurd (omega (arith, e, bit_at_above x p p less (omega arith)))
      | inr more ↦ more
    ]

-- ---- the lowest set bit

-- the word without it, and its power
rest_is : (k x : ℕ) → 0 < x → x < 2 ^ k → bit_and x (x - 1) + 2 ^ count_trailing_zeros k x ≡ x
unfolding count_trailing_zeros
rest_is zero x p h = let no : ⊥ = omega arith in absurd no
rest_is (suc k) x p h = elim (cases_eq (x % 2) 1) [
  | inl e ↦
      let half : (x - 1) / 2 ≡ x / 2 = omega arith in
      let low : min (x % 2) ((x - 1) % 2) ≡ 0 = omega arith in
      let is : bit_and x (x - 1) ≡ x / 2 * 2 + 0 = and_step x (x - 1) ∙ ap₂ (λ (u v : ℕ). u * 2 + v) (ap (bit_and (x / 2)) half ∙ and_self (x / 2)) low in
      let place : 2 ^ under (x % 2) (count_trailing_zeros k (x / 2)) ≡ 1 = ap (λ r. 2 ^ under r (count_trailing_zeros k (x / 2))) e in
      omega (arith, is, place)
  | inr o ↦
      let e : x % 2 ≡ 0 = omega arith in
      let t = count_trailing_zeros k (x / 2) in
      let smaller = rest_is k (x / 2) (omega arith) (omega (arith, pow-suc 2 k)) in
      let half : (x - 1) / 2 ≡ x / 2 - 1 = omega arith in
      let low : min (x % 2) ((x - 1) % 2) ≡ 0 = omega arith in
      let is : bit_and x (x - 1) ≡ bit_and (x / 2) (x / 2 - 1) * 2 + 0 = and_step x (x - 1) ∙ ap₂ (λ (u v : ℕ). u * 2 + v) (ap (bit_and (x / 2)) half) low in
      let place : 2 ^ under (x % 2) t ≡ 2 ^ t * 2 = ap (λ r. 2 ^ under r t) e ∙ pow-suc 2 t in
      omega (arith, is, place, smaller)
]

-- what is packed, and what is left of the bits that are picked
pub record ByRanks (src mask packed left : ℕ) : Type 0 where
  pub value : packed + packed_of 64 left mask ≡ pext src mask
  pub picked : (i : ℕ) → bit_at left i ≡ 1 → bit_at mask i ≡ 1
  pub below : (i : ℕ) → bit_at left i ≡ 1 → packed < 2 ^ count_ones (mask % 2 ^ i)

pub none_by_ranks : (src mask : ℕ) → ByRanks src mask 0 (bit_and src mask)
unfolding pext
none_by_ranks src mask = record {
  value = zero-add _ ∙ only_picked 64 src mask;
  picked = λ i e. omega (arith, bit_at_and src mask i, e, bit_at-lt mask i, bit_at-lt src i);
  below = λ i e. pow_pos (count_ones (mask % 2 ^ i));
}

pub all_by_ranks : (src mask packed left : ℕ) → left ≡ 0 → ByRanks src mask packed left → packed ≡ pext src mask
all_by_ranks src mask packed left none v = omega (arith, v.value, ap (λ x. packed_of 64 x mask) none, packed_none 64 mask)

-- the lowest set bit of what is left, and what is below it
pub record Lowest (left t : ℕ) : Type 0 where
  pub within : t < 64
  pub set : bit_at left t ≡ 1
  pub rest : bit_and left (left - 1) + 2 ^ t ≡ left
  pub behind : (i : ℕ) → bit_at (bit_and left (left - 1)) i ≡ 1 → t < i

pub lowest : (left : ℕ) → 0 < left → left < 2 ^ 64 → Lowest left (count_trailing_zeros 64 left)
lowest left some fits =
    let t = count_trailing_zeros 64 left in
    let rest = bit_and left (left - 1) in
    let low = bit_at-trailing_zeros w64 left some fits in
    let is = rest_is 64 left some fits in
    let power = pow_pos t in
    let up : rest + 1 * 2 ^ t ≡ left = omega (arith, is) in
    let place : left / 2 ^ t ≡ rest / 2 ^ t + 1 = ap (λ x. x / 2 ^ t) (sym up) ∙ add-mul-div_right rest 1 power in
    let odd : left / 2 ^ t % 2 ≡ 1 = low.1 in
    let clear : bit_at rest t ≡ 0 = omega (arith, place, odd) in
    record {
      within = low.0;
      set = low.1;
      rest = is;
      behind = λ i e. elim (cases_lt t i) [
        | inl behind ↦ behind
        | inr before ↦ elim (cases_eq i t) [
          | inl same ↦ absurd (omega (arith, e, ap (bit_at rest) same, clear))
          | inr other ↦ absurd (omega (arith, e, bit_at_and left (left - 1) i, low.2 i (omega arith)))
        ]
      ];
    }

-- the picks below it are its rank
pub rank_below : (mask left : ℕ) → 0 < left → left < 2 ^ 64 → count_ones (bit_and mask (left - 1 - bit_and left (left - 1))) ≡ count_ones (mask % 2 ^ count_trailing_zeros 64 left)
rank_below mask left some fits =
    let t = count_trailing_zeros 64 left in
    let below : left - 1 - bit_and left (left - 1) ≡ 2 ^ t - 1 = omega (arith, (lowest left some fits).rest) in
    ap count_ones (ap (bit_and mask) below ∙ and_mask mask t)

-- it fits
pub rank_fits : (mask left : ℕ) → 0 < left → left < 2 ^ 64 → count_ones (bit_and mask (left - 1 - bit_and left (left - 1))) < 64
rank_fits mask left some fits =
    let t = count_trailing_zeros 64 left in
    omega (arith, rank_below mask left some fits, (lowest left some fits).within, ones-le t (mask % 2 ^ t) (mod_below mask (2 ^ t) (pow_pos t)))

-- fewer picks are below a lower place
ranks_rise : (mask t i : ℕ) → t < i → bit_at mask t ≡ 1 → count_ones (mask % 2 ^ t) + 1 ≤ count_ones (mask % 2 ^ i)
ranks_rise mask t zero h e = absurd (omega arith)
ranks_rise mask t (suc i) h e =
    let last : i + 1 ≡ suc i = omega arith in
    let more = ap (λ k. count_ones (mask % 2 ^ k)) (sym last) ∙ ones_more mask i in
    elim (cases_lt t i) [
      | inl below ↦ omega (arith, more, ranks_rise mask t i below e)
      | inr same ↦
          let is : i ≡ t = omega arith in
          omega (arith, more, ap (λ k. count_ones (mask % 2 ^ k)) is, ap (bit_at mask) is, e)
    ]

-- the lowest set bit went to its rank
pub rank_taken : (src mask packed left : ℕ) → 0 < left → left < 2 ^ 64 → ByRanks src mask packed left → ByRanks src mask (bit_or packed (1 * 2 ^ count_ones (bit_and mask (left - 1 - bit_and left (left - 1))) % 2 ^ 64)) (bit_and left (left - 1))
rank_taken src mask packed left some fits v =
    let t = count_trailing_zeros 64 left in
    let rest = bit_and left (left - 1) in
    let low = lowest left some fits in
    let rank = count_ones (mask % 2 ^ t) in
    let here = count_ones (bit_and mask (left - 1 - rest)) in
    let is : here ≡ rank = rank_below mask left some fits in
    let picked : bit_at mask t ≡ 1 = v.picked t low.set in
    let bit : 1 * 2 ^ here % 2 ^ 64 ≡ 1 * 2 ^ rank = one_shl here 64 (rank_fits mask left some fits) ∙ ap (λ k. 2 ^ k) is ∙ omega arith in
    let after : bit_or packed (1 * 2 ^ here % 2 ^ 64) ≡ 1 * 2 ^ rank + packed = ap (bit_or packed) bit ∙ or_comm packed (1 * 2 ^ rank) ∙ or_shifted 1 rank packed (v.below t low.set) in
    let less : left - 2 ^ t ≡ rest = omega (arith, low.rest) in
    let one = one_packed 64 t left mask low.within low.set picked ∙ ap (λ x. 2 ^ rank + packed_of 64 x mask) less in
    let inside : (i : ℕ) → bit_at rest i ≡ 1 → bit_at left i ≡ 1 = λ i e. omega (arith, bit_at_and left (left - 1) i, e, bit_at-lt left i, bit_at-lt (left - 1) i) in
    record {
      value = omega (arith, after, one, v.value);
      picked = λ i e. v.picked i (inside i e);
      below = λ i e.
          let rise = pow_mono (ranks_rise mask t i (low.behind i e) picked) in
          let next : 2 ^ (rank + 1) ≡ 2 ^ rank * 2 = ap (λ k. 2 ^ k) (add-one rank) ∙ pow-suc 2 rank in
          omega (arith, after, rise, next, v.below t low.set);
    }
  where
    add-one : (n : ℕ) → n + 1 ≡ suc n
    add-one n = omega arith

-- ---- a single pick

-- packs to how many set bits are picked
pub single_pick : (src mask : ℕ) → mask < 2 ^ 64 → count_ones mask ≤ 1 → count_ones (bit_and src mask) ≡ pext src mask
single_pick src mask fits one =
    let left = bit_and src mask in
    let v = none_by_ranks src mask in
    let small : left ≤ mask = and_le_r src mask in
    elim (cases_lt 0 left) [
      | inl some ↦
          let t = count_trailing_zeros 64 left in
          let low = lowest left some (omega arith) in
          let power = pow_pos (count_ones (mask % 2 ^ t)) in
          let above = one_packed 64 t left mask low.within low.set (v.picked t low.set) in
          let below : 2 ^ count_ones mask ≤ 2 ^ 1 = pow_mono one in
          omega (arith, v.value, above, power, pext_below src mask fits, below, one, fewer_ones 64 src mask fits, one_less 64 left some (omega arith))
      | inr more ↦
          let none : left ≡ 0 = omega arith in
          omega (arith, all_by_ranks src mask 0 left none v, none, ones_le_self left)
    ]
