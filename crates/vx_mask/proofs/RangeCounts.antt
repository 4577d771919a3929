-- How many set positions lie below a place, and parts of equal bits.
use Rattle.std.proofs.Common.{◌≡◌, ℕ, ◌-◌, ◌≤◌, ◌<◌, Bool, List, length, take, slice_range, replicate, inl, inr, ap, ◌∙◌, arith, take_all}
use Rattle.std.proofs.lemmas.Bool.{cases_lt}
use Rattle.std.proofs.lemmas.List.{take-replicate, drop-replicate}
use Rattle.vx_bits.specs.BitBuffer.{true_count_of}
use Rattle.vx_mask.specs.Positions.{rank_of}
use Rattle.vx_mask.proofs.PositionLists.{place_of, position_at, ranks_ascend, true_count_before_set, true_count_between}

-- the place of a rank has as many set bits before it
pub count-at-rank : (mask : List Bool) (k : ℕ) → k < true_count_of mask → true_count_of (take (rank_of mask k) mask) ≡ k
count-at-rank mask k h =
    let place = place_of 0 mask k 0 h in
    let i : ℕ = place.0 in
    let j : ℕ = true_count_of (take i mask) in
    let here : rank_of mask k ≡ i = place.1.position ∙ omega arith in
    let again : rank_of mask j ≡ i = position_at 0 mask i 0 place.1.within place.1.set ∙ omega arith in
    let below : j < true_count_of mask = true_count_before_set mask i place.1.within place.1.set in
    let same : j ≡ k = elim (cases_lt j k) [
      | inl less ↦ absurd (omega (arith, here, again, ranks_ascend mask j k less h))
      | inr more ↦ elim (cases_lt k j) [
        | inl less ↦ absurd (omega (arith, here, again, ranks_ascend mask k j less below))
        | inr same ↦ omega arith
      ]
    ] in
    ap (λ n. true_count_of (take n mask)) here ∙ same

pub count_take-all : (mask : List Bool) → true_count_of (take (length mask) mask) ≡ true_count_of mask
count_take-all mask = ap true_count_of (take_all (length mask) mask (omega arith))

-- no more are set below the lower of two positions
pub count_take-ordered : (mask : List Bool) (low high : ℕ) → low ≤ high → true_count_of (take low mask) ≤ true_count_of (take high mask)
count_take-ordered mask low high h = omega (arith, true_count_between mask low high h)

-- what a proof about a range of set positions needs
pub ruleset counts = (count-at-rank, count_take-all)

-- a part of equal bits
pub slice_range-replicate : {X : Type 0} (n : ℕ) (x : X) (s e : ℕ) → s ≤ e → e ≤ n → slice_range (replicate n x) s e ≡ replicate (e - s) x
slice_range-replicate n x s e h k = ap (take (e - s)) (drop-replicate s n x) ∙ take-replicate (e - s) (n - s) x (omega arith)
