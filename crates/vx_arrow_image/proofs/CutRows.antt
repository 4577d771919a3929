-- Rows that are tested one after another, and cuts.
use Rattle.std.proofs.Common.{zero, suc, ◌≡◌, ℕ, ◌+◌, ◌<◌, ◌≤◌, Bool, true, ap, ◌∙◌, refl, inl, inr, arith, leb, ltb}
use Rattle.std.specs.List.{range_with_len, list_all}
use Rattle.std.proofs.lemmas.Bool.{cases_eq, and_parts, and_from, le-leb, leb-true, lt-ltb, ltb-true}
use Rattle.vx_arrow_image.specs.declared.format.Offsets.{Offsets}
use Rattle.vx_arrow_image.specs.Image.{Part, holds_offsets, is_cut, are_cut, limit_of, offset_at}

pub cut_up : (z : Offsets) (p : Part) (n i : ℕ) → is_cut z p n i ≡ true → offset_at z p.offsets i ≤ offset_at z p.offsets (i + 1)
unfolding is_cut
cut_up z p n i h = leb-true _ _ (and_parts _ _ h).0

pub cut_end : (z : Offsets) (p : Part) (n i : ℕ) → is_cut z p n i ≡ true → offset_at z p.offsets (i + 1) ≤ n
unfolding is_cut
cut_end z p n i h = leb-true _ _ (and_parts (ltb (offset_at z p.offsets (i + 1)) (limit_of z)) (leb (offset_at z p.offsets (i + 1)) n) (and_parts (leb (offset_at z p.offsets i) (offset_at z p.offsets (i + 1))) _ h).1).1

pub cut_from : (z : Offsets) (p : Part) (n i : ℕ) → offset_at z p.offsets i ≤ offset_at z p.offsets (i + 1) → offset_at z p.offsets (i + 1) < limit_of z → offset_at z p.offsets (i + 1) ≤ n → is_cut z p n i ≡ true
unfolding is_cut
cut_from z p n i up small low = and_from _ _ (le-leb _ _ up) (and_from _ _ (lt-ltb _ _ small) (le-leb _ _ low))

pub range_all : (f : ℕ → Bool) (a n : ℕ) → ((i : ℕ) → a ≤ i → i < a + n → f i ≡ true) → list_all f (range_with_len a n) ≡ true
range_all f a zero h = refl
range_all f a (suc n) h = and_from _ _ (h a (omega arith) (omega arith)) (range_all f (a + 1) n (λ i p q. h i (omega arith) (omega arith)))

pub range_at : (f : ℕ → Bool) (a n i : ℕ) → list_all f (range_with_len a n) ≡ true → a ≤ i → i < a + n → f i ≡ true
range_at f a zero i h low high = absurd (omega arith)
range_at f a (suc n) i h low high =
    let parts = and_parts _ _ h in
    elim (cases_eq i a) as (λ _. f i ≡ true) [
      | inl e ↦ ap f e ∙ parts.0
      | inr other ↦ range_at f (a + 1) n i parts.1 (omega arith) (omega arith)
    ]

pub are_cut_at : (z : Offsets) (p : Part) (n i : ℕ) → are_cut z p n ≡ true → p.offset ≤ i → i < p.offset + p.len → is_cut z p n i ≡ true
unfolding are_cut
are_cut_at z p n i h low high = range_at (is_cut z p n) p.offset p.len i (and_parts (holds_offsets z p) _ h).1 low high

pub are_cut_from : (z : Offsets) (p : Part) (n : ℕ) → holds_offsets z p ≡ true → ((i : ℕ) → p.offset ≤ i → i < p.offset + p.len → is_cut z p n i ≡ true) → are_cut z p n ≡ true
unfolding are_cut
are_cut_from z p n held h = and_from _ _ held (range_all (is_cut z p n) p.offset p.len h)

pub cut_small : (z : Offsets) (p : Part) (count i : ℕ) → is_cut z p count i ≡ true → offset_at z p.offsets (i + 1) < limit_of z
unfolding is_cut
cut_small z p count i h = ltb-true _ _ (and_parts (ltb (offset_at z p.offsets (i + 1)) (limit_of z)) (leb (offset_at z p.offsets (i + 1)) count) (and_parts (leb (offset_at z p.offsets i) (offset_at z p.offsets (i + 1))) _ h).1).0
