-- Offsets that cut a list, and a part of them.
use Rattle.std.proofs.Common.{◌≡◌, ℕ, zero, suc, ◌-◌, ◌<◌, ◌≤◌, true, List, [], ◌∷◌, map, length, take, drop, slice_range, refl, ap, arith}
use Rattle.std.specs.Prelude.{ℤ, pos, int_le, ◌==◌, nat_le, ◌&&◌}
use Rattle.std.proofs.lemmas.Bool.Decides.{nat_tests}
use Rattle.std.proofs.lemmas.List.{length-drop, length-take}
use Rattle.vx_offsets.specs.Offsets.{ascend_within, are_offsets, offset_positions}
use Rattle.vx_offsets.specs.Cut.{is_cut}
use Rattle.std.proofs.lemmas.Bool.{and_from, eqb-true}
use Rattle.std.specs.Cmp.{first_so, second_so}
use Rattle.vx_lemmas.proofs.Numbers.{le-int_le}

-- ---- offsets that ascend

int_le-trans : (a b c : ℤ) → int_le a b ≡ true → int_le b c ≡ true → int_le a c ≡ true
int_le-trans a b c h k = grind arith

module _ (n : ℕ) where
  pub ascend-from : (a b : ℤ) (zs : List ℤ) → int_le a b ≡ true → ascend_within b zs n ≡ true → ascend_within a zs n ≡ true
  ascend-from a b [] h k = refl
  ascend-from a b (z ∷ zs) h k =
      let both = first_so (int_le b z && int_le z (pos n)) (ascend_within z zs n) k in
      and_from _ _ (and_from _ _ (int_le-trans a b z h (first_so (int_le b z) _ both)) (second_so (int_le b z) _ both)) (second_so (int_le b z && int_le z (pos n)) _ k)

  pub ascend-drop : (low : ℤ) (zs : List ℤ) (k : ℕ) → ascend_within low zs n ≡ true → ascend_within low (drop k zs) n ≡ true
  ascend-drop low zs zero h = h
  ascend-drop low [] (suc k) h = refl
  ascend-drop low (z ∷ zs) (suc k) h =
      let both = first_so (int_le low z && int_le z (pos n)) (ascend_within z zs n) h in
      ascend-drop low zs k (ascend-from low z zs (first_so (int_le low z) _ both) (second_so (int_le low z && int_le z (pos n)) _ h))

  pub ascend-take : (low : ℤ) (zs : List ℤ) (k : ℕ) → ascend_within low zs n ≡ true → ascend_within low (take k zs) n ≡ true
  ascend-take low zs zero h = refl
  ascend-take low [] (suc k) h = refl
  ascend-take low (z ∷ zs) (suc k) h =
      and_from _ _ (first_so (int_le low z && int_le z (pos n)) _ h) (ascend-take z zs k (second_so (int_le low z && int_le z (pos n)) _ h))

  are-ascending : (zs : List ℤ) → are_offsets zs n ≡ true → ascend_within (pos 0) zs n ≡ true
  are-ascending [] h = cc
  are-ascending (z ∷ zs) h = h

  ascending-are : (zs : List ℤ) → 0 < length zs → ascend_within (pos 0) zs n ≡ true → are_offsets zs n ≡ true
  ascending-are [] h k = absurd (omega arith)
  ascending-are (z ∷ zs) h k = k

  pub are_offsets-slice : (zs : List ℤ) (s e : ℕ) → s < e → e ≤ length zs → are_offsets zs n ≡ true → are_offsets (slice_range zs s e) n ≡ true
  are_offsets-slice zs s e h l k =
      ascending-are (slice_range zs s e) (omega (arith, h, l, length-take (e - s) (drop s zs), length-drop s zs))
      (ascend-take (pos 0) (drop s zs) (e - s) (ascend-drop (pos 0) zs s (are-ascending zs k)))

-- ---- offsets that cut so many items

pub at_most : (a b : ℕ) → nat_le a b ≡ true → a ≤ b
at_most a b h = grind (arith, nat_tests, h)

pub same : (a : ℕ) → (a == a) ≡ true
same a = grind (arith, nat_tests)

pub begins_within : (a n : ℕ) (os : List ℕ) → is_cut (a ∷ os) n ≡ true → a ≤ n
begins_within a n [] h = omega (arith, eqb-true a n h)
begins_within a n (b ∷ os) h =
    let step = at_most a b (first_so (nat_le a b) (is_cut (b ∷ os) n) h) in
    let more = begins_within b n os (second_so (nat_le a b) (is_cut (b ∷ os) n) h) in
    omega (arith, step, more)

-- ---- as the numbers of a column

pub positions_back : (os : List ℕ) → offset_positions (map pos os) ≡ os
positions_back [] = refl
positions_back (a ∷ os) = ap (λ l. a ∷ l) (positions_back os)

ascends : (n low a : ℕ) (os : List ℕ) → low ≤ a → is_cut (a ∷ os) n ≡ true → ascend_within (pos low) (pos a ∷ map pos os) n ≡ true
ascends n low a [] h k =
    and_from _ true (and_from (int_le (pos low) (pos a)) _ (le-int_le low a h) (le-int_le a n (omega (arith, eqb-true a n k)))) refl
ascends n low a (b ∷ os) h k =
    and_from _ _
    (and_from (int_le (pos low) (pos a)) _ (le-int_le low a h) (le-int_le a n (begins_within a n (b ∷ os) k)))
    (ascends n a b os (at_most a b (first_so (nat_le a b) (is_cut (b ∷ os) n) k)) (second_so (nat_le a b) (is_cut (b ∷ os) n) k))

pub cut_are : (os : List ℕ) (n : ℕ) → is_cut os n ≡ true → are_offsets (map pos os) n ≡ true
cut_are [] n h = cc
cut_are (a ∷ os) n h = ascends n 0 a os (omega arith) h
