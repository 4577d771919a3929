-- Numbers that ascend, one after another.
use Rattle.std.proofs.Common.{◌≡◌, ℕ, zero, suc, ◌+◌, ◌<◌, ◌≤◌, Bool, true, false, List, [], ◌∷◌, length, get_or, drop, refl, sym, ap, ◌∙◌, subst, arith, add-one, drop-cons}
use Rattle.std.proofs.lemmas.Int.{ints}
use Rattle.std.specs.Prelude.{ℤ, pos, negsuc, int_le, ◌&&◌}
use Rattle.std.proofs.lemmas.List.{drop_all, get_or-map, length-map}
use Rattle.vx_types.specs.PType.{number}
use Rattle.vx_types.specs.declared.ptype.PType.{PType}
use Rattle.vx_positions.specs.Positions.{position_of, is_position}
use Rattle.std.proofs.lemmas.Bool.Decides.{nat_tests}
use Rattle.std.specs.Cmp.{first_so, second_so}
use Rattle.vx_lemmas.proofs.Numbers.{int_le-true}
use Rattle.vx_offsets.specs.Offsets.{ascend_within, are_offsets, offset_positions, record_numbers}

module _ (n : ℕ) where
  -- what is read is the first of what is left
  pub ascend_within-at : (low : ℤ) (zs : List ℤ) (i : ℕ) (z : ℤ) → i < length zs → z ≡ get_or zs i (pos 0) → ascend_within low (drop i zs) n ≡ ((int_le low z && int_le z (pos n)) && ascend_within z (drop (i + 1) zs) n)
  ascend_within-at low zs i z h is =
      let cut : drop i zs ≡ get_or zs i (pos 0) ∷ drop (i + 1) zs = rw add-one (drop-cons zs i (pos 0) h) in
      ap (λ l. ascend_within low l n) cut ∙ ap (λ x. (int_le low x && int_le x (pos n)) && ascend_within x (drop (i + 1) zs) n) (sym is)

  pub ascend_within-end : (low : ℤ) (zs : List ℤ) (i : ℕ) → length zs ≤ i → ascend_within low (drop i zs) n ≡ true
  ascend_within-end low zs i h = ap (λ l. ascend_within low l n) (drop_all i zs h)

pub length-numbers : (p : PType) (records : List (List ℕ)) → length (record_numbers p records) ≡ length records
length-numbers p records = length-map records (number p)

pub record_number : (p : PType) (records : List (List ℕ)) (i : ℕ) (d : List ℕ) → i < length records → get_or (record_numbers p records) i (pos 0) ≡ number p (get_or records i d)
record_number p records i d h = get_or-map (number p) records i d (pos 0) h

pub are_offsets-some : (n : ℕ) (zs : List ℤ) → 0 < length zs → are_offsets zs n ≡ ascend_within (pos 0) zs n
are_offsets-some n [] h = absurd (omega arith)
are_offsets-some n (z ∷ zs) h = refl

pub neither : (a b : Bool) → a ≡ false → false ≡ (a && b)
neither true b h = cc
neither false b h = refl

-- ---- numbers that are offsets

-- a number that is none below a natural is one
natural : (a : ℕ) (z : ℤ) → int_le (pos a) z ≡ true → pos (position_of z) ≡ z
natural a (pos k) h = refl
natural a (negsuc k) h = grind (arith, ints)

-- number i is a natural, not below `low` and not past n
pub record IsOffset (zs : List ℤ) (low n i : ℕ) : Type 0 where
  pub value : pos (get_or (offset_positions zs) i 0) ≡ get_or zs i (pos 0)
  pub least : low ≤ get_or (offset_positions zs) i 0
  pub within : get_or (offset_positions zs) i 0 ≤ n

module _ (n : ℕ) where
  -- what the first number is, and that the others ascend from it
  record IsFirst (low : ℕ) (z : ℤ) (zs : List ℤ) : Type 0 where
    value : pos (position_of z) ≡ z
    least : low ≤ position_of z
    within : position_of z ≤ n
    rest : ascend_within (pos (position_of z)) zs n ≡ true

  first_is : (low : ℕ) (z : ℤ) (zs : List ℤ) → ascend_within (pos low) (z ∷ zs) n ≡ true → IsFirst low z zs
  first_is low z zs h =
      let test = first_so (int_le (pos low) z && int_le z (pos n)) (ascend_within z zs n) h in
      let is : pos (position_of z) ≡ z = natural low z (first_so _ _ test) in
      record {
        value = is;
        least = int_le-true low (position_of z) (ap (int_le (pos low)) is ∙ first_so _ _ test);
        within = int_le-true (position_of z) n (ap (λ y. int_le y (pos n)) is ∙ second_so _ _ test);
        rest = ap (λ y. ascend_within y zs n) is ∙ second_so (int_le (pos low) z && int_le z (pos n)) (ascend_within z zs n) h;
      }

  offset_from : (low : ℕ) (zs : List ℤ) (i : ℕ) → ascend_within (pos low) zs n ≡ true → i < length zs → IsOffset zs low n i
  offset_from low [] i h l = absurd (omega arith)
  offset_from low (z ∷ zs) zero h l =
      let first = first_is low z zs h in record { value = first.value; least = first.least; within = first.within }
  offset_from low (z ∷ zs) (suc i) h l =
      let first = first_is low z zs h in
      let next = offset_from (position_of z) zs i first.rest (omega arith) in
      record { value = next.value; least = omega (arith, first.least, next.least); within = next.within }

  ascends_from : (low : ℕ) (zs : List ℤ) (i : ℕ) → ascend_within (pos low) zs n ≡ true → suc i < length zs → get_or (offset_positions zs) i 0 ≤ get_or (offset_positions zs) (suc i) 0
  ascends_from low [] i h l = absurd (omega arith)
  ascends_from low (z ∷ zs) zero h l =
      let first = first_is low z zs h in (offset_from (position_of z) zs zero first.rest (omega arith)).least
  ascends_from low (z ∷ zs) (suc i) h l =
      let first = first_is low z zs h in ascends_from (position_of z) zs i first.rest (omega arith)

  ascend_are : (zs : List ℤ) → are_offsets zs n ≡ true → ascend_within (pos 0) zs n ≡ true
  ascend_are [] h = refl
  ascend_are (z ∷ zs) h = h

  -- each is a position of the items, or their end
  pub offset_value : (zs : List ℤ) (i : ℕ) → are_offsets zs n ≡ true → i < length zs → pos (get_or (offset_positions zs) i 0) ≡ get_or zs i (pos 0)
  offset_value zs i h l = (offset_from 0 zs i (ascend_are zs h) l).value

  pub offset_within : (zs : List ℤ) (i : ℕ) → are_offsets zs n ≡ true → i < length zs → get_or (offset_positions zs) i 0 ≤ n
  offset_within zs i h l = (offset_from 0 zs i (ascend_are zs h) l).within

  -- none is below the one before
  pub offset_ascends : (zs : List ℤ) (i : ℕ) → are_offsets zs n ≡ true → i + 1 < length zs → get_or (offset_positions zs) i 0 ≤ get_or (offset_positions zs) (i + 1) 0
  offset_ascends zs i h l =
      let next : suc i ≡ i + 1 = omega arith in
      let up = ascends_from 0 zs i (ascend_are zs h) (omega (arith, l)) in
      subst (λ k. get_or (offset_positions zs) i 0 ≤ get_or (offset_positions zs) k 0) next up

-- a natural below n is a position
pub is_position-pos : (n j : ℕ) → j < n → is_position n (pos j) ≡ true
is_position-pos n j h = grind (arith, nat_tests)
