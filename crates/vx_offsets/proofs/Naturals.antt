-- Numbers that aren't negative, and views that lie within the items.
use Rattle.std.proofs.Common.{◌≡◌, ℕ, ℤ, zero, suc, ◌+◌, ◌<◌, ◌≤◌, true, List, [], ◌∷◌, length, drop, get_or, refl, sym, ap, ◌∙◌, arith}
use Rattle.std.specs.Prelude.{pos, negsuc, nat_le, ◌&&◌}
use Rattle.std.specs.List.{list_all}
use Rattle.std.proofs.lemmas.Int.{ints}
use Rattle.std.proofs.lemmas.List.{at_drop_more, at_drop_all, length-map}
use Rattle.vx_types.specs.PType.{number}
use Rattle.vx_types.specs.declared.ptype.PType.{PType}
use Rattle.vx_positions.specs.Positions.{position_of}
use Rattle.std.specs.Cmp.{first_so, second_so}
use Rattle.vx_offsets.specs.Offsets.{are_natural, are_views, is_natural, offset_positions, record_numbers}
use Rattle.vx_offsets.proofs.Ascending.{length-numbers, record_number}

pub natural_value : (zs : List ℤ) (i : ℕ) → list_all is_natural zs ≡ true → i < length zs → pos (get_or (offset_positions zs) i 0) ≡ get_or zs i (pos 0)
natural_value [] i h l = absurd (omega arith)
natural_value (z ∷ zs) zero h l = natural z (first_so (is_natural z) _ h)
  where
    natural : (z : ℤ) → is_natural z ≡ true → pos (position_of z) ≡ z
    natural (pos k) h = refl
    natural (negsuc k) h = grind (arith, ints)
natural_value (z ∷ zs) (suc i) h l = natural_value zs i (second_so (is_natural z) _ h) (omega arith)

pub natural_more : (p : PType) (rs : List (List ℕ)) (i : ℕ) → i < length rs → list_all is_natural (drop i (record_numbers p rs)) ≡ (is_natural (number p (get_or rs i [])) && list_all is_natural (drop (i + 1) (record_numbers p rs)))
natural_more p rs i h =
    at_drop_more (list_all is_natural) (record_numbers p rs) i (pos 0) (omega (arith, h, length-numbers p rs))
    ∙ ap (λ z. is_natural z && list_all is_natural (drop (i + 1) (record_numbers p rs))) (record_number p rs i [] h)

pub natural_end : (p : PType) (rs : List (List ℕ)) (i : ℕ) → length rs ≤ i → list_all is_natural (drop i (record_numbers p rs)) ≡ true
natural_end p rs i h = at_drop_all (list_all is_natural) (record_numbers p rs) i (omega (arith, h, length-numbers p rs))

pub ruleset naturals = (natural_more, natural_end)

pub positions_long : (p : PType) (rs : List (List ℕ)) → length (offset_positions (record_numbers p rs)) ≡ length rs
positions_long p rs = length-map (record_numbers p rs) position_of ∙ length-numbers p rs

pub views_more : (os ss : List ℕ) (n i : ℕ) → i < length os → i < length ss → are_views (drop i os) (drop i ss) n ≡ (nat_le (get_or os i 0 + get_or ss i 0) n && are_views (drop (i + 1) os) (drop (i + 1) ss) n)
views_more os ss n i h l =
    at_drop_more (λ x. are_views x (drop i ss) n) os i 0 h
    ∙ at_drop_more (λ y. are_views (get_or os i 0 ∷ drop (i + 1) os) y n) ss i 0 l

pub views_end : (os ss : List ℕ) (n i : ℕ) → length os ≤ i → are_views (drop i os) (drop i ss) n ≡ true
views_end os ss n i h = at_drop_all (λ x. are_views x (drop i ss) n) os i h

pub ruleset views = (positions_long, views_more, views_end)

-- number i is a natural
pub natural_at : (p : PType) (rs : List (List ℕ)) (i : ℕ) → are_natural p rs ≡ true → i < length rs → number p (get_or rs i []) ≡ pos (get_or (offset_positions (record_numbers p rs)) i 0)
natural_at p rs i h l =
    sym (record_number p rs i [] l)
    ∙ sym (natural_value (record_numbers p rs) i h (omega (arith, l, length-numbers p rs)))
