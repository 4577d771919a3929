-- When a node is sound, and the column that it means.
use Rattle.std.proofs.Common.{◌≡◌, ℕ, ◌+◌, ◌<◌, ◌≤◌, true, cond, List, [], ◌∷◌, length, get_or, take, drop, map, Option, Some, None, ap, sym, ◌∙◌, refl, leb, ltb, eqb}
use Rattle.std.proofs.lemmas.Bool.{and_parts, and_from, eq-eqb, eqb-true, le-leb, leb-true, lt-ltb, ltb-true}
use Rattle.std.proofs.lemmas.List.FromFn.{length-map-range_with_len, get_or-map-range_with_len}
use Rattle.vx_arrow_image.specs.declared.format.Format.{Format}
use Rattle.vx_arrow_image.specs.declared.image.Node as image
use Rattle.vx_arrow_image.specs.Rows.{RowValue, null}
use Rattle.vx_arrow_image.specs.Image.{Part, is_placed, is_sound, fits, row_of, column_of, with_part, holds_ids}

pub length_column : (p : Part) (cs : List (List RowValue)) → length (column_of p cs) ≡ p.len
unfolding column_of
length_column p cs = length-map-range_with_len (row_of p cs) p.offset p.len

pub get_column : (p : Part) (cs : List (List RowValue)) (i : ℕ) → i < p.len → get_or (column_of p cs) i null ≡ row_of p cs (p.offset + i)
unfolding column_of
get_column p cs i h = get_or-map-range_with_len (row_of p cs) p.offset p.len i (p.offset + i) null h refl

pub sound_from : (p : Part) (lens : List ℕ) (f : Option Format) → p.format ≡ f → is_placed p ≡ true → fits f p lens ≡ true → is_sound p lens ≡ true
unfolding is_sound
sound_from p lens f e a b = and_from _ _ a (ap (λ (g : Option Format). fits g p lens) e ∙ b)

pub sound_placed : (p : Part) (lens : List ℕ) → is_sound p lens ≡ true → is_placed p ≡ true
unfolding is_sound
sound_placed p lens h = (and_parts _ _ h).0

pub sound_fits : (p : Part) (lens : List ℕ) (f : Option Format) → p.format ≡ f → is_sound p lens ≡ true → fits f p lens ≡ true
unfolding is_sound
sound_fits p lens f e h = ap (λ (g : Option Format). fits g p lens) (sym e) ∙ (and_parts _ _ h).1

pub with_part_is : (p : Part) (cs : List (List RowValue)) → p.children ≤ length cs → is_sound p (map length (take p.children cs)) ≡ true
    → with_part p cs ≡ Some (column_of p (take p.children cs) ∷ drop p.children cs)
unfolding with_part
with_part_is p cs h s = ap (λ b. cond b (Some (column_of p (take p.children cs) ∷ drop p.children cs)) None) (and_from _ _ (le-leb _ _ h) s)

-- no validity, and an id for each child and each row
pub record HasIds (p : Part) : Type 0 where
  pub bare : length p.valid ≡ 0
  pub some : 0 < p.children
  pub ids : p.children ≤ length p.sizes
  pub values : p.offset + p.len ≤ length p.values

pub has_ids : (p : Part) → holds_ids p ≡ true → HasIds p
has_ids p h =
    let first = and_parts (eqb (length p.valid) 0) _ h in
    let second = and_parts (ltb 0 p.children) _ first.1 in
    let third = and_parts (leb p.children (length p.sizes)) _ second.1 in
    record { bare = eqb-true _ _ first.0; some = ltb-true _ _ second.0; ids = leb-true _ _ third.0; values = leb-true _ _ third.1 }

pub ids_held : (p : Part) → length p.valid ≡ 0 → 0 < p.children → p.children ≤ length p.sizes → p.offset + p.len ≤ length p.values → holds_ids p ≡ true
ids_held p bare some ids values = and_from _ _ (eq-eqb _ _ bare) (and_from _ _ (lt-ltb _ _ some) (and_from _ _ (le-leb _ _ ids) (le-leb _ _ values)))

-- the node that a read past the end would give
abbrev pub zero_node : image.Node
zero_node = record {
  format = 0;
  width = 0;
  len = 0;
  offset = 0;
  children = 0;
  valid = record { ref_ptr = (0, 0); now = [] };
  offsets = record { ref_ptr = (0, 0); now = [] };
  values = record { ref_ptr = (0, 0); now = [] };
  sizes = record { ref_ptr = (0, 0); now = [] };
}
