-- When a written node has the rows at picks.
use Rattle.std.proofs.Common.{◌≡◌, ℕ, ◌+◌, ◌*◌, ◌^◌, ◌<◌, ◌≤◌, Bool, true, false, cond, List, [], ◌∷◌, length, get_or, Option, Some, None, ap, sym, ◌∙◌, refl, arith}
use Rattle.std.specs.Prelude.{is_some}
use Rattle.std.proofs.lemmas.Bool.{and_from, lt-ltb, le-leb}
use Rattle.std.proofs.lemmas.List.{ext_get_or, get_or-map, length-map}
use Rattle.vx_arrow_image.specs.Rows.{RowValue, null, row_at, picked}
use Rattle.vx_arrow_image.specs.Image.{Part, is_valid, holds_valid, is_placed, value_at, row_of, column_of}
use Rattle.vx_arrow_image.proofs.SoundNodes.{get_column, length_column}
use Rattle.vx_arrow_columns.specs.Picks.{place_of}
use Rattle.vx_arrow_columns.specs.Taken.{AreWithin, ShowsRows}

some_row : (p w : Part) (cs ds : List (List RowValue)) (k i : ℕ) (v : Bool) → is_valid p.valid (p.offset + i) ≡ v → is_valid w.valid k ≡ is_some (place_of p (Some i))
    → ((n : ℕ) → place_of p (Some i) ≡ Some n → value_at w.format w ds k ≡ value_at p.format p cs n) → row_of w ds k ≡ row_of p cs (p.offset + i)
some_row p w cs ds k i true e s h =
    let there : place_of p (Some i) ≡ Some (p.offset + i) = ap (λ b. cond b (Some (p.offset + i)) None) e in
    let shown : is_valid w.valid k ≡ true = s ∙ ap is_some there in
    ap (λ b. cond b (value_at w.format w ds k) null) shown ∙ h (p.offset + i) there ∙ sym (ap (λ b. cond b (value_at p.format p cs (p.offset + i)) null) e)
some_row p w cs ds k i false e s h =
    let there : place_of p (Some i) ≡ None = ap (λ b. cond b (Some (p.offset + i)) None) e in
    let shown : is_valid w.valid k ≡ false = s ∙ ap is_some there in
    ap (λ b. cond b (value_at w.format w ds k) null) shown ∙ sym (ap (λ b. cond b (value_at p.format p cs (p.offset + i)) null) e)

row_same : (p w : Part) (cs ds : List (List RowValue)) (k : ℕ) (o : Option ℕ) → is_valid w.valid k ≡ is_some (place_of p o) → ((i : ℕ) → o ≡ Some i → i < p.len)
    → ((n : ℕ) → place_of p o ≡ Some n → value_at w.format w ds k ≡ value_at p.format p cs n) → row_of w ds k ≡ row_at (column_of p cs) o
row_same p w cs ds k None s low h = ap (λ b. cond b (value_at w.format w ds k) null) s
row_same p w cs ds k (Some i) s low h = some_row p w cs ds k i (is_valid p.valid (p.offset + i)) refl s h ∙ sym (get_column p cs i (low i refl))

-- the rows of a written node are those at the picks where its bits and its values are
pub same_column : (p w : Part) (cs ds : List (List RowValue)) (q : List (Option ℕ)) → w.len ≡ length q → w.offset ≡ 0 → ShowsRows p q w.valid → AreWithin q p.len
    → ((k n : ℕ) → k < length q → place_of p (get_or q k None) ≡ Some n → value_at w.format w ds k ≡ value_at p.format p cs n)
    → column_of w ds ≡ picked q (column_of p cs)
same_column p w cs ds q len zero_offset shows within values =
    let long = length_column w ds ∙ len in
    ext_get_or null (column_of w ds) (picked q (column_of p cs)) (long ∙ sym (length-map q (row_at (column_of p cs)))) (λ k h.
    let below : k < length q = omega arith in
    get_column w ds k (omega arith) ∙ ap (row_of w ds) (omega arith)
    ∙ row_same p w cs ds k (get_or q k None) (shows.shows k below) (λ i e. within.below k i below e) (λ n e. values k n below e)
    ∙ sym (get_or-map (row_at (column_of p cs)) q k None null below))

-- ---- sound nodes

pub holds_bits : (v : List ℕ) (n : ℕ) → n ≤ 8 * length v → holds_valid v n ≡ true
holds_bits [] n h = refl
holds_bits (b ∷ bs) n h = le-leb n (8 * length (b ∷ bs)) h

pub placed : (w : Part) → w.offset ≡ 0 → w.len < 2 ^ 60 → holds_valid w.valid w.len ≡ true → is_placed w ≡ true
unfolding is_placed
placed w zero_offset few valid = and_from _ _ (lt-ltb _ _ (omega arith)) (ap (holds_valid w.valid) (let e : w.offset + w.len ≡ w.len = omega arith in e) ∙ valid)

-- ---- where a place is

pub place_some : (p : Part) (o : Option ℕ) (n : ℕ) → place_of p o ≡ Some n → (i : ℕ) × ((o ≡ Some i) × (n ≡ p.offset + i))
place_some p None n e = absurd (let f : None ≡ Some n = e in cc)
place_some p (Some i) n e = (i, (refl, go (is_valid p.valid (p.offset + i)) refl))
  where
    go : (v : Bool) → is_valid p.valid (p.offset + i) ≡ v → n ≡ p.offset + i
    go true f = let there : Some (p.offset + i) ≡ Some n = sym (ap (λ b. cond b (Some (p.offset + i)) None) f) ∙ e in cc
    go false f = let there : None ≡ Some n = sym (ap (λ b. cond b (Some (p.offset + i)) None) f) ∙ e in absurd cc

pub place_between : (p : Part) (q : List (Option ℕ)) (k n : ℕ) → AreWithin q p.len → k < length q → place_of p (get_or q k None) ≡ Some n → (p.offset ≤ n) × (n < p.offset + p.len)
place_between p q k n w h e =
    let at = place_some p (get_or q k None) n e in
    let low = w.below k at.0 h at.1.0 in
    (omega (arith, at.1.1), omega (arith, at.1.1))

pub placed_by : (p : Part) (n : ℕ) → p.offset + p.len ≡ n → n < 2 ^ 60 → holds_valid p.valid n ≡ true → is_placed p ≡ true
unfolding is_placed
placed_by p n e few valid = and_from _ _ (lt-ltb _ _ (let f : p.offset + p.len < 2 ^ 60 = omega arith in f)) (ap (holds_valid p.valid) e ∙ valid)
