-- Rows at picks.
use Rattle.std.proofs.Common.{◌≡◌, ℕ, ◌<◌, Bool, true, false, List, [], length, get_or, map, Option, Some, None, ap, sym, ◌∙◌, refl, subst, arith}
use Rattle.std.proofs.lemmas.List.{ext_get_or, get_or-map, length-map}
use Rattle.vx_arrow_image.specs.Rows.{RowValue, null, row_at, picked}
use Rattle.vx_arrow_image.specs.Image.{Part, column_of}
use Rattle.vx_arrow_columns.specs.Picks.{tags}
use Rattle.vx_arrow_columns.specs.Taken.{AreAt, AreFull, AreWithin}
use Rattle.vx_arrow_image.proofs.SoundNodes.{length_column}

pub picked_at : (b : Bool) (q : List (Option ℕ)) (rows new : List RowValue) → AreWithin q (length rows) → new ≡ picked q rows → AreAt b q rows new
picked_at b q rows new w e = record {
  len = ap length e ∙ length-map q (row_at rows);
  within = w;
  at = λ k i h at. ap (λ (l : List RowValue). get_or l k null) e ∙ get_or-map (row_at rows) q k None null h ∙ ap (row_at rows) at;
  nulls = λ loose k h at. ap (λ (l : List RowValue). get_or l k null) e ∙ get_or-map (row_at rows) q k None null h ∙ ap (row_at rows) at;
}

pub looser : (b : Bool) (q : List (Option ℕ)) (rows new : List RowValue) → AreAt b q rows new → AreAt true q rows new
looser b q rows new h = record { len = h.len; within = h.within; at = h.at; nulls = λ e. absurd (let f : true ≡ false = e in cc) }

-- picks within a node's rows
pub column_within : (p : Part) (q : List (Option ℕ)) (cs : List (List RowValue)) → AreWithin q p.len → AreWithin q (length (column_of p cs))
column_within p q cs w = subst (AreWithin q) (sym (length_column p cs)) w

pub column_at : (p : Part) (q : List (Option ℕ)) (cs : List (List RowValue)) (new : List RowValue) → AreWithin q p.len → new ≡ picked q (column_of p cs) → AreAt (tags p.format) q (column_of p cs) new
column_at p q cs new w e = picked_at (tags p.format) q (column_of p cs) new (column_within p q cs w) e

row_exact : (b : Bool) (q : List (Option ℕ)) (rows new : List RowValue) (k : ℕ) (o : Option ℕ) → AreAt b q rows new → (b ≡ true → AreFull q) → k < length q → get_or q k None ≡ o → get_or new k null ≡ row_at rows o
row_exact b q rows new k (Some i) a full h e = a.at k i h e
row_exact true q rows new k None a full h e = let f = full refl in absurd (f.full k h e)
row_exact false q rows new k None a full h e = a.nulls refl k h e

-- all are told where no pick is null, or the rows are null where one is
pub exact : (b : Bool) (q : List (Option ℕ)) (rows new : List RowValue) → AreAt b q rows new → (b ≡ true → AreFull q) → new ≡ picked q rows
exact b q rows new a full = ext_get_or null new (picked q rows) (a.len ∙ sym (length-map q (row_at rows))) (λ k h.
    let len = a.len in
    let low : k < length q = omega arith in
    row_exact b q rows new k (get_or q k None) a full low refl ∙ sym (get_or-map (row_at rows) q k None null low))

-- rows at picks of which none is null
pub some_at : (places : List ℕ) (rows new : List RowValue) → AreAt true (map Some places) rows new → new ≡ picked (map Some places) rows
some_at places rows new a = exact true (map Some places) rows new a (λ e. record {
  full = λ k h none.
      let low : k < length places = omega (arith, length-map places Some) in
      let there = get_or-map Some places k 0 None low in
      let f : Some (get_or places k 0) ≡ None = sym there ∙ none in cc;
})

-- each child's rows are at the same picks
pub record AreSameAt (q : List (Option ℕ)) (n : ℕ) (cs ds : List (List RowValue)) : Type 0 where
  pub old_len : length cs ≡ n
  pub new_len : length ds ≡ n
  pub at : (j : ℕ) → j < n → AreAt true q (get_or cs j []) (get_or ds j [])

pub first_at : (q : List (Option ℕ)) (n : ℕ) (cs ds : List (List RowValue)) → n ≡ 1 → AreSameAt q n cs ds → AreAt true q (get_or cs 0 []) (get_or ds 0 [])
first_at q n cs ds one a = a.at 0 (omega arith)
