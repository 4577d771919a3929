-- One row of a dense union more, written.
use Rattle.std.specs.Prelude.{replicate}
use Rattle.std.proofs.Common.{zero, suc, ◌≡◌, ℕ, ◌+◌, ◌<◌, ◌≤◌, Bool, true, false, cond, List, [], ◌∷◌, ◌++◌, length, get_or, set, take, Option, None, ap, sym, ◌∙◌, refl, inl, inr, arith, eqb, get_or-set_same, get_or-set_other, length-append}
use Rattle.std.proofs.lemmas.Bool.{cases_eq, eqb-true, ne_eqb}
use Rattle.std.proofs.lemmas.List.{length-set, length-take-le}
use Rattle.vx_arrow_image.specs.declared.format.Offsets.TheVariants.{Short}
use Rattle.vx_arrow_image.specs.Image.{Part, child_of, has_child, holds_ids, ids_of, offset_at}
use Rattle.vx_arrow_image.proofs.SoundNodes.{has_ids}
use Rattle.vx_arrow_columns.specs.Picks.{dense_child, dense_item, dense_rows, place_of}
use Rattle.vx_arrow_columns.specs.Taken.{AllAt, AreDense, id_at}
use Rattle.vx_arrow_columns.specs.Written.{PutsOffset}
use Rattle.vx_arrow_columns.proofs.DenseRows.{child_known, id_child, row_other, row_own, rows_few, rows_more, rows_none}
use Rattle.vx_arrow_columns.proofs.UnionRows.{bare_place}

-- ids of the same child are the same
same_id : (ids : List ℕ) (a b : ℕ) → child_of ids a < length ids → child_of ids a ≡ child_of ids b → a ≡ b
same_id [] a b h e = absurd (omega arith)
same_id (x ∷ ids) a b h e = go (eqb x a) (eqb x b) refl refl (same_id ids a b)
  where
    go : (s t : Bool) → eqb x a ≡ s → eqb x b ≡ t → (child_of ids a < length ids → child_of ids a ≡ child_of ids b → a ≡ b) → a ≡ b
    go true true f g rest = sym (eqb-true _ _ f) ∙ eqb-true _ _ g
    go true false f g rest =
        let one : child_of (x ∷ ids) a ≡ 0 = ap (λ (c : Bool). cond c 0 (child_of ids a + 1)) f in
        let two : child_of (x ∷ ids) b ≡ child_of ids b + 1 = ap (λ (c : Bool). cond c 0 (child_of ids b + 1)) g in
        absurd (omega arith)
    go false true f g rest =
        let one : child_of (x ∷ ids) a ≡ child_of ids a + 1 = ap (λ (c : Bool). cond c 0 (child_of ids a + 1)) f in
        let two : child_of (x ∷ ids) b ≡ 0 = ap (λ (c : Bool). cond c 0 (child_of ids b + 1)) g in
        absurd (omega arith)
    go false false f g rest =
        let one : child_of (x ∷ ids) a ≡ child_of ids a + 1 = ap (λ (c : Bool). cond c 0 (child_of ids a + 1)) f in
        let two : child_of (x ∷ ids) b ≡ child_of ids b + 1 = ap (λ (c : Bool). cond c 0 (child_of ids b + 1)) g in
        let long : length (x ∷ ids) ≡ length ids + 1 = omega arith in
        rest (omega arith) (omega arith)

-- how many of the first k rows stand in the child of each id, and where each row stands
pub record StartsTo (p : Part) (q : List (Option ℕ)) (k : ℕ) (counts out : List ℕ) : Type 0 where
  pub size : length counts ≡ 256
  pub counts_are : (id : ℕ) → id < 256 → child_of (ids_of p) id < length (ids_of p) → get_or counts id 0 ≡ length (dense_rows p (take k q) (child_of (ids_of p) id))
  pub dense : AreDense p q k out

pub zeros : (n i : ℕ) → get_or {A = ℕ} (replicate n 0) i 0 ≡ 0
zeros zero i = refl
zeros (suc n) zero = refl
zeros (suc n) (suc i) = zeros n i

pub no_starts : (p : Part) (q : List (Option ℕ)) (counts out : List ℕ) → length counts ≡ 256 → ((id : ℕ) → id < 256 → get_or counts id 0 ≡ 0) → StartsTo p q 0 counts out
no_starts p q counts out size none = record {
  size = size;
  counts_are = λ id h low. none id h ∙ sym (ap length (rows_none p q (child_of (ids_of p) id)));
  dense = record { starts = λ k h. absurd (omega arith) };
}

-- the id of a pick is that of a child
pub id_known : (p : Part) (q : List (Option ℕ)) (k : ℕ) → holds_ids p ≡ true → AllAt p q (has_child p) → k < length q → child_of (ids_of p) (id_at p (get_or q k None)) < length (ids_of p)
id_known p q k held all h =
    let has = has_ids p held in
    let low = child_known p q k (get_or q k None) has.some has.ids (λ i e. all.all k (p.offset + i) h (ap (place_of p) e ∙ bare_place p i has.bare)) in
    omega (arith, id_child p (get_or q k None) has.some has.ids, length-take-le p.children p.sizes has.ids)

-- so many rows of its child stand before it
pub start_is : (p : Part) (q : List (Option ℕ)) (k id : ℕ) (counts out : List ℕ) → holds_ids p ≡ true → AllAt p q (has_child p) → k < length q → id < 256 → id ≡ id_at p (get_or q k None) → StartsTo p q k counts out
    → get_or counts id 0 ≡ length (dense_rows p (take k q) (dense_child p (get_or q k None)))
start_is p q k id counts out held all h low is s =
    let has = has_ids p held in
    let known : child_of (ids_of p) id < length (ids_of p) = omega (arith, id_known p q k held all h, ap (child_of (ids_of p)) is) in
    s.counts_are id low known ∙ ap (λ (j : ℕ). length (dense_rows p (take k q) j)) (ap (child_of (ids_of p)) is ∙ id_child p (get_or q k None) has.some has.ids)

pub start_few : (p : Part) (q : List (Option ℕ)) (k n j : ℕ) → k < length q → n ≡ length (dense_rows p (take k q) j) → n ≤ k
start_few p q k n j h e = omega (arith, rows_few p (take k q) j, length-take-le k q (let g : k ≤ length q = omega arith in g))

pub next_start : (p : Part) (q : List (Option ℕ)) (k id : ℕ) (counts new out put : List ℕ) → holds_ids p ≡ true → AllAt p q (has_child p) → k < length q → id < 256 → id ≡ id_at p (get_or q k None) → new ≡ set counts id (get_or counts id 0 + 1) → PutsOffset Short out put k (get_or counts id 0)
    → StartsTo p q k counts out → StartsTo p q (k + 1) new put
next_start p q k id counts new out put held all h low is e w s =
    let has = has_ids p held in
    let o = get_or q k None in
    let own : child_of (ids_of p) id ≡ dense_child p o = ap (child_of (ids_of p)) is ∙ id_child p o has.some has.ids in
    let known : child_of (ids_of p) id < length (ids_of p) = omega (arith, id_known p q k held all h, ap (child_of (ids_of p)) is) in
    record {
      size = ap length e ∙ length-set counts id (get_or counts id 0 + 1) ∙ s.size;
      counts_are = λ n small there.
          let j = child_of (ids_of p) n in
          ap (λ (l : List ℕ). get_or l n 0) e ∙ elim (cases_eq n id) as (λ _. get_or (set counts id (get_or counts id 0 + 1)) n 0 ≡ length (dense_rows p (take (k + 1) q) j)) [
            | inl same ↦
                ap (λ (m : ℕ). get_or (set counts id (get_or counts id 0 + 1)) m 0) same
                ∙ get_or-set_same counts id (get_or counts id 0 + 1) 0 (omega (arith, s.size))
                ∙ ap (λ (m : ℕ). m + 1) (s.counts_are id low known)
                ∙ sym (ap length (rows_more p q j k h ∙ ap (λ l. dense_rows p (take k q) j ++ l) (row_own p j o (sym own ∙ ap (child_of (ids_of p)) (sym same))))
                ∙ length-append (dense_rows p (take k q) j) (dense_item p o ∷ []) ∙ ap (λ (m : ℕ). length (dense_rows p (take k q) (child_of (ids_of p) m)) + 1) same)
            | inr other ↦
                get_or-set_other counts id n (get_or counts id 0 + 1) 0 other
                ∙ s.counts_are n small there
                ∙ sym (ap length (rows_more p q j k h ∙ ap (λ l. dense_rows p (take k q) j ++ l) (row_other p j o (ne_eqb _ _ (λ f. other (same_id (ids_of p) n id there (sym f ∙ sym own))))))
                ∙ length-append (dense_rows p (take k q) j) [] ∙ (let z : length (dense_rows p (take k q) j) + 0 ≡ length (dense_rows p (take k q) j) = omega arith in z))
          ];
      dense = record {
        starts = λ m below. elim (cases_eq m k) as (λ _. offset_at Short put m ≡ length (dense_rows p (take m q) (dense_child p (get_or q m None)))) [
          | inl same ↦ ap (offset_at Short put) same ∙ w.put ∙ start_is p q k id counts out held all h low is s ∙ ap (λ (n : ℕ). length (dense_rows p (take n q) (dense_child p (get_or q n None)))) (sym same)
          | inr other ↦ w.before m (omega arith) ∙ s.dense.starts m (omega arith)
        ];
      };
    }
