-- The places of the rows of one child of a dense union.
use Rattle.std.proofs.Common.{zero, suc, ◌≡◌, ℕ, ◌+◌, ◌-◌, ◌^◌, ◌<◌, ◌≤◌, Bool, true, false, List, [], ◌∷◌, ◌++◌, cond, length, get_or, take, Option, Some, None, ap, sym, ◌∙◌, refl, subst, inl, inr, arith, eqb, ltb, length-append}
use Rattle.std.specs.Prelude.{◌||◌, is_some, unwrap_or}
use Rattle.std.specs.List.{list_any}
use Rattle.std.specs.Option.{option_map}
use Rattle.std.proofs.lemmas.Bool.{and_parts, cases_lt, eqb-true, ltb-true, ne_eqb}
use Rattle.std.proofs.lemmas.List.{append-nil, ext_get_or, length-take-le, get_or_append_left, get_or-append_right, get_or_past, get_or-take, take_all}
use Rattle.vx_arrow_image.specs.declared.format.Format.{Format}
use Rattle.vx_arrow_image.specs.declared.format.Format.TheVariants.{DenseUnion}
use Rattle.vx_arrow_image.specs.Image.{Part, bit_of, child_of, dense_start, has_child, ids_of, is_dense, is_valid}
use Rattle.vx_arrow_image.proofs.DenseTests.{dense_is}
use Rattle.vx_arrow_columns.specs.declared.needs.Items.{Items}
use Rattle.vx_arrow_columns.specs.Measured.{AreDenseItems, ArePlaced, AreShownOf, IsDenseItem, IsEndAfter, list_places, list_valid}
use Rattle.vx_arrow_columns.specs.Picks.{Picking, dense_child, dense_item, dense_rows, has_bits, pick_at, picking_of, picks_of, place_of, splits}
use Rattle.vx_arrow_columns.specs.Taken.{AllAt, AreWithin, id_at}
use Rattle.vx_arrow_columns.proofs.DenseRows.{id_child, own_at, row_other, row_own, rows_few, rows_more, rows_none}
use Rattle.vx_arrow_columns.proofs.UnionRows.{bare_place}
use Rattle.vx_arrow_columns.specs.Written.{PutsBit}
use Rattle.vx_arrow_columns.proofs.FixedLists.{item_pick, one_bit}
use Rattle.vx_arrow_columns.proofs.PickReads.{get_picks, length_picks}

pub end_some : (end start after : ℕ) → end ≤ after → start + 1 ≤ after → ((n : ℕ) → end ≤ n → start + 1 ≤ n → after ≤ n) → IsEndAfter end (Some start) after
end_some end start after up over least = record {
  none = λ e. absurd (let f : Some start ≡ None = e in cc);
  up = up;
  above = λ x e. let same : start ≡ x = (let f : Some start ≡ Some x = e in cc) in omega (arith, over, same);
  least = λ n low all. least n low (omega (arith, all start refl));
}

pub end_none : (end : ℕ) → IsEndAfter end None end
end_none end = record { none = λ e. refl; up = omega arith; above = λ x e. absurd (let f : None ≡ Some x = e in cc); least = λ n low all. low }

-- where the row of a pick stands in its child
pub item_some : (p : Part) (o : Option ℕ) (i start : ℕ) → Some i ≡ option_map (λ n. p.offset + n) o → start ≡ dense_start p i → Some start ≡ dense_item p o
item_some p None i start e f = absurd (let g : Some i ≡ None = e in cc)
item_some p (Some n) i start e f = let same : i ≡ p.offset + n = (let g : Some i ≡ Some (p.offset + n) = e in cc) in ap Some (f ∙ ap (dense_start p) same)

pub item_none : (p : Part) (o : Option ℕ) → None ≡ option_map (λ n. p.offset + n) o → None ≡ dense_item p o
item_none p None e = refl
item_none p (Some n) e = absurd (let g : None ≡ Some (p.offset + n) = e in cc)

-- the id of child j that no child before it has
found_at : (ids : List ℕ) (x : ℕ) → child_of ids x < length ids → get_or ids (child_of ids x) 0 ≡ x
found_at [] x h = absurd (omega arith)
found_at (y ∷ ids) x h = go (eqb y x) refl (found_at ids x)
  where
    go : (b : Bool) → eqb y x ≡ b → (child_of ids x < length ids → get_or ids (child_of ids x) 0 ≡ x) → get_or (y ∷ ids) (child_of (y ∷ ids) x) 0 ≡ x
    go true e rest = ap (λ (c : Bool). get_or (y ∷ ids) (cond c 0 (child_of ids x + 1)) 0) e ∙ eqb-true _ _ e
    go false e rest =
        let next : child_of (y ∷ ids) x ≡ child_of ids x + 1 = ap (λ (c : Bool). cond c 0 (child_of ids x + 1)) e in
        let step : child_of ids x + 1 ≡ suc (child_of ids x) = omega arith in
        ap (λ (k : ℕ). get_or (y ∷ ids) k 0) (next ∙ step) ∙ rest (omega arith)

pub is_in_child : (p : Part) (o : Option ℕ) (id j : ℕ) → 0 < p.children → p.children ≤ length p.sizes → id ≡ id_at p o → eqb (child_of (ids_of p) id) j ≡ eqb (dense_child p o) j
is_in_child p o id j some ids e = ap (λ n. eqb n j) (ap (child_of (ids_of p)) e ∙ id_child p o some ids)

pub not_in_child : (p : Part) (o : Option ℕ) (id j : ℕ) → 0 < p.children → p.children ≤ length p.sizes → id ≡ id_at p o → j < p.children → (id ≡ get_or p.sizes j 0 → ⊥) → false ≡ eqb (dense_child p o) j
not_in_child p o id j some ids e low other =
    sym (ne_eqb _ _ (λ f.
    let here : child_of (ids_of p) id ≡ j = ap (child_of (ids_of p)) e ∙ id_child p o some ids ∙ f in
    other (sym (sym (get_or-take p.children p.sizes j 0 low) ∙ ap (λ (k : ℕ). get_or (ids_of p) k 0) (sym here) ∙ found_at (ids_of p) id (omega (arith, here, length-take-le p.children p.sizes ids))))))

pub no_places_yet : (l : List (Option ℕ)) (places : List ℕ) (end : ℕ) → l ≡ [] → places ≡ [] → end ≡ 0 → ArePlaced l places end
no_places_yet l places end e f g = record {
  len = ap length f ∙ sym (ap length e);
  are = λ m x h at. absurd (omega (arith, ap length e));
  within = record { below = λ m x h at. absurd (omega (arith, ap length e)) };
  reached = λ n w. omega arith;
}

last_of : (l : List (Option ℕ)) (o : Option ℕ) → get_or (l ++ o ∷ []) (length l) None ≡ o
last_of l o = get_or-append_right l (o ∷ []) (length l) (length l) None refl (omega arith) ∙ ap (λ n. get_or (o ∷ []) n None) (let z : length l - length l ≡ 0 = omega arith in z)

pub one_place : (l new : List (Option ℕ)) (o : Option ℕ) (places put : List ℕ) (end after : ℕ) → new ≡ l ++ o ∷ [] → put ≡ places ++ unwrap_or o 0 ∷ [] → IsEndAfter end o after → ArePlaced l places end → ArePlaced new put after
one_place l new o places put end after e f g a =
    let size : length new ≡ length l + 1 = ap length e ∙ length-append l (o ∷ []) in
    let at : (m x : ℕ) → m < length new → get_or new m None ≡ Some x → (m < length l → get_or l m None ≡ Some x) × (length l ≤ m → o ≡ Some x) = λ m x h s. (
      λ low. sym (get_or_append_left l (o ∷ []) None m low) ∙ sym (ap (λ k. get_or k m None) e) ∙ s,
      λ high. let here : m ≡ length l = omega arith in sym (last_of l o) ∙ sym (ap (λ k. get_or (l ++ o ∷ []) k None) here) ∙ sym (ap (λ k. get_or k m None) e) ∙ s,
    ) in
    record {
      len = ap length f ∙ length-append places (unwrap_or o 0 ∷ []) ∙ ap (λ n. n + 1) a.len ∙ sym size;
      are = λ m x h s. elim (cases_lt m (length l)) as (λ _. get_or put m 0 ≡ x) [
        | inl low ↦ ap (λ k. get_or k m 0) f ∙ get_or_append_left places (unwrap_or o 0 ∷ []) 0 m (omega (arith, a.len)) ∙ a.are m x low ((at m x h s).0 low)
        | inr high ↦
            let here : m - length places ≡ 0 = omega (arith, a.len) in
            ap (λ k. get_or k m 0) f ∙ get_or-append_right places (unwrap_or o 0 ∷ []) (length places) m 0 refl (omega (arith, a.len))
            ∙ ap (λ n. get_or (unwrap_or o 0 ∷ []) n 0) here ∙ ap (λ (p : Option ℕ). unwrap_or p 0) ((at m x h s).1 high)
      ];
      within = record {
        below = λ m x h s. elim (cases_lt m (length l)) as (λ _. x < after) [
          | inl low ↦ let under = a.within.below m x low ((at m x h s).0 low) in let up = g.up in omega arith
          | inr high ↦ g.above x ((at m x h s).1 high)
        ];
      };
      reached = λ n w. g.least n
          (a.reached n (record { below = λ m x h s. w.below m x (omega arith) (ap (λ k. get_or k m None) e ∙ get_or_append_left l (o ∷ []) None m h ∙ s) }))
          (λ x s. w.below (length l) x (omega arith) (ap (λ k. get_or k (length l) None) e ∙ last_of l o ∙ s));
    }

-- one pick more of the child, or of another
pub own_place : (p : Part) (ps vs : List ℕ) (add j k : ℕ) (o : Option ℕ) (places put : List ℕ) (end after : ℕ) → k < length ps → dense_child p (pick_at ps vs add k) ≡ j → o ≡ dense_item p (pick_at ps vs add k) → put ≡ places ++ unwrap_or o 0 ∷ [] → IsEndAfter end o after
    → ArePlaced (dense_rows p (take k (picks_of ps vs add)) j) places end → ArePlaced (dense_rows p (take (k + 1) (picks_of ps vs add)) j) put after
own_place p ps vs add j k o places put end after low own is f g a =
    let q = picks_of ps vs add in
    let at = get_picks ps vs add k low in
    one_place (dense_rows p (take k q) j) (dense_rows p (take (k + 1) q) j) o places put end after
    (rows_more p q j k (omega (arith, length_picks ps vs add)) ∙ ap (λ l. dense_rows p (take k q) j ++ l) (row_own p j (get_or q k None) (ap (dense_child p) at ∙ own) ∙ ap (λ (x : Option ℕ). x ∷ []) (ap (dense_item p) at ∙ sym is)))
    f g a

pub other_place : (p : Part) (ps vs : List ℕ) (add j k : ℕ) (places put : List ℕ) (end after : ℕ) → k < length ps → eqb (dense_child p (pick_at ps vs add k)) j ≡ false → put ≡ places → after ≡ end
    → ArePlaced (dense_rows p (take k (picks_of ps vs add)) j) places end → ArePlaced (dense_rows p (take (k + 1) (picks_of ps vs add)) j) put after
other_place p ps vs add j k places put end after low other f g a =
    let q = picks_of ps vs add in
    let at = get_picks ps vs add k low in
    let same : dense_rows p (take k q) j ≡ dense_rows p (take (k + 1) q) j = sym (rows_more p q j k (omega (arith, length_picks ps vs add)) ∙ ap (λ l. dense_rows p (take k q) j ++ l) (row_other p j (get_or q k None) (ap (λ (x : Option ℕ). eqb (dense_child p x) j) at ∙ other)) ∙ append-nil (dense_rows p (take k q) j)) in
    subst (λ (l : List (Option ℕ)). ArePlaced l put after) same
    (subst (λ (l : List ℕ). ArePlaced (dense_rows p (take k q) j) l after) (sym f) (subst (λ (n : ℕ). ArePlaced (dense_rows p (take k q) j) places n) (sym g) a))

-- ---- whether they are there

-- the bits of the rows of the first k picks, so many
pub record ShownTo (p : Part) (q : List (Option ℕ)) (j k count : ℕ) (bits : List ℕ) : Type 0 where
  pub count_is : count ≡ length (dense_rows p (take k q) j)
  pub shows : (m : ℕ) → m < count → bit_of bits m ≡ is_some (get_or (dense_rows p q j) m None)

pub none_shown_yet : (p : Part) (q : List (Option ℕ)) (j count : ℕ) (bits : List ℕ) → count ≡ 0 → ShownTo p q j 0 count bits
none_shown_yet p q j count bits e = record { count_is = e ∙ sym (ap length (rows_none p q j)); shows = λ m h. absurd (omega arith) }

pub count_few : (p : Part) (q : List (Option ℕ)) (j k count : ℕ) (bits : List ℕ) → k < length q → ShownTo p q j k count bits → count ≤ k
count_few p q j k count bits h s = omega (arith, s.count_is, rows_few p (take k q) j, length-take-le k q (let g : k ≤ length q = omega arith in g))

item_is : (p : Part) (o : Option ℕ) → is_some (dense_item p o) ≡ is_some o
item_is p None = refl
item_is p (Some i) = refl

valid_is : (ps vs : List ℕ) (add k : ℕ) → is_some (pick_at ps vs add k) ≡ is_valid vs k
valid_is ps vs add k = go (is_valid vs k)
  where
    go : (b : Bool) → is_some (cond b (Some (add + get_or ps k 0)) None) ≡ b
    go true = refl
    go false = refl

pub own_bit : (p : Part) (ps vs : List ℕ) (add j k count next : ℕ) (bits new : List ℕ) (b : Bool) → k < length ps → dense_child p (pick_at ps vs add k) ≡ j → b ≡ is_valid vs k → next ≡ count + 1 → PutsBit bits new count b → ShownTo p (picks_of ps vs add) j k count bits → ShownTo p (picks_of ps vs add) j (k + 1) next new
own_bit p ps vs add j k count next bits new b low own is step put s =
    let q = picks_of ps vs add in
    let o = get_or q k None in
    let at = get_picks ps vs add k low in
    let few : k < length q = omega (arith, length_picks ps vs add) in
    let child : dense_child p o ≡ j = ap (dense_child p) at ∙ own in
    let there = own_at p q k count few (s.count_is ∙ ap (λ (i : ℕ). length (dense_rows p (take k q) i)) (sym child)) in
    let item : get_or (dense_rows p q j) count None ≡ dense_item p o = ap (λ (i : ℕ). get_or (dense_rows p q i) count None) (sym child) ∙ there.1 in
    let here : b ≡ is_some (get_or (dense_rows p q j) count None) = is ∙ sym (ap is_some item ∙ item_is p o ∙ ap is_some at ∙ valid_is ps vs add k) in
    record {
      count_is = step ∙ ap (λ n. n + 1) s.count_is ∙ sym (ap length (rows_more p q j k few ∙ ap (λ l. dense_rows p (take k q) j ++ l) (row_own p j o child)) ∙ length-append (dense_rows p (take k q) j) (dense_item p o ∷ []));
      shows = λ m h. one_bit bits new count b (λ (n : ℕ). is_some (get_or (dense_rows p q j) n None)) put here s.shows m (omega arith);
    }

pub other_bit : (p : Part) (ps vs : List ℕ) (add j k count next : ℕ) (bits new : List ℕ) → k < length ps → eqb (dense_child p (pick_at ps vs add k)) j ≡ false → next ≡ count → new ≡ bits → ShownTo p (picks_of ps vs add) j k count bits → ShownTo p (picks_of ps vs add) j (k + 1) next new
other_bit p ps vs add j k count next bits new low other e f s =
    let q = picks_of ps vs add in
    let at = get_picks ps vs add k low in
    let same = rows_more p q j k (omega (arith, length_picks ps vs add)) ∙ ap (λ l. dense_rows p (take k q) j ++ l) (row_other p j (get_or q k None) (ap (λ (x : Option ℕ). eqb (dense_child p x) j) at ∙ other)) ∙ append-nil (dense_rows p (take k q) j) in
    record {
      count_is = e ∙ s.count_is ∙ sym (ap length same);
      shows = λ m h. ap (λ l. bit_of l m) f ∙ s.shows m (omega arith);
    }

pub front : (n : ℕ) (xs ys : List ℕ) → length xs ≡ n → take n (xs ++ ys) ≡ xs
front zero [] ys e = refl
front zero (x ∷ xs) ys e = absurd (omega arith)
front (suc n) [] ys e = absurd (omega arith)
front (suc n) (x ∷ xs) ys e = ap (λ l. x ∷ l) (front n xs ys (omega arith))

some_bits : (bs : List ℕ) → 0 < length bs → has_bits bs ≡ true
some_bits [] h = absurd (omega arith)
some_bits (b ∷ bs) h = refl

bits_valid : (bs : List ℕ) (m : ℕ) → 0 < length bs → is_valid bs m ≡ bit_of bs m
bits_valid [] m h = absurd (omega arith)
bits_valid (b ∷ bs) m h = refl

pub shown_all : (p : Part) (ps vs : List ℕ) (add j k count : ℕ) (bits : List ℕ) → length ps ≤ k → 0 < length bits → 0 < length vs → ShownTo p (picks_of ps vs add) j k count bits → AreShownOf p (picks_of ps vs add) j vs bits
shown_all p ps vs add j k count bits far some there s =
    let q = picks_of ps vs add in
    let all : count ≡ length (dense_rows p q j) = s.count_is ∙ ap (λ (l : List (Option ℕ)). length (dense_rows p l j)) (take_all k q (omega (arith, length_picks ps vs add))) in
    record {
      some = some_bits bits some ∙ sym (some_bits vs there);
      shows = λ m low. bits_valid bits m some ∙ s.shows m (omega (arith, all));
    }

-- where no pick is null no row is
one_there : (l new : List (Option ℕ)) (o : Option ℕ) → new ≡ l ++ o ∷ [] → is_some o ≡ true → ((m : ℕ) → m < length l → is_some (get_or l m None) ≡ true) → (m : ℕ) → m < length new → is_some (get_or new m None) ≡ true
one_there l new o e there all m h =
    let size : length new ≡ length l + 1 = ap length e ∙ length-append l (o ∷ []) in
    elim (cases_lt m (length l)) as (λ _. is_some (get_or new m None) ≡ true) [
      | inl low ↦ ap is_some (ap (λ k. get_or k m None) e ∙ get_or_append_left l (o ∷ []) None m low) ∙ all m low
      | inr high ↦
          let here : m ≡ length l = omega arith in
          ap is_some (ap (λ k. get_or k m None) e ∙ ap (λ k. get_or (l ++ o ∷ []) k None) here ∙ last_of l o) ∙ there
    ]

rows_there : (p : Part) (q : List (Option ℕ)) (j k : ℕ) → ((m : ℕ) → m < length q → is_some (get_or q m None) ≡ true) → k ≤ length q → (m : ℕ) → m < length (dense_rows p (take k q) j) → is_some (get_or (dense_rows p (take k q) j) m None) ≡ true
rows_there p q j zero all h m low = absurd (omega (arith, ap length (rows_none p q j)))
rows_there p q j (suc k) all h m low =
    let next : (n : ℕ) → n < length (dense_rows p (take (k + 1) q) j) → is_some (get_or (dense_rows p (take (k + 1) q) j) n None) ≡ true = go (eqb (dense_child p (get_or q k None)) j) refl (rows_there p q j k all (omega arith)) in
    let step : suc k ≡ k + 1 = omega arith in
    ap (λ (n : ℕ). is_some (get_or (dense_rows p (take n q) j) m None)) step ∙ next m (omega (arith, low, ap (λ (n : ℕ). length (dense_rows p (take n q) j)) step))
  where
    go : (b : Bool) → eqb (dense_child p (get_or q k None)) j ≡ b → ((m : ℕ) → m < length (dense_rows p (take k q) j) → is_some (get_or (dense_rows p (take k q) j) m None) ≡ true) → (m : ℕ) → m < length (dense_rows p (take (k + 1) q) j) → is_some (get_or (dense_rows p (take (k + 1) q) j) m None) ≡ true
    go true e rest =
        one_there (dense_rows p (take k q) j) (dense_rows p (take (k + 1) q) j) (dense_item p (get_or q k None))
        (rows_more p q j k (omega arith) ∙ ap (λ l. dense_rows p (take k q) j ++ l) (row_own p j (get_or q k None) (eqb-true _ _ e)))
        (item_is p (get_or q k None) ∙ all k (omega arith)) rest
    go false e rest =
        subst (λ (l : List (Option ℕ)). (m : ℕ) → m < length l → is_some (get_or l m None) ≡ true)
        (sym (rows_more p q j k (omega arith) ∙ ap (λ l. dense_rows p (take k q) j ++ l) (row_other p j (get_or q k None) e) ∙ append-nil (dense_rows p (take k q) j))) rest

pub shown_bare : (p : Part) (ps vs : List ℕ) (add j : ℕ) (bits : List ℕ) → vs ≡ [] → bits ≡ [] → AreShownOf p (picks_of ps vs add) j vs bits
shown_bare p ps vs add j bits none bare =
    let q = picks_of ps vs add in
    let there = rows_there p q j (length q) (λ m h. ap is_some (get_picks ps vs add m (omega (arith, length_picks ps vs add))) ∙ valid_is ps vs add m ∙ ap (λ (v : List ℕ). is_valid v m) none) (omega arith) in
    let all = subst (λ (l : List (Option ℕ)). (m : ℕ) → m < length (dense_rows p l j) → is_some (get_or (dense_rows p l j) m None) ≡ true) (take_all (length q) q (omega arith)) there in
    record {
      some = ap has_bits (bare ∙ sym none);
      shows = λ m low. ap (λ (v : List ℕ). is_valid v m) bare ∙ sym (all m low);
    }

-- the picks of one child
pub child_picks : (l : List (Option ℕ)) (places valid : List ℕ) (end : ℕ) → ArePlaced l places end → ((m : ℕ) → m < length l → is_valid valid m ≡ is_some (get_or l m None)) → picks_of places valid 0 ≡ l
child_picks l places valid end a bits =
    ext_get_or None (picks_of places valid 0) l (length_picks places valid 0 ∙ a.len) (λ m h.
    let low : m < length l = omega (arith, length_picks places valid 0, a.len) in
    get_picks places valid 0 m (omega (arith, length_picks places valid 0)) ∙ item_pick places valid m (get_or l m None) (bits m low) (λ x e. a.are m x low e))

-- ---- the picks of all children

pub item_of : (p : Part) (ps vs : List ℕ) (add j : ℕ) (i : Items) → ArePlaced (dense_rows p (picks_of ps vs add) j) (list_places i.list) i.end → AreShownOf p (picks_of ps vs add) j vs (list_valid i.list) → IsDenseItem p (picking_of ps vs add) j i
item_of p ps vs add j i a s =
    let l = dense_rows p (picks_of ps vs add) j in
    let is = child_picks l (list_places i.list) (list_valid i.list) i.end a s.shows in
    let make : List (Option ℕ) → Bool → Picking = λ x b. record { picks = x; nullable = b; kept = false } in
    record {
      picks = ap (λ (x : List (Option ℕ)). make x (has_bits (list_valid i.list))) is ∙ ap (make l) s.some;
      within = a.within;
      reached = a.reached;
    }

pub no_items_yet : (p : Part) (q : Picking) (items : List Items) → items ≡ [] → AreDenseItems p q 0 items
no_items_yet p q items e = record { len = ap length e; are = λ j d h. absurd (omega arith) }

pub more_items : (p : Part) (q : Picking) (n : ℕ) (i : Items) (items new : List Items) → new ≡ items ++ i ∷ [] → IsDenseItem p q n i → AreDenseItems p q n items → AreDenseItems p q (n + 1) new
more_items p q n i items new e own a = record {
  len = ap length e ∙ length-append items (i ∷ []) ∙ ap (λ k. k + 1) a.len;
  are = λ j d h. elim (cases_lt j n) as (λ _. IsDenseItem p q j (get_or new j d)) [
    | inl low ↦ subst (λ (x : Items). IsDenseItem p q j x) (sym (ap (λ l. get_or l j d) e ∙ get_or_append_left items (i ∷ []) d j (omega (arith, a.len)))) (a.are j d low)
    | inr high ↦
        let here : n ≡ j = omega arith in
        let at : get_or new j d ≡ i = ap (λ l. get_or l j d) e ∙ get_or-append_right items (i ∷ []) (length items) j d refl (omega (arith, a.len)) ∙ ap (λ k. get_or (i ∷ []) k d) (let z : j - length items ≡ 0 = omega (arith, a.len) in z) in
        subst (λ (x : Items). IsDenseItem p q j x) (sym at) (subst (λ (k : ℕ). IsDenseItem p q k i) here own)
  ];
}

-- ---- what a child has

pub splits_dense : (f : Option Format) → splits f ≡ true → f ≡ Some DenseUnion
splits_dense (Some DenseUnion) e = refl
splits_dense f e = absurd (let g : false ≡ true = e in cc)

more_within : (l new : List (Option ℕ)) (o : Option ℕ) (n : ℕ) → new ≡ l ++ o ∷ [] → AreWithin l n → ((x : ℕ) → o ≡ Some x → x < n) → AreWithin new n
more_within l new o n e w last =
    let size : length new ≡ length l + 1 = ap length e ∙ length-append l (o ∷ []) in
    record {
      below = λ m x h s. elim (cases_lt m (length l)) as (λ _. x < n) [
        | inl low ↦ w.below m x low (sym (get_or_append_left l (o ∷ []) None m low) ∙ sym (ap (λ k. get_or k m None) e) ∙ s)
        | inr high ↦
            let here : m ≡ length l = omega arith in
            last x (sym (last_of l o) ∙ sym (ap (λ k. get_or (l ++ o ∷ []) k None) here) ∙ sym (ap (λ k. get_or k m None) e) ∙ s)
      ];
    }

item_low : (p : Part) (lens : List ℕ) (j : ℕ) (o : Option ℕ) (x : ℕ) → dense_child p o ≡ j → ((i : ℕ) → o ≡ Some i → is_dense p lens (p.offset + i) ≡ true) → dense_item p o ≡ Some x → x < get_or lens j 0
item_low p lens j None x own h e = absurd (let f : None ≡ Some x = e in cc)
item_low p lens j (Some i) x own h e =
    let same : dense_start p (p.offset + i) ≡ x = (let f : Some (dense_start p (p.offset + i)) ≡ Some x = e in cc) in
    let start = dense_start p (p.offset + i) in
    let room = get_or lens (dense_child p (Some i)) 0 in
    let both = and_parts (ltb start (2 ^ 31)) (ltb start room) (dense_is p lens (p.offset + i) start (dense_child p (Some i)) refl refl ∙ h i refl) in
    let low : start < room = ltb-true start room both.1 in
    let here : room ≡ get_or lens j 0 = ap (λ (c : ℕ). get_or lens c 0) own in
    omega (arith, low, same, here)

dense_within : (p : Part) (q : List (Option ℕ)) (lens : List ℕ) (j k : ℕ) → length p.valid ≡ 0 → AllAt p q (is_dense p lens) → k ≤ length q → AreWithin (dense_rows p (take k q) j) (get_or lens j 0)
dense_within p q lens j zero bare a h = record { below = λ m x low e. absurd (omega (arith, ap length (rows_none p q j))) }
dense_within p q lens j (suc k) bare a h =
    subst (λ (m : ℕ). AreWithin (dense_rows p (take m q) j) (get_or lens j 0)) (let e : k + 1 ≡ suc k = omega arith in e)
    (go (eqb (dense_child p (get_or q k None)) j) refl (dense_within p q lens j k bare a (omega arith)))
  where
    go : (b : Bool) → eqb (dense_child p (get_or q k None)) j ≡ b → AreWithin (dense_rows p (take k q) j) (get_or lens j 0) → AreWithin (dense_rows p (take (k + 1) q) j) (get_or lens j 0)
    go true e w =
        more_within (dense_rows p (take k q) j) (dense_rows p (take (k + 1) q) j) (dense_item p (get_or q k None)) (get_or lens j 0)
        (rows_more p q j k (omega arith) ∙ ap (λ l. dense_rows p (take k q) j ++ l) (row_own p j (get_or q k None) (eqb-true _ _ e))) w
        (λ x f. item_low p lens j (get_or q k None) x (eqb-true _ _ e) (λ i g. a.all k (p.offset + i) (omega arith) (ap (place_of p) g ∙ bare_place p i bare)) f)
    go false e w =
        subst (λ (l : List (Option ℕ)). AreWithin l (get_or lens j 0))
        (sym (rows_more p q j k (omega arith) ∙ ap (λ l. dense_rows p (take k q) j ++ l) (row_other p j (get_or q k None) e) ∙ append-nil (dense_rows p (take k q) j))) w

-- the rows at picks of a sound union are within each child
pub dense_below : (p : Part) (q : List (Option ℕ)) (lens : List ℕ) (j : ℕ) → length p.valid ≡ 0 → AllAt p q (is_dense p lens) → AreWithin (dense_rows p q j) (get_or lens j 0)
dense_below p q lens j bare a = subst (λ (l : List (Option ℕ)). AreWithin (dense_rows p l j) (get_or lens j 0)) (take_all (length q) q (omega arith)) (dense_within p q lens j (length q) bare a (omega arith))

child_found : (ids : List ℕ) (id : ℕ) → child_of ids id < length ids → list_any (λ x. eqb x id) ids ≡ true
child_found [] id h = absurd (omega arith)
child_found (x ∷ ids) id h = go (eqb x id) refl (child_found ids id)
  where
    go : (b : Bool) → eqb x id ≡ b → (child_of ids id < length ids → list_any (λ y. eqb y id) ids ≡ true) → list_any (λ y. eqb y id) (x ∷ ids) ≡ true
    go true e rest = ap (λ b. b || list_any (λ y. eqb y id) ids) e
    go false e rest =
        let next : child_of (x ∷ ids) id ≡ child_of ids id + 1 = ap (λ (c : Bool). cond c 0 (child_of ids id + 1)) e in
        ap (λ b. b || list_any (λ y. eqb y id) ids) e ∙ rest (omega arith)

-- a row that is there has the id of a child
pub dense_tagged : (p : Part) (lens : List ℕ) (i : ℕ) → p.children ≤ length p.sizes → length lens ≤ p.children → is_dense p lens i ≡ true → has_child p i ≡ true
unfolding has_child
dense_tagged p lens i ids few e =
    let k = child_of (ids_of p) (get_or p.values i 0) in
    let start = dense_start p i in
    let both = and_parts (ltb start (2 ^ 31)) (ltb start (get_or lens k 0)) (dense_is p lens i start k refl refl ∙ e) in
    let low : start < get_or lens k 0 = ltb-true start (get_or lens k 0) both.1 in
    let inside : k < length lens = elim (cases_lt k (length lens)) as (λ _. k < length lens) [
      | inl l ↦ l
      | inr high ↦ let none : get_or lens k 0 ≡ 0 = get_or_past lens k 0 high in absurd (omega (arith, low, none))
    ] in
    child_found (ids_of p) (get_or p.values i 0) (omega (arith, inside, length-take-le p.children p.sizes ids))
