-- Lists of a fixed size.
use Rattle.std.proofs.Common.{◌≡◌, ℕ, ◌+◌, ◌-◌, ◌*◌, ◌/◌, ◌%◌, ◌^◌, ◌<◌, ◌≤◌, Bool, true, false, cond, List, [], ◌∷◌, ◌++◌, length, get_or, take, drop, Option, Some, None, ap, ap₂, sym, ◌∙◌, refl, subst, inl, inr, arith}
use Rattle.std.specs.Prelude.{is_some, replicate}
use Rattle.std.specs.Option.{option_map}
use Rattle.std.proofs.lemmas.Bool.{and_from, cases_eq, cases_lt, eq-eqb, le-leb}
use Rattle.std.proofs.lemmas.List.{ext_get_or, get_or-take, get_or-drop, length-take-le, length-drop, get_or_append_left, get_or-append_right}
use Rattle.std.proofs.lemmas.List.FromFn.{length-map-range_with_len, get_or-map-range_with_len}
use Rattle.std.proofs.lemmas.Nat.{div-mul-add, mod-mul-add, div-add-mod'}
use Rattle.std.proofs.Math.Nat.{mul-le-mul_left, mul-le-mul_right, mod-lt}
use Rattle.vx_arrow_image.specs.declared.format.Format.{Format}
use Rattle.vx_arrow_image.specs.declared.format.Format.TheVariants.{FixedList}
use Rattle.vx_arrow_image.specs.Rows.{RowValue, null, list, row_values}
use Rattle.vx_arrow_image.specs.Image.{Part, bit_of, holds_valid, is_sound, is_valid, value_at, column_of}
use Rattle.vx_arrow_columns.specs.Measured.{AreItemPlaces}
use Rattle.vx_arrow_columns.specs.Picks.{Picking, inners_by, fixed_item, fixed_items, inner, inner_picks, pick_at, picks_of}
use Rattle.vx_arrow_columns.specs.Taken.{AreWithin, IsOwnTaken, IsReadable, ShowsRows, AreAt}
use Rattle.vx_arrow_columns.specs.Written.{PutsBit, new_part}
use Rattle.vx_arrow_image.proofs.SoundNodes.{sound_from}
use Rattle.vx_arrow_columns.proofs.Columns.{placed, place_some, same_column}
use Rattle.vx_arrow_columns.proofs.OwnTaken.{few_picks, held_by, own_taken}
use Rattle.vx_arrow_columns.proofs.RowsAt.{column_at, first_at}
use Rattle.vx_arrow_columns.proofs.PickReads.{get_picks, length_picks, place_below}
use Rattle.vx_arrow_columns.proofs.Steps.{next_place}

pub length_items : (p : Part) (q : List (Option ℕ)) → length (fixed_items p q) ≡ length q * p.width
unfolding fixed_items
length_items p q = length-map-range_with_len (fixed_item p q) 0 (length q * p.width)

pub get_items : (p : Part) (q : List (Option ℕ)) (m : ℕ) → m < length q * p.width → get_or (fixed_items p q) m None ≡ fixed_item p q m
unfolding fixed_items
get_items p q m h = get_or-map-range_with_len (fixed_item p q) 0 (length q * p.width) m m None h (let e : 0 + m ≡ m = omega arith in e)

-- item j of the list at pick k
item_at : (p : Part) (q : List (Option ℕ)) (k j i : ℕ) → j < p.width → get_or q k None ≡ Some i → fixed_item p q (k * p.width + j) ≡ Some ((p.offset + i) * p.width + j)
item_at p q k j i h e =
    ap₂ (λ (n : ℕ) (r : ℕ). option_map (λ (x : ℕ). (p.offset + x) * p.width + r) (get_or q n None)) (div-mul-add k p.width j h) (mod-mul-add k p.width j h)
    ∙ ap (option_map (λ (x : ℕ). (p.offset + x) * p.width + j)) e

-- all items of a list at a pick are there, if there are any
items_there : (p : Part) (q : List (Option ℕ)) (n k i : ℕ) → AreWithin (fixed_items p q) n → k < length q → get_or q k None ≡ Some i → p.width ≤ n - (p.offset + i) * p.width
items_there p q n k i within low e = elim (cases_eq p.width 0) as (λ _. p.width ≤ n - (p.offset + i) * p.width) [
  | inl none ↦ omega arith
  | inr some ↦
      let w = p.width in
      let end = next_place k (length q) w low in
      let at : k * w + (w - 1) < length q * w = omega arith in
      let last = within.below (k * w + (w - 1)) ((p.offset + i) * w + (w - 1)) (omega (arith, length_items p q)) (get_items p q (k * w + (w - 1)) at ∙ item_at p q k (w - 1) i (omega arith) e) in
      omega arith
]

fixed_cell : (p : Part) (q : List (Option ℕ)) (c new : List RowValue) (k i : ℕ) → AreAt true (fixed_items p q) c new → k < length q → get_or q k None ≡ Some i
    → take p.width (drop (k * p.width) new) ≡ take p.width (drop ((p.offset + i) * p.width) c)
fixed_cell p q c new k i are low e =
    let w = p.width in
    let items = fixed_items p q in
    let size : length new ≡ length q * w = are.len ∙ length_items p q in
    let end = next_place k (length q) w low in
    let far = items_there p q (length c) k i are.within low e in
    let left : length (take w (drop (k * w) new)) ≡ w = length-take-le w (drop (k * w) new) (omega (arith, length-drop (k * w) new)) in
    let right : length (take w (drop ((p.offset + i) * w) c)) ≡ w = length-take-le w (drop ((p.offset + i) * w) c) (omega (arith, length-drop ((p.offset + i) * w) c)) in
    ext_get_or null _ _ (left ∙ sym right) (λ j h.
    let small : j < w = omega arith in
    let at : k * w + j < length q * w = omega arith in
    get_or-take w (drop (k * w) new) j null small ∙ get_or-drop (k * w) new j null
    ∙ are.at (k * w + j) ((p.offset + i) * w + j) (omega (arith, length_items p q)) (get_items p q (k * w + j) at ∙ item_at p q k j i small e)
    ∙ sym (get_or-take w (drop ((p.offset + i) * w) c) j null small ∙ get_or-drop ((p.offset + i) * w) c j null))

pub fixed_list_taken : (p : Part) (q : Picking) (v o x s : List ℕ) → p.format ≡ Some FixedList → IsReadable p q.picks → ShowsRows p q.picks v → holds_valid v (length q.picks) ≡ true → IsOwnTaken p (new_part p q v o x s) q
fixed_list_taken p q v o x s format r shows valid =
    let w = new_part p q v o x s in
    let held = held_by p q.picks (Some FixedList) format r in
    let one = held.0 in
    let is : (inner p q).picks ≡ fixed_items p q.picks = ap (λ (y : Option Format). inner_picks y p q.picks) format in
    let count : length (inner p q).picks ≡ length q.picks * p.width = ap length is ∙ length_items p q.picks in
    let same : 0 + length q.picks ≡ length q.picks = omega arith in
    let room : (0 + length q.picks) * p.width ≤ length (inner p q).picks = subst (λ (n : ℕ). n * p.width ≤ length (inner p q).picks) (sym same) (omega arith) in
    own_taken p w q (ap (λ (y : Option Format). inners_by y p q) format) (record {
      children = refl;
      len = refl;
      sound = subst (λ (n : ℕ). is_sound w (replicate n (length (inner p q).picks)) ≡ true) (sym one)
          (sound_from w (length (inner p q).picks ∷ []) (Some FixedList) format (placed w refl (few_picks p q.picks r.counted) valid) (and_from _ _ (eq-eqb _ _ one) (le-leb _ _ room)));
      column = λ cs ds children. column_at p q.picks cs (column_of w ds) r.within (same_column p w cs ds q.picks refl refl shows r.within (λ k n h e.
          let back = place_some p (get_or q.picks k None) n e in
          let c = get_or cs 0 [] in
          ap (λ (y : Option Format). value_at y w ds k) format
          ∙ ap (λ (l : List RowValue). list (row_values l)) (fixed_cell p q.picks c (get_or ds 0 []) k back.0 (subst (λ (l : List (Option ℕ)). AreAt true l c (get_or ds 0 [])) is (first_at (inner p q).picks p.children cs ds one children)) h back.1.0 ∙ ap (λ (m : ℕ). take p.width (drop (m * p.width) c)) (sym back.1.1))
          ∙ ap (λ (y : Option Format). value_at y p cs n) (sym format)));
    })

-- ---- the places of items

some_of : (f : ℕ → ℕ) (o : Option ℕ) (x : ℕ) → option_map f o ≡ Some x → (i : ℕ) × ((o ≡ Some i) × (x ≡ f i))
some_of f None x e = absurd (let g : None ≡ Some x = e in cc)
some_of f (Some i) x e = (i, (refl, (let g : Some (f i) ≡ Some x = e in cc)))

pub width_some : (w n m : ℕ) → m < n * w → 0 < w
width_some w n m h = elim (cases_eq w 0) as (λ _. 0 < w) [
  | inl e ↦ let none : n * w ≡ 0 = ap (λ (k : ℕ). n * k) e ∙ omega arith in absurd (omega arith)
  | inr f ↦ omega arith
]

below : (a n w m : ℕ) → a * w + m % w ≡ m → m < n * w → a < n
below a n w m e h = elim (cases_lt a n) as (λ _. a < n) [
  | inl low ↦ low
  | inr high ↦ let far = mul-le-mul_right {m = n} {n = a} w high in absurd (omega arith)
]

-- the list of an item
pub list_below : (n w m : ℕ) → m < n * w → m / w < n
list_below n w m h = below (m / w) n w m (div-add-mod' m w) h

pub items_within : (p : Part) (q : List (Option ℕ)) (end : ℕ) → AreWithin q p.len → (p.offset + p.len) * p.width ≤ end → AreWithin (fixed_items p q) end
items_within p q end w far = record {
  below = λ m x h e.
      let small : m < length q * p.width = omega (arith, length_items p q) in
      let back = some_of (λ (i : ℕ). (p.offset + i) * p.width + m % p.width) (get_or q (m / p.width) None) x (sym (get_items p q m small) ∙ e) in
      let row = m / p.width in
      let split = div-add-mod' m p.width in
      let some : 0 < p.width = width_some p.width (length q) m small in
      let rest : m % p.width < p.width = mod-lt m some in
      let low : row < length q = below row (length q) p.width m split small in
      let inside = w.below row back.0 low back.1.0 in
      let next = next_place (p.offset + back.0) (p.offset + p.len) p.width (omega arith) in
      omega (arith, back.1.1);
}

pub no_items : (p : Part) (q : List (Option ℕ)) (places : List ℕ) → places ≡ [] → AreItemPlaces p q 0 places
no_items p q places e = record { len = ap length e; are = λ m x h f. absurd (omega arith) }

pub more_items : (p : Part) (q : List (Option ℕ)) (n x : ℕ) (places new : List ℕ) → ((y : ℕ) → fixed_item p q n ≡ Some y → x ≡ y) → new ≡ places ++ x ∷ [] → AreItemPlaces p q n places → AreItemPlaces p q (n + 1) new
more_items p q n x places new own pushed are =
    let size = are.len in
    record {
      len = ap length pushed ∙ (let l : length (places ++ x ∷ []) ≡ length places + 1 = length_push places x in l) ∙ ap (λ k. k + 1) size;
      are = λ m y h e. elim (cases_lt m n) as (λ _. get_or new m 0 ≡ y) [
        | inl low ↦ ap (λ (l : List ℕ). get_or l m 0) pushed ∙ get_or_append_left places (x ∷ []) 0 m (omega arith) ∙ are.are m y low e
        | inr high ↦
            let here : m ≡ n = omega arith in
            ap (λ (l : List ℕ). get_or l m 0) pushed ∙ get_or-append_right places (x ∷ []) (length places) m 0 refl (omega arith)
            ∙ ap (λ (k : ℕ). get_or (x ∷ []) k 0) (let z : m - length places ≡ 0 = omega arith in z) ∙ own y (ap (fixed_item p q) (sym here) ∙ e)
      ];
    }
  where
    length_push : (xs : List ℕ) (y : ℕ) → length (xs ++ y ∷ []) ≡ length xs + 1
    length_push [] y = refl
    length_push (z ∷ xs) y = omega (arith, length_push xs y)

pub item_pick : (places valid : List ℕ) (m : ℕ) (o : Option ℕ) → is_valid valid m ≡ is_some o → ((x : ℕ) → o ≡ Some x → get_or places m 0 ≡ x) → pick_at places valid 0 m ≡ o
item_pick places valid m None bits is = ap (λ b. cond b (Some (0 + get_or places m 0)) None) bits
item_pick places valid m (Some x) bits is = ap (λ b. cond b (Some (0 + get_or places m 0)) None) bits ∙ ap Some (let e = is x refl in let f : 0 + get_or places m 0 ≡ x = omega arith in f)

pub items_are : (p : Part) (q : List (Option ℕ)) (n : ℕ) (places valid : List ℕ) → n ≡ length q * p.width → AreItemPlaces p q n places → ((m : ℕ) → m < n → is_valid valid m ≡ is_some (fixed_item p q m)) → picks_of places valid 0 ≡ fixed_items p q
items_are p q n places valid all are bits =
    let size = are.len in
    ext_get_or None (picks_of places valid 0) (fixed_items p q) (length_picks places valid 0 ∙ size ∙ all ∙ sym (length_items p q)) (λ m h.
    let low : m < n = omega (arith, length_picks places valid 0) in
    get_picks places valid 0 m (omega (arith, length_picks places valid 0))
    ∙ item_pick places valid m (fixed_item p q m) (bits m low) (λ x e. are.are m x low e)
    ∙ sym (get_items p q m (omega arith)))

-- ---- whether an item is there

mapped_some : (f : ℕ → ℕ) (o : Option ℕ) → is_some (option_map f o) ≡ is_some o
mapped_some f None = refl
mapped_some f (Some i) = refl

pick_some : (b : Bool) (x : ℕ) → is_some (cond b (Some x) None) ≡ b
pick_some true x = refl
pick_some false x = refl

pub item_there : (p : Part) (ps vs : List ℕ) (add m : ℕ) → m < length ps * p.width → is_some (fixed_item p (picks_of ps vs add) m) ≡ is_valid vs (m / p.width)
item_there p ps vs add m h =
    let k = m / p.width in
    mapped_some (λ (i : ℕ). (p.offset + i) * p.width + m % p.width) (get_or (picks_of ps vs add) k None)
    ∙ ap is_some (get_picks ps vs add k (list_below (length ps) p.width m h)) ∙ pick_some (is_valid vs k) (add + get_or ps k 0)

pub item_some : (p : Part) (ps vs : List ℕ) (add m : ℕ) → m < length ps * p.width → is_valid vs (m / p.width) ≡ true
    → Some ((p.offset + (add + get_or ps (m / p.width) 0)) * p.width + m % p.width) ≡ fixed_item p (picks_of ps vs add) m
item_some p ps vs add m h there =
    sym (ap (option_map (λ (i : ℕ). (p.offset + i) * p.width + m % p.width))
    (get_picks ps vs add (m / p.width) (list_below (length ps) p.width m h) ∙ ap (λ b. cond b (Some (add + get_or ps (m / p.width) 0)) None) there))

pub item_none : (p : Part) (ps vs : List ℕ) (add m : ℕ) → m < length ps * p.width → is_valid vs (m / p.width) ≡ false → None ≡ fixed_item p (picks_of ps vs add) m
item_none p ps vs add m h there =
    sym (ap (option_map (λ (i : ℕ). (p.offset + i) * p.width + m % p.width))
    (get_picks ps vs add (m / p.width) (list_below (length ps) p.width m h) ∙ ap (λ b. cond b (Some (add + get_or ps (m / p.width) 0)) None) there))

-- ---- bits, one more

pub one_bit : (old new : List ℕ) (m : ℕ) (b : Bool) (f : ℕ → Bool) → PutsBit old new m b → b ≡ f m → ((j : ℕ) → j < m → bit_of old j ≡ f j) → (j : ℕ) → j < m + 1 → bit_of new j ≡ f j
one_bit old new m b f put e are j h = elim (cases_eq j m) as (λ _. bit_of new j ≡ f j) [
  | inl same ↦ ap (bit_of new) same ∙ put.put ∙ e ∙ ap f (sym same)
  | inr other ↦ put.others j other ∙ are j (omega arith)
]

-- rows of some width are fewer than their items
pub some_width : (a b w : ℕ) → 0 < w → (a + b) * w < 2 ^ 60 → a + b < 2 ^ 60
some_width a b w h e = let far = mul-le-mul_left {m = 1} {n = w} (a + b) (omega arith) in omega arith

-- where item m stands
pub record ItemFits (offset len width at m : ℕ) : Type 0 where
  pub row : at < offset + len
  pub small : offset + len < 2 ^ 60
  pub next : at * width + width ≤ (offset + len) * width
  pub rest : m % width < width

pub item_fits : (offset len width : ℕ) (ps vs : List ℕ) (add m : ℕ) → 0 < width → m < length ps * width → AreWithin (picks_of ps vs add) len → (offset + len) * width < 2 ^ 60 → is_valid vs (m / width) ≡ true
    → ItemFits offset len width (offset + (add + get_or ps (m / width) 0)) m
item_fits offset len width ps vs add m some index within end there =
    let below = place_below ps vs add len (m / width) within (list_below (length ps) width m index) there in
    let low : offset + (add + get_or ps (m / width) 0) < offset + len = omega arith in
    record { row = low; small = some_width offset len width some end; next = next_place (offset + (add + get_or ps (m / width) 0)) (offset + len) width low; rest = mod-lt m some }
