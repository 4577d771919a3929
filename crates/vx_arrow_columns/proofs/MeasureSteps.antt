-- One row more, measured.
use Rattle.std.proofs.Common.{◌≡◌, ℕ, ◌+◌, ◌-◌, ◌^◌, ◌<◌, ◌≤◌, Bool, true, List, [], ◌++◌, length, get_or, take, Option, Some, None, ap, ap₂, sym, ◌∙◌, refl, subst, inl, inr, arith, length-append, lit<, lit≤}
use Rattle.std.specs.List.{range_with_len, flat_map}
use Rattle.std.proofs.lemmas.Bool.{cases_eq, cases_lt}
use Rattle.std.proofs.lemmas.List.{append-nil, take_all, take_more, flat_map_more, get_or_append_left, get_or-append_right}
use Rattle.std.proofs.lemmas.List.FromFn.{length-range_with_len, get_or-range_with_len}
use Rattle.vx_arrow_image.specs.declared.format.Offsets.{Offsets}
use Rattle.vx_arrow_image.specs.declared.format.Offsets.TheVariants.{Short, Long}
use Rattle.vx_arrow_image.specs.Image.{Part, holds_offsets, is_cut, limit_of, offset_at}
use Rattle.vx_arrow_image.proofs.CutRows.{cut_end, cut_from, cut_small, cut_up}
use Rattle.vx_arrow_columns.specs.Measured.{AreBelow, AreItems}
use Rattle.vx_arrow_columns.specs.Picks.{items_len, items_of, place_of, row_items}
use Rattle.vx_arrow_columns.specs.Taken.{AllAt, AreCutAt}
use Rattle.vx_arrow_columns.proofs.Cuts.{len_all, len_zero}
use Rattle.vx_arrow_columns.proofs.Steps.{next_len, none_some, row_none, row_some, same_some}

-- ---- what is measured

-- it holds of each of the first k rows at picks
pub record AllTo (p : Part) (q : List (Option ℕ)) (f : ℕ → Bool) (k : ℕ) : Type 0 where
  pub all : (j i : ℕ) → j < k → place_of p (get_or q j None) ≡ Some i → f i ≡ true

pub none_hold : (p : Part) (q : List (Option ℕ)) (f : ℕ → Bool) → AllTo p q f 0
none_hold p q f = record { all = λ j i h e. absurd (omega arith) }

pub hold_some : (p : Part) (q : List (Option ℕ)) (f : ℕ → Bool) (k i : ℕ) → place_of p (get_or q k None) ≡ Some i → f i ≡ true → AllTo p q f k → AllTo p q f (k + 1)
hold_some p q f k i there own c = record {
  all = λ j n h e. elim (cases_eq j k) as (λ _. f n ≡ true) [
    | inl same ↦ subst (λ (m : ℕ). f m ≡ true) (same_some i n _ there (ap (λ (m : ℕ). place_of p (get_or q m None)) (sym same) ∙ e)) own
    | inr other ↦ c.all j n (omega arith) e
  ];
}

pub hold_none : (p : Part) (q : List (Option ℕ)) (f : ℕ → Bool) (k : ℕ) → place_of p (get_or q k None) ≡ None → AllTo p q f k → AllTo p q f (k + 1)
hold_none p q f k there c = record {
  all = λ j n h e. elim (cases_eq j k) as (λ _. f n ≡ true) [
    | inl same ↦ absurd (none_some n _ there (ap (λ (m : ℕ). place_of p (get_or q m None)) (sym same) ∙ e))
    | inr other ↦ c.all j n (omega arith) e
  ];
}

pub all_hold : (p : Part) (q : List (Option ℕ)) (f : ℕ → Bool) (k : ℕ) → length q ≤ k → AllTo p q f k → AllAt p q f
all_hold p q f k h c = record { all = λ j i b e. c.all j i (omega arith) e }

pub all_cut : (z : Offsets) (p : Part) (q : List (Option ℕ)) (count k : ℕ) → holds_offsets z p ≡ true → length q ≤ k → AllTo p q (is_cut z p count) k → AreCutAt z p q count
all_cut z p q count k held h c = record { held = held; cut = λ j i b e. c.all j i (omega arith) e }

-- cuts among few items are cuts
pub cut_any : (z : Offsets) (p : Part) (q : List (Option ℕ)) (count : ℕ) → AreCutAt z p q count → AreCutAt z p q (limit_of z)
cut_any z p q count c = record {
  held = c.held;
  cut = λ k i h e.
      let own = c.cut k i h e in
      let small = cut_small z p count i own in
      cut_from z p (limit_of z) i (cut_up z p count i own) small (omega arith);
}

pub items_zero : (z : Offsets) (p : Part) (q : List (Option ℕ)) → items_of z p (take 0 q) ≡ []
unfolding items_of
items_zero z p q = refl

pub items_more : (z : Offsets) (p : Part) (q : List (Option ℕ)) (k : ℕ) → k < length q → items_of z p (take (k + 1) q) ≡ items_of z p (take k q) ++ row_items z p (place_of p (get_or q k None))
unfolding items_of
items_more z p q k h =
    let f = λ (o : Option ℕ). row_items z p (place_of p o) in
    ap (flat_map f) (take_more q k None h) ∙ sym (flat_map_more f [] (take k q) (get_or q k None))

pub items_all : (z : Offsets) (p : Part) (q : List (Option ℕ)) (k : ℕ) → length q ≤ k → items_of z p (take k q) ≡ items_of z p q
items_all z p q k h = ap (items_of z p) (take_all k q h)

pub items_some : (z : Offsets) (p : Part) (q : List (Option ℕ)) (k i s e : ℕ) (items new : List ℕ) → k < length q → place_of p (get_or q k None) ≡ Some i → s ≡ offset_at z p.offsets i → e ≡ offset_at z p.offsets (i + 1)
    → items ≡ items_of z p (take k q) → new ≡ items ++ range_with_len s (e - s) → new ≡ items_of z p (take (k + 1) q)
items_some z p q k i s e items new h there from to old pushed =
    pushed ∙ ap₂ (λ (l : List ℕ) (r : List ℕ). l ++ r) old (ap₂ (λ (a : ℕ) (b : ℕ). range_with_len a (b - a)) from to ∙ ap (row_items z p) (sym there)) ∙ sym (items_more z p q k h)

pub items_none : (z : Offsets) (p : Part) (q : List (Option ℕ)) (k : ℕ) (items new : List ℕ) → k < length q → place_of p (get_or q k None) ≡ None → items ≡ items_of z p (take k q) → new ≡ items → new ≡ items_of z p (take (k + 1) q)
items_none z p q k items new h there old same =
    same ∙ old ∙ sym (append-nil (items_of z p (take k q))) ∙ ap (λ (o : Option ℕ). items_of z p (take k q) ++ row_items z p o) (sym there) ∙ sym (items_more z p q k h)

-- ---- places below an end

pub none_below : (places : List ℕ) (end : ℕ) → places ≡ [] → AreBelow places end
none_below places end e = record { below = λ k h. absurd (omega (arith, ap length e)) }

pub more_below : (places new : List ℕ) (s e last last' : ℕ) → AreBelow places last → new ≡ places ++ range_with_len s (e - s) → last ≤ last' → e ≤ last' → AreBelow new last'
more_below places new s e last last' b pushed up end =
    let r = range_with_len s (e - s) in
    let size : length r ≡ e - s = length-range_with_len s (e - s) in
    let long : length new ≡ length places + length r = ap length pushed ∙ length-append places r in
    record {
      below = λ j g. elim (cases_lt j (length places)) as (λ _. get_or new j 0 < last') [
        | inl low ↦ let at : get_or new j 0 ≡ get_or places j 0 = ap (λ (l : List ℕ). get_or l j 0) pushed ∙ get_or_append_left places r 0 j low in
            let under = b.below j low in omega arith
        | inr high ↦
            let at : get_or new j 0 ≡ get_or r (j - length places) 0 = ap (λ (l : List ℕ). get_or l j 0) pushed ∙ get_or-append_right places r (length places) j 0 refl high in
            let is = get_or-range_with_len s (e - s) (j - length places) 0 (omega arith) in
            omega arith
      ];
    }

pub same_below : (places new : List ℕ) (last : ℕ) → AreBelow places last → new ≡ places → AreBelow new last
same_below places new last b e = subst (λ (l : List ℕ). AreBelow l last) (sym e) b

-- ---- the loops that measure

-- the first k rows are cut as they should be, and have so many items
pub record LenTo (z : Offsets) (p : Part) (q : List (Option ℕ)) (count k total : ℕ) : Type 0 where
  pub cut : AllTo p q (is_cut z p count) k
  pub len : total ≡ items_len z p (take k q)
  pub small : total < limit_of z

pub limit_some : (z : Offsets) → 0 < limit_of z
limit_some Short = lit< tt
limit_some Long = lit< tt

pub no_len : (z : Offsets) (p : Part) (q : List (Option ℕ)) (count total : ℕ) → total ≡ 0 → LenTo z p q count 0 total
no_len z p q count total e = record { cut = none_hold p q (is_cut z p count); len = e ∙ sym (len_zero z p q); small = let s = limit_some z in omega arith }

pub len_some : (z : Offsets) (p : Part) (q : List (Option ℕ)) (count k i s e total new : ℕ) → k < length q → place_of p (get_or q k None) ≡ Some i → s ≡ offset_at z p.offsets i → e ≡ offset_at z p.offsets (i + 1)
    → is_cut z p count i ≡ true → new ≡ total + (e - s) → new < limit_of z → LenTo z p q count k total → LenTo z p q count (k + 1) new
len_some z p q count k i s e total new h there from to own step small t = record {
  cut = hold_some p q (is_cut z p count) k i there own t.cut;
  len = next_len z p q k total new (Some i) h there t.len (row_some z p i s e total new from to step);
  small = small;
}

pub len_none : (z : Offsets) (p : Part) (q : List (Option ℕ)) (count k total new : ℕ) → k < length q → place_of p (get_or q k None) ≡ None → new ≡ total → LenTo z p q count k total → LenTo z p q count (k + 1) new
len_none z p q count k total new h there step t = record {
  cut = hold_none p q (is_cut z p count) k there t.cut;
  len = next_len z p q k total new None h there t.len (row_none z p total new step);
  small = let s = t.small in omega arith;
}

-- and their items are these places, below `last`, which is no further than they reach
pub record ItemsTo (z : Offsets) (p : Part) (q : List (Option ℕ)) (count k total : ℕ) (places : List ℕ) (last : ℕ) : Type 0 where
  pub lens : LenTo z p q count k total
  pub items : places ≡ items_of z p (take k q)
  pub below : AreBelow places last
  pub reached : (n : ℕ) → AllTo p q (is_cut z p n) k → last ≤ n

pub no_places : (z : Offsets) (p : Part) (q : List (Option ℕ)) (count total : ℕ) (places : List ℕ) (last : ℕ) → total ≡ 0 → last ≡ 0 → places ≡ [] → ItemsTo z p q count 0 total places last
no_places z p q count total places last e first none = record { lens = no_len z p q count total e; items = none ∙ sym (items_zero z p q); below = none_below places last none; reached = λ n a. omega arith }

-- it holds of fewer
all_before : (p : Part) (q : List (Option ℕ)) (f : ℕ → Bool) (k : ℕ) → AllTo p q f (k + 1) → AllTo p q f k
all_before p q f k a = record { all = λ j i h e. a.all j i (omega arith) e }

pub places_some : (z : Offsets) (p : Part) (q : List (Option ℕ)) (count k i s e total new : ℕ) (places more : List ℕ) (last last' : ℕ) → k < length q → place_of p (get_or q k None) ≡ Some i → s ≡ offset_at z p.offsets i → e ≡ offset_at z p.offsets (i + 1)
    → is_cut z p count i ≡ true → new ≡ total + (e - s) → new < limit_of z → more ≡ places ++ range_with_len s (e - s) → last ≤ last' → e ≤ last' → ((n : ℕ) → last ≤ n → e ≤ n → last' ≤ n)
    → ItemsTo z p q count k total places last → ItemsTo z p q count (k + 1) new more last'
places_some z p q count k i s e total new places more last last' h there from to own step small pushed up end least t = record {
  lens = len_some z p q count k i s e total new h there from to own step small t.lens;
  items = items_some z p q k i s e places more h there from to t.items pushed;
  below = more_below places more s e last last' t.below pushed up end;
  reached = λ n a. least n (t.reached n (all_before p q (is_cut z p n) k a)) (let c = cut_end z p n i (a.all k i (omega arith) there) in omega arith);
}

pub places_none : (z : Offsets) (p : Part) (q : List (Option ℕ)) (count k total new : ℕ) (places more : List ℕ) (last last' : ℕ) → k < length q → place_of p (get_or q k None) ≡ None → new ≡ total → more ≡ places → last' ≡ last
    → ItemsTo z p q count k total places last → ItemsTo z p q count (k + 1) new more last'
places_none z p q count k total new places more last last' h there step same e t = record {
  lens = len_none z p q count k total new h there step t.lens;
  items = items_none z p q k places more h there t.items same;
  below = subst (λ (n : ℕ). AreBelow more n) (sym e) (same_below places more last t.below same);
  reached = λ n a. let r = t.reached n (all_before p q (is_cut z p n) k a) in omega arith;
}

pub limit_few : (z : Offsets) → limit_of z ≤ 2 ^ 60
limit_few Short = lit≤ tt
limit_few Long = omega arith

-- all picks are gone over
pub all_items : (z : Offsets) (p : Part) (q : List (Option ℕ)) (count k total : ℕ) (places : List ℕ) (last : ℕ) → holds_offsets z p ≡ true → length q ≡ k → ItemsTo z p q count k total places last → AreItems z p q places last
all_items z p q count k total places last held all t =
    let past : length q ≤ k = omega arith in
    record {
      cut = cut_any z p q count (all_cut z p q count k held past t.lens.cut);
      items = t.items ∙ items_all z p q k past;
      small = let s = t.lens.small in let e = t.lens.len ∙ len_all z p q k past in omega arith;
      below = t.below;
      reached = λ n cut. t.reached n (record { all = λ j i h e. cut.cut j i (omega arith) e });
    }
