-- The stack of lengths with which a table is tested from its end.
use Rattle.std.proofs.Common.{◌≡◌, ℕ, ◌+◌, ◌-◌, ◌^◌, ◌<◌, ◌≤◌, Bool, true, false, List, [], ◌∷◌, ◌++◌, length, get_or, take, drop, set, map, Option, Some, None, ap, ap₂, sym, ◌∙◌, refl, arith, leb, cond, take-append-drop, length-set}
use Rattle.std.specs.Prelude.{◌&&◌, is_some, IsSome}
use Rattle.std.specs.List.{list_all, range_with_len}
use Rattle.std.specs.Option.{option_and_then}
use Rattle.std.proofs.lemmas.Bool.{and_left, and_right, and_parts, lt-ltb, le-ltb, le-leb, leb-true, both_ways, false_from_ne_true}
use Rattle.std.proofs.lemmas.List.{length-map, length-drop, drop_all, drop_more, drop-drop, drop-map, drop-set, take-map}
use Rattle.vx_arrow_image.specs.declared.format.Format.{Format}
use Rattle.vx_arrow_image.specs.declared.format.Offsets.{Offsets}
use Rattle.vx_arrow_image.specs.Rows.{RowValue}
use Rattle.vx_arrow_image.specs.Image.{Part, all_valid, if_valid, are_cut, column_in, column_of, columns_in, fits, holds_offsets, holds_valid, is_cut, is_placed, is_sound, limit_of, offset_at, only, with_part}
use Rattle.vx_arrow_image.proofs.CutRows.{are_cut_at, are_cut_from, cut_small, cut_up, range_all, range_at}
use Rattle.vx_arrow_image.proofs.SoundNodes.{length_column, sound_from, with_part_is}

-- ---- one node

pub placed_not : (p : Part) → 2 ^ 60 ≤ p.offset + p.len → false ≡ is_placed p
unfolding is_placed
placed_not p h = sym (and_left _ _ (le-ltb _ _ h))

pub placed_if : (p : Part) (n : ℕ) (r : Bool) → p.offset + p.len ≡ n → n < 2 ^ 60 → r ≡ holds_valid p.valid n → r ≡ is_placed p
unfolding is_placed
placed_if p n r e few f = f ∙ ap (holds_valid p.valid) (sym e) ∙ sym (ap (λ b. b && holds_valid p.valid (p.offset + p.len)) (lt-ltb _ _ (let g : p.offset + p.len < 2 ^ 60 = omega arith in g)))

pub cut_not_up : (z : Offsets) (p : Part) (count i s e : ℕ) → s ≡ offset_at z p.offsets i → e ≡ offset_at z p.offsets (i + 1) → e < s → false ≡ is_cut z p count i
cut_not_up z p count i s e from to h = sym (false_from_ne_true _ (λ t. let up = cut_up z p count i t in omega arith))

pub cut_not_small : (z : Offsets) (p : Part) (count i e : ℕ) → e ≡ offset_at z p.offsets (i + 1) → limit_of z ≤ e → false ≡ is_cut z p count i
cut_not_small z p count i e to h = sym (false_from_ne_true _ (λ t. let small = cut_small z p count i t in omega arith))

pub cut_last : (z : Offsets) (p : Part) (count i s e : ℕ) → s ≡ offset_at z p.offsets i → e ≡ offset_at z p.offsets (i + 1) → s ≤ e → e < limit_of z → leb e count ≡ is_cut z p count i
unfolding is_cut
cut_last z p count i s e from to up small =
    ap (λ (n : ℕ). leb n count) to
    ∙ sym (ap₂ (λ (a : Bool) (b : Bool). a && (b && leb (offset_at z p.offsets (i + 1)) count)) (le-leb _ _ (let u : offset_at z p.offsets i ≤ offset_at z p.offsets (i + 1) = omega arith in u)) (lt-ltb _ _ (let l : offset_at z p.offsets (i + 1) < limit_of z = omega arith in l)))

pub cut_short : (z : Offsets) (p : Part) (count : ℕ) → holds_offsets z p ≡ false → false ≡ are_cut z p count
unfolding are_cut
cut_short z p count h = sym (and_left _ _ h)

pub cut_falls : (z : Offsets) (p : Part) (count i : ℕ) → p.offset ≤ i → i < p.offset + p.len → is_cut z p count i ≡ false → false ≡ are_cut z p count
cut_falls z p count i low high h = sym (false_from_ne_true _ (λ t. both_ways _ h (are_cut_at z p count i t low high)))

pub cut_all : (z : Offsets) (p : Part) (count : ℕ) → holds_offsets z p ≡ true → ((i : ℕ) → p.offset ≤ i → i < p.offset + p.len → is_cut z p count i ≡ true) → true ≡ are_cut z p count
cut_all z p count held h = sym (are_cut_from z p count held h)

pub range_falls : (f : ℕ → Bool) (a n i : ℕ) → a ≤ i → i < a + n → f i ≡ false → false ≡ list_all f (range_with_len a n)
range_falls f a n i low high h = sym (false_from_ne_true _ (λ t. both_ways _ h (range_at f a n i t low high)))

pub valid_falls : (p : Part) (f : ℕ → Bool) (i : ℕ) → p.offset ≤ i → i < p.offset + p.len → if_valid p f i ≡ false → false ≡ all_valid p f
unfolding all_valid
valid_falls p f i low high h = range_falls (if_valid p f) p.offset p.len i low high h

pub valid_all : (p : Part) (f : ℕ → Bool) → ((i : ℕ) → p.offset ≤ i → i < p.offset + p.len → if_valid p f i ≡ true) → true ≡ all_valid p f
unfolding all_valid
valid_all p f h = sym (range_all (if_valid p f) p.offset p.len h)

pub sound_not_placed : (p : Part) (lens : List ℕ) → is_placed p ≡ false → is_sound p lens ≡ false
unfolding is_sound
sound_not_placed p lens h = and_left _ _ h

pub sound_not_fit : (p : Part) (lens : List ℕ) (f : Option Format) → p.format ≡ f → fits f p lens ≡ false → is_sound p lens ≡ false
unfolding is_sound
sound_not_fit p lens f e h = and_right (is_placed p) _ (ap (λ (g : Option Format). fits g p lens) e ∙ h)

pub sound_fit : (p : Part) (lens : List ℕ) (f : Option Format) → p.format ≡ f → is_placed p ≡ true → fits f p lens ≡ true → is_sound p lens ≡ true
sound_fit p lens f e placed fit = sound_from p lens f e placed fit

-- ---- the stack

with_part_not : (p : Part) (cs : List (List RowValue)) → ((p.children ≤ length cs) → is_sound p (map length (take p.children cs)) ≡ true → ⊥) → with_part p cs ≡ None
unfolding with_part
with_part_not p cs h = ap (λ b. cond b (Some (column_of p (take p.children cs) ∷ drop p.children cs)) None) (false_from_ne_true _ (λ t. let both = and_parts _ _ t in h (leb-true _ _ both.0) both.1))

none_front : (xs ys : List Part) → columns_in ys ≡ None → columns_in (xs ++ ys) ≡ None
none_front [] ys e = e
none_front (x ∷ xs) ys e = ap (option_and_then (with_part x)) (none_front xs ys e)

none_from : (parts : List Part) (i : ℕ) → columns_in (drop i parts) ≡ None → columns_in parts ≡ None
none_from parts i e = ap columns_in (sym (take-append-drop i parts)) ∙ none_front (take i parts) (drop i parts) e

-- the lengths from `top` on are those of the columns of the nodes from i on
pub record Stacked (parts : List Part) (lens : List ℕ) (i top : ℕ) : Type 0 where
  pub columns : List (List RowValue)
  pub meant : columns_in (drop i parts) ≡ Some columns
  pub same : map length columns ≡ drop top lens
  pub low : i ≤ top
  pub high : top ≤ length lens
  pub size : length lens ≡ length parts

pub stack_first : (parts : List Part) (lens : List ℕ) (n : ℕ) → n ≡ length parts → length lens ≡ n → Stacked parts lens n n
stack_first parts lens n e size =
    let rest : drop n parts ≡ [] = drop_all n parts (omega arith) in
    record {
      columns = [];
      meant = ap columns_in rest;
      same = sym (drop_all n lens (omega arith));
      low = omega arith;
      high = omega arith;
      size = size ∙ e;
    }

stack_count : (cs : List (List RowValue)) (lens : List ℕ) (top : ℕ) → map length cs ≡ drop top lens → length cs ≡ length lens - top
stack_count cs lens top same = sym (length-map cs length) ∙ ap length same ∙ length-drop top lens

stack_lens : (cs : List (List RowValue)) (lens : List ℕ) (top n : ℕ) → map length cs ≡ drop top lens → map length (take n cs) ≡ take n (drop top lens)
stack_lens cs lens top n same = sym (take-map length n cs) ∙ ap (take n) same

pub stack_next : (parts : List Part) (lens lens' : List ℕ) (j i top new : ℕ) (p d : Part) → Stacked parts lens j top → j ≡ i + 1 → i < length parts → get_or parts i d ≡ p → p.children ≤ length lens - top
    → is_sound p (take p.children (drop top lens)) ≡ true → new ≡ top + p.children - 1 → lens' ≡ set lens new p.len → Stacked parts lens' i new
stack_next parts lens lens' j i top new p d s step below at enough sound e f =
    let cs = s.columns in
    let rest = drop (i + 1) parts in
    let meant : columns_in rest ≡ Some cs = ap (λ n. columns_in (drop n parts)) (sym step) ∙ s.meant in
    let low = s.low in
    let high = s.high in
    let split : drop i parts ≡ p ∷ rest = drop_more parts i d below ∙ ap (λ q. q ∷ rest) at in
    let count = stack_count cs lens top s.same in
    let ok : is_sound p (map length (take p.children cs)) ≡ true = ap (is_sound p) (stack_lens cs lens top p.children s.same) ∙ sound in
    let whole : columns_in (p ∷ rest) ≡ Some (column_of p (take p.children cs) ∷ drop p.children cs) = ap (option_and_then (with_part p)) meant ∙ with_part_is p cs (omega arith) ok in
    let within : new < length lens = omega arith in
    let after : top + p.children ≡ new + 1 = omega arith in
    record {
      columns = column_of p (take p.children cs) ∷ drop p.children cs;
      meant = ap columns_in split ∙ whole;
      same = ap₂ ◌∷◌ (length_column p (take p.children cs)) (sym (drop-map length p.children cs) ∙ ap (drop p.children) s.same ∙ drop-drop p.children top lens ∙ ap (λ (n : ℕ). drop n lens) after)
          ∙ sym (ap (drop new) f ∙ drop-set lens new p.len within);
      low = omega arith;
      high = omega (arith, ap length f, length-set lens new p.len);
      size = ap length f ∙ length-set lens new p.len ∙ s.size;
    }

pub stack_none : (parts : List Part) (lens : List ℕ) (j i top : ℕ) (p d : Part) → Stacked parts lens j top → j ≡ i + 1 → i < length parts → get_or parts i d ≡ p
    → (p.children ≤ length lens - top → is_sound p (take p.children (drop top lens)) ≡ true → ⊥) → column_in parts ≡ None
stack_none parts lens j i top p d s step below at h =
    let cs = s.columns in
    let rest = drop (i + 1) parts in
    let meant : columns_in rest ≡ Some cs = ap (λ n. columns_in (drop n parts)) (sym step) ∙ s.meant in
    let count = stack_count cs lens top s.same in
    let split : drop i parts ≡ p ∷ rest = drop_more parts i d below ∙ ap (λ q. q ∷ rest) at in
    let none : columns_in (drop i parts) ≡ None = ap columns_in split ∙ ap (option_and_then (with_part p)) meant
    ∙ with_part_not p cs (λ enough sound. h (omega arith) (sym (ap (is_sound p) (stack_lens cs lens top p.children s.same)) ∙ sound)) in
    ap only (none_from parts i none)

only_one : (cs : List (List RowValue)) → length cs ≡ 1 → is_some (only (Some cs)) ≡ true
only_one [] e = absurd (omega arith)
only_one (c ∷ []) e = refl
only_one (c ∷ (d ∷ cs)) e = absurd (omega arith)

only_other : (cs : List (List RowValue)) → (length cs ≡ 1 → ⊥) → only (Some cs) ≡ None
only_other [] h = refl
only_other (c ∷ []) h = absurd (h refl)
only_other (c ∷ (d ∷ cs)) h = refl

pub stack_some : (parts : List Part) (lens : List ℕ) (i top n : ℕ) → Stacked parts lens i top → i ≡ 0 → n ≡ length lens → top + 1 ≡ n → IsSome (column_in parts)
stack_some parts lens i top n s first e one =
    let count = stack_count s.columns lens top s.same in
    ap (λ (m : ℕ). is_some (only (columns_in (drop m parts)))) (sym first) ∙ ap (λ (o : Option (List (List RowValue))). is_some (only o)) s.meant ∙ only_one s.columns (omega arith)

pub stack_other : (parts : List Part) (lens : List ℕ) (i top n : ℕ) → Stacked parts lens i top → i ≡ 0 → n ≡ length lens → (top + 1 ≡ n → ⊥) → column_in parts ≡ None
stack_other parts lens i top n s first e other =
    let count = stack_count s.columns lens top s.same in
    let high = s.high in
    ap (λ (m : ℕ). only (columns_in (drop m parts))) (sym first) ∙ ap only s.meant ∙ only_other s.columns (λ one. other (omega arith))

pub same_part : (n k top : ℕ) (xs ys : List ℕ) → n ≡ k → xs ≡ ys → take n (drop top xs) ≡ take k (drop top ys)
same_part n k top xs ys e f = ap₂ (λ (m : ℕ) (l : List ℕ). take m (drop top l)) e f
