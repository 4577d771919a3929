-- The numbers that small records spell are equal exactly where the records are.
use Rattle.std.proofs.Common.{◌≡◌, ℕ, zero, suc, ◌+◌, ◌<◌, ◌≤◌, Bool, true, false, cond, ◌&&◌, List, [], ◌∷◌, ◌++◌, length, map, drop, get_or, Option, Some, refl, sym, ◌∙◌, ap, ap₂, subst, arith, nat_eq, eq-eqb, lit<}
use Rattle.std.specs.Prelude.{slice_index, slice_index_or}
use Rattle.std.specs.Int.{from_le_bytes, to_le_bytes, w64}
use Rattle.std.specs.List.{All}
use Rattle.std.specs.Ordering.{eq_by_cmp, nat_cmp}
use Rattle.std.specs.Cmp.{unsigned_ties, both_ways}
use Rattle.std.specs.Cmp.Lexicographic.{pointwise, bytes_decides}
use Rattle.std.proofs.lemmas.Bool.{eqb-true}
use Rattle.std.proofs.lemmas.List.{ext_get_or}
use Rattle.std.proofs.lemmas.Nat.{le_bytes_8}
use Rattle.vx_types.specs.RowValue.{RowValue, null, bit, bytes, list, fields, tagged}
use Rattle.vx_types.specs.TypeTree.{TypeKind, is_bool_kind, kind_width, null_kind, bool_kind, primitive_kind, decimal_kind, utf8_kind, binary_kind, list_kind, fixed_kind, map_kind, struct_kind, union_kind, extension_kind}
use Rattle.vx_types.specs.Scalar.{is_width_of}
use Rattle.vx_join.specs.Chains.{keys_match}
use Rattle.vx_join.specs.Pairs.{positions_from, pairs_from, pairs}
use Rattle.vx_join.specs.Keys.{same_value, rows_from, rows_match}
use Rattle.vx_join.specs.Numbers.{IsRecord, number_key}
use Rattle.vx_join.proofs.CellRows.{pairs_alike}
use Rattle.std.proofs.lemmas.List.Elements.{All-tail}

-- ---- the bytes that a number is read of

-- eight bytes, zeros past the end
abbrev padded : List ℕ → List ℕ
padded xs = slice_index xs 0 ∷ slice_index xs 1 ∷ slice_index xs 2 ∷ slice_index xs 3 ∷ slice_index xs 4 ∷ slice_index xs 5 ∷ slice_index xs 6 ∷ slice_index xs 7 ∷ []

padded_small : (xs : List ℕ) → ((i : ℕ) → slice_index xs i < 256) → (i : ℕ) → get_or (padded xs) i 0 < 256
padded_small xs h zero = h 0
padded_small xs h (suc zero) = h 1
padded_small xs h (suc (suc zero)) = h 2
padded_small xs h (suc (suc (suc zero))) = h 3
padded_small xs h (suc (suc (suc (suc zero)))) = h 4
padded_small xs h (suc (suc (suc (suc (suc zero))))) = h 5
padded_small xs h (suc (suc (suc (suc (suc (suc zero)))))) = h 6
padded_small xs h (suc (suc (suc (suc (suc (suc (suc zero))))))) = h 7
padded_small xs h (suc (suc (suc (suc (suc (suc (suc (suc i)))))))) = lit< tt

padded_at : (xs : List ℕ) (i : ℕ) → i < 8 → get_or (padded xs) i 0 ≡ slice_index xs i
padded_at xs zero h = refl
padded_at xs (suc zero) h = refl
padded_at xs (suc (suc zero)) h = refl
padded_at xs (suc (suc (suc zero))) h = refl
padded_at xs (suc (suc (suc (suc zero)))) h = refl
padded_at xs (suc (suc (suc (suc (suc zero))))) h = refl
padded_at xs (suc (suc (suc (suc (suc (suc zero)))))) h = refl
padded_at xs (suc (suc (suc (suc (suc (suc (suc zero))))))) h = refl
padded_at xs (suc (suc (suc (suc (suc (suc (suc (suc i)))))))) h = absurd (omega arith)

-- records of one width that spell the same number are the same
same_record : (width : ℕ) (xs ys : List ℕ) → width ≤ 8 → length xs ≡ width → length ys ≡ width → ((i : ℕ) → slice_index xs i < 256) → ((i : ℕ) → slice_index ys i < 256) → from_le_bytes w64 xs ≡ from_le_bytes w64 ys → xs ≡ ys
same_record width xs ys few lx ly hx hy e =
    let is : padded xs ≡ padded ys =
    sym (le_bytes_8 (padded xs) (from_le_bytes w64 xs) refl (padded_small xs hx) refl) ∙ ap (to_le_bytes w64) e ∙ le_bytes_8 (padded ys) (from_le_bytes w64 ys) refl (padded_small ys hy) refl in
    ext_get_or 0 xs ys (lx ∙ sym ly) (λ i h.
    let low : i < 8 = omega (arith, h, lx, few) in
    sym (padded_at xs i low) ∙ ap (λ (l : List ℕ). get_or l i 0) is ∙ padded_at ys i low)

-- ---- rows

abbrev numbers_match : Option ℕ → Option ℕ → Bool
numbers_match = keys_match (eq_by_cmp nat_cmp)

number_match : (width : ℕ) → width ≤ 8 → (x y : RowValue) → IsRecord width x → IsRecord width y → numbers_match (number_key x) (number_key y) ≡ same_value x y
number_match width few null y hx hy = refl
number_match width few (bit b) y hx hy = absurd hx
number_match width few (list b) y hx hy = absurd hx
number_match width few (fields b) y hx hy = absurd hx
number_match width few (tagged n b) y hx hy = absurd hx
number_match width few (bytes xs) null hx hy = refl
number_match width few (bytes xs) (bit b) hx hy = absurd hy
number_match width few (bytes xs) (list b) hx hy = absurd hy
number_match width few (bytes xs) (fields b) hx hy = absurd hy
number_match width few (bytes xs) (tagged n b) hx hy = absurd hy
number_match width few (bytes xs) (bytes ys) hx hy =
    sym (unsigned_ties (from_le_bytes w64 xs) (from_le_bytes w64 ys))
    ∙ both_ways (nat_eq (from_le_bytes w64 xs) (from_le_bytes w64 ys)) (pointwise nat_eq xs ys)
    (λ e. (bytes_decides xs ys).1 (same_record width xs ys few hx.0 hy.0 hx.1 hy.1 (eqb-true (from_le_bytes w64 xs) (from_le_bytes w64 ys) e)))
    (λ e. eq-eqb (from_le_bytes w64 xs) (from_le_bytes w64 ys) (ap (from_le_bytes w64) ((bytes_decides xs ys).0 e)))

-- the pairs of other items that match alike where they are such items
module _ {X Y A B : Type 0} (m : A → B → Bool) (m2 : X → Y → Bool) (f : X → A) (g : Y → B) (P : X → Type 0) (Q : Y → Type 0) (same : (x : X) (y : Y) → P x → Q y → m (f x) (g y) ≡ m2 x y) where
  positions_on : (x : X) → P x → (at : ℕ) (ys : List Y) → All Q ys → positions_from (m (f x)) at (map g ys) ≡ positions_from (m2 x) at ys
  positions_on x p at [] h = refl
  positions_on x p at (y ∷ ys) h =
      let rest = positions_on x p (at + 1) ys (All-tail Q y ys h) in
      let here = same x y p (h zero y (omega arith)) in
      λ i. cond (here i) (at ∷ rest i) (rest i)

  pairs_from_on : (i : ℕ) (xs : List X) (ys : List Y) → All P xs → All Q ys → pairs_from m i (map f xs) (map g ys) ≡ pairs_from m2 i xs ys
  pairs_from_on i [] ys hx hy = refl
  pairs_from_on i (x ∷ xs) ys hx hy =
      let here = positions_on x (hx zero x (omega arith)) 0 ys hy in
      let rest = pairs_from_on (i + 1) xs ys (All-tail P x xs hx) hy in
      λ t. map (λ j. (i, j)) (here t) ++ rest t

pub pairs_of_numbers : (width : ℕ) (xs ys : List RowValue) → width ≤ 8 → All (IsRecord width) xs → All (IsRecord width) ys → pairs (keys_match (eq_by_cmp nat_cmp)) (map number_key xs) (map number_key ys) ≡ pairs same_value xs ys
pairs_of_numbers width xs ys few hx hy =
    pairs_from_on (keys_match (eq_by_cmp nat_cmp)) same_value number_key number_key (IsRecord width) (IsRecord width) (λ x y p q. number_match width few x y p q) 0 xs ys hx hy

-- ---- one key column

abbrev single : RowValue → List RowValue
single x = x ∷ []

dropped : (xs : List RowValue) (at : ℕ) (y : RowValue) (ys : List RowValue) → drop at xs ≡ y ∷ ys → (slice_index_or xs at null ≡ y) × (drop (at + 1) xs ≡ ys)
dropped [] zero y ys h = absurd (cc)
dropped [] (suc at) y ys h = absurd (cc)
dropped (x ∷ xs) zero y ys h = let a : x ≡ y = cc in let b : xs ≡ ys = cc in (a, b)
dropped (x ∷ xs) (suc at) y ys h =
    let later = dropped xs at y ys h in
    let next : suc at + 1 ≡ suc (at + 1) = omega arith in
    (later.0, ap (λ n. drop n (x ∷ xs)) next ∙ later.1)

singles_from : (xs : List RowValue) (at : ℕ) (ys : List RowValue) (n : ℕ) → drop at xs ≡ ys → length ys ≡ n → rows_from (xs ∷ []) at n ≡ map single ys
singles_from xs at [] zero h e = refl
singles_from xs at [] (suc n) h e = absurd (omega arith)
singles_from xs at (y ∷ ys) zero h e = absurd (omega arith)
singles_from xs at (y ∷ ys) (suc n) h e =
    let d = dropped xs at y ys h in
    ap₂ ◌∷◌ (ap single d.0) (singles_from xs (at + 1) ys n d.1 (omega arith))

and_true : (b : Bool) → b ≡ (b && true)
and_true true = refl
and_true false = refl

pub pairs_of_singles : (xs ys : List RowValue) (n m : ℕ) → length xs ≡ n → length ys ≡ m → pairs same_value xs ys ≡ pairs rows_match (rows_from (xs ∷ []) 0 n) (rows_from (ys ∷ []) 0 m)
pairs_of_singles xs ys n m hx hy =
    pairs_alike same_value rows_match single single (λ x y. and_true (same_value x y)) xs ys
    ∙ (λ i. pairs rows_match (sym (singles_from xs 0 xs n refl hx) i) (sym (singles_from ys 0 ys m refl hy) i))

-- ---- types

pub no_bits : (k : TypeKind) (w : ℕ) → is_bool_kind k ≡ true → kind_width k ≡ Some w → ⊥
no_bits null_kind w h e = absurd (cc)
no_bits bool_kind w h e = cc
no_bits (primitive_kind p) w h e = absurd (cc)
no_bits (decimal_kind p s v) w h e = absurd (cc)
no_bits utf8_kind w h e = absurd (cc)
no_bits binary_kind w h e = absurd (cc)
no_bits (list_kind k n) w h e = absurd (cc)
no_bits (fixed_kind k n size) w h e = absurd (cc)
no_bits (map_kind ns ts) w h e = absurd (cc)
no_bits (struct_kind ns ts) w h e = absurd (cc)
no_bits (union_kind is ns ts) w h e = absurd (cc)
no_bits (extension_kind s k) w h e = absurd (cc)

pub as_wide : (o : Option ℕ) (w : ℕ) (b : List ℕ) → o ≡ Some w → is_width_of o b ≡ true → length b ≡ w
as_wide o w b e h = let P : Option ℕ → Type 0 = λ p. is_width_of p b ≡ true in eqb-true (length b) w (subst P e h)
