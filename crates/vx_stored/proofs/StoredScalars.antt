-- A value that is stored row by row gives a row of it in each place, and null where none is there.
use Rattle.std.proofs.Common.{◌≡◌, ℕ, Bool, true, false, cond, map, None, Some, refl, sym, ap, ◌∙◌, subst}
use Rattle.std.specs.Prelude.{replicate, Result, Ok, Err, IfOk}
use Rattle.std.proofs.lemmas.List.{length-replicate}
use Rattle.vx_types.specs.TypeTree.{TypeKind, TypeTree, bool_kind, is_bool_kind, null_type}
use Rattle.vx_types.specs.RowValue.{RowValue, null, bit, bytes, list, fields, tagged}
use Rattle.vx_types.specs.Scalar.{TypedRow, is_of_bytes, is_of_kind, is_as_wide, scalar_fault}
use Rattle.vx_types.specs.declared.error.ColumnError.TheVariants.{WrongType, WrongWidth}
use Rattle.vx_model.specs.Column.{Column}
use Rattle.vx_model.specs.Valid.{Valid, all_invalid, present_bits, shown_rows, stored_rows}
use Rattle.vx_model.specs.Null.{null_column}
use Rattle.vx_model.proofs.ShownRows.{none_shown}
use Rattle.vx_stored.specs.Scalars.{bit_or_false, bytes_or_zeros}
use Rattle.vx_lemmas.proofs.Lists.{map-replicate}

-- what holds of a column holds of a result that is it
pub of_column : {E : Type 0} (P : Column → Type 0) (r : Result Column E) (k : Column) → IfOk r (λ a. a ≡ k) → P k → IfOk r P
of_column P (Ok a) k h p = subst P (sym h) p
of_column P (Err e) k h p = h

-- a value is of its type's kind
of_kind : (t : TypeTree) (x : RowValue) → scalar_fault t x ≡ None → is_of_kind t x ≡ true
of_kind t x h = first (is_of_kind t x) (is_as_wide t x) h
  where
    first : (a b : Bool) → cond a (cond b None (Some WrongWidth)) (Some WrongType) ≡ None → a ≡ true
    first true b h = refl
    first false b h = cc

null_alone : (x : RowValue) → is_of_kind null_type x ≡ true → x ≡ null
null_alone null h = refl
null_alone (bit b) h = cc
null_alone (bytes b) h = cc
null_alone (list xs) h = cc
null_alone (fields xs) h = cc
null_alone (tagged n x) h = cc

-- where no row is valid, the stored ones don't show
hidden : (n : ℕ) (x y : RowValue) → shown_rows (replicate n false) (replicate n x) ≡ shown_rows (replicate n false) (replicate n y)
hidden n x y = none_shown n (replicate n x) (length-replicate n x) ∙ sym (none_shown n (replicate n y) (length-replicate n y))

module _ {X : Type 0} (f : X → RowValue) (v : Valid) (n : ℕ) (x : X) where
  -- the same item in each place
  stored-copies : stored_rows v (map f (replicate n x)) ≡ shown_rows (present_bits v n) (replicate n (f x))
  stored-copies =
      ap (stored_rows v) (map-replicate f n x)
      ∙ ap (λ k. shown_rows (present_bits v k) (replicate n (f x))) (length-replicate n (f x))

  -- in place of nulls, where none is there
  stored-nulls : v ≡ all_invalid → stored_rows v (map f (replicate n x)) ≡ shown_rows (present_bits v n) (replicate n null)
  stored-nulls e = stored-copies ∙ rw e (hidden n (f x) null)

module _ (t : TypeTree) (v : Valid) (n : ℕ) where
  bits_of : (x : RowValue) → is_bool_kind t.kind ≡ true → is_of_kind t x ≡ true → (x ≡ null → v ≡ all_invalid) → stored_rows v (map bit (replicate n (bit_or_false x))) ≡ shown_rows (present_bits v n) (replicate n x)
  bits_of null k h none = stored-nulls bit v n false (none refl)
  bits_of (bit b) k h none = stored-copies bit v n b
  bits_of (bytes b) k h none = no_bytes t.kind k h
    where
      no_bytes : {Y : Type 0} (k : TypeKind) → is_bool_kind k ≡ true → is_of_bytes k ≡ true → Y
      no_bytes bool_kind k h = cc
      no_bytes k e h = cc
  bits_of (list xs) k h none = cc
  bits_of (fields xs) k h none = cc
  bits_of (tagged i x) k h none = cc

  bytes_of : (w : ℕ) (x : RowValue) → is_bool_kind t.kind ≡ false → is_of_kind t x ≡ true → (x ≡ null → v ≡ all_invalid) → stored_rows v (map bytes (replicate n (bytes_or_zeros w x))) ≡ shown_rows (present_bits v n) (replicate n x)
  bytes_of w null k h none = stored-nulls bytes v n _ (none refl)
  bytes_of w (bytes b) k h none = stored-copies bytes v n b
  bytes_of w (bit b) k h none = let no : false ≡ true = sym k ∙ h in cc
  bytes_of w (list xs) k h none = cc
  bytes_of w (fields xs) k h none = cc
  bytes_of w (tagged i x) k h none = cc

-- the rows that are stored for a value
module _ (s : TypedRow) (sound : scalar_fault s.dtype s.row ≡ None) (v : Valid) (n : ℕ) (none : s.row ≡ null → v ≡ all_invalid) where
  pub rows-null : s.dtype ≡ null_type → (null_column n).rows ≡ shown_rows (present_bits v n) (replicate n s.row)
  rows-null t =
      let x : s.row ≡ null = null_alone s.row (ap (λ t. is_of_kind t s.row) (sym t) ∙ of_kind s.dtype s.row sound) in
      rw (x, none x) (sym (none_shown n (replicate n null) (length-replicate n null)))

  pub rows-bits : is_bool_kind s.dtype.kind ≡ true → stored_rows v (map bit (replicate n (bit_or_false s.row))) ≡ shown_rows (present_bits v n) (replicate n s.row)
  rows-bits k = bits_of s.dtype v n s.row k (of_kind s.dtype s.row sound) none

  pub rows-bytes : (w : ℕ) → is_bool_kind s.dtype.kind ≡ false → stored_rows v (map bytes (replicate n (bytes_or_zeros w s.row))) ≡ shown_rows (present_bits v n) (replicate n s.row)
  rows-bytes w k = bytes_of s.dtype v n w s.row k (of_kind s.dtype s.row sound) none
