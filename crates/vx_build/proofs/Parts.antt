-- Lists that offsets cut, structs of columns, and indices of positions.
use Rattle.std.proofs.Common.{◌≡◌, ℕ, ◌+◌, ◌<◌, ◌≤◌, true, false, List, [], ◌∷◌, length, map, drop, get_or, refl, sym, ap, ◌∙◌, arith}
use Rattle.std.specs.Prelude.{ℤ, Option, Some, None, pos, int_le, ◌==◌, ◌&&◌, if◌then◌else◌, unwrap_or}
use Rattle.std.specs.Option.{option_map}
use Rattle.std.proofs.lemmas.Bool.Decides.{nat_tests}
use Rattle.std.proofs.lemmas.List.{at_drop_more, at_drop_all}
use Rattle.vx_types.specs.FieldTypes.{FieldTypes}
use Rattle.vx_types.specs.PType.{width}
use Rattle.vx_types.specs.RowValue.{bytes}
use Rattle.vx_types.specs.Same.{are_same_types}
use Rattle.vx_types.specs.SameLaws.{kind_decides}
use Rattle.vx_types.specs.Scalar.{scalar_fault}
use Rattle.vx_types.specs.TypeTree.{TypeTree, is_int_type, primitive_kind, struct_kind, types_of}
use Rattle.vx_types.specs.declared.error.ColumnError.TheVariants.{BadOffsets, WrongLength, WrongType, WrongWidth}
use Rattle.vx_types.specs.declared.nullability.Nullability.TheVariants.{NonNullable, Nullable}
use Rattle.vx_types.specs.declared.ptype.PType.{PType}
use Rattle.vx_types.specs.declared.ptype.PType.TheVariants.{U64}
use Rattle.vx_offsets.specs.Offsets.{are_offsets, ascend_within, lists_at, offset_positions}
use Rattle.vx_positions.specs.Positions.{first_bad, positions_of}
use Rattle.vx_model.specs.Column.{Column}
use Rattle.vx_model.specs.Columns.{are_long, rows_across, types_in}
use Rattle.vx_model.specs.List.{list_column, list_fault}
use Rattle.vx_model.specs.Lists.{list_row}
use Rattle.vx_model.specs.Numbers.{integers_of, numbers_of}
use Rattle.vx_model.specs.Records.{RecordParts}
use Rattle.vx_model.specs.Struct.{fields_row, struct_column, struct_fault}
use Rattle.vx_model.specs.Valid.{non_nullable}
use Rattle.vx_model.specs.VarBin.{are_integers}
use Rattle.vx_model.proofs.ShownRows.{shown_rows-all}
use Rattle.vx_pieces.specs.Indices.{by_column}
use Rattle.vx_pieces.specs.declared.fault.IndexFault.TheVariants.{InvalidIndices, OutOfBounds}
use Rattle.vx_offsets.proofs.Cuts.{positions_back}
use Rattle.vx_build.specs.Faults.{lengths_fault, offsets_fault}
use Rattle.vx_build.specs.Positions.{NamePositions}

-- ---- offsets

-- the offset at hand and those behind it
pub offsets_more : (os : List ℕ) (low n i d : ℕ) → i < length os → ascend_within (pos low) (map pos (drop i os)) n ≡ ((int_le (pos low) (pos (get_or os i d)) && int_le (pos (get_or os i d)) (pos n)) && ascend_within (pos (get_or os i d)) (map pos (drop (i + 1) os)) n)
offsets_more os low n i d h = at_drop_more (λ l. ascend_within (pos low) (map pos l) n) os i d h

pub offsets_end : (os : List ℕ) (low n i : ℕ) → length os ≤ i → ascend_within (pos low) (map pos (drop i os)) n ≡ true
offsets_end os low n i h = at_drop_all (λ l. ascend_within (pos low) (map pos l) n) os i h

pub offsets_some : (os : List ℕ) (n : ℕ) → 0 < length os → are_offsets (map pos os) n ≡ ascend_within (pos 0) (map pos os) n
offsets_some [] n h = absurd (omega arith)
offsets_some (o ∷ os) n h = refl

pub offsets_none : (os : List ℕ) (n : ℕ) → length os ≡ 0 → are_offsets (map pos os) n ≡ false
offsets_none [] n h = refl
offsets_none (o ∷ os) n h = absurd (omega arith)

pub ruleset offsets = (offsets_more, offsets_end, offsets_some, offsets_none)

-- ---- faults

pub no_fault : {E : Type 0} (fault : Option E) (no_memory e : E) → fault ≡ None → e ≡ no_memory → e ≡ unwrap_or fault no_memory
no_fault None no_memory e is h = h
no_fault (Some f) no_memory e is h = cc

pub that_fault : {E : Type 0} (fault : Option E) (no_memory e : E) → fault ≡ Some e → e ≡ unwrap_or fault no_memory
that_fault None no_memory e is = cc
that_fault (Some f) no_memory e is = cc

-- ---- lists

module _ (elements : Column) (o : RecordParts) (os : List ℕ) (read : integers_of o ≡ map pos os) where
  pub list_rows : (list_column (record { elements = elements; offsets = o; valid = non_nullable })).rows ≡ map list_row (lists_at os elements.rows)
  list_rows =
      shown_rows-all _ _ refl
      ∙ ap (λ (ps : List ℕ). map list_row (lists_at ps elements.rows)) (ap offset_positions read ∙ positions_back os)

  pub list_sound : are_integers o ≡ true → are_offsets (map pos os) (length elements.rows) ≡ true → list_fault (record { elements = elements; offsets = o; valid = non_nullable }) ≡ None
  list_sound int cut =
      ap (λ b. if b then (if are_offsets (integers_of o) (length elements.rows) then None else Some BadOffsets) else Some WrongType) int
      ∙ ap (λ zs. if are_offsets zs (length elements.rows) then None else Some BadOffsets) read
      ∙ ap (λ b. if b then None else Some BadOffsets) cut

pub offsets_sound : (os : List ℕ) (n : ℕ) → are_offsets (map pos os) n ≡ true → offsets_fault os n ≡ None
offsets_sound os n h = ap (λ b. if b then None else Some BadOffsets) h

pub offsets_unsound : (os : List ℕ) (n : ℕ) → are_offsets (map pos os) n ≡ false → offsets_fault os n ≡ Some BadOffsets
offsets_unsound os n h = ap (λ b. if b then None else Some BadOffsets) h

-- ---- structs

-- the column at hand and those behind it
pub long_more : {X : Type 0} (g : X → Column) (xs : List X) (n i : ℕ) (x : X) → i < length xs → x ≡ get_or xs i x → are_long n (map g (drop i xs)) ≡ ((length (g x).rows == n) && are_long n (map g (drop (i + 1) xs)))
long_more g xs n i x h is =
    at_drop_more (λ l. are_long n (map g l)) xs i x h
    ∙ ap (λ y. (length (g y).rows == n) && are_long n (map g (drop (i + 1) xs))) (sym is)

pub long_end : {X : Type 0} (g : X → Column) (xs : List X) (n i : ℕ) → length xs ≤ i → are_long n (map g (drop i xs)) ≡ true
long_end g xs n i h = at_drop_all (λ l. are_long n (map g l)) xs i h

pub lengths_sound : (columns : List Column) (n : ℕ) → are_long n columns ≡ true → lengths_fault n columns ≡ None
lengths_sound columns n h = ap (λ b. if b then None else Some WrongLength) h

pub lengths_unsound : (columns : List Column) (n : ℕ) → are_long n columns ≡ false → lengths_fault n columns ≡ Some WrongLength
lengths_unsound columns n h = ap (λ b. if b then None else Some WrongLength) h

-- types are the same as themselves
same_types : (ts : List TypeTree) → are_same_types ts ts ≡ true
same_types ts = (kind_decides (struct_kind [] (types_of ts)) (struct_kind [] (types_of ts))).1 refl

module _ (columns : List Column) (names : List (List ℕ)) (len : ℕ) where
  pub struct_rows : (types : List TypeTree) → (struct_column (record { columns = columns; types = record { names = names; types = types }; len = len; valid = non_nullable })).rows ≡ map fields_row (rows_across columns len)
  struct_rows types = shown_rows-all _ _ refl

  pub struct_sound : (f : FieldTypes) → f ≡ record { names = names; types = types_in columns } → are_long len columns ≡ true → struct_fault (record { columns = columns; types = f; len = len; valid = non_nullable }) ≡ None
  struct_sound f is long =
      ap (λ (t : FieldTypes). struct_fault (record { columns = columns; types = t; len = len; valid = non_nullable })) is
      ∙ ap (λ b. if b then (if are_long len columns then None else Some WrongLength) else Some WrongType) (same_types (types_in columns))
      ∙ ap (λ b. if b then None else Some WrongLength) long

-- ---- constants

pub scalar_sound : (p : PType) (b : List ℕ) → length b ≡ width p → scalar_fault (record { kind = primitive_kind p; nullability = NonNullable }) (bytes b) ≡ None
scalar_sound p b h =
    let wide : (length b == width p) ≡ true = grind (arith, nat_tests) in
    ap (λ k. if k then None else Some WrongWidth) wide

-- ---- indices

positions_named : (positions : List (Option ℕ)) → positions_of (map (option_map pos) positions) ≡ positions
positions_named [] = refl
positions_named (None ∷ positions) = ap (λ l. None ∷ l) (positions_named positions)
positions_named (Some n ∷ positions) = ap (λ l. Some n ∷ l) (positions_named positions)

pub named : (c : Column) (positions : List (Option ℕ)) → c.dtype ≡ record { kind = primitive_kind U64; nullability = Nullable } → length c.rows ≡ length positions → numbers_of c ≡ map (option_map pos) positions → NamePositions positions (by_column c)
named c positions dt long read = record {
  picks = ap positions_of read ∙ positions_named positions;
  len = long;
  nullability = ap (λ (t : TypeTree). t.nullability) dt;
  fault = λ n.
      ap (λ (t : TypeTree). if is_int_type t then option_map OutOfBounds (first_bad n (numbers_of c)) else Some InvalidIndices) dt
      ∙ ap (λ (zs : List (Option ℤ)). option_map OutOfBounds (first_bad n zs)) read;
}
