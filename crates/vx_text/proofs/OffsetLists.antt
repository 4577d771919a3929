-- Offsets in a list that widens.
use Rattle.std.proofs.Common.{◌≡◌, ℕ, ◌+◌, ◌^◌, ◌<◌, ◌≤◌, Bool, true, false, List, [], ◌∷◌, ◌++◌, map, length, get_or, take, refl, sym, ap, ap₂, ◌∙◌, arith}
use Rattle.std.specs.Prelude.{pos}
use Rattle.std.specs.List.{All}
use Rattle.std.specs.Int.{w32, w64, from_le_bytes, to_le_bytes}
use Rattle.std.proofs.lemmas.Int.{to_z_pos}
use Rattle.std.proofs.lemmas.Nat.{from_le_bytes-to_le_bytes_8}
use Rattle.std.proofs.lemmas.List.{map-append, map_more}
use Rattle.std.proofs.lemmas.List.Elements.{All-tail}
use Rattle.vx_types.specs.PType.{is_int}
use Rattle.vx_types.specs.TypeTree.{primitive_kind}
use Rattle.vx_types.specs.declared.ptype.PType.TheVariants.{U32, U64, I32, I64}
use Rattle.vx_model.specs.Numbers.{integer_by}
use Rattle.vx_text.specs.OffsetList.{greatest_offset, numbers_of, stored_records, type_by}
use Rattle.vx_text.specs.declared.offsets.OffsetRecords.{OffsetRecords}
use Rattle.vx_text.specs.declared.offsets.OffsetRecords.TheVariants.{Narrow, Wide}

-- what a written record spells
pushed_8 : (old new : List (List ℕ)) (n : ℕ) → n < 2 ^ 64 → new ≡ old ++ to_le_bytes w64 n ∷ [] → map (from_le_bytes w64) new ≡ map (from_le_bytes w64) old ++ n ∷ []
pushed_8 old new n h more =
    ap (map (from_le_bytes w64)) more ∙ map-append (from_le_bytes w64) old (to_le_bytes w64 n ∷ [])
    ∙ ap (λ x. map (from_le_bytes w64) old ++ x ∷ []) (from_le_bytes-to_le_bytes_8 n h)

-- small numbers are the same in two's complement
signed_4 : (records : List (List ℕ)) → All (λ n. n ≤ 2147483647) (map (from_le_bytes w32) records) → map (integer_by (primitive_kind I32)) records ≡ map pos (map (from_le_bytes w32) records)
signed_4 [] h = refl
signed_4 (r ∷ records) h =
    let small : from_le_bytes w32 r ≤ 2147483647 = h 0 0 (omega arith) in
    ap₂ ◌∷◌ (to_z_pos w32 (from_le_bytes w32 r) (omega (arith, small))) (signed_4 records (All-tail (λ n. n ≤ 2147483647) (from_le_bytes w32 r) (map (from_le_bytes w32) records) h))

signed_8 : (records : List (List ℕ)) → All (λ n. n ≤ 9223372036854775807) (map (from_le_bytes w64) records) → map (integer_by (primitive_kind I64)) records ≡ map pos (map (from_le_bytes w64) records)
signed_8 [] h = refl
signed_8 (r ∷ records) h =
    let small : from_le_bytes w64 r ≤ 9223372036854775807 = h 0 0 (omega arith) in
    ap₂ ◌∷◌ (to_z_pos w64 (from_le_bytes w64 r) (omega (arith, small))) (signed_8 records (All-tail (λ n. n ≤ 9223372036854775807) (from_le_bytes w64 r) (map (from_le_bytes w64) records) h))

unsigned_4 : (records : List (List ℕ)) → map (integer_by (primitive_kind U32)) records ≡ map pos (map (from_le_bytes w32) records)
unsigned_4 [] = refl
unsigned_4 (r ∷ records) = ap (λ l. pos (from_le_bytes w32 r) ∷ l) (unsigned_4 records)

unsigned_8 : (records : List (List ℕ)) → map (integer_by (primitive_kind U64)) records ≡ map pos (map (from_le_bytes w64) records)
unsigned_8 [] = refl
unsigned_8 (r ∷ records) = ap (λ l. pos (from_le_bytes w64 r) ∷ l) (unsigned_8 records)

-- what the records of a column of offsets spell
pub read_back : (signed : Bool) (r : OffsetRecords) → All (λ n. n ≤ greatest_offset (type_by signed r)) (numbers_of r) → map (integer_by (primitive_kind (type_by signed r))) (stored_records r) ≡ map pos (numbers_of r)
read_back true (Narrow records) h = signed_4 records.items h
read_back true (Wide records) h = signed_8 records.items h
read_back false (Narrow records) h = unsigned_4 records.items
read_back false (Wide records) h = unsigned_8 records.items

pub int_type : (signed : Bool) (r : OffsetRecords) → is_int (type_by signed r) ≡ true
int_type true (Narrow records) = refl
int_type true (Wide records) = refl
int_type false (Narrow records) = refl
int_type false (Wide records) = refl

-- one record more is widened
pub wider : (records : List (List ℕ)) (i : ℕ) (d : List ℕ) (old new : List (List ℕ)) (n : ℕ) → i < length records → map (from_le_bytes w64) old ≡ map (from_le_bytes w32) (take i records) → n ≡ from_le_bytes w32 (get_or records i d) → n < 2 ^ 64 → new ≡ old ++ to_le_bytes w64 n ∷ [] → map (from_le_bytes w64) new ≡ map (from_le_bytes w32) (take (i + 1) records)
wider records i d old new n h is one small more =
    pushed_8 old new n small more
    ∙ ap₂ (λ l x. l ++ x ∷ []) is one
    ∙ sym (map_more (from_le_bytes w32) records i d h)
