-- Numbers that are offsets.
use Rattle.std.proofs.Common.{◌≡◌, ℕ, ◌+◌, ◌<◌, ◌≤◌, true, List, [], ◌∷◌, length, get_or, map, refl, sym, ap, ap₂, subst, ◌∙◌, arith, to_z}
use Rattle.std.specs.Int.{w8, w16, w32, w64, from_le_bytes, to_le_bytes}
use Rattle.std.specs.List.{All}
use Rattle.std.specs.Prelude.{◌^◌, ℤ, pos, negsuc, int_le}
use Rattle.std.proofs.lemmas.Int.{ints, to_z_pos}
use Rattle.std.proofs.lemmas.Nat.{from_le_bytes-to_le_bytes_2, from_le_bytes-to_le_bytes_4, from_le_bytes-to_le_bytes_8}
use Rattle.std.proofs.lemmas.List.Elements.{All-tail}
use Rattle.std.proofs.Math.Nat.{mod-eq_of_lt}
use Rattle.std.proofs.Math.Facts.{sfits_to_z}
use lib.Signed.{mag}
use Rattle.std.proofs.lemmas.List.{get_or_default, length-map}
use Rattle.vx_types.specs.PType.{greatest, is_int, number}
use Rattle.vx_types.specs.TypeTree.{primitive_kind}
use Rattle.vx_types.specs.declared.ptype.PType.{PType}
use Rattle.vx_types.specs.declared.ptype.PType.TheVariants.{U8, U16, U32, U64, I8, I16, I32, I64, F16, F32, F64}
use Rattle.vx_offsets.specs.Offsets.{are_offsets, offset_positions}
use Rattle.vx_positions.specs.Positions.{position_of}
use Rattle.vx_offsets.proofs.Ascending.{offset_ascends, offset_within}
use Rattle.vx_model.specs.Numbers.{integer_by}
use Rattle.vx_lists.specs.Numbers.{AreInType, record_by}
use Rattle.vx_lists.specs.Lists.{AreOffsets, last_offset, row_count}
use Rattle.vx_lemmas.proofs.Numbers.{int_le-true, le-int_le}

some_offset : (n : ℕ) (zs : List ℤ) → are_offsets zs n ≡ true → 0 < length zs
some_offset n [] h = cc
some_offset n (z ∷ zs) h = omega arith

pub offsets_read : (n : ℕ) (zs : List ℤ) (offsets : List ℕ) → are_offsets zs n ≡ true → offsets ≡ offset_positions zs → AreOffsets offsets
offsets_read n zs offsets h e = subst AreOffsets (sym e) record {
  some = omega (arith, some_offset n zs h, length-map zs position_of);
  ascend = λ i d k. at i d (omega (arith, k, length-map zs position_of)) (omega (arith, k));
}
  where
    at : (i d : ℕ) → i + 1 < length zs → i + 1 < length (offset_positions zs) → get_or (offset_positions zs) i d ≤ get_or (offset_positions zs) (i + 1) d
    at i d k l = omega (arith, get_or_default (offset_positions zs) i d 0 (omega arith), get_or_default (offset_positions zs) (i + 1) d 0 l, offset_ascends n zs i h k)

pub offsets_read_within : (n : ℕ) (zs : List ℤ) (offsets : List ℕ) → are_offsets zs n ≡ true → offsets ≡ offset_positions zs → last_offset offsets ≤ n
offsets_read_within n zs offsets h e =
    let some = some_offset n zs h in
    let long = length-map zs position_of in
    subst (λ (l : List ℕ). last_offset l ≤ n) (sym e) (offset_within n zs (row_count (offset_positions zs)) h (omega (arith, some, long)))

-- numbers up to the greatest of a type are below a limit
pub below_limit : (top limit : ℕ) (numbers : List ℕ) → top < limit → All (λ n. int_le (pos n) (pos top) ≡ true) numbers → All (λ n. n < limit) numbers
below_limit top limit numbers h all k d l = less (get_or numbers k d) (all k d l)
  where
    less : (n : ℕ) → int_le (pos n) (pos top) ≡ true → n < limit
    less n e = grind (arith, ints)

-- ---- numbers that are written

-- a byte by itself
one_byte : (n : ℕ) → n < 256 → from_le_bytes w8 (to_le_bytes w8 n) ≡ n
one_byte n h = mod-eq_of_lt h

-- a written number reads back
pub reads_back : (p : PType) (n : ℕ) → is_int p ≡ true → int_le (pos n) (greatest p) ≡ true → number p (record_by p n) ≡ pos n
reads_back U8 n i h = let s = int_le-true n 255 h in ap pos (one_byte n (omega arith))
reads_back U16 n i h = let s = int_le-true n 65535 h in ap pos (from_le_bytes-to_le_bytes_2 n (omega arith))
reads_back U32 n i h = let s = int_le-true n 4294967295 h in ap pos (from_le_bytes-to_le_bytes_4 n (omega arith))
reads_back U64 n i h = let s = int_le-true n 18446744073709551615 h in ap pos (from_le_bytes-to_le_bytes_8 n (omega arith))
reads_back I8 n i h = let s = int_le-true n 127 h in ap (to_z w8) (one_byte n (omega arith)) ∙ to_z_pos w8 n (omega arith)
reads_back I16 n i h = let s = int_le-true n 32767 h in ap (to_z w16) (from_le_bytes-to_le_bytes_2 n (omega arith)) ∙ to_z_pos w16 n (omega arith)
reads_back I32 n i h = let s = int_le-true n 2147483647 h in ap (to_z w32) (from_le_bytes-to_le_bytes_4 n (omega arith)) ∙ to_z_pos w32 n (omega arith)
reads_back I64 n i h = let s = int_le-true n 9223372036854775807 h in ap (to_z w64) (from_le_bytes-to_le_bytes_8 n (omega arith)) ∙ to_z_pos w64 n (omega arith)
reads_back F16 n i h = cc
reads_back F32 n i h = cc
reads_back F64 n i h = cc

pub read_all_back : (p : PType) (numbers : List ℕ) → is_int p ≡ true → AreInType p numbers → map (integer_by (primitive_kind p)) (map (record_by p) numbers) ≡ map pos numbers
read_all_back p [] i h = refl
read_all_back p (n ∷ numbers) i h = ap₂ ◌∷◌ (reads_back p n i (h 0 0 (omega arith))) (read_all_back p numbers i (All-tail (λ (k : ℕ). int_le (pos k) (greatest p) ≡ true) n numbers h))

-- ---- what bytes spell is at most the greatest number of their type

four_bytes : (bs : List ℕ) → ((i : ℕ) → get_or bs i 0 < 256) → from_le_bytes w32 bs < 2 ^ 32
four_bytes bs h = let a = h 0 in let b = h 1 in let c = h 2 in let d = h 3 in omega arith

two_bytes : (bs : List ℕ) → ((i : ℕ) → get_or bs i 0 < 256) → from_le_bytes w16 bs < 2 ^ 16
two_bytes bs h = let a = h 0 in let b = h 1 in omega arith

eight_bytes : (bs : List ℕ) → ((i : ℕ) → get_or bs i 0 < 256) → from_le_bytes w64 bs < 2 ^ 64
eight_bytes bs h =
    let a = h 0 in let b = h 1 in let c = h 2 in let d = h 3 in
    let e = h 4 in let f = h 5 in let g = h 6 in let i = h 7 in omega arith

signed_most : (z : ℤ) (top : ℕ) → mag z < top + 1 → int_le z (pos top) ≡ true
signed_most (pos n) top h = le-int_le n top (omega arith)
signed_most (negsuc n) top h = refl

pub in_type : (p : PType) (bs : List ℕ) → is_int p ≡ true → ((i : ℕ) → get_or bs i 0 < 256) → int_le (number p bs) (greatest p) ≡ true
in_type U8 bs i h = let a = h 0 in le-int_le (from_le_bytes w8 bs) 255 (omega arith)
in_type U16 bs i h = let a = two_bytes bs h in le-int_le (from_le_bytes w16 bs) 65535 (omega arith)
in_type U32 bs i h = let a = four_bytes bs h in le-int_le (from_le_bytes w32 bs) 4294967295 (omega arith)
in_type U64 bs i h = let a = eight_bytes bs h in le-int_le (from_le_bytes w64 bs) 18446744073709551615 (omega arith)
in_type I8 bs i h = let a = h 0 in signed_most (to_z w8 (from_le_bytes w8 bs)) 127 (sfits_to_z {w = w8} {n = from_le_bytes w8 bs} (record { fits = omega arith })).sfits
in_type I16 bs i h = let a = two_bytes bs h in signed_most (to_z w16 (from_le_bytes w16 bs)) 32767 (sfits_to_z {w = w16} {n = from_le_bytes w16 bs} (record { fits = omega arith })).sfits
in_type I32 bs i h = let a = four_bytes bs h in signed_most (to_z w32 (from_le_bytes w32 bs)) 2147483647 (sfits_to_z {w = w32} {n = from_le_bytes w32 bs} (record { fits = omega arith })).sfits
in_type I64 bs i h = let a = eight_bytes bs h in signed_most (to_z w64 (from_le_bytes w64 bs)) 9223372036854775807 (sfits_to_z {w = w64} {n = from_le_bytes w64 bs} (record { fits = omega arith })).sfits
in_type F16 bs i h = cc
in_type F32 bs i h = cc
in_type F64 bs i h = cc
