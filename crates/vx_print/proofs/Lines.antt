-- Rows that are stored as records.
use Rattle.std.proofs.Common.{◌≡◌, ℕ, ◌-◌, ◌*◌, ◌^◌, ◌<◌, Bool, true, false, List, [], ◌∷◌, ◌++◌, map, length, take, drop, get_or, slice_range, min, Option, Some, None, refl, sym, ap, ap₂, ◌∙◌, length-drop, arith}
use Rattle.std.specs.Prelude.{if◌then◌else◌, codes, replicate}
use Rattle.std.proofs.lemmas.List.{length-map, get_or-map, length-take-le, take-map, drop-map, take-take, take_all}
use Rattle.vx_bits.specs.Records.{records_of}
use Rattle.vx_bits.specs.Words.{word_at, word_bits}
use Rattle.vx_bits.specs.declared.records.Records.{Records}
use Rattle.vx_bits.proofs.WordBits.{ones-word_bits}
use Rattle.vx_bits.proofs.WordLists.{length-bits_in, word_bits_in}
use Rattle.vx_types.specs.RowValue.{RowValue, null, bit, bytes}
use Rattle.vx_types.specs.TypeTree.{TypeKind}
use Rattle.vx_model.specs.Column.{Column}
use Rattle.vx_model.specs.Valid.{shown_rows}
use Rattle.vx_model.proofs.ShownRows.{length-shown_rows, get_or-shown_rows, take-shown_rows, drop-shown_rows, shown_rows-all}
use Rattle.vx_column.specs.Plain.{AreRowsOf}
use Rattle.vx_print.specs.Records.{record_rows, block_word, IsLong}
use Rattle.vx_print.specs.Text.{bit_text, bytes_text, comma_list, line, lines, row_text, row_text_as, row_text_by}

-- there are as many rows as records
pub length-record_rows : (bits : Option (List Bool)) (rs : List (List ℕ)) → IsLong bits (length rs) → length (record_rows bits rs) ≡ length rs
length-record_rows None rs h = length-map rs bytes
length-record_rows (Some bits) rs h = length-shown_rows bits (map bytes rs) (h ∙ sym (length-map rs bytes)) ∙ length-map rs bytes

-- row i, of which the bit says whether it is valid
pub get_or-record_rows : (bits : List Bool) (rs : List (List ℕ)) (i : ℕ) (r : List ℕ) → length bits ≡ length rs → i < length rs → r ≡ get_or rs i r → (if get_or bits i false then bytes r else null) ≡ get_or (record_rows (Some bits) rs) i null
get_or-record_rows bits rs i r h l is =
    let long = length-map rs bytes in
    ap (λ (x : List ℕ). if get_or bits i false then bytes x else null) is
    ∙ ap (λ (x : RowValue). if get_or bits i false then x else null) (sym (get_or-map bytes rs i r null l))
    ∙ sym (get_or-shown_rows bits (map bytes rs) i (h ∙ sym long) (omega (arith, long)))

part-map : (rs : List (List ℕ)) (m n : ℕ) → take n (drop m (map bytes rs)) ≡ map bytes (take n (drop m rs))
part-map rs m n = ap (take n) (drop-map bytes m rs) ∙ take-map bytes n (drop m rs)

-- the rows of a block are those of its records by its word
pub block_rows : (bits : Option (List Bool)) (rs : List (List ℕ)) (k n : ℕ) → IsLong bits (length rs) → n ≡ min (length rs - 64 * k) 64 → record_rows (Some (word_bits (block_word bits k) n)) (take n (drop (64 * k) rs)) ≡ take n (drop (64 * k) (record_rows bits rs))
block_rows None rs k n h e =
    let part = take n (drop (64 * k) rs) in
    let long : length part ≡ n = length-take-le n (drop (64 * k) rs) (omega (arith, length-drop (64 * k) rs)) in
    let all : word_bits (2 ^ 64 - 1) n ≡ replicate n true = ones-word_bits n 64 (omega arith) in
    ap (λ b. shown_rows b (map bytes part)) all
    ∙ shown_rows-all n (map bytes part) (length-map part bytes ∙ long)
    ∙ sym (part-map rs (64 * k) n)
block_rows (Some bits) rs k n h e =
    let cut = take 64 (drop (64 * k) bits) in
    let long : n ≡ length cut = omega (arith, length-bits_in bits k, h) in
    let same : word_bits (word_at bits k) n ≡ take n (drop (64 * k) bits) =
    word_bits_in bits k n long ∙ sym (take_all n cut (omega arith)) ∙ take-take n 64 (drop (64 * k) bits) (omega arith) in
    ap₂ shown_rows same (sym (part-map rs (64 * k) n))
    ∙ sym (take-shown_rows n (drop (64 * k) bits) (drop (64 * k) (map bytes rs)))
    ∙ sym (ap (take n) (drop-shown_rows (64 * k) bits (map bytes rs)))

-- elements that are records
elements-bytes : (k : TypeKind) (rs : List (List ℕ)) → map (bytes_text k) rs ≡ map (row_text_as k) (map bytes rs)
elements-bytes k [] = refl
elements-bytes k (r ∷ rs) = ap (λ l. bytes_text k r ∷ l) (elements-bytes k rs)

pub record_elements : (c : Column) (r : Records) (s e : ℕ) → AreRowsOf c r → comma_list (map (bytes_text c.dtype.kind) (slice_range (records_of r) s e)) ≡ comma_list (map (row_text c.dtype) (slice_range c.rows s e))
record_elements c r s e are =
    let rs = records_of r in
    ap comma_list (elements-bytes c.dtype.kind (slice_range rs s e)
    ∙ ap (map (row_text c.dtype)) (sym (part-map rs s (e - s)) ∙ ap (λ l. slice_range l s e) (sym are.rows)))

-- as many as rows
pub elements_long : (c : Column) (r : Records) → AreRowsOf c r → length (records_of r) ≡ length c.rows
elements_long c r are = sym (ap length are.rows ∙ length-map (records_of r) bytes)

pub ruleset elements = (record_elements, elements_long)

-- no record holds other rows
lines-bytes : (k : TypeKind) (rs : List (List ℕ)) → lines (row_text_by (bytes_text k)) (map bytes rs) ≡ lines (row_text_as k) (map bytes rs)
lines-bytes k [] = refl
lines-bytes k (r ∷ rs) = ap (λ l. line (bytes_text k r) ++ l) (lines-bytes k rs)

lines-shown : (k : TypeKind) (bits : List Bool) (rs : List (List ℕ)) → lines (row_text_by (bytes_text k)) (shown_rows bits (map bytes rs)) ≡ lines (row_text_as k) (shown_rows bits (map bytes rs))
lines-shown k [] rs = refl
lines-shown k (b ∷ bits) [] = refl
lines-shown k (true ∷ bits) (r ∷ rs) = ap (λ l. line (bytes_text k r) ++ l) (lines-shown k bits rs)
lines-shown k (false ∷ bits) (r ∷ rs) = ap (λ l. line (codes "null") ++ l) (lines-shown k bits rs)

-- no bit holds other rows
lines-bits : (k : TypeKind) (bits : List Bool) → lines bit_text bits ≡ lines (row_text_as k) (map bit bits)
lines-bits k [] = refl
lines-bits k (b ∷ bits) = ap (λ l. line (bit_text b) ++ l) (lines-bits k bits)

-- rows that are bits
pub bit_lines : (c : Column) (bits : List Bool) → c.rows ≡ map bit bits → lines bit_text bits ≡ lines (row_text c.dtype) c.rows
bit_lines c bits are = lines-bits c.dtype.kind bits ∙ ap (lines (row_text c.dtype)) (sym are)

pub record_lines : (k : TypeKind) (bits : Option (List Bool)) (rs : List (List ℕ)) → lines (row_text_by (bytes_text k)) (record_rows bits rs) ≡ lines (row_text_as k) (record_rows bits rs)
record_lines k None rs = lines-bytes k rs
record_lines k (Some bits) rs = lines-shown k bits rs
