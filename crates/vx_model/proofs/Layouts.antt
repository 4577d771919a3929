-- The rows of each layout that stores them in their places.
use Rattle.std.proofs.Common.{◌≡◌, ℕ, ◌<◌, Bool, true, false, [], map, length, get_or, Option, None, Some, refl, ap, ◌∙◌, arith}
use Rattle.std.specs.Prelude.{if◌then◌else◌}
use Rattle.std.proofs.lemmas.Bool.Decides.{nat_tests}
use Rattle.std.proofs.lemmas.List.{length-map, get_or-map, length-replicate, get_or-replicate}
use Rattle.vx_types.specs.TypeTree.{TypeKind, primitive_kind, decimal_kind, is_primitive_kind, is_decimal_kind, kind_width}
use Rattle.vx_types.specs.declared.error.ColumnError.TheVariants.{WrongWidth, BadValidity}
use Rattle.vx_types.specs.RowValue.{RowValue, null, bit, bytes}
use Rattle.vx_types.specs.Nullability.{is_nullable}
use Rattle.vx_types.specs.declared.layout_name.LayoutName.TheVariants as layouts
use Rattle.vx_model.specs.Valid.{Valid, non_nullable, all_valid, all_invalid, by_column, is_fitting, is_present, nullability_by, stored_rows}
use Rattle.vx_model.specs.Plain.{is_null_layout, is_row_layout}
use Rattle.vx_model.specs.Null.{null_column}
use Rattle.vx_model.specs.Bool.{BoolParts, stored_bits, bool_fault, bool_column}
use Rattle.vx_model.specs.Records.{RecordParts, stored_records, is_width_of_kind, record_layout, records_fault, records_column}
use Rattle.vx_model.proofs.ShownRows.{shown_rows-all}
use Rattle.vx_model.proofs.StoredRows.{length-stored_rows, get_or-stored_rows}

fits : (v : Valid) (m n : ℕ) → m ≡ n → is_fitting v n ≡ true → is_fitting v m ≡ true
fits v m n e h = ap (is_fitting v) e ∙ h

-- the validity fits the rows
pub is_fitting-bool : (p : BoolParts) → bool_fault p ≡ None → is_fitting p.valid (length p.bits.bits) ≡ true
is_fitting-bool p h = grind arith

pub is_fitting-records : (p : RecordParts) → records_fault p ≡ None → is_fitting p.valid (length p.records) ≡ true
is_fitting-records p h = grind arith

-- each kind has its layout
pub layout-primitive : (k : TypeKind) → is_primitive_kind k ≡ true → layouts.Primitive ≡ record_layout k
layout-primitive (primitive_kind p) h = refl
layout-primitive k h = cc

pub layout-decimal : (k : TypeKind) → is_decimal_kind k ≡ true → layouts.Decimal ≡ record_layout k
layout-decimal (decimal_kind p s w) h = refl
layout-decimal k h = cc

pub ruleset layout_names = (layout-primitive, layout-decimal)

-- they stand in a layout that stores records
pub null_layout-records : (k : TypeKind) → is_null_layout (record_layout k) ≡ false
null_layout-records (primitive_kind p) = refl
null_layout-records k = refl

pub row_layout-records : (k : TypeKind) → is_row_layout (record_layout k) ≡ true
row_layout-records (primitive_kind p) = refl
row_layout-records k = refl

-- the records are as wide as the kind
pub fault_width : (p : RecordParts) → records_fault p ≡ None → is_width_of_kind (kind_width p.kind) p.width ≡ true
fault_width p h = first (is_width_of_kind (kind_width p.kind) p.width) (is_fitting p.valid (length p.records)) h
  where
    first : (a b : Bool) → (if a then (if b then None else Some BadValidity) else Some WrongWidth) ≡ None → a ≡ true
    first true b h = refl
    first false b h = cc

pub width-records : (p : RecordParts) → records_fault p ≡ None → kind_width p.kind ≡ Some p.width
width-records p h = width_by (kind_width p.kind) p.width (fault_width p h)
  where
    width_by : (k : Option ℕ) (w : ℕ) → is_width_of_kind k w ≡ true → k ≡ Some w
    width_by None w h = cc
    width_by (Some k) w h = let same : k ≡ w = grind (arith, nat_tests) in ap (λ n. Some n) same

-- there are as many rows as bits or records
pub length-null : (n : ℕ) → length (null_column n).rows ≡ n
length-null n = length-replicate n null

pub length-bool : (p : BoolParts) → bool_fault p ≡ None → length (bool_column p).rows ≡ length p.bits.bits
length-bool p h =
    let long = length-map p.bits.bits bit in
    length-stored_rows p.valid (map bit p.bits.bits) (fits p.valid _ _ long (is_fitting-bool p h)) ∙ long

pub length-records : (p : RecordParts) → records_fault p ≡ None → length (records_column p).rows ≡ length p.records
length-records p h =
    let long = length-map p.records bytes in
    length-stored_rows p.valid (map bytes p.records) (fits p.valid _ _ long (is_fitting-records p h)) ∙ long

-- row i
pub row-null : (n i : ℕ) → i < n → get_or (null_column n).rows i null ≡ null
row-null n i l = get_or-replicate n i null null l

pub row-bool : (p : BoolParts) (i : ℕ) → bool_fault p ≡ None → i < length p.bits.bits → get_or (bool_column p).rows i null ≡ (if is_present p.valid i then bit (get_or p.bits.bits i false) else null)
row-bool p i h l =
    let long = length-map p.bits.bits bit in
    get_or-stored_rows p.valid (map bit p.bits.bits) i (fits p.valid _ _ long (is_fitting-bool p h)) (omega (arith, long))
    ∙ ap (λ (x : RowValue). if is_present p.valid i then x else null) (get_or-map bit p.bits.bits i false null l)

pub row-records : (p : RecordParts) (i : ℕ) → records_fault p ≡ None → i < length p.records → get_or (records_column p).rows i null ≡ (if is_present p.valid i then bytes (get_or p.records i []) else null)
row-records p i h l =
    let long = length-map p.records bytes in
    get_or-stored_rows p.valid (map bytes p.records) i (fits p.valid _ _ long (is_fitting-records p h)) (omega (arith, long))
    ∙ ap (λ (x : RowValue). if is_present p.valid i then x else null) (get_or-map bytes p.records i [] null l)

-- a row is absent only where the type is nullable
pub absent_nullable : (v : Valid) (i : ℕ) → is_present v i ≡ false → is_nullable (nullability_by v) ≡ true
absent_nullable non_nullable i h = cc
absent_nullable all_valid i h = refl
absent_nullable all_invalid i h = refl
absent_nullable (by_column c) i h = refl

-- what a proof about the length or about one row needs
pub ruleset layout_rows = (length-null, length-bool, length-records, row-null, row-bool, row-records, width-records, absent_nullable)

-- where no row is null, the rows are the records
pub rows-records-non_nullable : (p : RecordParts) → p.valid ≡ non_nullable → (records_column p).rows ≡ map bytes p.records
rows-records-non_nullable p h = ap (λ v. stored_rows v (map bytes p.records)) h ∙ shown_rows-all _ (map bytes p.records) refl

pub rows-records-all_valid : (p : RecordParts) → p.valid ≡ all_valid → (records_column p).rows ≡ map bytes p.records
rows-records-all_valid p h = ap (λ v. stored_rows v (map bytes p.records)) h ∙ shown_rows-all _ (map bytes p.records) refl

-- what a proof about the records of columns with no null needs
pub ruleset present_rows = (rows-records-non_nullable, rows-records-all_valid, width-records)

-- there is an item for each bit or record, and the validity fits them
pub items-bits : (p : BoolParts) → length (stored_bits p).items ≡ length p.bits.bits
items-bits p = length-map p.bits.bits bit

pub items-records : (p : RecordParts) → length (stored_records p).items ≡ length p.records
items-records p = length-map p.records bytes

pub fits-bits : (p : BoolParts) → bool_fault p ≡ None → is_fitting p.valid (length (stored_bits p).items) ≡ true
fits-bits p h = fits p.valid _ _ (items-bits p) (is_fitting-bool p h)

pub fits-records : (p : RecordParts) → records_fault p ≡ None → is_fitting p.valid (length (stored_records p).items) ≡ true
fits-records p h = fits p.valid _ _ (items-records p) (is_fitting-records p h)

pub ruleset stored_items = (items-bits, items-records, fits-bits, fits-records)

-- what a proof about the validity needs
pub ruleset layout_fits = (is_fitting-bool, is_fitting-records)
