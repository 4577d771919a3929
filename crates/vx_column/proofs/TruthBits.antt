-- Which rows of layout `Bool` are true.
use Rattle.std.proofs.Common.{◌≡◌, ℕ, zero, suc, ◌≤◌, Bool, true, false, List, [], ◌∷◌, length, map, get_or, replicate, refl, ap, ◌∙◌, arith}
use Rattle.std.specs.Prelude.{◌&&◌, if◌then◌else◌}
use Rattle.std.proofs.lemmas.List.{length-map}
use Rattle.vx_types.specs.RowValue.{bit, null}
use Rattle.vx_model.specs.Column.{Column, by_bools, by_other}
use Rattle.vx_model.specs.Valid.{non_nullable, all_invalid, all_valid, by_column, cover_by, is_bool_layout, is_constant_form, is_yes, present_bits, shown_rows, stored_rows}
use Rattle.vx_model.specs.Bool.{BoolParts, bool_column}
use Rattle.vx_model.proofs.ShownRows.{none_shown, shown_rows-all}
use Rattle.vx_column.specs.Truth.{is_plain_bools, true_bits}

-- ---- bits that are set in both of two lists

abbrev pub both : List Bool → List Bool → List Bool
both [] ys = []
both (a ∷ xs) [] = []
both (a ∷ xs) (b ∷ ys) = (a && b) ∷ both xs ys

both-all : (n : ℕ) (bits : List Bool) → length bits ≤ n → both (replicate n true) bits ≡ bits
both-all zero [] h = refl
both-all zero (b ∷ bits) h = absurd (omega arith)
both-all (suc n) [] h = refl
both-all (suc n) (b ∷ bits) h = ap (λ l. b ∷ l) (both-all n bits (omega arith))

-- ---- layout `Bool`

yes-shown : (there bits : List Bool) → map is_yes (shown_rows there (map bit bits)) ≡ both there bits
yes-shown [] bits = refl
yes-shown (t ∷ there) [] = refl
yes-shown (true ∷ there) (b ∷ bits) = ap (λ l. b ∷ l) (yes-shown there bits)
yes-shown (false ∷ there) (b ∷ bits) = ap (λ l. false ∷ l) (yes-shown there bits)

pub true-bool : (p : BoolParts) → true_bits (bool_column p) ≡ both (present_bits p.valid (length (map bit p.bits.bits))) p.bits.bits
true-bool p = yes-shown (present_bits p.valid (length (map bit p.bits.bits))) p.bits.bits

all-there : (bits : List Bool) → both (replicate (length (map bit bits)) true) bits ≡ bits
all-there bits = both-all (length (map bit bits)) bits (omega (arith, length-map bits bit))

pub true-non_nullable : (p : BoolParts) → p.valid ≡ non_nullable → true_bits (bool_column p) ≡ p.bits.bits
true-non_nullable p e = true-bool p ∙ ap (λ v. both (present_bits v (length (map bit p.bits.bits))) p.bits.bits) e ∙ all-there p.bits.bits

pub true-all_valid : (p : BoolParts) → p.valid ≡ all_valid → true_bits (bool_column p) ≡ p.bits.bits
true-all_valid p e = true-bool p ∙ ap (λ v. both (present_bits v (length (map bit p.bits.bits))) p.bits.bits) e ∙ all-there p.bits.bits

-- its rows are its bits
pub rows-non_nullable : (p : BoolParts) → p.valid ≡ non_nullable → (bool_column p).rows ≡ map bit p.bits.bits
rows-non_nullable p e = ap (λ v. stored_rows v (map bit p.bits.bits)) e ∙ shown_rows-all _ (map bit p.bits.bits) refl

pub rows-all_valid : (p : BoolParts) → p.valid ≡ all_valid → (bool_column p).rows ≡ map bit p.bits.bits
rows-all_valid p e = ap (λ v. stored_rows v (map bit p.bits.bits)) e ∙ shown_rows-all _ (map bit p.bits.bits) refl

-- an array isn't one answer for all rows, and where the one answer is no, each row is null
array_form : (b : Bool) → is_constant_form (if b then by_bools else by_other) ≡ false
array_form true = refl
array_form false = refl

pub plain-array : (p : BoolParts) (c : Column) → p.valid ≡ by_column c → is_plain_bools (bool_column p) ≡ false
plain-array p c e = ap (λ v. is_constant_form (cover_by v)) e ∙ array_form (is_bool_layout c.layout)

null_at : (n i : ℕ) → get_or (replicate n null) i null ≡ null
null_at zero i = refl
null_at (suc n) zero = refl
null_at (suc n) (suc i) = null_at n i

pub null-all_invalid : (p : BoolParts) (i : ℕ) → p.valid ≡ all_invalid → get_or (bool_column p).rows i null ≡ null
null-all_invalid p i e =
    let items = map bit p.bits.bits in
    ap (λ v. get_or (stored_rows v items) i null) e
    ∙ ap (λ l. get_or l i null) (none_shown _ items refl)
    ∙ null_at (length items) i

pub ruleset truth = (true-non_nullable, true-all_valid, rows-non_nullable, rows-all_valid)

-- what a proof about bits with one answer for all rows needs
pub ruleset plain = (plain-array, null-all_invalid)
