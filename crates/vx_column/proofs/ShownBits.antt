-- Rows of which some are null, by stored bits.
use Rattle.std.specs.Prelude.{◌&&◌}
use Rattle.std.proofs.Common.{◌≡◌, ℕ, Bool, true, false, List, map, length, None, refl, sym, ap, ◌∙◌}
use Rattle.std.proofs.lemmas.List.{length-map}
use Rattle.vx_types.specs.RowValue.{bytes}
use Rattle.vx_model.specs.Valid.{Valid, by_column, is_fitting, is_non_null_bool, present_bits, shown_rows}
use Rattle.vx_model.specs.Bool.{BoolParts, bool_column}
use Rattle.vx_model.specs.Records.{RecordParts, records_fault, records_column}
use Rattle.vx_model.proofs.ShownRows.{length-present_bits}
use Rattle.vx_model.proofs.Takes.{yes-bool}
use Rattle.vx_model.proofs.Layouts.{is_fitting-records, width-records}

-- a validity by a column of layout `Bool` that fits shows its bits
pub present-bools : (v : Valid) (p : BoolParts) (n : ℕ) → v ≡ by_column (bool_column p) → is_fitting v n ≡ true → present_bits v n ≡ p.bits.bits
present-bools v p n e h =
    let typed : is_non_null_bool (bool_column p).dtype ≡ true = first _ _ (ap (λ w. is_fitting w n) (sym e) ∙ h) in
    ap (λ w. present_bits w n) e ∙ yes-bool p typed
  where
    first : (a b : Bool) → (a && b) ≡ true → a ≡ true
    first true b h = refl
    first false b h = cc

-- the rows by those bits
pub rows-records-shown : (p : RecordParts) (bits : List Bool) → records_fault p ≡ None → ((n : ℕ) → is_fitting p.valid n ≡ true → present_bits p.valid n ≡ bits) → (records_column p).rows ≡ shown_rows bits (map bytes p.records)
rows-records-shown p bits f h =
    let long : length (map bytes p.records) ≡ length p.records = length-map p.records bytes in
    ap (λ b. shown_rows b (map bytes p.records)) (h _ (ap (is_fitting p.valid) long ∙ is_fitting-records p f))

-- there are as many of them as records
pub length-records-shown : (p : RecordParts) (bits : List Bool) → records_fault p ≡ None → ((n : ℕ) → is_fitting p.valid n ≡ true → present_bits p.valid n ≡ bits) → length bits ≡ length p.records
length-records-shown p bits f h =
    let fit = is_fitting-records p f in
    ap length (sym (h (length p.records) fit)) ∙ length-present_bits p.valid (length p.records) fit

pub ruleset shown = (present-bools, rows-records-shown, length-records-shown, width-records)
