-- Rows that are stored as records, and the text of a record.
use Rattle.std.specs.Prelude.{◌≡◌, ◌≤◌, ℕ, ◌-◌, ◌^◌, List, Bool, true, length, map, Option}
use Rattle.std.specs.Prelude.{Some, None, option_map}
use Rattle.std.specs.Borrow.{Bor}
use Rattle.std.specs.Fmt.{signed_decimal}
use Rattle.vx_bits.specs.BitBuffer.{PlacedBits}
use Rattle.vx_bits.specs.Words.{word_at}
use Rattle.vx_types.specs.PType.{width, is_int, number}
use Rattle.vx_types.specs.RowValue.{RowValue, bytes}
use Rattle.vx_model.specs.Valid.{shown_rows}
use Rattle.vx_quote.specs.Quoted.{hex_text}
use Rattle.vx_print.specs.declared.records.Form.{Form}
use Rattle.vx_print.specs.declared.records.Form.TheVariants.{Number, Hex}

-- the number that it spells in decimal digits, or its bytes in hexadecimal ones
abbrev pub record_text : Form → List ℕ → List ℕ
record_text (Number p) b = signed_decimal (number p b)
record_text Hex b = hex_text b

-- records of this form may have so many bytes
abbrev pub IsWide : Form → ℕ → Type 0
IsWide (Number p) w = (is_int p ≡ true) × (w ≡ width p)
IsWide Hex w = w ≤ 32

-- the bits that are lent, where there are any
abbrev pub bits_in : Option (Bor PlacedBits) → Option (List Bool)
bits_in bits = option_map (λ b. b.now.bits) bits

-- the rows of these records: each, or those whose bit is set, with null in place of each other one
abbrev pub record_rows : Option (List Bool) → List (List ℕ) → List RowValue
record_rows None records = map bytes records
record_rows (Some bits) records = shown_rows bits (map bytes records)

-- the word of the rows of block k that are there, each one where there are no bits
abbrev pub block_word : Option (List Bool) → ℕ → ℕ
block_word None k = 2 ^ 64 - 1
block_word (Some bits) k = word_at bits k

-- there are as many bits as records
abbrev pub IsLong : Option (List Bool) → ℕ → Type 0
IsLong None n = Unit {0}
IsLong (Some bits) n = length bits ≡ n
