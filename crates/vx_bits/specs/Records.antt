-- What clauses see of `Records`.
use Rattle.std.specs.Prelude.{ℕ, List}
use Rattle.vx_bits.specs.declared.records.Records.{Records}
use Rattle.vx_bits.specs.declared.records.Records.TheVariants.{W1, W2, W4, W8, W16, W32}

-- the records, each as the list of its bytes
abbrev pub records_of : Records → List (List ℕ)
records_of (W1 buffer) = buffer
records_of (W2 buffer) = buffer
records_of (W4 buffer) = buffer
records_of (W8 buffer) = buffer
records_of (W16 buffer) = buffer
records_of (W32 buffer) = buffer

-- how many bytes a record has
abbrev pub width_of : Records → ℕ
width_of (W1 buffer) = 1
width_of (W2 buffer) = 2
width_of (W4 buffer) = 4
width_of (W8 buffer) = 8
width_of (W16 buffer) = 16
width_of (W32 buffer) = 32
