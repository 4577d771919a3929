-- The command `made`: the rows and the steps that a number makes, and the line of their answer.
use Rattle.std.specs.Prelude.{ℕ, zero, suc, ◌+◌, ◌-◌, ◌*◌, ◌/◌, ◌%◌, ◌^◌, ◌==◌, List, [], ◌∷◌, ◌++◌}
use Rattle.std.specs.Prelude.{length, map, take, drop, sum, count_by, Bool, true, not, slice_range}
use Rattle.std.specs.Prelude.{slice_set, codes, decimal}
use Rattle.std.specs.Int.{w32, w64, to_le_bytes, from_le_bytes}
use Rattle.vx_types.specs.TypeTree.{primitive_kind, primitive_type}
use Rattle.vx_types.specs.RowValue.{RowValue, bytes, is_null}
use Rattle.vx_types.specs.declared.nullability.Nullability.TheVariants.{NonNullable}
use Rattle.vx_types.specs.declared.ptype.PType.TheVariants.{U32, I64}
use Rattle.vx_bits.specs.BitBuffer.{true_count_of}
use Rattle.vx_model.specs.Valid.{by_column}
use Rattle.vx_model.specs.Bool.{bits_column}
use Rattle.vx_model.specs.Records.{RecordParts, records_column}
use Rattle.vx_pieces.specs.Indices.{by_column as index_column}
use Rattle.vx_steps.specs.Step.{StepValue, slice_step, filter_step, take_step}
use Rattle.vx_steps.specs.Answer.{Answer, answer_of}

-- the generator's state after one draw more
abbrev pub next_state : ℕ → ℕ
next_state x = (x * 6364136223846793005 + 1442695040888963407) % 2 ^ 64

-- so many draws from this state on: each is what the new state begins with
unfoldable pub draws : ℕ → ℕ → List ℕ
draws zero x = []
draws (suc n) x = next_state x / 2 ^ 33 ∷ draws n (next_state x)

-- how many rows a number makes
abbrev pub made_len : ℕ → ℕ
made_len seed = 1000 + seed % 999001

-- a draw for each row, one for each of 20 bits fewer, and 500 for the indices
abbrev pub made_draws : ℕ → List ℕ
made_draws seed = draws (made_len seed + (made_len seed - 20) + 500) seed

-- the rows: each is one draw
abbrev pub drawn_rows : List ℕ → List RowValue
drawn_rows ds = map (λ d. bytes (to_le_bytes w32 d)) ds

-- a bit is set where its draw isn't a multiple of 4, and the first one whatever its draw
abbrev pub drawn_bits : List ℕ → List Bool
drawn_bits ds = slice_set (map (λ d. not (d % 4 == 0)) ds) 0 true

-- an index is null where its draw is a multiple of 10, else the rest of the draw picks one of the
-- rows that are kept
abbrev pub drawn_indices : ℕ → List ℕ → RecordParts
drawn_indices kept ds =
    record {
      kind = primitive_kind I64;
      width = 8;
      records = map (λ d. to_le_bytes w64 (d / 10 % kept)) ds;
      valid = by_column (bits_column (map (λ d. not (d % 10 == 0)) ds) 0);
    }

-- a slice that leaves out ten rows at each end, a filter, and a take from what is kept
abbrev pub drawn_steps : ℕ → List Bool → List ℕ → List StepValue
drawn_steps n bits ds =
    slice_step 10 (n - 10) ∷ filter_step bits
    ∷ take_step (index_column (records_column (drawn_indices (true_count_of bits) ds))) ∷ []

-- of these draws: the first n are the rows, the next n - 20 the bits, and the others the indices
abbrev pub drawn_answer : ℕ → List ℕ → Answer
drawn_answer n ds =
    answer_of (primitive_type U32 NonNullable) (drawn_rows (take n ds))
    (drawn_steps n (drawn_bits (slice_range ds n (n + (n - 20)))) (drop (n + (n - 20)) ds))

unfoldable pub made_answer : ℕ → Answer
made_answer seed = drawn_answer (made_len seed) (made_draws seed)

-- the number in a row, 0 at a null
abbrev pub number_or_zero : RowValue → ℕ
number_or_zero (bytes b) = from_le_bytes w32 b
number_or_zero x = 0

-- the line: the number, how many rows there are, how many are null, and the sum of the others
abbrev pub made_text : ℕ → List RowValue → List ℕ
made_text seed rows =
    codes "made " ++ decimal seed ++ codes " rows " ++ decimal (length rows)
    ++ codes " nulls " ++ decimal (count_by is_null rows)
    ++ codes " sum " ++ decimal (sum (map number_or_zero rows)) ++ codes "\n"
