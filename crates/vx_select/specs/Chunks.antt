-- Rows behind a decoder, and the calls that lists of steps ask for.
use Rattle.std.specs.Prelude.{◌≡◌, ◌⊎◌, ℕ, Bool, List, [], length, map, take, drop, Option, OnErr, OnOk, Result}
use Rattle.vx_bits.specs.WordReader.{then_told}
use Rattle.vx_types.specs.RowValue.{RowValue, bytes}
use Rattle.vx_model.specs.Valid.{stored_rows}
use Rattle.vx_mask.specs.Positions.{set_of}
use Rattle.vx_chunked.specs.Asked.{asked, asked_by_picks, chunks_touched}
use Rattle.vx_decoder.specs.declared.call.Call.{Call}
use Rattle.vx_steps.specs.Walk.{Walk, walk_fault, walk_picks}
use Rattle.vx_steps.specs.Shape.{ShapeValue}

-- row i is value offset + i, or null where the validity says no
abbrev pub chunk_rows : ShapeValue → List (List ℕ) → List RowValue
chunk_rows s values = stored_rows s.valid (map bytes (take s.len (drop s.offset values)))

-- the values of the rows, also where the validity hides the row
abbrev pub chunk_values : ShapeValue → List (List ℕ) → List (List ℕ)
chunk_values s values = take s.len (drop s.offset values)

-- the calls that the values at set positions ask for
abbrev pub asked_at : ShapeValue → ℕ → List Bool → List Call
asked_at s limit bits = asked s.offset (set_of bits) limit (chunks_touched s.offset (length bits))

-- the calls that picks ask for, also where the validity hides the row
abbrev pub asked_for : ShapeValue → ℕ → List (Option ℕ) → List Call
asked_for s limit picks = asked_by_picks s.offset picks limit (chunks_touched s.offset s.len)

-- the calls that the composed picks ask for, and none where a step is broken
abbrev pub asked_by_walk : ShapeValue → ℕ → Walk → List Call
asked_by_walk s limit (walk_fault k cause) = []
asked_by_walk s limit (walk_picks picks) = asked_for s limit picks

-- there was no call, or just these
abbrev pub AreNoneOrAll : Option (List Call) → Option (List Call) → List Call → Type 0
AreNoneOrAll old new calls = (new ≡ old) ⊎ (new ≡ then_told old calls)

-- an Ok tells just these calls, and an Err none or just these
abbrev pub IsTold : {T E : Type 0} → Result T E → Option (List Call) → Option (List Call)
    → List Call → Type 0
IsTold result old new calls =
    OnOk result (new ≡ then_told old calls) × OnErr result (AreNoneOrAll old new calls)
