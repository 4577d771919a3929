-- What calls return.
use Rattle.std.specs.Prelude.{ℕ, Option, Some, None, Result, Ok, Err}
use Rattle.vx_chunk_plan.specs.declared.fault.Fault.{Fault}
use Rattle.vx_chunk_plan.specs.declared.fault.Fault.TheVariants as faults
use Rattle.vortex_chunks_c.specs.declared.answer.Answer.{Answer}

abbrev pub fault_status : Fault → ℕ
fault_status faults.Width = 1
fault_status faults.ChunkLen = 2
fault_status faults.Starts = 3
fault_status faults.Order = 4
fault_status faults.Valid = 5
fault_status (faults.Place j) = 6
fault_status faults.Chunk = 7
fault_status faults.Bytes = 8
fault_status faults.Output = 9
fault_status (faults.Stray i) = 10

-- the number of the pick, or of the entry, that a fault tells
abbrev pub fault_value : Fault → ℕ
fault_value faults.Width = 0
fault_value faults.ChunkLen = 0
fault_value faults.Starts = 0
fault_value faults.Order = 0
fault_value faults.Valid = 0
fault_value (faults.Place j) = j
fault_value faults.Chunk = 0
fault_value faults.Bytes = 0
fault_value faults.Output = 0
fault_value (faults.Stray i) = i

abbrev pub fault_answer : Fault → Answer
fault_answer fault = record { status = fault_status fault; value = fault_value fault }

abbrev pub call_answer : Result ℕ Fault → Answer
call_answer (Ok n) = record { status = 0; value = n }
call_answer (Err fault) = fault_answer fault

abbrev pub unit_answer : Result Unit Fault → Answer
unit_answer (Ok u) = record { status = 0; value = 0 }
unit_answer (Err fault) = fault_answer fault

-- what a call returns whose rule that is broken first is known, and its count where none is
abbrev pub checked_answer : Option Fault → ℕ → Answer
checked_answer (Some fault) n = fault_answer fault
checked_answer None n = record { status = 0; value = n }
