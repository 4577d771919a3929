-- What the program makes of the bytes that it reads.
use Rattle.std.specs.Prelude.{◌≡◌, ℕ, Bool, List, [], ◌∷◌, ◌++◌, drop, length, unwrap_or, nat_lt}
use Rattle.std.specs.Prelude.{if◌then◌else◌, Option, Some, None, option_map, IfSome}
use Rattle.std.specs.Str.{is_utf8}
use Rattle.serde_json.specs.Data.{Data}
use Rattle.serde_json.specs.Read.{read}
use Rattle.vx_types.specs.RowValue.{RowValue}
use Rattle.vx_types.specs.PType.{width}
use Rattle.vx_types.specs.TypeTree.{TypeTree, type_width}
use Rattle.vx_mask.specs.Policy.{sparse_limit_of}
use Rattle.vx_steps.specs.Shape.{ShapeValue}
use Rattle.vx_steps.specs.Step.{StepValue}
use Rattle.vx_steps.specs.Walk.{walk}
use Rattle.vx_steps.specs.Answer.{Answer, answer_fault, answer_rows, answer, answer_of}
use Rattle.vx_select.specs.Chunks.{asked_by_walk, chunk_rows}
use Rattle.vx_file.specs.Blocks.{block_at}
use Rattle.vx_file.specs.File.{file_rows}
use Rattle.vx_file.specs.Shape.{row_type, ShapeValue as FileShapeValue}
use Rattle.vx_file.specs.Stated.{are_spellings, shape_in}
use Rattle.vx_file.specs.Touched.{blocks_for, picks_of_steps, blocks_touched}
use Rattle.vx_rows.specs.Commands.{command_of, IfCommand}
use Rattle.vx_rows.specs.FileDocument.{FileValue, file_document_of}
use Rattle.vx_rows.specs.Made.{made_answer, made_text}
use Rattle.vx_rows.specs.Pages.{page_of}
use Rattle.vx_document.specs.Documents.{DocumentValue, SourceValue, column_source, chunks_source}
use Rattle.vx_document.specs.Reading.{document_of}
use Rattle.vx_io.specs.declared.transfer.TheConstants.{MAX_BYTES}
use Rattle.vx_print.specs.Calls.{calls_text}
use Rattle.vx_steps.specs.Fault.{fault_text}
use Rattle.vx_print.specs.Reads.{reads_text}
use Rattle.vx_print.specs.Text.{text}
use Rattle.vx_rows.specs.declared.command.Command.{Command}
use Rattle.vx_rows.specs.declared.asked.Asked.{Asked}
use Rattle.vx_rows.specs.declared.asked.Asked.TheVariants.{Nothing, Calls, Reads}
use Rattle.vx_rows.specs.declared.command.Command.TheVariants.{Read, Made}
use Rattle.vx_rows.specs.declared.command.Form.{Form}
use Rattle.vx_rows.specs.declared.command.Form.TheVariants as forms
use Rattle.vx_rows.specs.declared.trace.Trace.{Trace}

pub data Outcome : Type 0 where
  TooLong : Outcome
  Malformed : Outcome
  -- a step is broken: the fault's line
  Broken : List ℕ → Outcome
  -- the text, and what was asked for the rows
  Done : List ℕ → Asked → Outcome

-- the value that the bytes spell
unfoldable pub value_of : List ℕ → Option Data
value_of bytes = if is_utf8 bytes then read bytes else None

-- the text of the rows, and behind it the line of the calls of a decoder, or of the reads of a
-- file but for that of its header
abbrev pub text_with : TypeTree → List RowValue → Asked → List ℕ
text_with t rows Nothing = text t rows
text_with t rows (Calls calls) = text t rows ++ calls_text calls
text_with t rows (Reads reads) = text t rows ++ reads_text (drop 1 reads)

abbrev pub of_answer : Answer → Asked → Outcome
of_answer (answer_fault step cause) asked = Broken (fault_text step cause)
of_answer (answer_rows t rows) asked = Done (text_with t rows asked) asked

abbrev pub answer_to : SourceValue → DocumentValue → Answer
answer_to (column_source c) d = answer c d.steps
answer_to (chunks_source s values) d = answer_of s.dtype (chunk_rows s values) d.steps

-- the policy's sparse limit for values of the shape's type
abbrev pub limit_for : ShapeValue → DocumentValue → ℕ
limit_for s d = sparse_limit_of d.policy (unwrap_or (type_width s.dtype) 0)

-- the calls that a decoder is asked, where the rows are behind one
abbrev pub asked_by : SourceValue → DocumentValue → Asked
asked_by (column_source c) d = Nothing
asked_by (chunks_source s values) d =
    Calls (asked_by_walk s (limit_for s d) (walk s.len d.steps))

abbrev pub of_document : Option DocumentValue → Outcome
of_document None = Malformed
of_document (Some d) = of_answer (answer_to d.source d) (asked_by d.source d)

-- ---- a file

abbrev pub file_answer : List (List ℕ) → FileShapeValue → List StepValue → Answer
file_answer blocks s steps = answer_of (row_type s) (file_rows blocks s) steps

-- the blocks that hold picked rows
abbrev pub touched_by : FileShapeValue → List StepValue → List ℕ
touched_by s steps = blocks_touched (picks_of_steps s.len steps).picks (blocks_for s.len)

-- a broken step comes first, then a block that is no spelling
abbrev pub of_file_answer : Answer → Bool → Asked → Outcome
of_file_answer (answer_fault step cause) spelled asked = Broken (fault_text step cause)
of_file_answer (answer_rows t rows) spelled asked =
    if spelled then Done (text_with t rows asked) asked else Malformed

-- the reads are that of the header, and then those of the touched blocks
abbrev pub of_shape : List (List ℕ) → List StepValue → FileShapeValue → Outcome
of_shape blocks steps s =
    of_file_answer (file_answer blocks s steps)
    (are_spellings (width s.ptype) blocks (touched_by s steps))
    (Reads (0 ∷ touched_by s steps))

-- over the shape that the header states, where there is a header
abbrev pub of_header : List (List ℕ) → List StepValue → Option FileShapeValue → Outcome
of_header blocks steps None = Malformed
of_header blocks steps (Some s) = of_shape blocks steps s

abbrev pub of_file : Option FileValue → Outcome
of_file None = Malformed
of_file (Some f) = of_header f.blocks f.steps (shape_in (block_at f.blocks 0))

-- ---- a page

-- what is no table has no page
abbrev pub of_page_answer : Option Answer → Outcome
of_page_answer None = Malformed
of_page_answer (Some a) = of_answer a Nothing

abbrev pub of_page : ℕ → ℕ → Option DocumentValue → Outcome
of_page number len None = Malformed
of_page number len (Some d) = of_page_answer (page_of number len d.source d.steps)

-- ---- a document

abbrev pub of_form : Form → Data → Outcome
of_form forms.Rows d = of_document (document_of d)
of_form forms.File d = of_file (file_document_of d)
of_form (forms.Page number len) d = of_page number len (document_of d)

abbrev pub of_value : Form → Option Data → Outcome
of_value form None = Malformed
of_value form (Some d) = of_form form d

-- of bytes that aren't too many
unfoldable pub outcome_of : Form → List ℕ → Outcome
outcome_of form bytes = of_value form (value_of bytes)

-- of a document of this form
unfoldable pub program : Form → List ℕ → Outcome
program form bytes =
    if nat_lt MAX_BYTES (length bytes) then TooLong else outcome_of form bytes

-- ---- a number

-- the line of the rows that a number makes
abbrev pub of_made : ℕ → Answer → Outcome
of_made seed (answer_fault step cause) = Broken (fault_text step cause)
of_made seed (answer_rows t rows) = Done (made_text seed rows) Nothing

unfoldable pub made : ℕ → Outcome
made seed = of_made seed (made_answer seed)

-- what comes of a command: of a document where the source tells its bytes, of `made` whatever it
-- tells
abbrev pub outcome_told : Command → Option (List ℕ) → Option Outcome
outcome_told (Read form) rest = option_map (program form) rest
outcome_told (Made seed) rest = Some (made seed)

-- ---- facts of an outcome

-- the rows are printed, and their text is so
abbrev pub IsDone : Outcome → (List ℕ → Type 0) → Type 0
IsDone (Done text asked) P = P text
IsDone o P = ⊥

-- a fault is printed, and its line is so
abbrev pub IsBroken : Outcome → (List ℕ → Type 0) → Type 0
IsBroken (Broken line) P = P line
IsBroken o P = ⊥

-- something is printed, and is so
abbrev pub IsPrinted : Outcome → (List ℕ → Type 0) → Type 0
IsPrinted (Broken line) P = P line
IsPrinted (Done text asked) P = P text
IsPrinted o P = ⊥

-- a trace with these calls or these reads in place of its own
abbrev pub with_asked : Asked → Trace → Trace
with_asked Nothing t = t
with_asked (Calls calls) t = record t { calls = calls }
with_asked (Reads reads) t = record t { reads = reads }

-- the trace that a run leaves that found this one
abbrev pub traced_by : Outcome → Trace → Trace
traced_by (Done text asked) t = with_asked asked t
traced_by o t = t

-- the program's status
abbrev pub status_of : Outcome → ℕ
status_of (Done text asked) = 0
status_of (Broken line) = 1
status_of Malformed = 2
status_of TooLong = 7

-- a fact of what comes of the words and of what the source had, where the words name a command and
-- the source tells its bytes
abbrev pub IfTold : List (List ℕ) → Option (List ℕ) → (Outcome → Type 0) → Type 0
IfTold words rest P = IfCommand (command_of words) (λ command. IfSome (outcome_told command rest) P)

-- what a command that has written its text took of the source: a document is taken whole, and
-- `made` takes nothing
abbrev pub HasRead : Command → Option (List ℕ) → Option (List ℕ) → Type 0
HasRead (Read form) before after = IfSome after (λ left. left ≡ [])
HasRead (Made seed) before after = after ≡ before
