-- What a document asks for, as a value.
use Rattle.std.specs.Prelude.{◌≡◌, ℕ, ◌+◌, ◌%◌, ◌≤◌, List, length, map, Some}
use Rattle.vx_bits.specs.Records.{records_of, width_of}
use Rattle.vx_bits.specs.declared.records.Records.{Records}
use Rattle.vx_mask.specs.declared.policy.PolicyFields.{PolicyFields}
use Rattle.vx_types.specs.TypeTree.{type_width}
use Rattle.vx_model.specs.Column.{Column}
use Rattle.vx_steps.specs.Step.{StepValue, step_value}
use Rattle.vx_steps.specs.Shape.{ShapeValue}
use Rattle.vx_document.specs.declared.documents.Document.{Document}
use Rattle.vx_document.specs.declared.documents.DocumentSource.{DocumentSource}
use Rattle.vx_document.specs.declared.documents.DocumentSource.TheVariants.{Column as in_column, Chunks as in_chunks}

-- where the rows are
pub data SourceValue : Type 0 where
  column_source : Column → SourceValue
  -- which of a decoder's values they are, and these values, as records
  chunks_source : ShapeValue → List (List ℕ) → SourceValue

pub record DocumentValue : Type 0 where
  pub source : SourceValue
  pub steps : List StepValue
  pub policy : PolicyFields

abbrev pub source_value : DocumentSource → SourceValue
source_value (in_column c) = column_source c
source_value (in_chunks s records) = chunks_source s (records_of records)

-- whole chunks of records of the type's width, at least as many as the shape has
pub record HoldsAll (s : ShapeValue) (records : Records) : Type 0 where
  pub width : type_width s.dtype ≡ Some (width_of records)
  pub whole : length (records_of records) % 1024 ≡ 0
  pub enough : s.offset + s.len ≤ length (records_of records)

-- the values of a column behind a decoder are whole chunks, and all there
abbrev pub IsWhole : DocumentSource → Type 0
IsWhole (in_column c) = Unit {0}
IsWhole (in_chunks s records) = HoldsAll s records

abbrev pub document_value : Document → DocumentValue
document_value d =
    record { source = source_value d.source; steps = map step_value d.steps; policy = d.policy }
