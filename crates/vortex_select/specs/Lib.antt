pub use Rattle.vx_bits.specs.BitBuffer
pub use Rattle.vx_bits.specs.BitBuilder
pub use Rattle.vx_bits.specs.Records
pub use Rattle.vx_bits.specs.Results
pub use Rattle.vx_bits.specs.WordReader
pub use Rattle.vx_bits.specs.Words
pub use Rattle.vx_build.specs.Faults as BuildFaults
pub use Rattle.vx_build.specs.Fields as FirstField
pub use Rattle.vx_build.specs.Half
pub use Rattle.vx_build.specs.Positions as NamedPositions
pub use Rattle.vx_build.specs.Rows as BuiltRows
pub use Rattle.vx_chunked.specs.Asked
pub use Rattle.vx_column.specs.Bool as BoolBits
pub use Rattle.vx_column.specs.Cell
pub use Rattle.vx_column.specs.Layout
pub use Rattle.vx_column.specs.ListParts
pub use Rattle.vx_column.specs.Lists
pub use Rattle.vx_column.specs.Part
pub use Rattle.vx_column.specs.Plain as PlainColumns
pub use Rattle.vx_column.specs.Records as RecordParts
pub use Rattle.vx_column.specs.Shown
pub use Rattle.vx_column.specs.StructParts
pub use Rattle.vx_column.specs.Text as TextParts
pub use Rattle.vx_column.specs.Truth
pub use Rattle.vx_column.specs.UnionParts
pub use Rattle.vx_column.specs.Validity
pub use Rattle.vx_decoder.specs.Laws as DecoderLaws
pub use Rattle.vx_decoder.specs.Told
pub use Rattle.vx_decoder.specs.declared.call.Call as Calls
pub use Rattle.vx_file.specs.Blocks
pub use Rattle.vx_file.specs.Errors
pub use Rattle.vx_file.specs.File
pub use Rattle.vx_file.specs.Reading
pub use Rattle.vx_file.specs.Shape as FileShapes
pub use Rattle.vx_file.specs.Touched
pub use Rattle.vx_file.specs.declared.error.FileError as FileErrors
pub use Rattle.vx_io.specs.Bytes
pub use Rattle.vx_join.specs.Join
pub use Rattle.vx_join.specs.Keys
pub use Rattle.vx_join.specs.Pairs
pub use Rattle.vx_join.specs.declared.error.JoinError as JoinErrors
pub use Rattle.vx_layouts.specs.Adaptors
pub use Rattle.vx_layouts.specs.Answers as LayoutAnswers
pub use Rattle.vx_layouts.specs.Pack
pub use Rattle.vx_layouts.specs.Sorted
pub use Rattle.vx_layouts.specs.Taking
pub use Rattle.vx_layouts.specs.Union as UnionSteps
pub use Rattle.vx_layouts.specs.declared.taking.TakeError as TakeErrors
pub use Rattle.vx_mask.specs.Mask
pub use Rattle.vx_mask.specs.MaskValues
pub use Rattle.vx_mask.specs.Policy
pub use Rattle.vx_mask.specs.Positions as MaskPositions
pub use Rattle.vx_mask.specs.Ranks
pub use Rattle.vx_mask.specs.Reuse
pub use Rattle.vx_mask.specs.declared.error.MaskError as MaskErrors
pub use Rattle.vx_mask.specs.declared.policy.PolicyFields
pub use Rattle.vx_model.specs.Bool
pub use Rattle.vx_model.specs.Column
pub use Rattle.vx_model.specs.Columns
pub use Rattle.vx_model.specs.Constant
pub use Rattle.vx_model.specs.Dict
pub use Rattle.vx_model.specs.Extension as ExtensionLayout
pub use Rattle.vx_model.specs.Filler
pub use Rattle.vx_model.specs.Filter as FilterLayout
pub use Rattle.vx_model.specs.FixedSizeList
pub use Rattle.vx_model.specs.List
pub use Rattle.vx_model.specs.ListView
pub use Rattle.vx_model.specs.Lists as ListColumns
pub use Rattle.vx_model.specs.Map
pub use Rattle.vx_model.specs.Null
pub use Rattle.vx_model.specs.Numbers
pub use Rattle.vx_model.specs.Plain
pub use Rattle.vx_model.specs.Records as RecordColumns
pub use Rattle.vx_model.specs.Step as ColumnSteps
pub use Rattle.vx_model.specs.Struct
pub use Rattle.vx_model.specs.Text as TextColumns
pub use Rattle.vx_model.specs.Union
pub use Rattle.vx_model.specs.Valid
pub use Rattle.vx_model.specs.VarBin
pub use Rattle.vx_model.specs.VarBinView
pub use Rattle.vx_offsets.specs.Cut
pub use Rattle.vx_offsets.specs.Offsets
pub use Rattle.vx_packed.specs.Chunk as PackedChunks
pub use Rattle.vx_packed.specs.Faults as PackedFaults
pub use Rattle.vx_pieces.specs.Indices
pub use Rattle.vx_pieces.specs.Pieces
pub use Rattle.vx_pieces.specs.Runs
pub use Rattle.vx_pieces.specs.declared.error.PiecesError as PiecesErrors
pub use Rattle.vx_plain.specs.Flat
pub use Rattle.vx_plain.specs.Stored
pub use Rattle.vx_positions.specs.Positions
pub use Rattle.vx_print.specs.Calls as PrintedCalls
pub use Rattle.vx_quote.specs.Quoted as PrintedQuotes
pub use Rattle.vx_print.specs.Reads as PrintedReads
pub use Rattle.vx_print.specs.Text as PrintedText
pub use Rattle.vx_reading.specs.BoolRows
pub use Rattle.vx_select.specs.Chunks
pub use Rattle.vx_select.specs.Laws as SelectLaws
pub use Rattle.vx_select.specs.Select
pub use Rattle.vx_shorthand.specs.Every
pub use Rattle.vx_shorthand.specs.Faults as ShortFaults
pub use Rattle.vx_shorthand.specs.Named
pub use Rattle.vx_steps.specs.Answer
pub use Rattle.vx_steps.specs.Cause
pub use Rattle.vx_steps.specs.Check
pub use Rattle.vx_steps.specs.Compose
pub use Rattle.vx_steps.specs.Fault as PrintedFault
pub use Rattle.vx_steps.specs.Shape
pub use Rattle.vx_steps.specs.Step
pub use Rattle.vx_steps.specs.Walk
pub use Rattle.vx_steps.specs.declared.cause.Cause as Causes
pub use Rattle.vx_steps.specs.declared.cause.SelectError as SelectErrors
pub use Rattle.vx_stored.specs.Scalars as StoredScalars
pub use Rattle.vx_stored.specs.Texts as StoredTexts
pub use Rattle.vx_table.specs.Page
pub use Rattle.vx_table.specs.Table
pub use Rattle.vx_table.specs.Taken
pub use Rattle.vx_table.specs.declared.error.PageError as PageErrors
pub use Rattle.vx_table.specs.declared.error.TableError as TableErrors
pub use Rattle.vx_take.specs.Picks
pub use Rattle.vx_take.specs.Ranks as TakenRanks
pub use Rattle.vx_text.specs.Building
pub use Rattle.vx_text.specs.OffsetList
pub use Rattle.vx_types.specs.DType
pub use Rattle.vx_types.specs.Decimal
pub use Rattle.vx_types.specs.Extension as ExtensionType
pub use Rattle.vx_types.specs.FieldTypes
pub use Rattle.vx_types.specs.Fields
pub use Rattle.vx_types.specs.Nullability
pub use Rattle.vx_types.specs.PType
pub use Rattle.vx_types.specs.RecordType
pub use Rattle.vx_types.specs.Row
pub use Rattle.vx_types.specs.RowValue
pub use Rattle.vx_types.specs.Same
pub use Rattle.vx_types.specs.Scalar
pub use Rattle.vx_types.specs.Text as Texts
pub use Rattle.vx_types.specs.TypeTree
pub use Rattle.vx_types.specs.Variants
pub use Rattle.vx_types.specs.declared.error.ColumnError as ColumnErrors
pub use Rattle.vx_types.specs.declared.layout_name.LayoutName as LayoutNames
pub use Rattle.vx_types.specs.declared.nullability.Nullability as Nullabilities
pub use Rattle.vx_types.specs.declared.ptype.PType as PTypes
pub use Rattle.vx_types.specs.declared.record_type.RecordType as RecordTypes
pub use Rattle.vx_types.specs.declared.text.TextKind as TextKinds
