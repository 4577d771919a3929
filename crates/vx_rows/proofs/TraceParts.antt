-- What of a trace a run leaves, whatever it read.
use Rattle.std.proofs.Common.{◌≡◌, ℕ, Bool, true, false, List, Option, None, Some, refl, subst}
use Rattle.std.specs.Prelude.{◌∷◌}
use Rattle.serde_json.specs.Data.{Data}
use Rattle.vx_document.specs.Documents.{DocumentValue, SourceValue, column_source, chunks_source}
use Rattle.vx_document.specs.Reading.{document_of}
use Rattle.vx_file.specs.Blocks.{block_at}
use Rattle.vx_file.specs.Shape.{ShapeValue}
use Rattle.vx_file.specs.Stated.{shape_in}
use Rattle.vx_steps.specs.Answer.{Answer, answer_fault, answer_rows}
use Rattle.vx_rows.specs.Commands.{LeavesTrace}
use Rattle.vx_rows.specs.FileDocument.{FileValue, file_document_of}
use Rattle.vx_rows.specs.Made.{made_answer}
use Rattle.vx_rows.specs.Pages.{page_of}
use Rattle.vx_rows.specs.Program.{Outcome, answer_to, asked_by, file_answer, made, of_answer, of_document, of_file, of_file_answer, of_form, of_header, of_made, of_page, of_page_answer, of_value, outcome_of, touched_by, traced_by, value_of}
use Rattle.vx_rows.specs.Reply.{Replies, traced_by_reply}
use Rattle.vx_rows.specs.declared.asked.Asked.TheVariants.{Reads}
use Rattle.vx_rows.specs.declared.command.Command.TheVariants.{Read}
use Rattle.vx_rows.specs.declared.command.Form.{Form}
use Rattle.vx_rows.specs.declared.command.Form.TheVariants as forms
use Rattle.vx_rows.specs.declared.reply.Reply.{Reply}
use Rattle.vx_rows.specs.declared.reply.Reply.TheVariants as replies
use Rattle.vx_rows.specs.declared.trace.Trace.{Trace}

-- the part of a trace that a document of this form leaves
abbrev Leaves : Form → Trace → Trace → Type 0
Leaves form before after = LeavesTrace (Some (Read form)) before after

pub same_trace : (form : Form) (t : Trace) → LeavesTrace (Some (Read form)) t t
same_trace forms.Rows t = refl
same_trace forms.File t = refl
same_trace (forms.Page number len) t = refl

module _ (t : Trace) where
  rows_answer : (a : Answer) (source : SourceValue) (d : DocumentValue) → Leaves forms.Rows t (traced_by (of_answer a (asked_by source d)) t)
  rows_answer (answer_fault k cause) source d = refl
  rows_answer (answer_rows dtype rows) (column_source c) d = refl
  rows_answer (answer_rows dtype rows) (chunks_source s values) d = refl

  of_rows : (o : Option DocumentValue) → Leaves forms.Rows t (traced_by (of_document o) t)
  of_rows None = refl
  of_rows (Some d) = rows_answer (answer_to d.source d) d.source d

  over_blocks : (a : Answer) (spelled : Bool) (reads : List ℕ) → Leaves forms.File t (traced_by (of_file_answer a spelled (Reads reads)) t)
  over_blocks (answer_fault k cause) spelled reads = refl
  over_blocks (answer_rows dtype rows) true reads = refl
  over_blocks (answer_rows dtype rows) false reads = refl

  by_header : (f : FileValue) (o : Option ShapeValue) → Leaves forms.File t (traced_by (of_header f.blocks f.steps o) t)
  by_header f None = refl
  by_header f (Some s) = over_blocks (file_answer f.blocks s f.steps) _ (0 ∷ touched_by s f.steps)

  of_blocks : (o : Option FileValue) → Leaves forms.File t (traced_by (of_file o) t)
  of_blocks None = refl
  of_blocks (Some f) = by_header f (shape_in (block_at f.blocks 0))

  by_answer : (o : Option Answer) → traced_by (of_page_answer o) t ≡ t
  by_answer None = refl
  by_answer (Some (answer_fault k cause)) = refl
  by_answer (Some (answer_rows dtype rows)) = refl

  by_page : (number len : ℕ) (o : Option DocumentValue) → traced_by (of_page number len o) t ≡ t
  by_page number len None = refl
  by_page number len (Some d) = by_answer (page_of number len d.source d.steps)

  by_form : (form : Form) (d : Data) → Leaves form t (traced_by (of_form form d) t)
  by_form forms.Rows d = of_rows (document_of d)
  by_form forms.File d = of_blocks (file_document_of d)
  by_form (forms.Page number len) d = by_page number len (document_of d)

  by_value : (form : Form) (o : Option Data) → Leaves form t (traced_by (of_value form o) t)
  by_value form None = same_trace form t
  by_value form (Some d) = by_form form d

  by_outcome : (form : Form) (bytes : List ℕ) → Leaves form t (traced_by (outcome_of form bytes) t)
  unfolding outcome_of
  by_outcome form bytes = by_value form (value_of bytes)

  by_reply : (P : Trace → Type 0) (r : Reply) (o : Outcome) → Replies r o → P t → P (traced_by o t) → P (traced_by_reply r t)
  by_reply P (replies.Done text asked) o h same p = subst (λ x. P (traced_by x t)) h p
  by_reply P (replies.Broken step cause) o h same p = same
  by_reply P replies.Malformed o h same p = same
  by_reply P replies.NoMemory o h same p = same

  -- a document leaves one part of a trace
  pub part_left : (form : Form) (bytes : List ℕ) (r : Reply) → Replies r (outcome_of form bytes) → LeavesTrace (Some (Read form)) t (traced_by_reply r t)
  part_left form bytes r h = by_reply (Leaves form t) r (outcome_of form bytes) h (same_trace form t) (by_outcome form bytes)

  by_made : (seed : ℕ) (a : Answer) → traced_by (of_made seed a) t ≡ t
  by_made seed (answer_fault k cause) = refl
  by_made seed (answer_rows dtype rows) = refl

  -- a number leaves all of it
  pub all_left : (seed : ℕ) (r : Reply) → Replies r (made seed) → traced_by_reply r t ≡ t
  unfolding made
  all_left seed r h = by_reply (λ x. x ≡ t) r (made seed) h refl (by_made seed (made_answer seed))
