-- What comes of a file, by what was read of it.
use Rattle.std.proofs.Common.{◌≡◌, ℕ, ◌≤◌, Bool, true, false, List, [], ◌∷◌, ◌++◌, Option, None, Some, length, refl, sym, ap, subst, ◌∙◌, arith}
use Rattle.std.specs.Prelude.{IfSome, nat_le, if◌then◌else◌}
use Rattle.vx_types.specs.PType.{width}
use Rattle.vx_types.specs.declared.ptype.PType.{PType}
use Rattle.vx_packed.specs.Faults.{is_width}
use Rattle.vx_packed.proofs.Rules.{small_width}
use Rattle.vx_types.specs.RowValue.{RowValue}
use Rattle.vx_types.specs.TypeTree.{TypeTree}
use Rattle.vx_steps.specs.Answer.{answer_rows, answer_of_walk, type_after}
use Rattle.vx_steps.specs.Compose.{IsUnbroken}
use Rattle.vx_steps.specs.Step.{StepValue}
use Rattle.vx_steps.specs.Walk.{Walk, walk, walk_fault, walk_picks}
use Rattle.vx_steps.specs.declared.cause.Cause.{Cause}
use Rattle.vx_file.specs.Blocks.{BlocksState, block_at, told_reads}
use Rattle.vx_file.specs.Errors.{IfUnbroken, IsBrokenBy, MatchOpening}
use Rattle.vx_file.specs.File.{file_rows}
use Rattle.vx_file.specs.Reading.{AreSpellings, IsNoSpelling, IsReadError}
use Rattle.vx_file.specs.declared.error.FileError.{FileError}
use Rattle.vx_file.specs.declared.error.FileError.TheVariants as errors
use Rattle.vx_file.specs.Shape.{IsNoHeader, IsShape, ShapeValue, header, is_unsigned, row_type}
use Rattle.vx_file.specs.Stated.{are_spellings, shape_in}
use Rattle.vx_file.specs.Touched.{blocks_for, picks_of_steps, blocks_touched}
use Rattle.vx_file.proofs.FileAnswers.{length-file_rows}
use Rattle.vx_file.proofs.StatedParts.{all_spelled, found_bad, length-touched, no_shape, shape_of_header}
use Rattle.vx_steps.specs.Fault.{fault_text}
use Rattle.vx_rows.specs.FileDocument.{FileValue}
use Rattle.vx_rows.specs.Program.{Malformed, Broken, Done, file_answer, of_file, of_file_answer, of_header, of_shape, text_with, touched_by}
use Rattle.vx_rows.specs.Reply.{IsHonest, Replies}
use Rattle.vx_rows.specs.declared.asked.Asked.{Asked}
use Rattle.vx_rows.specs.declared.asked.Asked.TheVariants.{Reads}
use Rattle.vx_rows.specs.declared.reply.Reply.{Reply}
use Rattle.vx_rows.specs.declared.reply.Reply.TheVariants as replies

-- the reads that are recorded are kept
pub kept_is : (s : BlocksState) (reads : List ℕ) → told_reads s ≡ Some reads → s.kept ≡ reads
kept_is s reads e = by (nat_le s.call s.room) e
  where
    by : (b : Bool) → (if b then Some s.kept else None) ≡ Some reads → s.kept ≡ reads
    by true h = cc
    by false h = absurd cc

-- a record of a file's rows has at most 8 bytes
pub narrow : (p q : PType) → p ≡ q → is_width (width p) ≡ true → width q ≤ 8
narrow p q e h = subst (λ (x : PType). width x ≤ 8) e (small_width (width p) h).most

-- the reads of a file have room
pub fits : (s : ShapeValue) (steps : List StepValue) (spare : ℕ) → s.len ≤ 16777216 → 16384 ≤ spare → length (touched_by s steps) ≤ spare
fits s steps spare few room = omega (arith, length-touched (picks_of_steps s.len steps).picks (blocks_for s.len))

module _ (blocks : List (List ℕ)) (steps : List StepValue) (s : ShapeValue) where
  abbrev spelled : Bool
  spelled = are_spellings (width s.ptype) blocks (touched_by s steps)

  abbrev asked : Asked
  asked = Reads (0 ∷ touched_by s steps)

  pub rows_found : (t : TypeTree) (rows : List RowValue) → file_answer blocks s steps ≡ answer_rows t rows → width s.ptype ≤ 8 → AreSpellings (width s.ptype) (picks_of_steps s.len steps) blocks → of_shape blocks steps s ≡ Done (text_with t rows (Reads (0 ∷ touched_by s steps))) (Reads (0 ∷ touched_by s steps))
  rows_found t rows is narrow good =
      ap (λ a. of_file_answer a spelled asked) is
      ∙ ap (λ (b : Bool). if b then Done (text_with t rows asked) asked else Malformed) (all_spelled (width s.ptype) (picks_of_steps s.len steps) blocks narrow good)

  -- the reply with the rows and the reads
  pub replied : (r : Reply) (t : TypeTree) (rows : List RowValue) (log : List ℕ) → file_answer blocks s steps ≡ answer_rows t rows → width s.ptype ≤ 8 → AreSpellings (width s.ptype) (picks_of_steps s.len steps) blocks → log ≡ 0 ∷ touched_by s steps → Replies r (Done (text_with t rows (Reads log)) (Reads log)) → Replies r (of_shape blocks steps s)
  replied r t rows log is narrow good same h =
      subst (Replies r) (sym (rows_found t rows is narrow good)) (subst (λ (l : List ℕ). Replies r (Done (text_with t rows (Reads l)) (Reads l))) same h)

  by_walk : (w : Walk) → walk s.len steps ≡ w → file_answer blocks s steps ≡ answer_of_walk (type_after (row_type s) steps) (file_rows blocks s) w
  by_walk w e =
      ap (λ (n : ℕ). answer_of_walk (type_after (row_type s) steps) (file_rows blocks s) (walk n steps)) (length-file_rows blocks s)
      ∙ ap (answer_of_walk (type_after (row_type s) steps) (file_rows blocks s)) e

  pub step_broken : (k : ℕ) (cause : Cause) → walk s.len steps ≡ walk_fault k cause → of_shape blocks steps s ≡ Broken (fault_text k cause)
  step_broken k cause e = ap (λ a. of_file_answer a spelled asked) (by_walk (walk_fault k cause) e)

  pub block_damaged : (block : ℕ) (front : List ℕ) → IsUnbroken (walk s.len steps) → block ≤ blocks_for s.len → blocks_touched (picks_of_steps s.len steps).picks block ≡ front ++ block ∷ [] → IsNoSpelling (width s.ptype) (block_at blocks block) → of_shape blocks steps s ≡ Malformed
  block_damaged block front fine within last none = at_walk (walk s.len steps) refl fine
    where
      bad : spelled ≡ false
      bad = found_bad (width s.ptype) (picks_of_steps s.len steps).picks blocks (blocks_for s.len) block front within last none

      at_walk : (w : Walk) → walk s.len steps ≡ w → IsUnbroken w → of_shape blocks steps s ≡ Malformed
      at_walk (walk_fault k cause) e h = absurd h
      at_walk (walk_picks picks) e h =
          ap (λ a. of_file_answer a spelled asked) (by_walk (walk_picks picks) e)
          ∙ ap (λ (b : Bool). of_file_answer (answer_of_walk (type_after (row_type s) steps) (file_rows blocks s) (walk_picks picks)) b asked) bad

  -- memory may be wanting where no step is broken
  pub honest : (r : Reply) → IsUnbroken (walk s.len steps) → IsHonest r (file_answer blocks s steps)
  honest (replies.Done text x) h = tt
  honest (replies.Broken step cause) h = tt
  honest replies.Malformed h = tt
  honest replies.NoMemory h = at_walk (walk s.len steps) refl h
    where
      at_walk : (w : Walk) → walk s.len steps ≡ w → IsUnbroken w → IsHonest replies.NoMemory (file_answer blocks s steps)
      at_walk (walk_fault k cause) e f = absurd f
      at_walk (walk_picks picks) e f = subst (IsHonest replies.NoMemory) (sym (by_walk (walk_picks picks) e)) tt

  -- ---- by the error of reading

  pub broken_by : (e : FileError) (k : ℕ) (cause : Cause) → e ≡ errors.Broken k cause → IsBrokenBy (walk s.len steps) e → of_shape blocks steps s ≡ Broken (fault_text k cause)
  broken_by e k cause is h = step_broken k cause (subst (IsBrokenBy (walk s.len steps)) is h)

  pub honest_by : (e : FileError) → e ≡ errors.NoMemory → IsBrokenBy (walk s.len steps) e → IsHonest replies.NoMemory (file_answer blocks s steps)
  honest_by e is h = honest replies.NoMemory (subst (IsBrokenBy (walk s.len steps)) is h)

  module _ (P Raised : Type 0) (spare : ℕ) (before after : Option (List ℕ)) where
    -- what an error says of the reads
    abbrev Says : FileError → Type 0
    Says e = IfUnbroken P (IsReadError (width s.ptype) (picks_of_steps s.len steps) spare Raised before after (Some blocks)) e

    pub damaged_by : (e : FileError) (block : ℕ) → e ≡ errors.Damaged block → IsBrokenBy (walk s.len steps) e → Says e → length (touched_by s steps) ≤ spare → of_shape blocks steps s ≡ Malformed
    damaged_by e block is fine h room =
        let at = subst Says is h in
        let last = at.1 room in
        block_damaged block last.front (subst (IsBrokenBy (walk s.len steps)) is fine) last.within last.last at.0

-- what is known of a shape that was read
pub is_shape : (s : ShapeValue) (p : PType) (n : ℕ) → p ≡ s.ptype → n ≡ s.len → is_unsigned p ≡ true → n ≤ 16777216 → IsShape s
is_shape s p n e f unsigned short =
    record { unsigned = subst (λ x. is_unsigned x ≡ true) e unsigned; short = subst (λ x. x ≤ 16777216) f short }

-- ---- by the header

module _ (r : Reply) (f : FileValue) (blocks : List (List ℕ)) (s : ShapeValue) (shape : IsShape s) (first : block_at f.blocks 0 ≡ header s) (same : Some blocks ≡ Some f.blocks) where
  these : blocks ≡ f.blocks
  these = cc

  stated : shape_in (block_at f.blocks 0) ≡ Some s
  stated = shape_of_header (block_at f.blocks 0) s shape first

  pub opened_reply : Replies r (of_shape blocks f.steps s) → Replies r (of_file (Some f))
  opened_reply h =
      let is : of_shape blocks f.steps s ≡ of_file (Some f) =
      ap (λ b. of_shape b f.steps s) these ∙ sym (ap (of_header f.blocks f.steps) stated) in
      subst (Replies r) is h

  pub opened_honest : IsHonest r (file_answer blocks s f.steps) → IfSome (shape_in (block_at f.blocks 0)) (λ x. IsHonest r (file_answer f.blocks x f.steps))
  opened_honest h =
      subst (λ o. IfSome o (λ x. IsHonest r (file_answer f.blocks x f.steps))) (sym stated)
      (subst (λ b. IsHonest r (file_answer b s f.steps)) these h)

-- no header is malformed, and so is the reply
pub headless : (f : FileValue) (e : FileError) (Raised : Type 0) → e ≡ errors.BadHeader → MatchOpening e Raised (IsNoHeader (block_at f.blocks 0)) → of_file (Some f) ≡ Malformed
headless f e Raised is h =
    ap (of_header f.blocks f.steps) (no_shape (block_at f.blocks 0) (subst (λ x. MatchOpening x Raised (IsNoHeader (block_at f.blocks 0))) is h))
