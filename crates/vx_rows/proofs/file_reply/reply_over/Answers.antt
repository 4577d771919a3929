-- What was read of the file says what comes of it.
use Rattle.std.proofs.Common.{◌∷◌, ap, map, ◌∙◌, arith}
use Rattle.vx_bits.specs.WordReader.{then_told}
use Rattle.vx_steps.specs.Step.{step_value}
use Rattle.vx_rows.specs.Program.{touched_by}
use Rattle.vx_rows.proofs.Filed.{broken_by, damaged_by, fits, honest, honest_by, kept_is, narrow, replied}
use Rattle.vx_rows.proofs.file_reply.reply_over.Goals as goal

pub returns-in-Ok-clause-reply : goal.returns-in-Ok-clause-reply
returns-in-Ok-clause-reply c =
    let e = c.in-Ok.ensures in let s = c.args.shape.now in let steps = map step_value c.args.steps.now in
    let room = fits s steps _ (omega (arith, c.len.ensures.short, c.len.ensures.value)) c.requires.room in
    let told = e.told room ∙ ap (λ r. then_told r (touched_by s steps)) c.requires.opened in
    let log = c.into_reads.ensures ∙ kept_is c.select_file.new.reader (0 ∷ touched_by s steps) told in
    replied c.args.blocks.blocks steps s c.reply_with.result c.in-Ok.rows.dtype c.in-Ok.rows.rows c.into_reads.result e.answer (narrow _ s.ptype c.ptype.ensures.value c.ptype.ensures.width) e.spelled log c.reply_with.ensures

pub returns-in-Ok-clause-honest : goal.returns-in-Ok-clause-honest
returns-in-Ok-clause-honest c =
    honest c.args.blocks.blocks (map step_value c.args.steps.now) c.args.shape.now c.reply_with.result c.in-Ok.ensures.fault

pub returns-in-Broken-clause-reply : goal.returns-in-Broken-clause-reply
returns-in-Broken-clause-reply c =
    let e = c.in-Err in
    broken_by c.args.blocks.blocks (map step_value c.args.steps.now) c.args.shape.now e.error c.in-Broken.step c.in-Broken.cause c.in-Broken.is e.ensures.fault

pub returns-in-NoMemory-clause-honest : goal.returns-in-NoMemory-clause-honest
returns-in-NoMemory-clause-honest c =
    let e = c.in-Err in
    honest_by c.args.blocks.blocks (map step_value c.args.steps.now) c.args.shape.now e.error c.in-NoMemory.is e.ensures.fault

pub returns-in-Damaged-clause-reply : goal.returns-in-Damaged-clause-reply
returns-in-Damaged-clause-reply c =
    let e = c.in-Err in let s = c.args.shape.now in let steps = map step_value c.args.steps.now in
    damaged_by c.args.blocks.blocks steps s _ _ _ _ _ e.error _ c.in-Damaged.is e.ensures.fault e.ensures.error (fits s steps _ (omega (arith, c.len.ensures.short, c.len.ensures.value)) c.requires.room)
