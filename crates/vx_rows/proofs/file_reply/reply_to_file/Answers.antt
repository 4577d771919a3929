-- What the header states says what comes of the file.
use Rattle.std.proofs.Common.{map, subst}
use Rattle.vx_steps.specs.Step.{step_value}
use Rattle.vx_rows.specs.Files.{file_value}
use Rattle.vx_rows.specs.Program.{file_answer, of_shape}
use Rattle.vx_rows.specs.Reply.{IsHonest, Replies}
use Rattle.vx_rows.proofs.Filed.{headless, is_shape, opened_honest, opened_reply}
use Rattle.vx_rows.proofs.file_reply.reply_to_file.Goals as goal

pub returns-in-Ok-clause-reply : goal.returns-in-Ok-clause-reply
returns-in-Ok-clause-reply c =
    let e = c.in-Ok.ensures in let s = c.in-Ok.shape in let blocks = c.open_file.new.reader.blocks in let r = c.reply_over.result in
    let shape = is_shape s c.ptype.result c.len.result c.ptype.ensures.value c.len.ensures.value c.ptype.ensures.unsigned c.len.ensures.short in
    opened_reply r (file_value c.args.document) blocks s shape e.shape e.same (subst (λ l. Replies r (of_shape blocks (map step_value l) s)) c.as_slice.ensures c.reply_over.ensures.reply)

pub returns-in-Ok-clause-honest : goal.returns-in-Ok-clause-honest
returns-in-Ok-clause-honest c =
    let e = c.in-Ok.ensures in let s = c.in-Ok.shape in let blocks = c.open_file.new.reader.blocks in let r = c.reply_over.result in
    let shape = is_shape s c.ptype.result c.len.result c.ptype.ensures.value c.len.ensures.value c.ptype.ensures.unsigned c.len.ensures.short in
    opened_honest r (file_value c.args.document) blocks s shape e.shape e.same (subst (λ l. IsHonest r (file_answer blocks s (map step_value l))) c.as_slice.ensures c.reply_over.ensures.honest)

pub returns-in-BadHeader-clause-reply : goal.returns-in-BadHeader-clause-reply
returns-in-BadHeader-clause-reply c =
    headless (file_value c.args.document) c.in-Err.error _ c.in-BadHeader.is c.in-Err.ensures.error
