-- The part of the block that is asked for.
use Rattle.std.proofs.Common.{◌+◌, ◌∙◌, take, drop, ap, arith}
use Rattle.std.proofs.lemmas.List.{length-drop}
use Rattle.vx_runs.proofs.Bytes.{block_front}
use Rattle.vx_runs.proofs.puts.put_text.Goals as goal

pub returns-then-count-le16 : goal.returns-then-count-le16
returns-then-count-le16 c =
    let rest = drop c.args.from c.args.src.now in
    ap (take (c.args.at + c.args.count)) c.put_block.ensures
    ∙ block_front c.args.bytes.now rest (drop (c.args.at + 16) c.args.bytes.now) c.args.at 16 c.args.count (omega (arith, c.requires.room)) (omega arith) (omega (arith, length-drop c.args.from c.args.src.now))

pub returns-then-count-le64 : goal.returns-then-count-le64
returns-then-count-le64 c =
    let rest = drop c.args.from c.args.src.now in
    ap (take (c.args.at + c.args.count)) c.put_block-then-count-le64.ensures
    ∙ block_front c.args.bytes.now rest (drop (c.args.at + 64) c.args.bytes.now) c.args.at 64 c.args.count (omega (arith, c.requires.room)) (omega arith) (omega (arith, length-drop c.args.from c.args.src.now))
