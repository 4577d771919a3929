-- The part of the block that is asked for.
use Rattle.std.proofs.Common.{◌+◌, ◌∙◌, take, drop, ap, arith}
use Rattle.std.proofs.lemmas.List.{length-drop}
use Rattle.vx_runs.proofs.Bytes.{block_front}
use Rattle.vx_runs.proofs.puts.put_run.Goals as goal

pub returns-then-at-saturating_sub : goal.returns-then-at-saturating_sub
returns-then-at-saturating_sub g c =
    let rest = drop c.args.from c.args.src.now in
    ap (take (c.args.at + c.args.count)) c.put_block.ensures
    ∙ block_front c.args.bytes.now rest (drop (c.args.at + g.row.B) c.args.bytes.now) c.args.at g.row.B c.args.count (omega (arith, c.requires.room)) (omega arith) (omega (arith, length-drop c.args.from c.args.src.now))
