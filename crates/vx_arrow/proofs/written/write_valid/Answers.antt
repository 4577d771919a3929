-- One byte more, and the picks behind the last whole one.
use Rattle.std.proofs.Common.{◌∙◌, arith}
use Rattle.vx_arrow.proofs.Writes.{byte_put}
use Rattle.vx_arrow.proofs.written.write_valid.Goals as goal

pub loop-b-preserved : goal.loop-b-preserved
loop-b-preserved c = byte_put c.args.picks.now.picks c.args.valid.now c.loop-b.valid c.loop-b.b c.valid_byte.result c.loop-b.invariant c.valid_byte.ensures (omega arith)

pub write_last-requires-clause-written : goal.write_last-requires-clause-written
write_last-requires-clause-written c = λ j h. c.loop-b.invariant.marks j (omega arith)

pub returns : goal.returns
returns c =
    let last = c.write_last.ensures in
    record {
      marks = last.marks;
      rest = λ j h. last.rest j h ∙ c.loop-b.invariant.rest j (omega arith);
    }
