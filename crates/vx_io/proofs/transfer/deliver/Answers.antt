use Rattle.std.proofs.Common.{◌∙◌, arith}
use Rattle.vx_io.proofs.Transfers.{more_written}
use Rattle.vx_io.proofs.transfer.deliver.Goals as goal

pub writing-preserved : goal.writing-preserved
writing-preserved g c =
    let held = g.K.Sink.held in
    record {
      written = more_written (held c.args.sink.now) (held c.writing.sink) (held c.write.new.self)
          c.args.text.now c.writing.at c.in-Ok.n c.in-Ok.ensures.appended c.writing.invariant.written;
      within = grind (arith, c.in-Ok.ensures.within);
      no_fault = c.in-Ok.ensures.no_fault ∙ c.writing.invariant.no_fault;
    }
