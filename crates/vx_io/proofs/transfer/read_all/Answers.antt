use Rattle.std.proofs.Common.{length, ◌+◌, ◌≤◌, ◌∙◌, arith}
use Rattle.vx_io.proofs.Transfers.{more_taken, filled_after}
use Rattle.vx_io.proofs.transfer.read_all.Goals as goal

pub reading-preserved : goal.reading-preserved
reading-preserved g c =
    let rest = g.S.Source.rest in
    let roomy = c.make_room.new.buffer in
    let fits : c.reading.filled ≤ length c.deref_mut.result.now =
    grind (arith, c.deref_mut.ensures, c.reading.invariant.within) in
    let within : c.reading.filled + c.in-Ok.n ≤ roomy.len =
    grind (arith, c.deref_mut.ensures, c.in-Ok.ensures.within, c.read.auto.dst) in
    record {
      taken = more_taken (rest c.args.source.now) (rest c.reading.source) (rest c.read.new.self)
          c.reading.buffer.items roomy.items c.read.new.dst _
          c.reading.filled c.in-Ok.n c.in-Ok.ensures.taken c.reading.invariant.taken c.make_room.ensures.kept
          (filled_after roomy.items c.deref_mut.result.now c.read.new.dst _ _ c.reading.filled c.in-Ok.n roomy.len
          c.deref_mut.ensures.value fits c.in-Ok.ensures.within within);
      within = within;
      short = grind (arith, c.make_room.ensures.short);
      no_fault = c.in-Ok.ensures.no_fault ∙ c.reading.invariant.no_fault;
    }
