-- The offsets and the texts so far.
use Rattle.vx_arrow_image.specs.Image.{part_of}
use Rattle.vx_arrow_columns.specs.Picks.{picks_of}
use Rattle.vx_arrow_columns.proofs.Steps.{OffsetsTo, TextsTo}
use Rattle.vx_arrow_columns.proofs.writing.write_each_text.Given as goal

abbrev pub invariant-loop-k : goal.invariant-loop-k
invariant-loop-k l =
    let p = part_of l.node in
    let q = picks_of l.picks.places.now l.picks.valid.now l.picks.add in
    OffsetsTo l.size p q l.k l.at l.offsets × TextsTo l.size p q l.k l.at l.out
