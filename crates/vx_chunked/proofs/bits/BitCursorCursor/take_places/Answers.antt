use Rattle.std.proofs.Common.{◌+◌, ◌*◌, ◌++◌, map, sym, ap, ◌∙◌}
use Rattle.vx_mask.specs.Positions.{positions}
use Rattle.vx_chunked.specs.Positions.{positions_from}
use Rattle.vx_chunked.proofs.bits.BitCursorCursor.take_places.Goals as goal

pub returns-clause-taken : goal.returns-clause-taken
returns-clause-taken g c =
    let s = c.args.self.now in
    let part = c.part_in-start.result in
    c.part_in-start.ensures.taken ∙ ap (λ l. map (λ p. 1024 * c.args.chunk + p) l ++ map (λ i. s.offset + i) (positions_from part.end s.bits.now.bits))
    (ap (positions part.from) (sym c.slice.ensures.bits) ∙ sym c.front_of-self.ensures.places)
