-- There is room for each pick.
use Rattle.std.proofs.Common.{◌++◌, drop, length, ap, sym, ◌∙◌, arith}
use Rattle.vx_mask.specs.Positions.{set_of}
use Rattle.vx_mask.proofs.PositionLists.{length-positions}
use Rattle.std.proofs.lemmas.List.FromFn.{length-range_with_len}
use Rattle.vx_arrow.specs.Known.{places_of}
use Rattle.vx_arrow.proofs.KnownLists.{length-numbers_at}
use Rattle.vx_arrow.proofs.known.KnownPicks.write.Goals as goal

pub write_range-requires-clause-room : goal.write_range-requires-clause-room
write_range-requires-clause-room c = omega (arith, c.requires.room, ap (λ k. length (places_of k)) c.in-Range.is, length-range_with_len c.in-Range.start c.in-Range.len)

pub write-requires-clause-room : goal.write-requires-clause-room
write-requires-clause-room c = omega (arith, c.requires.room, ap (λ k. length (places_of k)) c.in-Numbers.is, length-numbers_at c.in-Numbers.numbers)

pub write_set-requires : goal.write_set-requires
write_set-requires c = omega (arith, c.requires.room, ap (λ k. length (places_of k)) c.in-Mask.is, length-positions 0 c.in-Mask.bits.bits)

pub returns-in-Mask : goal.returns-in-Mask
returns-in-Mask c =
    c.write_set.ensures
    ∙ ap (λ n. set_of c.in-Mask.bits.bits ++ drop n c.args.places.now) (sym (length-positions 0 c.in-Mask.bits.bits))
    ∙ ap (λ k. places_of k ++ drop (length (places_of k)) c.args.places.now) (sym c.in-Mask.is)
