-- How many picks there are.
use Rattle.std.proofs.Common.{length, ap, sym, ◌∙◌}
use Rattle.std.proofs.lemmas.List.FromFn.{length-range_with_len}
use Rattle.vx_mask.proofs.PositionLists.{length-positions}
use Rattle.vx_arrow.specs.Known.{places_of}
use Rattle.vx_arrow.proofs.KnownLists.{length-numbers_at}
use Rattle.vx_arrow.proofs.known.KnownPicks.len.Goals as goal

pub returns-in-Range : goal.returns-in-Range
returns-in-Range c = sym (ap (λ k. length (places_of k)) c.in-Range.is ∙ length-range_with_len c.in-Range.start c.in-Range.len)

pub returns-in-Numbers : goal.returns-in-Numbers
returns-in-Numbers c = sym (ap (λ k. length (places_of k)) c.in-Numbers.is ∙ length-numbers_at c.in-Numbers.numbers)

pub returns-in-Mask : goal.returns-in-Mask
returns-in-Mask c = sym (ap (λ k. length (places_of k)) c.in-Mask.is ∙ length-positions 0 c.in-Mask.bits.bits ∙ sym c.true_count.ensures)
